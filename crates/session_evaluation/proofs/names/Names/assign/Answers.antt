use Rattle.std.proofs.Common.{ℕ, List, Vec, Global, refl, ◌∙◌, ap}
use Rattle.std.specs.Str.{bytes_eq}
use Rattle.session_evaluation.specs.Names.{Names, with_value}
use Rattle.session_evaluation.proofs.KnownNames.{names_of, insert-names, values-inserted}
use Rattle.session_evaluation.proofs.names.Names.assign.Goals as goal

pub invariant_of-self : goal.invariant_of-self
invariant_of-self c =
    values-inserted (λ (k : Vec ℕ Global). k.items) (λ (k l : Vec ℕ Global). bytes_eq k.items l.items) (λ k l. refl) c.insert.result c.into_vec.result c.args.value
    c.self.inside.values.entries c.insert.new.self.entries c.self.invariant c.requires c.insert.ensures.entries c.insert.ensures.err

pub returns-in-Ok-clause-ok : goal.returns-in-Ok-clause-ok
returns-in-Ok-clause-ok c =
    let bytes = λ (k : Vec ℕ Global). k.items in
    ap (names_of bytes) c.in-Ok.ensures.entries
    ∙ insert-names bytes (λ (k l : Vec ℕ Global). bytes_eq k.items l.items) (λ k l. refl) c.into_vec.result c.args.value c.self.inside.values.entries
    ∙ ap (λ (names : Names). with_value names c.into_vec.result.items c.args.value) c.self.view_is
    ∙ ap (λ (name : List ℕ). with_value c.args.self.now name c.args.value) c.into_vec.ensures
