use Rattle.std.proofs.Common.{ℕ, Vec, Global, ◌∙◌, ap}
use Rattle.session_evaluation.specs.Names.{Names, value_of}
use Rattle.session_evaluation.proofs.KnownNames.{lookup-names}
use Rattle.session_evaluation.proofs.names.Names.get.Goals as goal

pub returns : goal.returns
returns c =
    c.get.ensures.value ∙ lookup-names (λ (k : Vec ℕ Global). k.items) c.args.name.now c.self.inside.values.entries
    ∙ ap (λ (names : Names). value_of names c.args.name.now) c.self.view_is
