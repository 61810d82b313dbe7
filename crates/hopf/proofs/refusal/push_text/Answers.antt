use Rattle.std.proofs.Common.{◌≡◌, ℕ, List, ◌++◌, codes, ap, sym, ◌∙◌}
use Rattle.std.proofs.lemmas.Result.{on_ok_weaker}
use Rattle.hopf.specs.declared.refusal.StatementRefusal.{StatementRefusal}
use Rattle.hopf.specs.Refusals.{text_of}
use Rattle.hopf.specs.declared.refusal.StatementRefusal.TheVariants as refusal
use Rattle.hopf.proofs.refusal.push_text.Goals as goal

pub returns-in-UnknownName : goal.returns-in-UnknownName
returns-in-UnknownName c =
    on_ok_weaker {P = c.push_both.new.out ≡ c.args.out.now ++ (codes "unknown name " ++ c.as_slice.result.now)} {Q = c.push_both.new.out ≡ c.args.out.now ++ text_of c.args.refusal.now} c.push_both.result
    (λ e. e ∙ ap (λ (name : List ℕ). c.args.out.now ++ (codes "unknown name " ++ name)) c.as_slice.ensures ∙ ap (λ (r : StatementRefusal). c.args.out.now ++ text_of r) (sym c.in-UnknownName.is))
    c.push_both.ensures

pub returns-in-TooManyNames : goal.returns-in-TooManyNames
returns-in-TooManyNames c =
    on_ok_weaker {P = c.push_all-in-TooManyNames.new.self ≡ c.args.out.now ++ text_of refusal.TooManyNames} {Q = c.push_all-in-TooManyNames.new.self ≡ c.args.out.now ++ text_of c.args.refusal.now} c.push_all-in-TooManyNames.result
    (λ e. e ∙ ap (λ (r : StatementRefusal). c.args.out.now ++ text_of r) (sym c.in-TooManyNames.is))
    c.push_all-in-TooManyNames.ensures.ok
