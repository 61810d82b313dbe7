use Rattle.std.proofs.Common.{◌≡◌, ℕ, List, ◌++◌, codes, ap, sym, ◌∙◌}
use Rattle.std.proofs.lemmas.Result.{on_ok_weaker}
use Rattle.session_reading.specs.declared.fault.GrammarFault.{GrammarFault}
use Rattle.hopf.specs.Refusals.{text_of_fault}
use Rattle.session_reading.specs.declared.fault.GrammarFault.TheVariants as fault
use Rattle.hopf.proofs.refusal.push_fault.Goals as goal

pub returns-in-ReservedName : goal.returns-in-ReservedName
returns-in-ReservedName c =
    on_ok_weaker {P = c.push_both.new.out ≡ c.args.out.now ++ (codes "reserved name " ++ c.as_slice.result.now)} {Q = c.push_both.new.out ≡ c.args.out.now ++ text_of_fault c.args.fault.now} c.push_both.result
    (λ e. e ∙ ap (λ (word : List ℕ). c.args.out.now ++ (codes "reserved name " ++ word)) c.as_slice.ensures ∙ ap (λ (f : GrammarFault). c.args.out.now ++ text_of_fault f) (sym c.in-ReservedName.is))
    c.push_both.ensures

pub returns-in-NotBuilt : goal.returns-in-NotBuilt
returns-in-NotBuilt c =
    on_ok_weaker {P = c.push_all-in-NotBuilt.new.self ≡ c.args.out.now ++ text_of_fault fault.NotBuilt} {Q = c.push_all-in-NotBuilt.new.self ≡ c.args.out.now ++ text_of_fault c.args.fault.now} c.push_all-in-NotBuilt.result
    (λ e. e ∙ ap (λ (f : GrammarFault). c.args.out.now ++ text_of_fault f) (sym c.in-NotBuilt.is))
    c.push_all-in-NotBuilt.ensures.ok
