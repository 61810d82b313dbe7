use Rattle.std.proofs.Common.{◌≡◌, ◌≤◌, ℕ, List, length, drop, sym, ◌∙◌, ap, subst, arith}
use Rattle.std.specs.List.{All}
use Rattle.std.proofs.lemmas.Result.{IfOk-weaker}
use Rattle.coproduct_rules.specs.PartCuts.{part_cuts}
use Rattle.ncsf.specs.PairLists.{CanGrowBy, with_part_cut}
use Rattle.ncsf.proofs.PairLists.{cuts_grow, part_cuts-next}
use Rattle.ncsf.proofs.part_cuts.+part_cuts.Goals as goal

pub with_part_cut-requires-clause-room : goal.with_part_cut-requires-clause-room
with_part_cut-requires-clause-room t c =
    let parts : List ℕ = c.args.parts.now in
    let behind = c.in_ok-pairs.ensures ∙ ap part_cuts c.suffix-behind.ensures in
    let first = c.letter.ensures in
    let some : 1 ≤ length parts = omega arith in
    subst (λ pairs. All (CanGrowBy c.letter.result) pairs) (sym behind)
    (subst (λ m. All (CanGrowBy m) (part_cuts (drop 1 parts))) (sym first) (cuts_grow parts some c.requires.positive c.requires.small))

pub returns : goal.returns
returns t c =
    let parts : List ℕ = c.args.parts.now in
    let behind = c.in_ok-pairs.ensures ∙ ap part_cuts c.suffix-behind.ensures in
    let first = c.letter.ensures in
    let some : 1 ≤ length parts = omega arith in
    IfOk-weaker c.with_part_cut.result (λ v. v.items ≡ with_part_cut c.letter.result c.in_ok-pairs.pairs.items) (λ v. v.items ≡ part_cuts parts)
    (λ v e. e ∙ (λ i. with_part_cut (first i) (behind i)) ∙ part_cuts-next parts some)
    c.with_part_cut.ensures
