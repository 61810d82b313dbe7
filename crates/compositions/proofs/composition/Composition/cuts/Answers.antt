use Rattle.std.proofs.Common.{◌≤◌, [], length, arith}
use Rattle.realisations.specs.Combinations.{norm_of, IsCanonical}
use Rattle.realisations.specs.Words.{word_cuts}
use Rattle.basis_names.specs.declared.bases.BasisId.TheVariants.{QsymM}
use Rattle.coproduct_laws.specs.AddedPairs.{AddsPairs}
use Rattle.coproduct_laws.proofs.AddedPairs.{answers}
use Rattle.coproduct_laws.proofs.MonomialRule.{monomial_rule}
use Rattle.coproduct_laws.proofs.WordCuts.{length-word_cuts}
use Rattle.compositions.proofs.SmallCodes.{small_code}
use Rattle.compositions.proofs.composition.Composition.cuts.Goals as goal

pub add_cuts-requires-clause-room : goal.add_cuts-requires-clause-room
add_cuts-requires-clause-room c =
    rw (c.code.ensures.value, c.zero-out.ensures) (omega (arith, length-word_cuts c.args.self.now, (small_code c.args.self.now c.code.ensures.small).short))

pub returns : goal.returns
returns c =
    let w = c.args.self.now in
    let norm : norm_of c.add_cuts.new.out.terms ≤ length (word_cuts w) = omega (arith, rw (c.code.ensures.value, c.zero-out.ensures) at c.in_ok-add_cuts.ensures.norm) in
    let adds : AddsPairs [] c.add_cuts.new.out.terms (word_cuts w) = rw (c.code.ensures.value, c.zero-out.ensures) at c.in_ok-add_cuts.ensures.adds in
    let canonical : IsCanonical c.add_cuts.new.out.rank c.add_cuts.new.out.den c.add_cuts.new.out.terms = rw (← c.out.view_is) c.out.invariant.0 in
    answers QsymM w (word_cuts w) c.add_cuts.new.out (monomial_rule w c.code.ensures.small.positive) canonical c.in_ok-add_cuts.ensures.same_rank c.in_ok-add_cuts.ensures.same_den norm adds
