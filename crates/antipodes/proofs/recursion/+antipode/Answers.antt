use Rattle.std.proofs.Common.{◌≡◌, ℕ, ◌<◌, false, true, [], length, refl, sym, ◌∙◌, ap, subst, arith, to_z, of_z}
use mir.Syntax.{w128}
use Rattle.std.proofs.lemmas.Int.{to_z-of_z}
use Rattle.std.proofs.lemmas.Result.{IfOk-weaker, on_ok_weaker}
use Rattle.basis_names.specs.declared.bases.BasisId.{BasisId}
use Rattle.antipode_laws.specs.Recursion.{first_code, second_code, ends, IsAntipodeOf}
use Rattle.antipodes.proofs.Antipodes.{found_again}
use Rattle.antipodes.proofs.ReadAntipodes.{empty_antipode, positive_degree}
use Rattle.antipodes.proofs.SmallAntipodes.{is_antipode}
use Rattle.antipodes.proofs.SubtractedParts.{first_shown, second_shown, two_codes_at, lower, first_within, nothing_subtracted, part_room, part_subtracted, all_turned}
use Rattle.antipodes.proofs.TurnedProducts.{can_multiply, reads_as_antipode}
use Rattle.index_rules.specs.Lifts.{AreMultiplied}
use Rattle.index_rules.specs.Spaces.{IsIndexWithin}
use Rattle.realisations.specs.Codes.{Key}
use Rattle.realisations.specs.Combinations.{term_at}
use Rattle.realisations.specs.Indices.{degree_of}
use Rattle.realisations.specs.Lists.{same_list}
use Rattle.antipodes.proofs.recursion.+antipode.Goals as goal

pub antipode-returns-then-is_empty : goal.antipode-returns-then-is_empty
antipode-returns-then-is_empty g t c =
    IfOk-weaker c.term.result _ (IsAntipodeOf g.A.Space.basis c.args.code.now)
    (λ found is. empty_antipode g.A.Space.basis c.args.code.now found (sym c.is_empty.ensures ∙ c.if-is_empty.true) c.one.result c.one.ensures is)
    c.term.ensures

pub antipode-returns-in-Some : goal.antipode-returns-in-Some
antipode-returns-in-Some g t c =
    IfOk-weaker c.copy.result _ (IsAntipodeOf g.A.Space.basis c.args.code.now)
    (λ found is. found_again g.A.Space.basis c.args.code.now c.requires c.basis.result c.in-Some.known.now found c.basis.ensures c.in-Some.ensures is)
    c.copy.ensures

pub antipode-by_recursion-requires : goal.antipode-by_recursion-requires
antipode-by_recursion-requires g t c = λ κs lives. (
  omega (arith, c.decreases),
  (lives, (c.requires, positive_degree g.A.Space.basis c.args.code.now c.requires.index (sym c.is_empty.ensures ∙ c.if-is_empty.false))),
)

pub by_recursion-multiply_components-requires-clause-can : goal.by_recursion-multiply_components-requires-clause-can
by_recursion-multiply_components-requires-clause-can g t c =
    can_multiply g.A.Space.basis g.A.Coalgebra.coproduct_growth g.A.Algebra.product_growth c.args.code.now c.in_ok-pairs.pairs
    (record { index = c.requires.index; positive = c.requires.positive; answer = c.in_ok-pairs.ensures })
    c.in_ok-turned.turned c.in_ok-turned.ensures g.met.A.Antipode.room

pub by_recursion-returns : goal.by_recursion-returns
by_recursion-returns g t c =
    let basis : BasisId = g.A.Space.basis in
    IfOk-weaker c.multiply_components.result (AreMultiplied basis g.A.Algebra.product_growth 0 c.in_ok-turned.turned) (IsAntipodeOf basis c.args.code.now)
    (λ found products.
    is_antipode basis c.args.code.now c.requires.index found
    (reads_as_antipode basis g.A.Coalgebra.coproduct_growth g.A.Algebra.product_growth c.args.code.now c.in_ok-pairs.pairs
    (record { index = c.requires.index; positive = c.requires.positive; answer = c.in_ok-pairs.ensures })
    c.in_ok-turned.turned c.in_ok-turned.ensures found products))
    c.multiply_components.ensures

pub subtract_term-returns-then-is_empty : goal.subtract_term-returns-then-is_empty
subtract_term-returns-then-is_empty g t c =
    let key : Key = (term_at c.args.pairs.now.terms c.args.at).1 in
    let long : length key ≡ 2 = two_codes_at g.A.Space.basis g.A.Coalgebra.coproduct_growth c.args.code.now c.args.pairs.now c.requires.of c.args.at c.requires.in_range in
    let second : c.code-second.result.now ≡ second_code key = second_shown c.key_at-key.result.now key c.code-second.result.now c.key_at-key.ensures long c.code-second.ensures in
    let none : ends key ≡ true = ap (λ v. same_list v []) (sym second) ∙ sym c.is_empty.ensures ∙ c.if-is_empty.true in
    nothing_subtracted g.A.Space.basis g.A.Coalgebra.coproduct_growth c.args.code.now c.args.pairs.now c.requires.of c.args.at c.requires.in_range c.args.out.now c.requires.so_far none

pub subtract_term-antipode-requires : goal.subtract_term-antipode-requires
subtract_term-antipode-requires g t c = λ κs lives.
    let basis : BasisId = g.A.Space.basis in
    let growth : ℕ = g.A.Coalgebra.coproduct_growth in
    let key : Key = (term_at c.args.pairs.now.terms c.args.at).1 in
    let long : length key ≡ 2 = two_codes_at g.A.Space.basis g.A.Coalgebra.coproduct_growth c.args.code.now c.args.pairs.now c.requires.of c.args.at c.requires.in_range in
    let second : c.code-second.result.now ≡ second_code key = second_shown c.key_at-key.result.now key c.code-second.result.now c.key_at-key.ensures long c.code-second.ensures in
    let first : c.code.result.now ≡ first_code key = first_shown c.key_at-key.result.now key c.code.result.now c.key_at-key.ensures long c.code.ensures in
    let more : ends key ≡ false = ap (λ v. same_list v []) (sym second) ∙ sym c.is_empty.ensures ∙ c.if-is_empty.false in
    let less : degree_of basis (first_code key) < degree_of basis c.args.code.now = lower basis growth c.args.code.now c.args.pairs.now c.requires.of key (c.args.at, c.requires.in_range, refl) more in (
      omega (arith, c.decreases, less, ap (degree_of basis) first),
      (lives, subst (IsIndexWithin basis) (sym first) (first_within basis growth c.args.code.now c.args.pairs.now c.requires.of key (c.args.at, c.requires.in_range, refl) more)),
    )

pub subtract_term-subtract_followed-requires-clause-room : goal.subtract_term-subtract_followed-requires-clause-room
subtract_term-subtract_followed-requires-clause-room g t c =
    let basis : BasisId = g.A.Space.basis in
    let growth : ℕ = g.A.Coalgebra.coproduct_growth in
    let key : Key = (term_at c.args.pairs.now.terms c.args.at).1 in
    let long : length key ≡ 2 = two_codes_at g.A.Space.basis g.A.Coalgebra.coproduct_growth c.args.code.now c.args.pairs.now c.requires.of c.args.at c.requires.in_range in
    let second : c.code-second.result.now ≡ second_code key = second_shown c.key_at-key.result.now key c.code-second.result.now c.key_at-key.ensures long c.code-second.ensures in
    let first : c.code.result.now ≡ first_code key = first_shown c.key_at-key.result.now key c.code.result.now c.key_at-key.ensures long c.code.ensures in
    let more : ends key ≡ false = ap (λ v. same_list v []) (sym second) ∙ sym c.is_empty.ensures ∙ c.if-is_empty.false in
    let turned : IsAntipodeOf basis (first_code key) c.in_ok-first.first = subst (λ v. IsAntipodeOf basis v c.in_ok-first.first) first c.in_ok-first.ensures in
    let num : to_z w128 (of_z w128 c.num_at.result) ≡ (term_at c.args.pairs.now.terms c.args.at).0 = to_z-of_z w128 c.num_at.result (record { sfits = c.num_at.type_inv }) ∙ c.num_at.ensures.value in
    rw num (part_room basis growth c.args.code.now c.args.pairs.now c.requires.of c.args.at c.requires.in_range c.args.out.now c.requires.so_far more c.in_ok-first.first turned g.met.A.Antipode.room)

pub subtract_term-returns : goal.subtract_term-returns
subtract_term-returns g t c =
    let basis : BasisId = g.A.Space.basis in
    let growth : ℕ = g.A.Coalgebra.coproduct_growth in
    let key : Key = (term_at c.args.pairs.now.terms c.args.at).1 in
    let long : length key ≡ 2 = two_codes_at g.A.Space.basis g.A.Coalgebra.coproduct_growth c.args.code.now c.args.pairs.now c.requires.of c.args.at c.requires.in_range in
    let second : c.code-second.result.now ≡ second_code key = second_shown c.key_at-key.result.now key c.code-second.result.now c.key_at-key.ensures long c.code-second.ensures in
    let first : c.code.result.now ≡ first_code key = first_shown c.key_at-key.result.now key c.code.result.now c.key_at-key.ensures long c.code.ensures in
    let more : ends key ≡ false = ap (λ v. same_list v []) (sym second) ∙ sym c.is_empty.ensures ∙ c.if-is_empty.false in
    let turned : IsAntipodeOf basis (first_code key) c.in_ok-first.first = subst (λ v. IsAntipodeOf basis v c.in_ok-first.first) first c.in_ok-first.ensures in
    let num : to_z w128 (of_z w128 c.num_at.result) ≡ (term_at c.args.pairs.now.terms c.args.at).0 = to_z-of_z w128 c.num_at.result (record { sfits = c.num_at.type_inv }) ∙ c.num_at.ensures.value in
    on_ok_weaker _
    (λ subtracts.
    part_subtracted basis growth c.args.code.now c.args.pairs.now c.requires.of c.args.at c.requires.in_range c.args.out.now c.requires.so_far more c.in_ok-first.first turned c.subtract_followed.new.out
    (rw (num, second) at subtracts))
    c.subtract_followed.ensures

pub turned-returns : goal.turned-returns
turned-returns g t c =
    all_turned g.A.Space.basis g.A.Coalgebra.coproduct_growth c.args.code.now c.args.pairs.now c.requires c.subtract_terms.new.out c.finish.result c.in_ok-subtract_terms.ensures c.finish.ensures
