-- Antipodes exist, by recursion over the coproduct: the terms of the recursion can be gathered, and the products of what they come to.
use Rattle.std.proofs.Common.{◌≡◌, ℕ, zero, suc, ◌+◌, ◌*◌, ◌^◌, ◌<◌, ◌≤◌, Bool, true, false, [], ◌∷◌, length, refl, subst, arith, unsigned_abs, add-one}
use Rattle.std.proofs.Math.IntN.{ℤ, neg_ℤ, ◌*ℤ◌}
use Rattle.basis_names.specs.declared.bases.BasisId.{BasisId}
use Rattle.antipode_laws.specs.Recursion.{first_code, second_code, ends, IsAntipodeOf}
use Rattle.antipodes.specs.Subtracting.{SubtractsFollowed, IsCoproduct, AreSubtracted, AreTurned}
use Rattle.antipodes.proofs.ReadAntipodes.{empty_antipode, positive_degree}
use Rattle.antipodes.proofs.SmallAntipodes.{is_antipode}
use Rattle.antipodes.proofs.SubtractedParts.{first_within, lower, none_subtracted, nothing_subtracted, part_room, part_subtracted, gathered_parts}
use Rattle.antipodes.proofs.SubtractedTerms.{abs-neg, subtracts_none, subtracts_more, term_room}
use Rattle.antipodes.proofs.TurnedProducts.{can_multiply, reads_as_antipode}
use Rattle.index_rules.specs.Changes.{operation_facts}
use Rattle.index_rules.specs.Laws.{HasAnswers, HasProducts}
use Rattle.index_rules.specs.Spaces.{IsIndexWithin, limit_for}
use Rattle.index_rules.proofs.LiftsExist.{products_exist}
use Rattle.linear_combos.proofs.Edits.{zero_canonical}
use Rattle.linear_combos.proofs.Gathering.{add_exists}
use Rattle.realisations.specs.Codes.{Code, Key}
use Rattle.realisations.specs.Combinations.{Combination, AreTerms, norm_of, term_at}
use Rattle.realisations.specs.Indices.{degree_of}
use Rattle.realisations.specs.Readings.{Terms, coproduct}

-- a basis with coproducts and products, and room for the recursion
pub record HasOperations (basis : BasisId) : Type 0 where
  pub out : ℕ
  pub back : ℕ
  pub coproducts : HasAnswers (operation_facts coproduct basis (basis ∷ basis ∷ []) (limit_for basis) out)
  pub products : HasProducts basis back
  pub room : (out + 10) * limit_for basis ≤ 126

-- canonical terms from which a multiple of the first terms of a list was taken away, each followed by a second code
record IsTaken (old : Combination) (num : ℤ) (second : Code) (by : Terms) (i : ℕ) (new : Combination) : Type 0 where
  ordered : AreTerms new.rank new.terms
  subtracts : SubtractsFollowed old num second by i new

-- where they have room, they can be taken away one by one
module _ (old : Combination) (num : ℤ) (second : Code) (by : Terms) (ordered : AreTerms old.rank old.terms) (pairs : old.rank ≡ 2) (room : norm_of old.terms + unsigned_abs num * norm_of by < 2 ^ 127) where
  taken_exists : (i : ℕ) → i ≤ length by → (new : Combination) × IsTaken old num second by i new
  taken_exists zero le = (old, record { ordered = ordered; subtracts = subtracts_none old num second by })
  taken_exists (suc i) le =
      let lt : i < length by = omega (arith, le) in
      let (mid, so_far) = taken_exists i (omega (arith, le)) in
      let put : Key = first_code (term_at by i).1 ∷ second ∷ [] in
      let multiple : ℤ = neg_ℤ (num *ℤ (term_at by i).0) in
      let fits : length put ≡ mid.rank = omega (arith, so_far.subtracts.rank, pairs) in
      let room_here : norm_of mid.terms + unsigned_abs multiple < 2 ^ 127 = omega (arith, abs-neg (num *ℤ (term_at by i).0), term_room old num second by i mid so_far.subtracts lt room) in
      let (us, is) = add_exists mid.rank mid.terms multiple put so_far.ordered fits room_here in
      let new : Combination = record { rank = mid.rank; den = mid.den; terms = us } in (
        new,
        record {
          ordered = is.terms;
          subtracts = subst (λ n. SubtractsFollowed old num second by n new) (add-one i) (subtracts_more old num second by i mid so_far.subtracts lt new multiple put refl refl refl refl is.adds is.norm);
        },
      )

-- canonical terms of the first parts
record IsSoFar (basis : BasisId) (code : Code) (ts : Terms) (i : ℕ) (c : Combination) : Type 0 where
  ordered : AreTerms c.rank c.terms
  parts : AreSubtracted basis code ts i c

module _ (basis : BasisId) (has : HasOperations basis) where
  -- the parts of a coproduct, where first codes have antipodes
  module _ (code : Code) (c : Combination) (is : IsCoproduct basis has.out code c)
      (antipodes : (first : Code) → IsIndexWithin basis first → degree_of basis first < degree_of basis code → (d : Combination) × IsAntipodeOf basis first d) where
    next_part : (i : ℕ) → i < length c.terms → (mid : Combination) → IsSoFar basis code c.terms i mid → (b : Bool) → ends (term_at c.terms i).1 ≡ b → (new : Combination) × IsSoFar basis code c.terms (suc i) new
    next_part i here mid so_far true e = (
      mid,
      record { ordered = so_far.ordered; parts = subst (λ n. AreSubtracted basis code c.terms n mid) (add-one i) (nothing_subtracted basis has.out code c is i here mid so_far.parts e) },
    )
    next_part i here mid so_far false e =
        let key : Key = (term_at c.terms i).1 in
        let within : IsIndexWithin basis (first_code key) = first_within basis has.out code c is key (i, here, refl) e in
        let (first, turned) = antipodes (first_code key) within (lower basis has.out code c is key (i, here, refl) e) in
        let room = part_room basis has.out code c is i here mid so_far.parts e first turned has.room in
        let (new, taken) = taken_exists mid (term_at c.terms i).0 (second_code key) first.terms so_far.ordered so_far.parts.rank room (length first.terms) (omega arith) in (
          new,
          record {
            ordered = taken.ordered;
            parts = subst (λ n. AreSubtracted basis code c.terms n new) (add-one i) (part_subtracted basis has.out code c is i here mid so_far.parts e first turned new taken.subtracts);
          },
        )

    parts_exist : (i : ℕ) → i ≤ length c.terms → (mid : Combination) × IsSoFar basis code c.terms i mid
    parts_exist zero le =
        let none : Combination = record { rank = 2; den = 1; terms = [] } in
        (none, record { ordered = (zero_canonical 2).ordered; parts = none_subtracted basis has.out code c is none refl })
    parts_exist (suc i) le =
        let (mid, so_far) = parts_exist i (omega (arith, le)) in
        next_part i (omega (arith, le)) mid so_far (ends (term_at c.terms i).1) refl

    -- and their products are the antipode
    by_parts : (d : Combination) × IsAntipodeOf basis code d
    by_parts =
        let (mid, all) = parts_exist (length c.terms) (omega arith) in
        let turned : AreTurned basis has.out code c.terms mid = gathered_parts basis has.out code c is mid all.ordered all.parts in
        let (new, products) = products_exist basis has.back has.products 0 mid turned.canonical (can_multiply basis has.out has.back code c is mid turned has.room) in
        (new, is_antipode basis code is.index new (reads_as_antipode basis has.out has.back code c is mid turned new products))

  -- up to a degree each index within the limit has an antipode
  pub exists_by_recursion : (n : ℕ) (code : Code) → IsIndexWithin basis code → degree_of basis code ≤ n → (c : Combination) × IsAntipodeOf basis code c
  exists_by_recursion n [] within le = (_, empty_antipode basis [] _ refl ([] ∷ []) refl refl)
  exists_by_recursion zero (x ∷ code) within le = absurd (omega (arith, le, positive_degree basis (x ∷ code) within.index refl))
  exists_by_recursion (suc n) (x ∷ code) within le =
      let (c, answer) = has.coproducts (x ∷ code) (record { index = within.index; degree = within.degree }) in
      by_parts (x ∷ code) c (record { index = within; positive = positive_degree basis (x ∷ code) within.index refl; answer = answer })
      (λ first first_index less. exists_by_recursion n first first_index (omega (arith, less, le)))
