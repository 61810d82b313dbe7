-- Steps of cutting a composition at a degree.
use Rattle.std.proofs.Common.{◌≡◌, ℕ, zero, suc, ◌+◌, ◌-◌, ◌^◌, ◌<◌, ◌≤◌, [], ◌∷◌, ◌++◌, length, take, drop, get_or, refl, sym, ◌∙◌, ap, arith, true, false}
use Rattle.std.specs.Prelude.{nat_le, nat_eq}
use Rattle.std.specs.List.{sum}
use Rattle.std.proofs.Math.IntN.{ℤ, pos}
use Rattle.std.proofs.lemmas.Bool.Decides.{nat_tests}
use Rattle.std.proofs.lemmas.List.{append_assoc, append-nil, length-map, get_or-map, take_all, drop_all}
use Rattle.std.proofs.lemmas.List.FromFn.{get_or-map-range_with_len, length-map-range_with_len}
use Rattle.std.proofs.lemmas.List.Sums.{sum_by-cons}
use Rattle.compositions.specs.Sizes.{IsSmallComposition}
use Rattle.compositions.proofs.Parts.{code_from_composition, code_from_one_more}
use Rattle.compositions.proofs.SmallCodes.{sum-take, sum-take_le}
use Rattle.coproduct_laws.specs.Coproducts.{terms_of_pairs}
use Rattle.coproduct_rules.specs.DegreeCuts.{front_of_degree, rest_past_degree, degree_cuts}
use Rattle.coproduct_rules.proofs.DegreeCuts.{front_whole, front_cut, front_none, rest_whole, rest_cut}
use Rattle.index_rules.specs.PushedTerms.{HoldsFirst}
use Rattle.index_rules.proofs.PairAnswers.{norm_of-pairs}
use Rattle.linear_combos.specs.Codes.{IsCode}
use Rattle.linear_combos.proofs.Weights.{norm-part}
use Rattle.realisations.specs.Codes.{Code, Key}
use Rattle.realisations.specs.Combinations.{Combination, norm_of, term_at}
use Rattle.realisations.specs.IndexKinds.{IsComposition}

-- the part at a place, and those after it
drop-next : (parts : Code) (at : ℕ) → at < length parts → drop at parts ≡ get_or parts at 0 ∷ drop (at + 1) parts
drop-next [] at lt = absurd (omega (arith, lt))
drop-next (i ∷ parts) zero lt = refl
drop-next (i ∷ parts) (suc at) lt =
    let next : suc at + 1 ≡ suc (at + 1) = omega arith in
    rw next (drop-next parts at (omega (arith, lt)))

take-next : (parts : Code) (at : ℕ) → at < length parts → take (at + 1) parts ≡ take at parts ++ get_or parts at 0 ∷ []
take-next [] at lt = absurd (omega (arith, lt))
take-next (i ∷ parts) zero lt = refl
take-next (i ∷ parts) (suc at) lt =
    let next : suc at + 1 ≡ suc (at + 1) = omega arith in
    rw next (ap (λ v. i ∷ v) (take-next parts at (omega (arith, lt))))

-- each part is positive
positive-part : (parts : Code) (at : ℕ) → IsComposition parts → at < length parts → 0 < get_or parts at 0
positive-part [] at h lt = absurd (omega (arith, lt))
positive-part (i ∷ parts) zero h lt = h.0
positive-part (i ∷ parts) (suc at) h lt = positive-part parts at h.1 (omega (arith, lt))

taken_parts : (parts : Code) (at : ℕ) → IsComposition parts → IsComposition (take at parts)
taken_parts [] zero h = tt
taken_parts [] (suc at) h = tt
taken_parts (i ∷ parts) zero h = tt
taken_parts (i ∷ parts) (suc at) h = (h.0, taken_parts parts at h.1)

dropped_parts : (parts : Code) (at : ℕ) → IsComposition parts → IsComposition (drop at parts)
dropped_parts [] zero h = tt
dropped_parts [] (suc at) h = tt
dropped_parts (i ∷ parts) zero h = h
dropped_parts (i ∷ parts) (suc at) h = dropped_parts parts at h.1

sum-drop_le : (parts : Code) (at : ℕ) → sum (drop at parts) ≤ sum parts
sum-drop_le [] zero = omega arith
sum-drop_le [] (suc at) = omega arith
sum-drop_le (i ∷ parts) zero = omega arith
sum-drop_le (i ∷ parts) (suc at) = omega (arith, sum_by-cons (λ (k : ℕ). k) i parts, sum-drop_le parts at)

-- tests of numbers
above : (m n : ℕ) → m < n → nat_le n m ≡ false
above m n lt = grind (arith, nat_tests)

below : (m n : ℕ) → m ≤ n → nat_le m n ≡ true
below m n le = grind (arith, nat_tests)

apart : (n : ℕ) → 0 < n → nat_eq n 0 ≡ false
apart n lt = grind (arith, nat_tests)

module _ (parts : Code) (at : ℕ) (lt : at < length parts) where
  -- a whole part goes to the front
  pub front_further : (degree left part : ℕ) → part ≡ get_or parts at 0 → part ≤ left → front_of_degree degree parts ≡ take at parts ++ front_of_degree left (drop at parts)
      → front_of_degree degree parts ≡ take (at + 1) parts ++ front_of_degree (left - part) (drop (at + 1) parts)
  front_further degree left part is le so_far =
      so_far
      ∙ ap (λ v. take at parts ++ front_of_degree left v) (drop-next parts at lt ∙ ap (λ x. x ∷ drop (at + 1) parts) (sym is))
      ∙ ap (λ v. take at parts ++ v) (front_whole left part (drop (at + 1) parts) (below part left le))
      ∙ sym (append_assoc (take at parts) (part ∷ []) (front_of_degree (left - part) (drop (at + 1) parts)))
      ∙ ap (λ x. (take at parts ++ x ∷ []) ++ front_of_degree (left - part) (drop (at + 1) parts)) is
      ∙ ap (λ v. v ++ front_of_degree (left - part) (drop (at + 1) parts)) (sym (take-next parts at lt))

  -- and leaves the rest
  pub rest_further : (degree left part : ℕ) → part ≡ get_or parts at 0 → part ≤ left → rest_past_degree degree parts ≡ rest_past_degree left (drop at parts)
      → rest_past_degree degree parts ≡ rest_past_degree (left - part) (drop (at + 1) parts)
  rest_further degree left part is le so_far =
      so_far ∙ ap (rest_past_degree left) (drop-next parts at lt ∙ ap (λ x. x ∷ drop (at + 1) parts) (sym is)) ∙ rest_whole left part (drop (at + 1) parts) (below part left le)

  module _ (small : IsSmallComposition parts) (last : ℕ) (less : last < get_or parts at 0) where
    -- a part is cut
    pub front_code : 0 < last → IsCode (take at parts ++ last ∷ [])
    front_code some =
        code_from_one_more (take at parts) last (taken_parts parts at small.positive) some
        (omega (arith, sum-take parts at lt, sum-take_le parts (at + 1), small.small, less))

    pub front_at : 0 < last → take at parts ++ last ∷ [] ≡ take at parts ++ front_of_degree last (drop at parts)
    front_at some =
        ap (λ v. take at parts ++ v) (sym (ap (front_of_degree last) (drop-next parts at lt) ∙ front_cut last (get_or parts at 0) (drop (at + 1) parts) (above last (get_or parts at 0) less) (apart last some)))

    -- or none is left
    pub front_at_none : last ≡ 0 → take at parts ≡ take at parts ++ front_of_degree last (drop at parts)
    front_at_none none =
        let front : front_of_degree 0 (drop at parts) ≡ [] =
        ap (front_of_degree 0) (drop-next parts at lt) ∙ front_none 0 (get_or parts at 0) (drop (at + 1) parts) (above 0 (get_or parts at 0) (positive-part parts at small.positive lt)) refl in
        sym (ap (λ m. take at parts ++ front_of_degree m (drop at parts)) none ∙ ap (λ v. take at parts ++ v) front ∙ append-nil (take at parts))

    -- what is left of the part comes before the other parts
    pub rest_code : IsCode ((get_or parts at 0 - last) ∷ drop (at + 1) parts)
    rest_code =
        code_from_composition ((get_or parts at 0 - last) ∷ drop (at + 1) parts) (omega (arith, less), dropped_parts parts (at + 1) small.positive)
        (omega (
          arith,
          sum_by-cons (λ (k : ℕ). k) (get_or parts at 0 - last) (drop (at + 1) parts),
          sum_by-cons (λ (k : ℕ). k) (get_or parts at 0) (drop (at + 1) parts),
          ap sum (drop-next parts at lt),
          sum-drop_le parts at,
          small.small,
        ))

    pub part_code : IsCode ((get_or parts at 0 - last) ∷ [])
    part_code =
        code_from_composition ((get_or parts at 0 - last) ∷ []) (omega (arith, less), tt)
        (omega (
          arith,
          sum_by-cons (λ (k : ℕ). k) (get_or parts at 0 - last) [],
          sum_by-cons (λ (k : ℕ). k) (get_or parts at 0) (drop (at + 1) parts),
          ap sum (drop-next parts at lt),
          sum-drop_le parts at,
          small.small,
        ))

    pub rest_at : (get_or parts at 0 - last) ∷ drop (at + 1) parts ≡ rest_past_degree last (drop at parts)
    rest_at = sym (ap (rest_past_degree last) (drop-next parts at lt) ∙ rest_cut last (get_or parts at 0) (drop (at + 1) parts) (above last (get_or parts at 0) less))

-- past the last part there is no more
pub front_whole_code : (parts : Code) (degree left at : ℕ) → length parts ≤ at → front_of_degree degree parts ≡ take at parts ++ front_of_degree left (drop at parts) → parts ≡ front_of_degree degree parts
front_whole_code parts degree left at le so_far =
    sym (so_far ∙ (λ i. take_all at parts le i ++ front_of_degree left (drop_all at parts le i)) ∙ append-nil parts)

pub rest_of_none : (parts : Code) (degree left at : ℕ) → length parts ≤ at → rest_past_degree degree parts ≡ rest_past_degree left (drop at parts) → [] ≡ rest_past_degree degree parts
rest_of_none parts degree left at le so_far = sym (so_far ∙ ap (rest_past_degree left) (drop_all at parts le))

-- there is a cut for each degree
pub length-degree_cuts : (parts : Code) → length (terms_of_pairs (degree_cuts parts)) ≡ suc (sum parts)
length-degree_cuts parts =
    length-map {B = ℤ × Key} (degree_cuts parts) (λ (e : Code × Code). (pos 1, e.0 ∷ e.1 ∷ []))
    ∙ length-map-range_with_len {X = Code × Code} (λ k. (front_of_degree k parts, rest_past_degree k parts)) 0 (suc (sum parts))

pub term_at-degree_cuts : (parts : Code) (k : ℕ) → k < suc (sum parts) → term_at (terms_of_pairs (degree_cuts parts)) k ≡ (pos 1, front_of_degree k parts ∷ rest_past_degree k parts ∷ [])
term_at-degree_cuts parts k lt =
    let pair : get_or (degree_cuts parts) k ([], []) ≡ (front_of_degree k parts, rest_past_degree k parts) =
    get_or-map-range_with_len {X = Code × Code} (λ k. (front_of_degree k parts, rest_past_degree k parts)) 0 (suc (sum parts)) k k ([], []) lt (omega arith) in
    let here : k < length (degree_cuts parts) = omega (arith, lt, length-map-range_with_len {X = Code × Code} (λ k. (front_of_degree k parts, rest_past_degree k parts)) 0 (suc (sum parts))) in
    get_or-map (λ (e : Code × Code). (pos 1, e.0 ∷ e.1 ∷ [])) (degree_cuts parts) k ([], []) (pos 0, []) here
    ∙ ap (λ (e : Code × Code). (pos 1, e.0 ∷ e.1 ∷ [])) pair

-- one more has room
pub cuts_room : (parts : Code) (k : ℕ) (c : Combination) → IsSmallComposition parts → HoldsFirst (terms_of_pairs (degree_cuts parts)) k c → norm_of c.terms + 1 < 2 ^ 127
cuts_room parts k c small holds =
    room (norm_of c.terms) (norm_of (take k (terms_of_pairs (degree_cuts parts)))) (norm_of (terms_of_pairs (degree_cuts parts))) (length (degree_cuts parts)) (sum parts) holds.norm
    (norm-part (terms_of_pairs (degree_cuts parts)) k) (norm_of-pairs (degree_cuts parts))
    (length-map-range_with_len {X = Code × Code} (λ k. (front_of_degree k parts, rest_past_degree k parts)) 0 (suc (sum parts))) small.small
  where
    room : (a b d e n : ℕ) → a ≤ b → b ≤ d → d ≡ e → e ≡ suc n → n ≤ 12 → a + 1 < 2 ^ 127
    room a b d e n h h' h'' h''' h'''' = omega arith
