-- The codes of trees of n + 1 nodes, from those of n: by the letters after the first one.
use Rattle.std.proofs.Common.{◌≡◌, ◌⊎◌, ℕ, suc, ◌+◌, ◌<◌, ◌≤◌, List, [], ◌∷◌, ◌++◌, length, take, drop, get_or, refl, sym, ◌∙◌, ap, subst, arith, inl, inr}
use Rattle.std.proofs.lemmas.Bool.{cases_lt}
use Rattle.std.proofs.lemmas.List.{take_all}
use Rattle.realisations.specs.Codes.{Code}
use Rattle.realisations.specs.IndexKinds.{IsTreeCode}
use Rattle.realisations.specs.Trees.{empty}
use Rattle.tree_laws.proofs.FirstNodes.{first_letter, front_is_tree, longer_is_tree, rest_is_tree}
use Rattle.word_laws.specs.AddedCodes.{AddsEach, times_in}
use Rattle.word_laws.proofs.AddedCodes.{adds_either, adds_more, adds_none, adds_one, adds_same}
use Rattle.permutation_words.proofs.CanonicalOrder.{added_all, added_has, added_once, counted_at}
use Rattle.binary_trees.specs.Places.{IsLonger, IsShorter}
use Rattle.binary_trees.specs.Sizes.{IsTreeCodeOf}

-- longer codes with a first letter of at most a number
abbrev pub IsLongerTo : ℕ → Code → Code → Type 0
IsLongerTo at code w = IsLonger code w × (get_or w 0 0 ≤ at)

-- a first letter of 0 has none
pub longer_start : (code : Code) (old : List Code) → AddsEach (IsLongerTo 0 code) old old
longer_start code old = adds_none (IsLongerTo 0 code) old none
  where
    none : (w : Code) → IsLongerTo 0 code w → ⊥
    none [] (h, low) = absurd (omega (arith, h.tree.1))
    none (k ∷ w) (h, low) = absurd (omega (arith, low, (first_letter k w h.tree.0).0))

-- a longer code is its first letter and the code
longer_parts : (code w : Code) → IsLonger code w → w ≡ get_or w 0 0 ∷ code
longer_parts code [] h = absurd (omega (arith, h.tree.1))
longer_parts code (k ∷ w) h = ap (λ v. k ∷ v) h.rest

-- the next letter before a code whose front is the code of a tree
pub longer_more : (code first new : Code) (at : ℕ) (old mid : List Code) → IsShorter code → at ≤ length code → IsTreeCode (take at code) → new ≡ (at + 1) ∷ code
    → AddsEach (IsLongerTo at code) old mid → AddsEach (IsLongerTo (at + 1) code) old (mid ++ new ∷ [])
longer_more code first new at old mid short le front is adds =
    adds_same (λ w. IsLongerTo at code w ⊎ (w ≡ new)) (IsLongerTo (at + 1) code) old (mid ++ new ∷ []) to from
    (adds_either (IsLongerTo at code) (λ w. w ≡ new) old mid (mid ++ new ∷ []) apart adds (adds_one (λ w. w ≡ new) new mid refl (λ w e. e)))
  where
    here : IsLonger code ((at + 1) ∷ code)
    here = record {
      tree = (subst (λ k. IsTreeCode (k ∷ code)) (omega arith) (longer_is_tree at code le short.tree front), refl);
      rest = refl;
    }

    apart : (w : Code) → IsLongerTo at code w → w ≡ new → ⊥
    apart w h e = absurd (omega (arith, h.1, ap (λ (v : Code). get_or v 0 0) (e ∙ is)))

    to : (w : Code) → IsLongerTo at code w ⊎ (w ≡ new) → IsLongerTo (at + 1) code w
    to w (inl h) = (h.0, omega (arith, h.1))
    to w (inr e) = subst (IsLongerTo (at + 1) code) (sym (e ∙ is)) (here, omega arith)

    from : (w : Code) → IsLongerTo (at + 1) code w → IsLongerTo at code w ⊎ (w ≡ new)
    from w h = elim (cases_lt at (get_or w 0 0)) [
      | inl past ↦ inr (let last : get_or w 0 0 ≡ at + 1 = omega (arith, past, h.1) in longer_parts code w h.0 ∙ ap (λ k. k ∷ code) last ∙ sym is)
      | inr low ↦ inl (h.0, low)
    ]

-- no code of a tree has the next letter first where the front is no code of a tree
pub longer_same : (code : Code) (at : ℕ) (old mid : List Code) → (IsTreeCode (take at code) → ⊥) → AddsEach (IsLongerTo at code) old mid → AddsEach (IsLongerTo (at + 1) code) old mid
longer_same code at old mid none adds =
    adds_same (IsLongerTo at code) (IsLongerTo (at + 1) code) old mid (λ w h. (h.0, omega (arith, h.1))) from adds
  where
    from : (w : Code) → IsLongerTo (at + 1) code w → IsLongerTo at code w
    from w h = elim (cases_lt at (get_or w 0 0)) [
      | inl past ↦ (let last : get_or w 0 0 ≡ suc at = omega (arith, past, h.1) in absurd (none (front_is_tree at code (subst IsTreeCode (longer_parts code w h.0 ∙ ap (λ k. k ∷ code) last) h.0.tree.0))))
      | inr low ↦ (h.0, low)
    ]

-- no first letter is greater than the number of letters
pub longer_end : (code : Code) (at : ℕ) (old mid : List Code) → length code + 1 ≤ at → AddsEach (IsLongerTo at code) old mid → AddsEach (IsLonger code) old mid
longer_end code at old mid le adds = adds_same (IsLongerTo at code) (IsLonger code) old mid (λ w h. h.0) from adds
  where
    from : (w : Code) → IsLonger code w → IsLongerTo at code w
    from [] h = absurd (omega (arith, h.tree.1))
    from (k ∷ w) h = (h, omega (arith, le, (first_letter k w h.tree.0).1, ap (λ (v : Code). length v) h.rest))

module _ (n : ℕ) (codes : List Code) (all : AddsEach (IsTreeCodeOf n) [] codes) where
  -- each of the codes is that of a tree of n nodes
  one_of_them : (i : ℕ) (v : Code) → i < length codes → v ≡ get_or codes i [] → IsTreeCodeOf n v
  one_of_them i v lt here = added_has (IsTreeCodeOf n) codes all v (counted_at codes i v lt here)

  pub grown_short : (i : ℕ) (v : Code) → n ≤ 11 → i < length codes → v ≡ get_or codes i [] → IsShorter v
  grown_short i v few lt here = let h = one_of_them i v lt here in record { tree = h.0; small = omega (arith, h.1, few) }

  -- the codes that were found from the first ones
  abbrev pub GrownFrom : ℕ → Code → Type 0
  GrownFrom i w = IsTreeCodeOf (n + 1) w × (1 ≤ times_in (drop 1 w) (take i codes))

  pub grown_start : AddsEach (GrownFrom 0) [] []
  grown_start = adds_none (GrownFrom 0) [] (λ w h. absurd (omega (arith, h.1)))

  pub grown_more : (i : ℕ) (v : Code) (longer new : List Code) → i < length codes → v ≡ get_or codes i []
      → AddsEach (GrownFrom i) [] longer → AddsEach (IsLonger v) longer new → AddsEach (GrownFrom (i + 1)) [] new
  grown_more i v longer new lt here before adds =
      let size : suc (length v) ≡ n + 1 = omega (arith, (one_of_them i v lt here).1) in
      adds_more (IsTreeCodeOf (n + 1)) (λ w. drop 1 w) codes longer new i v lt here (added_once (IsTreeCodeOf n) codes all v) before
      (adds_same (IsLonger v) (λ w. IsTreeCodeOf (n + 1) w × (drop 1 w ≡ v)) longer new
      (λ w h. ((h.tree.0, h.tree.1 ∙ size), h.rest))
      (λ w h. record { tree = (h.0.0, h.0.1 ∙ sym size); rest = h.1 })
      adds)

  -- from all codes all are found
  pub grown_whole : (i : ℕ) (longer : List Code) → length codes ≤ i → AddsEach (GrownFrom i) [] longer → AddsEach (IsTreeCodeOf (n + 1)) [] longer
  grown_whole i longer end adds =
      adds_same (GrownFrom i) (IsTreeCodeOf (n + 1)) [] longer (λ w h. h.0)
      (λ w h. (h, subst (λ ws. 1 ≤ times_in (drop 1 w) ws) (sym (take_all i codes end)) (added_all (IsTreeCodeOf n) codes all (drop 1 w) (rest_of w h))))
      adds
    where
      rest_of : (w : Code) → IsTreeCodeOf (n + 1) w → IsTreeCodeOf n (drop 1 w)
      rest_of [] h = absurd (omega (arith, h.1))
      rest_of (k ∷ w) h = (rest_is_tree k w h.0, omega (arith, h.1))

-- the only tree of no nodes
pub no_nodes : AddsEach (IsTreeCodeOf 0) [] ([] ∷ [])
no_nodes = adds_one (IsTreeCodeOf 0) [] [] ((empty, refl), refl) only
  where
    only : (w : Code) → IsTreeCodeOf 0 w → w ≡ []
    only [] h = refl
    only (x ∷ w) h = absurd (omega (arith, h.1))
