-- At how many shuffles of two words a standard tableau occurs depends on the recording tableaux of both words alone (Knuth 1970; Poirier, Reutenauer 1995).
use Rattle.std.proofs.Common.{◌≡◌, ℕ, ◌+◌, ◌<◌, List, [], ◌∷◌, ◌++◌, map, length, sym, ◌∙◌, ap, subst, arith}
use Rattle.std.specs.List.{concat}
use Rattle.std.proofs.lemmas.List.{length-map, map-append}
use Rattle.basis_names.specs.declared.bases.BasisId.TheVariants.{FsymS}
use Rattle.realisations.specs.Lists.{one_if, same_list}
use Rattle.realisations.specs.Points.{word, IsPoint}
use Rattle.realisations.specs.Standardisation.{inverse, standardise}
use Rattle.realisations.specs.Tableaux.{insertion_tableau, recording_tableau, tableau_code}
use Rattle.realisations.specs.Words.{raise, shifted_shuffles}
use Rattle.basis_representatives.proofs.Entries.{length-enter_all}
use Rattle.basis_representatives.proofs.Inverses.{length-inverse, permutation-inverse}
use Rattle.basis_representatives.proofs.Permutations.{HasEachOnce, count_same-permutation, permutation-standardise, permutation_from}
use Rattle.basis_representatives.proofs.SameOrder.{length-standardise}
use Rattle.coproduct_laws.proofs.CoproductCounts.{at_points}
use Rattle.coproduct_laws.proofs.Shuffling.{over_shuffles}
use Rattle.coproduct_laws.proofs.StandardShuffles.{standardise_shuffles}
use Rattle.tableau_laws.specs.Knuth.{Move, still, xzy, zxy, yxz, yzx, Chain, done, step}
use Rattle.tableau_laws.proofs.KnuthChains.{chain-trans}
use Rattle.tableau_laws.proofs.KnuthClasses.{chain_keeps, knuth}
use Rattle.tableau_laws.proofs.KnuthMoves.{Distinct, move-after, move-before}
use Rattle.tableau_coproducts.proofs.ShufflePlaces.{Places, IsShuffled, over_shuffles_alike}
use Rattle.tableau_coproducts.proofs.ShuffledInverses.{fresh_together, permutation-shuffled, inverse-shuffled}

module _ (f : ℕ → ℕ) (up : (i j : ℕ) → i < j → f i < f j) where
  -- a rising map brings moves to moves
  move-map : (v w : List ℕ) → Move v w → Move (map f v) (map f w)
  move-map v w (still u) = still (map f u)
  move-map v w (xzy p s x y z h k) = rw (map-append f p (x ∷ z ∷ y ∷ s), map-append f p (z ∷ x ∷ y ∷ s)) (xzy (map f p) (map f s) (f x) (f y) (f z) (up x y h) (up y z k))
  move-map v w (zxy p s x y z h k) = rw (map-append f p (z ∷ x ∷ y ∷ s), map-append f p (x ∷ z ∷ y ∷ s)) (zxy (map f p) (map f s) (f x) (f y) (f z) (up x y h) (up y z k))
  move-map v w (yxz p s x y z h k) = rw (map-append f p (y ∷ x ∷ z ∷ s), map-append f p (y ∷ z ∷ x ∷ s)) (yxz (map f p) (map f s) (f x) (f y) (f z) (up x y h) (up y z k))
  move-map v w (yzx p s x y z h k) = rw (map-append f p (y ∷ z ∷ x ∷ s), map-append f p (y ∷ x ∷ z ∷ s)) (yzx (map f p) (map f s) (f x) (f y) (f z) (up x y h) (up y z k))

  -- and a chain to one in front of a word
  chain-front : (t v w : List ℕ) → Chain v w → Chain (map f v ++ t) (map f w ++ t)
  chain-front t v w (done u) = done (map f u ++ t)
  chain-front t v w (step a b c m h) = step (map f a ++ t) (map f b ++ t) (map f c ++ t) (move-after t (map f a) (map f b) (move-map a b m)) (chain-front t b c h)

  -- or behind one
  chain-back : (t v w : List ℕ) → Chain v w → Chain (t ++ map f v) (t ++ map f w)
  chain-back t v w (done u) = done (t ++ map f u)
  chain-back t v w (step a b c m h) = step (t ++ map f a) (t ++ map f b) (t ++ map f c) (move-before t (map f a) (map f b) (move-map a b m)) (chain-back t b c h)

-- permutations with one tableau
record HaveOne (s s' : List ℕ) : Type 0 where
  first : HasEachOnce s
  second : HasEachOnce s'
  tableau : insertion_tableau (inverse s) ≡ insertion_tableau (inverse s')

-- a chain joins their inverses
joined : (s s' : List ℕ) → HaveOne s s' → Chain (inverse s) (inverse s')
joined s s' h =
    knuth.joined (inverse s) (inverse s') (permutation_from (inverse s) (permutation-inverse s h.first)) (permutation_from (inverse s') (permutation-inverse s' h.second)) h.tableau

-- they are equally long
same_length : (s s' : List ℕ) → HaveOne s s' → length s ≡ length s'
same_length s s' h =
    omega (
      arith,
      length-inverse s,
      length-inverse s',
      length-enter_all (inverse s) [],
      length-enter_all (inverse s') [],
      ap (λ rows. length (concat rows)) h.tableau,
    )

-- what depends on the tableau of the inverse of a shuffle has one sum over the shuffles of s with t and those of s' with t'
shuffles_keep : (p : List (List ℕ) → ℕ) (s s' t t' : List ℕ) → HaveOne s s' → HaveOne t t'
    → over_shuffles (λ w. p (insertion_tableau (inverse w))) s (raise (length s) t) ≡ over_shuffles (λ w. p (insertion_tableau (inverse w))) s' (raise (length s') t')
shuffles_keep p s s' t t' hs ht =
    over_shuffles_alike (λ w. p (insertion_tableau (inverse w))) (λ w. p (insertion_tableau (inverse w))) s (raise (length s) t) s' (raise (length s') t')
    (same_length s s' hs) (omega (arith, same_length t t' ht, length-map t (λ x. length s + x), length-map t' (λ x. length s' + x)))
    (fresh_together s t hs.first ht.first) (fresh_together s' t' hs.second ht.second)
    (λ f g w w' hf hg h h'. ap p (alike f g w w' hf hg h h'))
  where
    alike : (f g : ℕ → ℕ) (w w' : List ℕ) → Places f → Places g → IsShuffled s (raise (length s) t) w f g → IsShuffled s' (raise (length s') t') w' f g
        → insertion_tableau (inverse w) ≡ insertion_tableau (inverse w')
    alike f g w w' hf hg h h' =
        let whole = inverse-shuffled s t hs.first ht.first w f g h in
        let whole' = inverse-shuffled s' t' hs.second ht.second w' f g h' in
        let chain : Chain (map f (inverse s) ++ map g (inverse t)) (map f (inverse s') ++ map g (inverse t')) =
        chain-trans (map f (inverse s) ++ map g (inverse t)) (map f (inverse s') ++ map g (inverse t)) (map f (inverse s') ++ map g (inverse t'))
        (chain-front f hf.rise (map g (inverse t)) (inverse s) (inverse s') (joined s s' hs))
        (chain-back g hg.rise (map f (inverse s')) (inverse t) (inverse t') (joined t t' ht)) in
        let distinct : Distinct (map f (inverse s) ++ map g (inverse t)) =
        subst Distinct whole (count_same-permutation (inverse w) (permutation-inverse w (permutation-shuffled s t hs.first ht.first w f g h))) in
        ap insertion_tableau whole
        ∙ chain_keeps (map f (inverse s) ++ map g (inverse t)) (map f (inverse s') ++ map g (inverse t')) distinct chain
        ∙ ap insertion_tableau (sym whole')

-- standardised words with one recording tableau
standard_one : (u u' : List ℕ) → recording_tableau u ≡ recording_tableau u' → HaveOne (standardise u) (standardise u')
standard_one u u' e = record { first = permutation-standardise u; second = permutation-standardise u'; tableau = e }

-- a tableau occurs at as many shuffles of u and v as of words with the same recording tableaux
pub points_keep : (t u v u' v' : List ℕ) → IsPoint word v → IsPoint word v' → recording_tableau u ≡ recording_tableau u' → recording_tableau v ≡ recording_tableau v'
    → at_points FsymS t (shifted_shuffles u v) ≡ at_points FsymS t (shifted_shuffles u' v')
points_keep t u v u' v' hv hv' eu ev =
    turned u v hv
    ∙ shuffles_keep (λ rows. one_if (same_list (tableau_code rows) t)) (standardise u) (standardise u') (standardise v) (standardise v') (standard_one u u' eu) (standard_one v v' ev)
    ∙ sym (turned u' v' hv')
  where
    turned : (u v : List ℕ) → IsPoint word v → at_points FsymS t (shifted_shuffles u v)
        ≡ over_shuffles (λ w. one_if (same_list (tableau_code (insertion_tableau (inverse w))) t)) (standardise u) (raise (length (standardise u)) (standardise v))
    turned u v hv =
        standardise_shuffles (λ x. one_if (same_list (tableau_code (insertion_tableau (inverse x))) t)) u v hv
        ∙ ap (λ n. over_shuffles (λ x. one_if (same_list (tableau_code (insertion_tableau (inverse x))) t)) (standardise u) (raise n (standardise v))) (sym (length-standardise u))
