-- Knuth's theorem (1970): two words of distinct letters have one insertion tableau where a chain of moves leads from one to the other, and only there.
use Rattle.std.proofs.Common.{◌≡◌, ℕ, List, ◌∷◌, refl, sym, ◌∙◌, subst, arith}
use Rattle.realisations.specs.Standardisation.{count_same}
use Rattle.realisations.specs.Tableaux.{insertion_tableau, reading_word}
use Rattle.basis_representatives.proofs.Counts.{count_same-append}
use Rattle.basis_representatives.proofs.Permutations.{count_same-permutation, each_once}
use Rattle.tableau_laws.specs.Knuth.{Move, still, xzy, zxy, yxz, yzx, Chain, done, step}
use Rattle.tableau_laws.specs.Laws.{KnuthLaw}
use Rattle.tableau_laws.proofs.KnuthMoves.{Distinct, knuth_keeps, move-sym}
use Rattle.tableau_laws.proofs.KnuthChains.{chain-trans, word_chain}

-- a move keeps the letters
pub count_same-move : (k : ℕ) (v w : List ℕ) → Move v w → count_same k v ≡ count_same k w
count_same-move k v w (still u) = refl
count_same-move k v w (xzy p s x y z h l) = omega (arith, count_same-append k p (x ∷ z ∷ y ∷ s), count_same-append k p (z ∷ x ∷ y ∷ s))
count_same-move k v w (zxy p s x y z h l) = omega (arith, count_same-append k p (x ∷ z ∷ y ∷ s), count_same-append k p (z ∷ x ∷ y ∷ s))
count_same-move k v w (yxz p s x y z h l) = omega (arith, count_same-append k p (y ∷ x ∷ z ∷ s), count_same-append k p (y ∷ z ∷ x ∷ s))
count_same-move k v w (yzx p s x y z h l) = omega (arith, count_same-append k p (y ∷ x ∷ z ∷ s), count_same-append k p (y ∷ z ∷ x ∷ s))

-- words of distinct letters that a chain joins have one tableau
pub chain_keeps : (v w : List ℕ) → Distinct v → Chain v w → insertion_tableau v ≡ insertion_tableau w
chain_keeps v w d (done u) = refl
chain_keeps v w d (step a b c m h) = knuth_keeps a b d m ∙ chain_keeps b c (λ k. omega (arith, count_same-move k a b m, d k)) h

-- a chain goes both ways
chain-sym : (v w : List ℕ) → Chain v w → Chain w v
chain-sym v w (done u) = done u
chain-sym v w (step a b c m h) = chain-trans c b a (chain-sym b c h) (step b a a (move-sym a b m) (done a))

-- words of distinct letters with one tableau are joined by a chain
same_tableau-chain : (v w : List ℕ) → Distinct v → Distinct w → insertion_tableau v ≡ insertion_tableau w → Chain v w
same_tableau-chain v w dv dw e =
    chain-trans v (reading_word (insertion_tableau v)) w (word_chain v dv)
    (subst (λ rows. Chain (reading_word rows) w) (sym e) (chain-sym w (reading_word (insertion_tableau w)) (word_chain w dw)))

-- Knuth's theorem for permutations
pub knuth : KnuthLaw
knuth = record {
  move_keeps = λ s s' h m. knuth_keeps s s' (count_same-permutation s (each_once s h)) m;
  chain_keeps = λ s s' h c. chain_keeps s s' (count_same-permutation s (each_once s h)) c;
  to_reading_word = λ s h. word_chain s (count_same-permutation s (each_once s h));
  joined = λ s s' h h' e. same_tableau-chain s s' (count_same-permutation s (each_once s h)) (count_same-permutation s' (each_once s' h')) e;
}
