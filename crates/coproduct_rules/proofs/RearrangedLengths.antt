-- A rearrangement has the length of the word.
use Rattle.std.proofs.Common.{◌≡◌, ℕ, ◌+◌, true, List, [], ◌∷◌, ◌++◌, length, refl, sym, ◌∙◌, arith}
use Rattle.std.proofs.lemmas.List.{length-append}
use Rattle.realisations.specs.Lists.{count}
use Rattle.coproduct_laws.proofs.Rearrangements.{Rearranges}

count_all : (w : List ℕ) → count (λ x. true) w ≡ length w
count_all [] = refl
count_all (x ∷ w) = omega (arith, count_all w)

-- a shuffle has the length of both words
pub rearranges-length : (u v w : List ℕ) → Rearranges (u ++ v) w → length w ≡ length u + length v
rearranges-length u v w r = sym (count_all w) ∙ r.counts (λ x. true) ∙ count_all (u ++ v) ∙ length-append u v
