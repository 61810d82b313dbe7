-- Points of the word algebras: words over the ordered alphabet 1 < 2 < .. of letters that do not commute (Duchamp, Hivert, Thibon 2002).
use Rattle.std.specs.Prelude.{ℕ, suc, ◌+◌, max, List, [], ◌∷◌, ◌++◌, map, replicate}
use Rattle.std.specs.List.{flat_map}

-- the greatest letter, 0 for the empty word
abbrev pub greatest : List ℕ → ℕ
greatest [] = 0
greatest (x ∷ w) = max x (greatest w)

-- each letter raised by k
abbrev pub raise : ℕ → List ℕ → List ℕ
raise k w = map (λ x. k + x) w

-- the cuts of a word: the pairs of words whose concatenation it is
abbrev pub word_cuts : List ℕ → List (List ℕ × List ℕ)
word_cuts [] = ([], []) ∷ []
word_cuts (x ∷ w) = ([], x ∷ w) ∷ map (λ c. (x ∷ c.0, c.1)) (word_cuts w)

-- the shuffles of two words: their letters interleaved, each word as often as it arises
abbrev pub shuffles : List ℕ → List ℕ → List (List ℕ)
shuffles [] v = v ∷ []
shuffles (x ∷ u) [] = (x ∷ u) ∷ []
shuffles (x ∷ u) (y ∷ v) = map (λ w. x ∷ w) (shuffles u (y ∷ v)) ++ map (λ w. y ∷ w) (shuffles (x ∷ u) v)

-- the shuffles of u with v raised by the greatest letter of u, so that each letter of v is above each one of u
abbrev pub shifted_shuffles : List ℕ → List ℕ → List (List ℕ)
shifted_shuffles u v = shuffles u (raise (greatest u) v)

-- the shuffles of pieces, each raised by the sum of the greatest letters of the earlier ones
abbrev pub all_shuffles : List (List ℕ) → List (List ℕ)
all_shuffles [] = [] ∷ []
all_shuffles (u ∷ pieces) = flat_map (λ v. shifted_shuffles u v) (all_shuffles pieces)

-- a letter put in front of a word in pieces: a piece of its own, or the first letter of the first piece
abbrev pub before_pieces : ℕ → List (List ℕ) → List (List (List ℕ))
before_pieces x [] = ((x ∷ []) ∷ []) ∷ []
before_pieces x (u ∷ pieces) = ((x ∷ []) ∷ u ∷ pieces) ∷ ((x ∷ u) ∷ pieces) ∷ []

-- all ways to cut a word into nonempty pieces, in order
abbrev pub word_pieces : List ℕ → List (List (List ℕ))
word_pieces [] = [] ∷ []
word_pieces (x ∷ w) = flat_map (λ pieces. before_pieces x pieces) (word_pieces w)

-- the words with these numbers of the letters i, i + 1, .. and no others: since the blocks of equal letters have no letter in common, the shuffles of the blocks, each word once
abbrev pub words_from : ℕ → List ℕ → List (List ℕ)
words_from i [] = [] ∷ []
words_from i (n ∷ p) = flat_map (λ w. shuffles (replicate n i) w) (words_from (suc i) p)

-- the words that become a monomial once letters commute: those with p_i letters i
abbrev pub words_of : List ℕ → List (List ℕ)
words_of p = words_from 1 p
