-- Shuffles by the places of the first word's letters, in lexicographic order.
use Rattle.std.proofs.Common.{◌≡◌, ℕ, suc, ◌+◌, ◌-◌, List, [], ◌∷◌, ◌++◌, length, map, refl, sym, ◌∙◌, ap, arith, append_assoc, append-nil, length-append}
use Rattle.std.specs.Prelude.{flat_map, insert}
use Rattle.std.proofs.lemmas.List.{map-append}
use Rattle.std.proofs.lemmas.List.Edits.{insert-append_left, insert_end}
use Rattle.itertools.specs.Odometer.{numbers, ways}
use Rattle.itertools.specs.Pool.{ascending_low, ascending_high}
use Rattle.itertools.proofs.PoolLemmas.{ascending_low-more}
use Rattle.realisations.specs.Words.{shuffles}
use Rattle.permutation_words.specs.Interleaving.{put_in}

-- each word behind a word
abbrev pub behind : List ℕ → List (List ℕ) → List (List ℕ)
behind word ws = map (λ w. word ++ w) ws

-- ascending places of m letters more behind p, after the place of one letter, which is among these
abbrev after_places : (n k m : ℕ) (p places : List ℕ) → List (List ℕ)
after_places n k m p places = flat_map (λ d. map (λ ds. d ∷ ds) (ways ascending_low (ascending_high n k) m (p ++ d ∷ []))) places

behind-first : (word : List ℕ) (x : ℕ) (ws : List (List ℕ)) → behind word (map (λ w. x ∷ w) ws) ≡ behind (word ++ x ∷ []) ws
behind-first word x [] = refl
behind-first word x (w ∷ ws) = λ i. sym (append_assoc word (x ∷ []) w) i ∷ behind-first word x ws i

behind-nil : (ws : List (List ℕ)) → behind [] ws ≡ ws
behind-nil [] = refl
behind-nil (w ∷ ws) = ap (λ vs. w ∷ vs) (behind-nil ws)

-- those that begin with the first letter of one word, and then those that begin with that of the other
behind_parts : (word a b : List ℕ) (x y : ℕ)
    → behind (word ++ x ∷ []) (shuffles a (y ∷ b)) ++ behind (word ++ y ∷ []) (shuffles (x ∷ a) b) ≡ behind word (shuffles (x ∷ a) (y ∷ b))
behind_parts word a b x y =
    (λ i. sym (behind-first word x (shuffles a (y ∷ b))) i ++ sym (behind-first word y (shuffles (x ∷ a) b)) i)
    ∙ sym (map-append (λ w. word ++ w) (map (λ w. x ∷ w) (shuffles a (y ∷ b))) (map (λ w. y ∷ w) (shuffles (x ∷ a) b)))

shuffles-nil : (a : List ℕ) → shuffles a [] ≡ a ∷ []
shuffles-nil [] = refl
shuffles-nil (x ∷ a) = refl

insert_behind : (word b : List ℕ) (x : ℕ) → insert (word ++ b) (length word) x ≡ (word ++ x ∷ []) ++ b
insert_behind word b x = insert-append_left word b (length word) x (omega arith) ∙ ap (λ w. w ++ b) (insert_end word x)

-- the lists of places that begin with the place behind a word put the first letter there
first_at : (word a b : List ℕ) (x d : ℕ) → d ≡ length word → (ds : List (List ℕ))
    → map (λ q. put_in q (x ∷ a) (word ++ b)) (map (λ q. d ∷ q) ds) ≡ map (λ q. put_in q a ((word ++ x ∷ []) ++ b)) ds
first_at word a b x d e [] = refl
first_at word a b x d e (q ∷ ds) = λ i. put_in q a ((ap (λ n. insert (word ++ b) n x) e ∙ insert_behind word b x) i) ∷ first_at word a b x d e ds i

-- x and the other letters put in behind a word, where those others give the shuffles with each word, from each place on
module _ (n k x : ℕ) (a : List ℕ)
    (others : (word b p : List ℕ) → length p + length a ≡ k → length word + length a + length b ≡ n → ascending_low p ≡ length word
    → map (λ q. put_in q a (word ++ b)) (ways ascending_low (ascending_high n k) (length a) p) ≡ behind word (shuffles a b)) where
  -- the place of x is the first one behind the word
  here : (word b p : List ℕ) → length p + suc (length a) ≡ k → length word + suc (length a) + length b ≡ n
      → map (λ q. put_in q (x ∷ a) (word ++ b)) (map (λ q. length word ∷ q) (ways ascending_low (ascending_high n k) (length a) (p ++ length word ∷ []))) ≡ behind (word ++ x ∷ []) (shuffles a b)
  here word b p is_k is_n =
      first_at word a b x (length word) refl (ways ascending_low (ascending_high n k) (length a) (p ++ length word ∷ []))
      ∙ others (word ++ x ∷ []) b (p ++ length word ∷ []) (omega (arith, length-append p (length word ∷ []), is_k)) (omega (arith, length-append word (x ∷ []), is_n))
      (ascending_low-more p (length word) ∙ sym (length-append word (x ∷ [])))

  -- it is that one or a later one
  from_here : (b word p : List ℕ) → length p + suc (length a) ≡ k → length word + suc (length a) + length b ≡ n
      → map (λ q. put_in q (x ∷ a) (word ++ b)) (after_places n k (length a) p (numbers (length word) (suc (length b)))) ≡ behind word (shuffles (x ∷ a) b)
  from_here [] word p is_k is_n =
      ap (map (λ q. put_in q (x ∷ a) (word ++ []))) (append-nil (map (λ q. length word ∷ q) (ways ascending_low (ascending_high n k) (length a) (p ++ length word ∷ []))))
      ∙ here word [] p is_k is_n
      ∙ ap (behind (word ++ x ∷ [])) (shuffles-nil a)
      ∙ (λ i. append_assoc word (x ∷ []) a i ∷ [])
  from_here (y ∷ b) word p is_k is_n =
      let first = map (λ q. length word ∷ q) (ways ascending_low (ascending_high n k) (length a) (p ++ length word ∷ [])) in
      let rest = after_places n k (length a) p (numbers (length word + 1) (suc (length b))) in
      let later : map (λ q. put_in q (x ∷ a) (word ++ y ∷ b)) rest ≡ behind (word ++ y ∷ []) (shuffles (x ∷ a) b) =
      (λ i. map (λ q. put_in q (x ∷ a) (sym (append_assoc word (y ∷ []) b) i)) (after_places n k (length a) p (numbers (sym (length-append word (y ∷ [])) i) (suc (length b)))))
      ∙ from_here b (word ++ y ∷ []) p is_k (omega (arith, length-append word (y ∷ []), is_n)) in
      map-append (λ q. put_in q (x ∷ a) (word ++ y ∷ b)) first rest
      ∙ (λ i. here word (y ∷ b) p is_k is_n i ++ later i)
      ∙ behind_parts word a b x y

-- behind a word and its places: the letters of a put into b at each list of places that are left
by_places : (n k : ℕ) (a word b p : List ℕ) → length p + length a ≡ k → length word + length a + length b ≡ n → ascending_low p ≡ length word
    → map (λ q. put_in q a (word ++ b)) (ways ascending_low (ascending_high n k) (length a) p) ≡ behind word (shuffles a b)
by_places n k [] word b p is_k is_n low = refl
by_places n k (x ∷ a) word b p is_k is_n low =
    let open_places : ascending_high n k p - length word ≡ suc (length b) = omega (arith, is_k, is_n) in
    (λ i. map (λ q. put_in q (x ∷ a) (word ++ b)) (after_places n k (length a) p (numbers (low i) (ascending_high n k p - low i))))
    ∙ ap (λ m. map (λ q. put_in q (x ∷ a) (word ++ b)) (after_places n k (length a) p (numbers (length word) m))) open_places
    ∙ from_here n k x a (λ word b p. by_places n k a word b p) b word p is_k is_n

-- the lists of k ascending places among n, in lexicographic order
abbrev pub ascending_places : ℕ → ℕ → List (List ℕ)
ascending_places n k = ways ascending_low (ascending_high n k) k []

-- the shuffles of two words, by the places of the first one's letters
pub shuffled_by_places : (a b : List ℕ) → map (λ q. put_in q a b) (ascending_places (length a + length b) (length a)) ≡ shuffles a b
shuffled_by_places a b = by_places (length a + length b) (length a) a [] b [] (omega arith) (omega arith) refl ∙ behind-nil (shuffles a b)
