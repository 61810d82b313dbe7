-- Fronts and backs of words that compare alike compare alike, so the standardisation of a word gives those of its fronts and backs; so does its packing.
use Rattle.std.proofs.Common.{◌≡◌, ℕ, zero, suc, List, [], ◌∷◌, map, take, drop, refl, sym, ◌∙◌, ap}
use Rattle.realisations.specs.Points.{word, IsPoint}
use Rattle.realisations.specs.Standardisation.{pack, standardise}
use Rattle.basis_representatives.proofs.SameOrder.{SameBelow, SameOrder, standardise_order, standardise_same}
use Rattle.word_laws.specs.Spreads.{IsSpread}
use Rattle.word_laws.proofs.Patterns.{pack_image, spread_of_pack}

below-take : (n x : ℕ) (u : List ℕ) (y : ℕ) (v : List ℕ) → SameBelow x u y v → SameBelow x (take n u) y (take n v)
below-take zero x u y v h = tt
below-take (suc n) x [] y [] h = tt
below-take (suc n) x [] y (b ∷ v) h = absurd h
below-take (suc n) x (a ∷ u) y [] h = absurd h
below-take (suc n) x (a ∷ u) y (b ∷ v) h = (h.0, below-take n x u y v h.1)

-- fronts
pub order-take : (n : ℕ) (u v : List ℕ) → SameOrder u v → SameOrder (take n u) (take n v)
order-take zero u v h = tt
order-take (suc n) [] [] h = tt
order-take (suc n) [] (y ∷ v) h = absurd h
order-take (suc n) (x ∷ u) [] h = absurd h
order-take (suc n) (x ∷ u) (y ∷ v) h = (below-take n x u y v h.0, order-take n u v h.1)

-- backs
pub order-drop : (n : ℕ) (u v : List ℕ) → SameOrder u v → SameOrder (drop n u) (drop n v)
order-drop zero u v h = h
order-drop (suc n) [] [] h = tt
order-drop (suc n) [] (y ∷ v) h = absurd h
order-drop (suc n) (x ∷ u) [] h = absurd h
order-drop (suc n) (x ∷ u) (y ∷ v) h = order-drop n u v h.1

-- the front of Std(w) standardises to what the front of w does
pub standardise-take : (n : ℕ) (w : List ℕ) → standardise (take n (standardise w)) ≡ standardise (take n w)
standardise-take n w = sym (standardise_same (take n w) (take n (standardise w)) (order-take n w (standardise w) (standardise_order w)))

-- and so does the back
pub standardise-drop : (n : ℕ) (w : List ℕ) → standardise (drop n (standardise w)) ≡ standardise (drop n w)
standardise-drop n w = sym (standardise_same (drop n w) (drop n (standardise w)) (order-drop n w (standardise w) (standardise_order w)))

take-map : (f : ℕ → ℕ) (n : ℕ) (w : List ℕ) → take n (map f w) ≡ map f (take n w)
take-map f zero w = refl
take-map f (suc n) [] = refl
take-map f (suc n) (x ∷ w) = ap (λ v. f x ∷ v) (take-map f n w)

drop-map : (f : ℕ → ℕ) (n : ℕ) (w : List ℕ) → drop n (map f w) ≡ map f (drop n w)
drop-map f zero w = refl
drop-map f (suc n) [] = refl
drop-map f (suc n) (x ∷ w) = drop-map f n w

-- the front of a packing packs to what the front of the word does
pub pack-take : (n : ℕ) (w : List ℕ) → IsPoint word w → pack (take n (pack w)) ≡ pack (take n w)
pack-take n w point =
    let s : IsSpread 0 (pack w) w = spread_of_pack w point in
    let part : IsSpread 0 (take n (pack w)) (take n w) = record { image = s.image; rises = s.rises; stays = s.stays; word = ap (take n) s.word ∙ take-map s.image n (pack w) } in
    sym (pack_image 0 (take n (pack w)) (take n w) part)

-- and so does the back
pub pack-drop : (n : ℕ) (w : List ℕ) → IsPoint word w → pack (drop n (pack w)) ≡ pack (drop n w)
pack-drop n w point =
    let s : IsSpread 0 (pack w) w = spread_of_pack w point in
    let part : IsSpread 0 (drop n (pack w)) (drop n w) = record { image = s.image; rises = s.rises; stays = s.stays; word = ap (drop n) s.word ∙ drop-map s.image n (pack w) } in
    sym (pack_image 0 (drop n (pack w)) (drop n w) part)
