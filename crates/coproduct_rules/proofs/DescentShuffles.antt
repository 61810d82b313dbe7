-- The descent compositions of the shuffles of two words depend on the descent compositions of the words alone.
use Rattle.std.proofs.Common.{◌≡◌, ℕ, suc, ◌+◌, ◌<◌, ◌≤◌, Bool, true, false, List, [], ◌∷◌, refl, sym, ◌∙◌, ap, arith}
use Rattle.std.specs.Prelude.{nat_lt, if◌then◌else◌}
use Rattle.std.proofs.lemmas.Bool.Decides.{nat_tests}
use Rattle.realisations.specs.Descents.{longer_first, descent_composition}
use Rattle.coproduct_rules.proofs.Tests.{same_heads}
use Rattle.coproduct_laws.proofs.LowAndHigh.{AreLow, AreHigh}
use Rattle.coproduct_laws.proofs.Shuffling.{over_shuffles, over_shuffles-step}

-- two words of one length that fall at the same places
abbrev FallAlike : List ℕ → List ℕ → Type 0
FallAlike [] [] = Unit {0}
FallAlike (x ∷ []) (y ∷ []) = Unit {0}
FallAlike (x ∷ x' ∷ u) (y ∷ y' ∷ v) = (nat_lt x' x ≡ nat_lt y' y) × FallAlike (x' ∷ u) (y' ∷ v)
FallAlike _ _ = ⊥

-- one more letter in front, which falls to the next one or does not
abbrev one_more : Bool → List ℕ → List ℕ
one_more falls parts = if falls then 1 ∷ parts else longer_first parts

-- words that fall alike have one descent composition
composition_alike : (u v : List ℕ) → FallAlike u v → descent_composition u ≡ descent_composition v
composition_alike [] [] h = refl
composition_alike [] (y ∷ v) h = absurd h
composition_alike (x ∷ []) [] h = absurd h
composition_alike (x ∷ x' ∷ u) [] h = absurd h
composition_alike (x ∷ []) (y ∷ []) h = refl
composition_alike (x ∷ []) (y ∷ y' ∷ v) h = absurd h
composition_alike (x ∷ x' ∷ u) (y ∷ []) h = absurd h
composition_alike (x ∷ x' ∷ u) (y ∷ y' ∷ v) h = let rest = composition_alike (x' ∷ u) (y' ∷ v) h.1 in λ i. one_more (h.0 i) (rest i)

-- a nonempty word has a first part, which is positive
record HasFirst (c : List ℕ) : Type 0 where
  first : ℕ
  rest : List ℕ
  is : c ≡ suc first ∷ rest

-- a nonempty word has a first part
has_first : (x : ℕ) (w : List ℕ) → HasFirst (descent_composition (x ∷ w))
has_first x [] = record { first = 0; rest = []; is = refl }
has_first x (y ∷ w) = by_test (nat_lt y x) (descent_composition (y ∷ w)) (has_first y w)
  where
    by_test : (b : Bool) (c : List ℕ) → HasFirst c → HasFirst (one_more b c)
    by_test true c h = record { first = 0; rest = c; is = refl }
    by_test false c h = record { first = suc h.first; rest = h.rest; is = ap longer_first h.is }

-- the first part tells whether the first letter falls
same_steps : (b b' : Bool) (c c' : List ℕ) → HasFirst c → HasFirst c' → one_more b c ≡ one_more b' c' → (b ≡ b') × (c ≡ c')
same_steps true true c c' h h' e = (refl, (same_heads 1 1 c c' e).1)
same_steps true false c c' h h' e = absurd (omega (arith, (same_heads 1 (suc (suc h'.first)) c h'.rest (e ∙ ap longer_first h'.is)).0))
same_steps false true c c' h h' e = absurd (omega (arith, (same_heads (suc (suc h.first)) 1 h.rest c' (sym (ap longer_first h.is) ∙ e)).0))
same_steps false false c c' h h' e =
    let heads = same_heads (suc (suc h.first)) (suc (suc h'.first)) h.rest h'.rest (sym (ap longer_first h.is) ∙ e ∙ ap longer_first h'.is) in
    let one : suc h.first ≡ suc h'.first = omega (arith, heads.0) in
    let rest : h.rest ≡ h'.rest = heads.1 in
    (refl, h.is ∙ (λ i. one i ∷ rest i) ∙ sym h'.is)

-- words with one descent composition fall alike
alike_from_compositions : (u v : List ℕ) → descent_composition u ≡ descent_composition v → FallAlike u v
alike_from_compositions [] [] e = tt
alike_from_compositions [] (y ∷ v) e = absurd (nothing (has_first y v) e)
  where
    nothing : {c : List ℕ} → HasFirst c → [] ≡ c → ⊥
    nothing h e = let bad : [] ≡ suc h.first ∷ h.rest = e ∙ h.is in cc
alike_from_compositions (x ∷ u) [] e = absurd (nothing (has_first x u) e)
  where
    nothing : {c : List ℕ} → HasFirst c → c ≡ [] → ⊥
    nothing h e = let bad : suc h.first ∷ h.rest ≡ [] = sym h.is ∙ e in cc
alike_from_compositions (x ∷ []) (y ∷ []) e = tt
alike_from_compositions (x ∷ []) (y ∷ y' ∷ v) e = absurd (longer (nat_lt y' y) (descent_composition (y' ∷ v)) (has_first y' v) e)
  where
    longer : (b : Bool) (c : List ℕ) → HasFirst c → 1 ∷ [] ≡ one_more b c → ⊥
    longer true c h e = let bad : [] ≡ suc h.first ∷ h.rest = (same_heads 1 1 [] c e).1 ∙ h.is in cc
    longer false c h e = omega (arith, (same_heads 1 (suc (suc h.first)) [] h.rest (e ∙ ap longer_first h.is)).0)
alike_from_compositions (x ∷ x' ∷ u) (y ∷ []) e = absurd (longer (nat_lt x' x) (descent_composition (x' ∷ u)) (has_first x' u) e)
  where
    longer : (b : Bool) (c : List ℕ) → HasFirst c → one_more b c ≡ 1 ∷ [] → ⊥
    longer true c h e = let bad : suc h.first ∷ h.rest ≡ [] = sym h.is ∙ (same_heads 1 1 c [] e).1 in cc
    longer false c h e = omega (arith, (same_heads (suc (suc h.first)) 1 h.rest [] (sym (ap longer_first h.is) ∙ e)).0)
alike_from_compositions (x ∷ x' ∷ u) (y ∷ y' ∷ v) e =
    let parts = same_steps (nat_lt x' x) (nat_lt y' y) (descent_composition (x' ∷ u)) (descent_composition (y' ∷ v)) (has_first x' u) (has_first y' v) e in
    (parts.0, alike_from_compositions (x' ∷ u) (y' ∷ v) parts.1)

module _ (g g' : ℕ) where
  -- no fall from a low letter to a high one
  low_high : (x y x' y' : ℕ) → x ≤ g → g < y → x' ≤ g' → g' < y' → nat_lt y x ≡ nat_lt y' x'
  low_high x y x' y' a b c d = grind (arith, nat_tests)

  -- a fall from a high letter to a low one
  high_low : (x y x' y' : ℕ) → x ≤ g → g < y → x' ≤ g' → g' < y' → nat_lt x y ≡ nat_lt x' y'
  high_low x y x' y' a b c d = grind (arith, nat_tests)

  -- after a letter
  alike_after : (f : List ℕ → ℕ) (z : ℕ) (u v : List ℕ) (z' : ℕ) (u' v' : List ℕ) → FallAlike (z ∷ u) (z' ∷ u') → FallAlike (z ∷ v) (z' ∷ v')
      → AreLow g u → AreHigh g v → AreLow g' u' → AreHigh g' v'
      → over_shuffles (λ w. f (descent_composition (z ∷ w))) u v ≡ over_shuffles (λ w. f (descent_composition (z' ∷ w))) u' v'
  alike_after f z [] v z' [] v' hu hv lu hiv lu' hiv' = ap (λ c. f c + 0) (composition_alike (z ∷ v) (z' ∷ v') hv)
  alike_after f z [] v z' (x' ∷ u') v' hu hv lu hiv lu' hiv' = absurd hu
  alike_after f z (x ∷ u) v z' [] v' hu hv lu hiv lu' hiv' = absurd hu
  alike_after f z (x ∷ u) [] z' (x' ∷ u') [] hu hv lu hiv lu' hiv' = ap (λ c. f c + 0) (composition_alike (z ∷ x ∷ u) (z' ∷ x' ∷ u') hu)
  alike_after f z (x ∷ u) [] z' (x' ∷ u') (y' ∷ v') hu hv lu hiv lu' hiv' = absurd hv
  alike_after f z (x ∷ u) (y ∷ v) z' (x' ∷ u') [] hu hv lu hiv lu' hiv' = absurd hv
  alike_after f z (x ∷ u) (y ∷ v) z' (x' ∷ u') (y' ∷ v') hu hv lu hiv lu' hiv' =
      let first = alike_after (λ c. f (one_more (nat_lt x z) c)) x u (y ∷ v) x' u' (y' ∷ v') hu.1 (low_high x y x' y' lu.0 hiv.0 lu'.0 hiv'.0, hv.1) lu.1 hiv lu'.1 hiv'
      ∙ ap (λ b. over_shuffles (λ w. f (one_more b (descent_composition (x' ∷ w)))) u' (y' ∷ v')) hu.0 in
      let second = alike_after (λ c. f (one_more (nat_lt y z) c)) y (x ∷ u) v y' (x' ∷ u') v' (high_low x y x' y' lu.0 hiv.0 lu'.0 hiv'.0, hu.1) hv.1 lu hiv.1 lu' hiv'.1
      ∙ ap (λ b. over_shuffles (λ w. f (one_more b (descent_composition (y' ∷ w)))) (x' ∷ u') v') hv.0 in
      over_shuffles-step (λ w. f (descent_composition (z ∷ w))) x u y v
      ∙ (λ i. first i + second i)
      ∙ sym (over_shuffles-step (λ w. f (descent_composition (z' ∷ w))) x' u' y' v')

  -- the shuffles of words that fall alike have the same descent compositions
  alike_shuffles : (f : List ℕ → ℕ) (u v u' v' : List ℕ) → FallAlike u u' → FallAlike v v' → AreLow g u → AreHigh g v → AreLow g' u' → AreHigh g' v'
      → over_shuffles (λ w. f (descent_composition w)) u v ≡ over_shuffles (λ w. f (descent_composition w)) u' v'
  alike_shuffles f [] v [] v' hu hv lu hiv lu' hiv' = ap (λ c. f c + 0) (composition_alike v v' hv)
  alike_shuffles f [] v (x' ∷ u') v' hu hv lu hiv lu' hiv' = absurd hu
  alike_shuffles f (x ∷ []) v [] v' hu hv lu hiv lu' hiv' = absurd hu
  alike_shuffles f (x ∷ x₂ ∷ u) v [] v' hu hv lu hiv lu' hiv' = absurd hu
  alike_shuffles f (x ∷ u) [] (x' ∷ u') [] hu hv lu hiv lu' hiv' = ap (λ c. f c + 0) (composition_alike (x ∷ u) (x' ∷ u') hu)
  alike_shuffles f (x ∷ u) [] (x' ∷ u') (y' ∷ v') hu hv lu hiv lu' hiv' = absurd hv
  alike_shuffles f (x ∷ u) (y ∷ []) (x' ∷ u') [] hu hv lu hiv lu' hiv' = absurd hv
  alike_shuffles f (x ∷ u) (y ∷ y₂ ∷ v) (x' ∷ u') [] hu hv lu hiv lu' hiv' = absurd hv
  alike_shuffles f (x ∷ u) (y ∷ v) (x' ∷ u') (y' ∷ v') hu hv lu hiv lu' hiv' =
      let first = alike_after f x u (y ∷ v) x' u' (y' ∷ v') hu (low_high x y x' y' lu.0 hiv.0 lu'.0 hiv'.0, hv) lu.1 hiv lu'.1 hiv' in
      let second = alike_after f y (x ∷ u) v y' (x' ∷ u') v' (high_low x y x' y' lu.0 hiv.0 lu'.0 hiv'.0, hu) hv lu hiv.1 lu' hiv'.1 in
      over_shuffles-step (λ w. f (descent_composition w)) x u y v
      ∙ (λ i. first i + second i)
      ∙ sym (over_shuffles-step (λ w. f (descent_composition w)) x' u' y' v')

  -- words of low letters and of high letters, by their descent compositions
  pub descent_shuffles : (f : List ℕ → ℕ) (u v u' v' : List ℕ) → descent_composition u ≡ descent_composition u' → descent_composition v ≡ descent_composition v'
      → AreLow g u → AreHigh g v → AreLow g' u' → AreHigh g' v'
      → over_shuffles (λ w. f (descent_composition w)) u v ≡ over_shuffles (λ w. f (descent_composition w)) u' v'
  descent_shuffles f u v u' v' eu ev lu hiv lu' hiv' =
      alike_shuffles f u v u' v' (alike_from_compositions u u' eu) (alike_from_compositions v v' ev) lu hiv lu' hiv'
