-- Decisions over finite lists: a test that holds of all members or fails at one, and the first word with a property.
use Rattle.std.proofs.Common.{◌≡◌, ℕ, ◌⊎◌, inl, inr, List, [], ◌∷◌, refl, sym, subst}
use Rattle.separation_laws.specs.Separation.{IsBefore}
use Rattle.separation_laws.proofs.Members.{Member}
use Rattle.separation_laws.proofs.WordOrder.{before_cases, before_itself, before_trans}

-- it holds, or it does not
abbrev pub Decided : Type 0 → Type 0
Decided P = P ⊎ (P → ⊥)

-- both, where each is decided
pub decided_both : {P Q : Type 0} → Decided P → Decided Q → Decided (P × Q)
decided_both (inl p) (inl q) = inl (p, q)
decided_both (inl p) (inr not) = inr (λ h. not h.1)
decided_both (inr not) d = inr (λ h. not h.0)

-- what is decided of each member holds of all of them, or fails at one
pub all_or_some : {X : Type 0} (P : X → Type 0) → ((x : X) → Decided (P x)) → (xs : List X) → ((x : X) → Member x xs → P x) ⊎ ((x : X) × Member x xs × (P x → ⊥))
all_or_some P decide [] = inl (λ x none. absurd none)
all_or_some {X} P decide (x ∷ xs) = elim (decide x) [
  | inr fails ↦ inr (x, inl refl, fails)
  | inl holds ↦ elim (all_or_some P decide xs) [
    | inr some ↦ inr (some.0, inr some.1, some.2)
    | inl all ↦ inl (λ y has. elim has [
      | inl same ↦ subst P same holds
      | inr later ↦ all y later
    ])
  ]
]

-- the first word of a list with a property
pub record IsFirst (P : List ℕ → Type 0) (ws : List (List ℕ)) (w : List ℕ) : Type 0 where
  pub member : Member w ws
  pub holds : P w
  pub first : (v : List ℕ) → Member v ws → IsBefore v w → P v → ⊥

module _ (P : List ℕ → Type 0) (w : List ℕ) (ws : List (List ℕ)) where
  -- one word more, which has not the property, or comes later
  kept : (v : List ℕ) → IsFirst P ws v → (IsBefore w v → P w → ⊥) → IsFirst P (w ∷ ws) v
  kept v is later = record {
    member = inr is.member;
    holds = is.holds;
    first = λ u has before p. elim has [
      | inl same ↦ later (subst (λ (x : List ℕ). IsBefore x v) (sym same) before) (subst P (sym same) p)
      | inr has' ↦ is.first u has' before p
    ];
  }

  -- one that has it and comes before the first
  taken : P w → ((v : List ℕ) → Member v ws → IsBefore v w → P v → ⊥) → IsFirst P (w ∷ ws) w
  taken p first = record {
    member = inl refl;
    holds = p;
    first = λ u has before q. elim has [
      | inl same ↦ before_itself w (subst (λ (x : List ℕ). IsBefore x w) (sym same) before)
      | inr has' ↦ first u has' before q
    ];
  }

-- where a property is decided of each word, none of a list has it, or there is a first one
pub none_or_first : (P : List ℕ → Type 0) → ((w : List ℕ) → Decided (P w)) → (ws : List (List ℕ)) → ((w : List ℕ) → Member w ws → P w → ⊥) ⊎ ((w : List ℕ) × IsFirst P ws w)
none_or_first P decide [] = inl (λ w none p. none)
none_or_first P decide (w ∷ ws) = elim (decide w) [
  | inr not_here ↦ elim (none_or_first P decide ws) [
    | inl none ↦ inl (λ v has p. elim has [
      | inl same ↦ not_here (subst P (sym same) p)
      | inr later ↦ none v later p
    ])
    | inr (v, is) ↦ inr (v, kept P w ws v is (λ before p. not_here p))
  ]
  | inl here ↦ elim (none_or_first P decide ws) [
    | inl none ↦ inr (w, taken P w ws here (λ v has before p. none v has p))
    | inr (v, is) ↦ elim (before_cases w v) [
      | inl before ↦ inr (w, taken P w ws here (λ u has sooner p. is.first u has (before_trans u w v sooner before) p))
      | inr after ↦ inr (v, kept P w ws v is (λ sooner p. not_sooner after sooner))
    ]
  ]
]
  where
    not_sooner : {w v : List ℕ} → (w ≡ v) ⊎ IsBefore v w → IsBefore w v → ⊥
    not_sooner {w} {v} (inl same) sooner = before_itself v (subst (λ (x : List ℕ). IsBefore x v) same sooner)
    not_sooner {w} {v} (inr later) sooner = before_itself w (before_trans w v w sooner later)
