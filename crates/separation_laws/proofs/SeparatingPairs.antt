-- There is one separating pair, or words of one class read alike.
use Rattle.std.proofs.Common.{◌≡◌, ℕ, suc, ◌<◌, ◌≤◌, ◌⊎◌, inl, inr, Bool, List, length, IsTrue, sym, ◌∙◌, ap, subst, arith}
use Rattle.std.proofs.lemmas.Bool.{cases_lt}
use Rattle.basis_names.specs.declared.bases.AlgebraId.{AlgebraId}
use Rattle.basis_names.specs.declared.bases.BasisId.{BasisId}
use Rattle.realisations.specs.Bases.{kind_of}
use Rattle.realisations.specs.IndexKinds.{is_packed}
use Rattle.realisations.specs.Indices.{degree_of}
use Rattle.realisations.specs.Lists.{same_list}
use Rattle.realisations.specs.Points.{word}
use Rattle.realisations.specs.Readings.{Reading, Terms, leaf}
use Rattle.basis_representatives.proofs.Places.{within}
use Rattle.basis_representatives.proofs.SameLists.{same_list-true}
use Rattle.change_laws.proofs.CompositionsByBits.{alike}
use Rattle.product_laws.proofs.Tests.{same_list-is}
use Rattle.separation_laws.specs.Classes.{IsClassBasis, class_basis, class_for}
use Rattle.separation_laws.specs.Conversions.{basis_at}
use Rattle.separation_laws.specs.Separation.{IsPartner, IsSeparatingPair, ReadAlike, ReadDifferently}
use Rattle.separation_laws.proofs.Alike.{ClassesReadAlike}
use Rattle.separation_laws.proofs.BoundedPoints.{member-packed, points_within}
use Rattle.separation_laws.proofs.ClassBases.{pack-packed_word}
use Rattle.separation_laws.proofs.Components.{length-others}
use Rattle.separation_laws.proofs.DecidedReadings.{AreTermsOver, alike_or_differently, decided_from, reads_none}
use Rattle.separation_laws.proofs.Least.{Decided, IsFirst, decided_both, none_or_first}
use Rattle.separation_laws.proofs.Members.{Member}
use Rattle.separation_laws.proofs.WordOrder.{before_cases}

-- words that read alike don't read differently
pub not_both : (a : Reading) (n : ℕ) (u v : List ℕ) → ReadAlike a n u v → ReadDifferently a n u v → ⊥
not_both a n u v alike differ = differ.2 (alike differ.0 differ.1)

-- where words of one class read alike there is no separating pair
pub no_pair : (a : Reading) (n : ℕ) (target : AlgebraId) → ClassesReadAlike a n target → (u v : List ℕ) → IsSeparatingPair a n target u v → ⊥
no_pair a n target alike u v pair = not_both a n u v (alike u v pair.packed pair.partner.packed (sym pair.partner.same_class)) pair.partner.differs

-- there is at most one separating pair
pub one_pair : (a : Reading) (n : ℕ) (target : AlgebraId) (u v u' v' : List ℕ) → IsSeparatingPair a n target u v → IsSeparatingPair a n target u' v' → (u ≡ u') × (v ≡ v')
one_pair a n target u v u' v' p p' =
    let same_u : u ≡ u' = elim (before_cases u u') [
      | inl before ↦ absurd (p'.first u v p.packed before p.partner)
      | inr other ↦ elim other [
        | inl same ↦ same
        | inr after ↦ absurd (p.first u' v' p'.packed after p'.partner)
      ]
    ] in
    let same_v : v ≡ v' = elim (before_cases v v') [
      | inl before ↦ absurd (p'.first_partner v before (subst (λ w. IsPartner a n target w v) same_u p.partner))
      | inr other ↦ elim other [
        | inl same ↦ same
        | inr after ↦ absurd (p.first_partner v' after (subst (λ w. IsPartner a n target w v') (sym same_u) p'.partner))
      ]
    ] in
    (same_u, same_v)

-- a test is passed or not
pub decided_true : (b : Bool) → Decided (IsTrue b)
decided_true b = decided_from b ((λ h. h), (λ h. h))

-- two lists are the same or not
pub decided_list : (xs ys : List ℕ) → Decided (xs ≡ ys)
decided_list xs ys = decided_from (same_list xs ys) (same_list-true xs ys, same_list-is xs ys)

module _ (target : AlgebraId) (classes : IsClassBasis (class_basis target) (class_for target))
    (n : ℕ) (bases : List BasisId) (lt : n < length bases) (kind : kind_of (basis_at bases n) ≡ word) (den d : ℕ) (ts : Terms) (over : AreTermsOver bases d ts) where
  -- words of one class have one length
  pub length-class : (u v : List ℕ) → class_for target v ≡ class_for target u → length v ≡ length u
  length-class u v same = sym (classes.degree v) ∙ ap (degree_of (class_basis target)) same ∙ classes.degree u

  -- words that read differently are no longer than the degree
  pub length-partner : (u v : List ℕ) → IsPartner (leaf bases den ts) n target u v → length u ≤ d
  length-partner u v is = elim (cases_lt d (length u)) [
    | inr within ↦ within
    | inl above ↦
        let qs = is.differs.0 in
        let long : suc (length qs) ≡ length bases = length-others n bases qs lt is.differs.1 in
        let same = length-class u v is.same_class in
        absurd (is.differs.2 (reads_none n bases lt den d ts over kind u above qs long ∙ sym (reads_none n bases lt den d ts over kind v (omega arith) qs long)))
  ]

  -- packed words no longer than the degree are among the bounded points
  member-short : (u : List ℕ) → IsTrue (is_packed u) → length u ≤ d → Member u (points_within d)
  member-short u packed short = subst (λ w. Member w (points_within d)) (pack-packed_word u packed) (member-packed d u short)

  -- whether a word is a partner is decided
  decided_partner : (u v : List ℕ) → Decided (IsPartner (leaf bases den ts) n target u v)
  decided_partner u v = elim (decided_both (decided_true (is_packed v)) (decided_list (class_for target v) (class_for target u))) [
    | inr neither ↦ inr (λ is. neither (is.packed, is.same_class))
    | inl both ↦ elim (alike_or_differently n bases lt den d ts over u v) [
      | inl alike ↦ inr (λ is. not_both (leaf bases den ts) n u v alike is.differs)
      | inr differ ↦ inl (record { packed = both.0; same_class = both.1; differs = differ })
    ]
  ]

  -- a word has no partner, or a first one
  first_partner : (u : List ℕ) → ((v : List ℕ) → IsPartner (leaf bases den ts) n target u v → ⊥) ⊎ ((v : List ℕ) × IsFirst (IsPartner (leaf bases den ts) n target u) (points_within d) v)
  first_partner u = elim (none_or_first (IsPartner (leaf bases den ts) n target u) (decided_partner u) (points_within d)) [
    | inr first ↦ inr first
    | inl none ↦ inl (λ v is.
        let short = length-partner u v is in
        let same = length-class u v is.same_class in
        none v (member-short v is.packed (omega arith)) is)
  ]

  -- a packed word with a partner
  abbrev IsParted : List ℕ → Type 0
  IsParted u = IsTrue (is_packed u) × ((v : List ℕ) × IsPartner (leaf bases den ts) n target u v)

  -- and whether a word has one
  decided_parted : (u : List ℕ) → Decided (IsParted u)
  decided_parted u = decided_both (decided_true (is_packed u)) (elim (first_partner u) [
    | inl none ↦ inr (λ has. none has.0 has.1)
    | inr (v, is) ↦ inl (v, is.holds)
  ])

  -- there is a separating pair, or words of one class read alike
  pub pair_or_alike : ((u v : List ℕ) × IsSeparatingPair (leaf bases den ts) n target u v) ⊎ ClassesReadAlike (leaf bases den ts) n target
  pair_or_alike = elim (none_or_first IsParted decided_parted (points_within d)) [
    | inl none ↦ inr (λ u v pu pv same. elim (alike_or_differently n bases lt den d ts over u v) [
      | inl alike ↦ alike
      | inr differ ↦
          let is : IsPartner (leaf bases den ts) n target u v = record { packed = pv; same_class = sym same; differs = differ } in
          absurd (none u (member-short u pu (length-partner u v is)) (pu, (v, is)))
    ])
    | inr (u, first) ↦ elim (first_partner u) [
      | inl none ↦ absurd (none first.holds.1.0 first.holds.1.1)
      | inr (v, is) ↦ inl (
        u,
        v,
        record {
          packed = first.holds.0;
          partner = is.holds;
          first = λ w w' packed before partner. first.first w (member-short w packed (length-partner w w' partner)) before (packed, (w', partner));
          first_partner = λ w before partner.
              let short = length-partner u w partner in
              let same = length-class u w partner.same_class in
              is.first w (member-short w partner.packed (omega arith)) before partner;
        },
      )
    ]
  ]

  -- no separating pair: words of one class read alike
  pub alike_without_pair : ((u v : List ℕ) → IsSeparatingPair (leaf bases den ts) n target u v → ⊥) → ClassesReadAlike (leaf bases den ts) n target
  alike_without_pair none = elim pair_or_alike [
    | inl (u, v, is) ↦ absurd (none u v is)
    | inr alike ↦ alike
  ]
