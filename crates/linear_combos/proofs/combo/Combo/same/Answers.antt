use Rattle.std.proofs.Common.{◌≡◌, sym, ◌∙◌, ap}
use Rattle.linear_combos.proofs.Equality.{terms_eq-Decides}
use Rattle.linear_combos.proofs.combo.Combo.same.Goals as goal

pub returns-then-a-b : goal.returns-then-a-b
returns-then-a-b c =
    let terms = terms_eq-Decides c.a.inside.terms.items c.b.inside.terms.items c.eq.result c.eq.ensures in
    let rank : c.a.inside.rank ≡ c.b.inside.rank = ap (λ s. s.rank) c.a.view_is ∙ c.requires.rank ∙ sym (ap (λ s. s.rank) c.b.view_is) in (
      λ yes. sym c.a.view_is ∙ (λ i. record { rank = rank i; den = c.if-a-b.true i; terms = terms.0 yes i }) ∙ c.b.view_is,
      λ e. terms.1 (ap (λ s. s.terms) (c.a.view_is ∙ e ∙ sym c.b.view_is)),
    )
