use Rattle.std.proofs.Common.{◌≡◌, ◌+◌, ◌*◌, subst, ◌∙◌, ap}
use Rattle.realisations.specs.Combinations.{Combination}
use Rattle.linear_combos.specs.Merges.{IsOver}
use Rattle.linear_combos.proofs.Tensors.{IsTensor-over}
use Rattle.linear_combos.proofs.combo.Combo.tensor_with_room.Goals as goal

pub returns : goal.returns
returns c =
    let a = c.args.a.now in
    let b = c.args.b.now in
    let rank : c.add_products.new.tensor.rank ≡ a.rank + b.rank = c.add_products.ensures.same_rank ∙ ap (λ s. s.rank) c.new-tensor.ensures
    ∙ ap (λ (s : Combination). s.rank + c.b.inside.rank) c.a.view_is ∙ ap (λ (s : Combination). a.rank + s.rank) c.b.view_is in
    let den : c.add_products.new.tensor.den ≡ a.den * b.den = c.add_products.ensures.same_den ∙ ap (λ s. s.den) c.new-tensor.ensures
    ∙ ap (λ (s : Combination). s.den * c.b.inside.den) c.a.view_is ∙ ap (λ (s : Combination). a.den * s.den) c.b.view_is in
    let over = subst (λ n. IsOver (a.rank + b.rank) n c.add_products.new.tensor.terms c.lowest.result) den
    (subst (λ n. IsOver n c.add_products.new.tensor.den c.add_products.new.tensor.terms c.lowest.result) rank c.lowest.ensures) in
    IsTensor-over a b c.lowest.result c.add_products.new.tensor.terms c.in_ok-add_products.ensures.products over
