use Rattle.std.proofs.Common.{◌≡◌, ◌≤◌, ◌+◌, ◌*◌, ◌^◌, ◌<◌, List, pos, length, sym, ap, subst, ◌∙◌, arith, rules}
use Rattle.basis_names.specs.declared.bases.BasisId.{BasisId}
use Rattle.realisations.specs.Combinations.{Combination, IsCanonical}
use Rattle.linear_combos.specs.Combos.{IsMultiple}
use Rattle.realisations.specs.Readings.{leaf, product, AgreeAt}
use Rattle.hopf_laws.specs.Bases.{AreBuilt, least_limit}
use Rattle.hopf_laws.specs.Values.{Expansion, IsValue, Expands, greatest_degree, reading_of}
use Rattle.hopf_ops.specs.Gathering.{IsOfIndices}
use Rattle.hopf_ops.proofs.ProductsOfValues.{room_of_dens, room_of_norms, degree_over, of_indices, gathered_value, gathered_reads}
use Rattle.hopf_ops.proofs.products.multiplied.Goals as goal

pub gathered_products-requires-clause-some : goal.gathered_products-requires-clause-some
gathered_products-requires-clause-some c = subst (λ (bs : List BasisId). 1 ≤ length bs) (sym c.bases.ensures.bases) c.requires.some

pub gathered_products-requires-clause-built : goal.gathered_products-requires-clause-built
gathered_products-requires-clause-built c = subst (λ bs. AreBuilt bs) (sym c.bases.ensures.bases) c.combo.ensures.value.built

pub gathered_products-requires-clause-left : goal.gathered_products-requires-clause-left
gathered_products-requires-clause-left c =
    subst (λ (x : Combination). IsOfIndices c.bases.result.now x) (sym c.combo.ensures.combination) (of_indices c.args.a.now c.bases.result.now c.combo.ensures.value (sym c.bases.ensures.bases))

pub gathered_products-requires-clause-right : goal.gathered_products-requires-clause-right
gathered_products-requires-clause-right c =
    subst (λ (x : Combination). IsOfIndices c.bases.result.now x) (sym c.combo-2.ensures.combination)
    (of_indices c.args.b.now c.bases.result.now c.combo-2.ensures.value (sym c.requires.same ∙ sym c.bases.ensures.bases))

pub gathered_products-requires-clause-degree : goal.gathered_products-requires-clause-degree
gathered_products-requires-clause-degree c =
    let a = c.args.a.now in
    let b = c.args.b.now in
    rw (c.combo.ensures.combination, c.combo-2.ensures.combination, degree_over a c.bases.result.now (sym c.bases.ensures.bases), degree_over b c.bases.result.now (sym c.requires.same ∙ sym c.bases.ensures.bases), c.bases.ensures.bases)
    c.requires.degree

pub gathered_products-requires-clause-room : goal.gathered_products-requires-clause-room
gathered_products-requires-clause-room c =
    let a = c.args.a.now in
    let b = c.args.b.now in
    rw (c.combo.ensures.combination, c.combo-2.ensures.combination, degree_over a c.bases.result.now (sym c.bases.ensures.bases), degree_over b c.bases.result.now (sym c.requires.same ∙ sym c.bases.ensures.bases))
    (room_of_norms _ a b c.requires.room)

pub overflow_mul-den_of : goal.overflow_mul-den_of
overflow_mul-den_of c =
    let room = room_of_dens _ c.args.a.now c.args.b.now c.requires.room in
    let small : c.den_of.result * c.den_of-2.result < 2 ^ 127 = rw (c.den_of.ensures.den, c.den_of-2.ensures.den) room in
    record { fits = omega (arith, small) }

pub over-requires-clause-room : goal.over-requires-clause-room
over-requires-clause-room c =
    rw (c.in_ok-product.ensures.whole, c.den_of.ensures.den, c.den_of-2.ensures.den) (omega (arith, room_of_dens _ c.args.a.now c.args.b.now c.requires.room))

pub over-requires-2 : goal.over-requires-2
over-requires-2 c =
    let canonical : IsCanonical c.over.result.rank c.over.result.den c.over.result.terms = search rules in
    let a = c.args.a.now in
    let b = c.args.b.now in
    let x = c.combo.result.now in
    let y = c.combo-2.result.now in
    let bases = c.bases.result.now in
    let within : greatest_degree bases x.terms + greatest_degree bases y.terms ≤ least_limit bases =
    rw (c.combo.ensures.combination, c.combo-2.ensures.combination, degree_over a bases (sym c.bases.ensures.bases), degree_over b bases (sym c.requires.same ∙ sym c.bases.ensures.bases), c.bases.ensures.bases) c.requires.degree in
    let built : AreBuilt bases = subst (λ bs. AreBuilt bs) (sym c.bases.ensures.bases) c.combo.ensures.value.built in
    let short : length bases ≤ 3 = subst (λ (bs : List BasisId). length bs ≤ 3) (sym c.bases.ensures.bases) c.combo.ensures.value.short in
    let value : IsValue (record { bases = bases; combination = c.over.result }) = gathered_value bases _ _ x y c.in_ok-product.product c.over.result short built within c.in_ok-product.ensures c.over.ensures canonical in
    subst (λ (bs : List BasisId). IsValue (record { bases = bs; combination = c.over.result })) (c.bases.ensures.bases ∙ sym (c.copy.ensures ∙ c.bases-2.ensures.bases)) value

pub returns : goal.returns
returns c =
    let x = c.combo.result.now in
    let y = c.combo-2.result.now in
    let a = c.args.a.now in
    let b = c.args.b.now in
    let bases = c.bases.result.now in
    let den : c.den_of.result * c.den_of-2.result ≡ x.den * y.den =
    (λ i. (c.den_of.ensures.den ∙ ap (λ (z : Combination). z.den) (sym c.combo.ensures.combination)) i * (c.den_of-2.ensures.den ∙ ap (λ (z : Combination). z.den) (sym c.combo-2.ensures.combination)) i) in
    let over : IsMultiple c.in_ok-product.product (record { num = pos 1; den = x.den * y.den }) c.over.result =
    subst (λ n. IsMultiple c.in_ok-product.product (record { num = pos 1; den = n }) c.over.result) den c.over.ensures in
    let value : IsValue c.over-2.result = search rules in
    let made : c.over-2.result ≡ record { bases = bases; combination = c.over.result } =
    c.over-2.ensures ∙ (λ i. record { bases = (c.copy.ensures ∙ c.bases-2.ensures.bases ∙ sym c.bases.ensures.bases) i; combination = c.over.result }) in
    let expands : Expands bases (product (reading_of a) (reading_of b)) c.over-2.result = record {
      value = value;
      over = ap (λ (v : Expansion). v.bases) made;
      reads = λ ps points.
          subst (λ (v : Expansion). AgreeAt (reading_of v) (product (reading_of a) (reading_of b)) ps) (sym made)
          (subst (λ (v : Expansion). AgreeAt (leaf bases c.over.result.den c.over.result.terms) (product (reading_of v) (reading_of b)) ps)
          (λ i. record { bases = c.bases.ensures.bases i; combination = c.combo.ensures.combination i })
          (subst (λ (v : Expansion). AgreeAt (leaf bases c.over.result.den c.over.result.terms) (product (leaf bases x.den x.terms) (reading_of v)) ps)
          (λ i. record { bases = (c.bases.ensures.bases ∙ c.requires.same) i; combination = c.combo-2.ensures.combination i })
          (gathered_reads bases _ x y c.in_ok-product.product c.over.result c.in_ok-product.ensures over ps points)));
    } in
    subst (λ (bs : List BasisId). Expands bs (product (reading_of a) (reading_of b)) c.over-2.result) c.bases.ensures.bases expands
