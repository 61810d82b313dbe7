use Rattle.std.proofs.Common.{◌≡◌, ◌+◌, ◌^◌, ◌<◌, arith, refl, unsigned_abs, sym, ◌∙◌, ap}
use Rattle.std.specs.List.{insert}
use Rattle.std.proofs.lemmas.Int.{to_z-of_z}
use Rattle.std.proofs.lemmas.List.Sums.{sum_by-insert}
use Rattle.realisations.specs.Combinations.{norm_of}
use Rattle.linear_combos.specs.Combos.{IsGapFor}
use Rattle.linear_combos.proofs.Edits.{insert_terms, lowest_one}
use mir.Syntax.{w128}
use Rattle.linear_combos.proofs.combo.Combo.put_in.Goals as goal

pub invariant_of-self-2 : goal.invariant_of-self-2
invariant_of-self-2 c =
    let terms : c.self.inside.terms.items ≡ c.args.self.now.terms = ap (λ s. s.terms) c.self.view_is in
    let rank : c.args.self.now.rank ≡ c.self.inside.rank = ap (λ s. s.rank) (sym c.self.view_is) in
    let den : c.self.inside.den ≡ 1 = ap (λ s. s.den) c.self.view_is ∙ c.requires.whole in
    let gap : IsGapFor c.self.inside.terms.items c.args.key c.args.at = rw terms c.requires.gap in
    let room : norm_of c.self.inside.terms.items + unsigned_abs c.args.num < 2 ^ 127 = rw terms c.requires.room in
    let items : c.insert.new.self.items ≡ insert c.self.inside.terms.items c.args.at (c.args.num, c.args.key) = c.in_ok-insert.ensures.items ∙ ap (λ n. insert c.self.inside.terms.items c.args.at (n, c.args.key)) (to_z-of_z w128 c.args.num c.ranges.num) in
    let size : c.unsigned_abs.result ≡ unsigned_abs c.args.num = c.unsigned_abs.ensures.value ∙ ap unsigned_abs (to_z-of_z w128 c.args.num c.ranges.num) in
    rw (items, den) (
      record {
        ordered = insert_terms _ _ c.args.at c.args.num c.args.key c.self.invariant.0.ordered gap c.requires.nonzero (c.requires.rank ∙ rank) room;
        lowest = lowest_one _;
      },
      omega (arith, size, c.self.invariant.1, sum_by-insert (λ t. unsigned_abs t.0) c.self.inside.terms.items c.args.at (c.args.num, c.args.key)),
    )

pub returns-clause-terms : goal.returns-clause-terms
returns-clause-terms c =
    let terms : c.args.self.now.terms ≡ c.self.inside.terms.items = ap (λ s. s.terms) (sym c.self.view_is) in
    let items : c.insert.new.self.items ≡ insert c.self.inside.terms.items c.args.at (c.args.num, c.args.key) = c.in_ok-insert.ensures.items ∙ ap (λ n. insert c.self.inside.terms.items c.args.at (n, c.args.key)) (to_z-of_z w128 c.args.num c.ranges.num) in
    rw (items, terms) refl
