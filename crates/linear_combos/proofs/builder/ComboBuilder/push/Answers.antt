use Rattle.std.proofs.Common.{◌≡◌, ◌∷◌, [], ◌++◌, ◌∙◌, ap}
use mir.Syntax.{w128}
use Rattle.std.proofs.lemmas.Int.{to_z-of_z}
use Rattle.realisations.specs.Combinations.{Combination, AddsTerm}
use Rattle.linear_combos.proofs.LowestCombos.{adds-push}
use Rattle.linear_combos.proofs.builder.ComboBuilder.push.Goals as goal

pub returns-clause-adds : goal.returns-clause-adds
returns-clause-adds c =
    let num = to_z-of_z w128 c.args.num c.ranges.num in
    let terms : c.self.inside.terms.items ≡ c.args.self.now.terms = ap (λ (s : Combination). s.terms) c.self.view_is in
    let items : c.push.new.self.items ≡ c.args.self.now.terms ++ (c.args.num, c.args.key) ∷ [] =
    c.in_ok-push.ensures.items ∙ (λ i. terms i ++ (num i, c.args.key) ∷ []) in
    let pushed : AddsTerm c.args.self.now.terms c.push.new.self.items c.args.num c.args.key = adds-push c.args.self.now.terms _ c.args.num c.args.key items in
    record {
      weighs = λ w. c.gather_where_full.ensures.weighs w ∙ pushed.weighs w;
      keys = λ k has. pushed.keys k (c.gather_where_full.ensures.keys k has);
    }
