use Rattle.std.proofs.Common.{◌≡◌, sym, ◌∙◌, ap, subst}
use Rattle.std.specs.Prelude.{IsTrue}
use Rattle.std.proofs.lemmas.Result.{IfOk-weaker}
use Rattle.linear_combos.specs.CodeLists.{ListsEach}
use Rattle.realisations.specs.Descents.{is_finer}
use Rattle.realisations.specs.IndexKinds.{IsComposition}
use Rattle.compositions.specs.declared.growth.Place.TheVariants.{Cut, Free}
use Rattle.compositions.specs.Growth.{codes_over}
use Rattle.compositions.proofs.ListedCompositions.{lists_refinements}
use Rattle.compositions.proofs.composition.Composition.refinements.Goals as goal

pub returns : goal.returns
returns c =
    IfOk-weaker c.compositions_over.result (λ codes. codes ≡ codes_over Cut Free c.code.result.now) (ListsEach (λ code. IsComposition code × IsTrue (is_finer code c.args.self.now)))
    (λ codes is. subst (ListsEach (λ code. IsComposition code × IsTrue (is_finer code c.args.self.now))) (sym (is ∙ ap (codes_over Cut Free) c.code.ensures.value)) (lists_refinements c.args.self.now c.code.ensures.small.positive))
    c.compositions_over.ensures
