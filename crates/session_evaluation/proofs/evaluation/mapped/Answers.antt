use Rattle.session_tokens.specs.declared.lexeme.Linear.TheVariants.{Coproduct, Antipode, Counit, Mult, Commute}
use Rattle.session_evaluation.specs.Functions.{place_of}
use Rattle.session_evaluation.proofs.Operations.{mapped_as}
use Rattle.session_evaluation.proofs.evaluation.mapped.Goals as goal

pub returns-in-Coproduct : goal.returns-in-Coproduct
returns-in-Coproduct c = mapped_as c.args.map Coproduct (place_of c.args.at) c.component.result c.args.a.now c.told_of.result c.coproduct.result c.in-Coproduct.is c.component.ensures c.told_of.ensures c.coproduct.ensures

pub returns-in-Antipode : goal.returns-in-Antipode
returns-in-Antipode c = mapped_as c.args.map Antipode (place_of c.args.at) c.component-in-Antipode.result c.args.a.now c.told_of-in-Antipode.result c.antipode.result c.in-Antipode.is c.component-in-Antipode.ensures c.told_of-in-Antipode.ensures c.antipode.ensures

pub returns-in-Counit : goal.returns-in-Counit
returns-in-Counit c = mapped_as c.args.map Counit (place_of c.args.at) c.component-in-Counit.result c.args.a.now c.told_of-in-Counit.result c.counit.result c.in-Counit.is c.component-in-Counit.ensures c.told_of-in-Counit.ensures c.counit.ensures

pub returns-in-Mult : goal.returns-in-Mult
returns-in-Mult c = mapped_as c.args.map Mult (place_of c.args.at) c.component-in-Mult.result c.args.a.now c.told_of-in-Mult.result c.mult.result c.in-Mult.is c.component-in-Mult.ensures c.told_of-in-Mult.ensures c.mult.ensures

pub returns-in-Commute : goal.returns-in-Commute
returns-in-Commute c = mapped_as c.args.map Commute (place_of c.args.at) c.component-in-Commute.result c.args.a.now c.told_of-in-Commute.result c.commute.result c.in-Commute.is c.component-in-Commute.ensures c.told_of-in-Commute.ensures c.commute.ensures
