use Rattle.std.proofs.Common.{◌-◌}
use Rattle.basis_names.specs.declared.bases.BasisId.TheVariants.{QsymM, QsymF, NcsfS, NcsfL, NcsfR, FqsymF, FqsymG, WqsymM, FsymS, PbtP}
use Rattle.basis_routes.proofs.ImageValues.{can_image, some_image}
use Rattle.basis_routes.proofs.lifts.image_over.Goals as goal

pub image_component-requires-clause-can : goal.image_component-requires-clause-can
image_component-requires-clause-can c = can_image QsymM c.args.basis _ (c.args.component - 1) c.args.combo.now c.in-QsymM.is c.requires.can

pub image_component-requires-in-QsymF-clause-can : goal.image_component-requires-in-QsymF-clause-can
image_component-requires-in-QsymF-clause-can c = can_image QsymF c.args.basis _ (c.args.component - 1) c.args.combo.now c.in-QsymF.is c.requires.can

pub image_component-requires-in-NcsfS-clause-can : goal.image_component-requires-in-NcsfS-clause-can
image_component-requires-in-NcsfS-clause-can c = can_image NcsfS c.args.basis _ (c.args.component - 1) c.args.combo.now c.in-NcsfS.is c.requires.can

pub image_component-requires-in-NcsfL-clause-can : goal.image_component-requires-in-NcsfL-clause-can
image_component-requires-in-NcsfL-clause-can c = can_image NcsfL c.args.basis _ (c.args.component - 1) c.args.combo.now c.in-NcsfL.is c.requires.can

pub image_component-requires-in-NcsfR-clause-can : goal.image_component-requires-in-NcsfR-clause-can
image_component-requires-in-NcsfR-clause-can c = can_image NcsfR c.args.basis _ (c.args.component - 1) c.args.combo.now c.in-NcsfR.is c.requires.can

pub image_component-requires-in-FqsymF-clause-can : goal.image_component-requires-in-FqsymF-clause-can
image_component-requires-in-FqsymF-clause-can c = can_image FqsymF c.args.basis _ (c.args.component - 1) c.args.combo.now c.in-FqsymF.is c.requires.can

pub image_component-requires-in-FqsymG-clause-can : goal.image_component-requires-in-FqsymG-clause-can
image_component-requires-in-FqsymG-clause-can c = can_image FqsymG c.args.basis _ (c.args.component - 1) c.args.combo.now c.in-FqsymG.is c.requires.can

pub image_component-requires-in-WqsymM-clause-can : goal.image_component-requires-in-WqsymM-clause-can
image_component-requires-in-WqsymM-clause-can c = can_image WqsymM c.args.basis _ (c.args.component - 1) c.args.combo.now c.in-WqsymM.is c.requires.can

pub image_component-requires-in-FsymS-clause-can : goal.image_component-requires-in-FsymS-clause-can
image_component-requires-in-FsymS-clause-can c = can_image FsymS c.args.basis _ (c.args.component - 1) c.args.combo.now c.in-FsymS.is c.requires.can

pub image_component-requires-in-PbtP-clause-can : goal.image_component-requires-in-PbtP-clause-can
image_component-requires-in-PbtP-clause-can c = can_image PbtP c.args.basis _ (c.args.component - 1) c.args.combo.now c.in-PbtP.is c.requires.can

pub returns-in-QsymM : goal.returns-in-QsymM
returns-in-QsymM c =
    some_image QsymM c.args.basis _ (c.args.component - 1) c.args.combo.now c.image_component.result c.in-QsymM.is c.image_component.ensures

pub returns-in-QsymF : goal.returns-in-QsymF
returns-in-QsymF c =
    some_image QsymF c.args.basis _ (c.args.component - 1) c.args.combo.now c.image_component-in-QsymF.result c.in-QsymF.is c.image_component-in-QsymF.ensures

pub returns-in-NcsfS : goal.returns-in-NcsfS
returns-in-NcsfS c =
    some_image NcsfS c.args.basis _ (c.args.component - 1) c.args.combo.now c.image_component-in-NcsfS.result c.in-NcsfS.is c.image_component-in-NcsfS.ensures

pub returns-in-NcsfL : goal.returns-in-NcsfL
returns-in-NcsfL c =
    some_image NcsfL c.args.basis _ (c.args.component - 1) c.args.combo.now c.image_component-in-NcsfL.result c.in-NcsfL.is c.image_component-in-NcsfL.ensures

pub returns-in-NcsfR : goal.returns-in-NcsfR
returns-in-NcsfR c =
    some_image NcsfR c.args.basis _ (c.args.component - 1) c.args.combo.now c.image_component-in-NcsfR.result c.in-NcsfR.is c.image_component-in-NcsfR.ensures

pub returns-in-FqsymF : goal.returns-in-FqsymF
returns-in-FqsymF c =
    some_image FqsymF c.args.basis _ (c.args.component - 1) c.args.combo.now c.image_component-in-FqsymF.result c.in-FqsymF.is c.image_component-in-FqsymF.ensures

pub returns-in-FqsymG : goal.returns-in-FqsymG
returns-in-FqsymG c =
    some_image FqsymG c.args.basis _ (c.args.component - 1) c.args.combo.now c.image_component-in-FqsymG.result c.in-FqsymG.is c.image_component-in-FqsymG.ensures

pub returns-in-WqsymM : goal.returns-in-WqsymM
returns-in-WqsymM c =
    some_image WqsymM c.args.basis _ (c.args.component - 1) c.args.combo.now c.image_component-in-WqsymM.result c.in-WqsymM.is c.image_component-in-WqsymM.ensures

pub returns-in-FsymS : goal.returns-in-FsymS
returns-in-FsymS c =
    some_image FsymS c.args.basis _ (c.args.component - 1) c.args.combo.now c.image_component-in-FsymS.result c.in-FsymS.is c.image_component-in-FsymS.ensures

pub returns-in-PbtP : goal.returns-in-PbtP
returns-in-PbtP c =
    some_image PbtP c.args.basis _ (c.args.component - 1) c.args.combo.now c.image_component-in-PbtP.result c.in-PbtP.is c.image_component-in-PbtP.ensures
