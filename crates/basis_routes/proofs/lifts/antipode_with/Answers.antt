use Rattle.std.proofs.Common.{◌-◌}
use Rattle.basis_names.specs.declared.bases.BasisId.TheVariants.{QsymM, QsymF, NcsfS, NcsfL, NcsfR, FqsymF, FqsymG, WqsymM, FsymS, PbtP}
use Rattle.basis_routes.proofs.AntipodeValues.{can_antipode, same_antipode}
use Rattle.basis_routes.proofs.lifts.antipode_with.Goals as goal

pub antipode_component-requires-clause-can : goal.antipode_component-requires-clause-can
antipode_component-requires-clause-can c = can_antipode QsymM c.args.basis (c.args.component - 1) c.args.combo.now c.in-QsymM.is c.requires.can

pub antipode_component-requires-in-QsymF-clause-can : goal.antipode_component-requires-in-QsymF-clause-can
antipode_component-requires-in-QsymF-clause-can c = can_antipode QsymF c.args.basis (c.args.component - 1) c.args.combo.now c.in-QsymF.is c.requires.can

pub antipode_component-requires-in-NcsfS-clause-can : goal.antipode_component-requires-in-NcsfS-clause-can
antipode_component-requires-in-NcsfS-clause-can c = can_antipode NcsfS c.args.basis (c.args.component - 1) c.args.combo.now c.in-NcsfS.is c.requires.can

pub antipode_component-requires-in-NcsfL-clause-can : goal.antipode_component-requires-in-NcsfL-clause-can
antipode_component-requires-in-NcsfL-clause-can c = can_antipode NcsfL c.args.basis (c.args.component - 1) c.args.combo.now c.in-NcsfL.is c.requires.can

pub antipode_component-requires-in-NcsfR-clause-can : goal.antipode_component-requires-in-NcsfR-clause-can
antipode_component-requires-in-NcsfR-clause-can c = can_antipode NcsfR c.args.basis (c.args.component - 1) c.args.combo.now c.in-NcsfR.is c.requires.can

pub antipode_component-requires-in-FqsymF-clause-can : goal.antipode_component-requires-in-FqsymF-clause-can
antipode_component-requires-in-FqsymF-clause-can c = can_antipode FqsymF c.args.basis (c.args.component - 1) c.args.combo.now c.in-FqsymF.is c.requires.can

pub antipode_component-requires-in-FqsymG-clause-can : goal.antipode_component-requires-in-FqsymG-clause-can
antipode_component-requires-in-FqsymG-clause-can c = can_antipode FqsymG c.args.basis (c.args.component - 1) c.args.combo.now c.in-FqsymG.is c.requires.can

pub antipode_component-requires-in-WqsymM-clause-can : goal.antipode_component-requires-in-WqsymM-clause-can
antipode_component-requires-in-WqsymM-clause-can c = can_antipode WqsymM c.args.basis (c.args.component - 1) c.args.combo.now c.in-WqsymM.is c.requires.can

pub antipode_component-requires-in-FsymS-clause-can : goal.antipode_component-requires-in-FsymS-clause-can
antipode_component-requires-in-FsymS-clause-can c = can_antipode FsymS c.args.basis (c.args.component - 1) c.args.combo.now c.in-FsymS.is c.requires.can

pub antipode_component-requires-in-PbtP-clause-can : goal.antipode_component-requires-in-PbtP-clause-can
antipode_component-requires-in-PbtP-clause-can c = can_antipode PbtP c.args.basis (c.args.component - 1) c.args.combo.now c.in-PbtP.is c.requires.can

pub returns-in-QsymM : goal.returns-in-QsymM
returns-in-QsymM c =
    same_antipode QsymM c.args.basis (c.args.component - 1) c.args.combo.now c.antipode_component.result c.in-QsymM.is c.antipode_component.ensures

pub returns-in-QsymF : goal.returns-in-QsymF
returns-in-QsymF c =
    same_antipode QsymF c.args.basis (c.args.component - 1) c.args.combo.now c.antipode_component-in-QsymF.result c.in-QsymF.is c.antipode_component-in-QsymF.ensures

pub returns-in-NcsfS : goal.returns-in-NcsfS
returns-in-NcsfS c =
    same_antipode NcsfS c.args.basis (c.args.component - 1) c.args.combo.now c.antipode_component-in-NcsfS.result c.in-NcsfS.is c.antipode_component-in-NcsfS.ensures

pub returns-in-NcsfL : goal.returns-in-NcsfL
returns-in-NcsfL c =
    same_antipode NcsfL c.args.basis (c.args.component - 1) c.args.combo.now c.antipode_component-in-NcsfL.result c.in-NcsfL.is c.antipode_component-in-NcsfL.ensures

pub returns-in-NcsfR : goal.returns-in-NcsfR
returns-in-NcsfR c =
    same_antipode NcsfR c.args.basis (c.args.component - 1) c.args.combo.now c.antipode_component-in-NcsfR.result c.in-NcsfR.is c.antipode_component-in-NcsfR.ensures

pub returns-in-FqsymF : goal.returns-in-FqsymF
returns-in-FqsymF c =
    same_antipode FqsymF c.args.basis (c.args.component - 1) c.args.combo.now c.antipode_component-in-FqsymF.result c.in-FqsymF.is c.antipode_component-in-FqsymF.ensures

pub returns-in-FqsymG : goal.returns-in-FqsymG
returns-in-FqsymG c =
    same_antipode FqsymG c.args.basis (c.args.component - 1) c.args.combo.now c.antipode_component-in-FqsymG.result c.in-FqsymG.is c.antipode_component-in-FqsymG.ensures

pub returns-in-WqsymM : goal.returns-in-WqsymM
returns-in-WqsymM c =
    same_antipode WqsymM c.args.basis (c.args.component - 1) c.args.combo.now c.antipode_component-in-WqsymM.result c.in-WqsymM.is c.antipode_component-in-WqsymM.ensures

pub returns-in-FsymS : goal.returns-in-FsymS
returns-in-FsymS c =
    same_antipode FsymS c.args.basis (c.args.component - 1) c.args.combo.now c.antipode_component-in-FsymS.result c.in-FsymS.is c.antipode_component-in-FsymS.ensures

pub returns-in-PbtP : goal.returns-in-PbtP
returns-in-PbtP c =
    same_antipode PbtP c.args.basis (c.args.component - 1) c.args.combo.now c.antipode_component-in-PbtP.result c.in-PbtP.is c.antipode_component-in-PbtP.ensures
