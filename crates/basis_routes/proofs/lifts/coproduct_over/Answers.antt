use Rattle.std.proofs.Common.{◌-◌}
use Rattle.basis_names.specs.declared.bases.BasisId.TheVariants.{QsymM, QsymF, NcsfS, NcsfL, NcsfR, FqsymF, FqsymG, WqsymM, FsymS, PbtP}
use Rattle.basis_routes.proofs.CoproductValues.{can_coproduct, some_coproduct}
use Rattle.basis_routes.proofs.lifts.coproduct_over.Goals as goal

pub coproduct_component-requires-clause-can : goal.coproduct_component-requires-clause-can
coproduct_component-requires-clause-can c = can_coproduct QsymM c.args.basis 1 (c.args.component - 1) c.args.combo.now c.in-QsymM.is c.requires.can

pub coproduct_component-requires-in-QsymF-clause-can : goal.coproduct_component-requires-in-QsymF-clause-can
coproduct_component-requires-in-QsymF-clause-can c = can_coproduct QsymF c.args.basis 1 (c.args.component - 1) c.args.combo.now c.in-QsymF.is c.requires.can

pub coproduct_component-requires-in-NcsfS-clause-can : goal.coproduct_component-requires-in-NcsfS-clause-can
coproduct_component-requires-in-NcsfS-clause-can c = can_coproduct NcsfS c.args.basis 1 (c.args.component - 1) c.args.combo.now c.in-NcsfS.is c.requires.can

pub coproduct_component-requires-in-NcsfL-clause-can : goal.coproduct_component-requires-in-NcsfL-clause-can
coproduct_component-requires-in-NcsfL-clause-can c = can_coproduct NcsfL c.args.basis 1 (c.args.component - 1) c.args.combo.now c.in-NcsfL.is c.requires.can

pub coproduct_component-requires-in-NcsfR-clause-can : goal.coproduct_component-requires-in-NcsfR-clause-can
coproduct_component-requires-in-NcsfR-clause-can c = can_coproduct NcsfR c.args.basis 2 (c.args.component - 1) c.args.combo.now c.in-NcsfR.is c.requires.can

pub coproduct_component-requires-in-FqsymF-clause-can : goal.coproduct_component-requires-in-FqsymF-clause-can
coproduct_component-requires-in-FqsymF-clause-can c = can_coproduct FqsymF c.args.basis 1 (c.args.component - 1) c.args.combo.now c.in-FqsymF.is c.requires.can

pub coproduct_component-requires-in-FqsymG-clause-can : goal.coproduct_component-requires-in-FqsymG-clause-can
coproduct_component-requires-in-FqsymG-clause-can c = can_coproduct FqsymG c.args.basis 1 (c.args.component - 1) c.args.combo.now c.in-FqsymG.is c.requires.can

pub coproduct_component-requires-in-WqsymM-clause-can : goal.coproduct_component-requires-in-WqsymM-clause-can
coproduct_component-requires-in-WqsymM-clause-can c = can_coproduct WqsymM c.args.basis 1 (c.args.component - 1) c.args.combo.now c.in-WqsymM.is c.requires.can

pub coproduct_component-requires-in-FsymS-clause-can : goal.coproduct_component-requires-in-FsymS-clause-can
coproduct_component-requires-in-FsymS-clause-can c = can_coproduct FsymS c.args.basis 4 (c.args.component - 1) c.args.combo.now c.in-FsymS.is c.requires.can

pub coproduct_component-requires-in-PbtP-clause-can : goal.coproduct_component-requires-in-PbtP-clause-can
coproduct_component-requires-in-PbtP-clause-can c = can_coproduct PbtP c.args.basis 1 (c.args.component - 1) c.args.combo.now c.in-PbtP.is c.requires.can

pub returns-in-QsymM : goal.returns-in-QsymM
returns-in-QsymM c =
    some_coproduct QsymM c.args.basis 1 (c.args.component - 1) c.args.combo.now c.coproduct_component.result c.in-QsymM.is c.coproduct_component.ensures

pub returns-in-QsymF : goal.returns-in-QsymF
returns-in-QsymF c =
    some_coproduct QsymF c.args.basis 1 (c.args.component - 1) c.args.combo.now c.coproduct_component-in-QsymF.result c.in-QsymF.is c.coproduct_component-in-QsymF.ensures

pub returns-in-NcsfS : goal.returns-in-NcsfS
returns-in-NcsfS c =
    some_coproduct NcsfS c.args.basis 1 (c.args.component - 1) c.args.combo.now c.coproduct_component-in-NcsfS.result c.in-NcsfS.is c.coproduct_component-in-NcsfS.ensures

pub returns-in-NcsfL : goal.returns-in-NcsfL
returns-in-NcsfL c =
    some_coproduct NcsfL c.args.basis 1 (c.args.component - 1) c.args.combo.now c.coproduct_component-in-NcsfL.result c.in-NcsfL.is c.coproduct_component-in-NcsfL.ensures

pub returns-in-NcsfR : goal.returns-in-NcsfR
returns-in-NcsfR c =
    some_coproduct NcsfR c.args.basis 2 (c.args.component - 1) c.args.combo.now c.coproduct_component-in-NcsfR.result c.in-NcsfR.is c.coproduct_component-in-NcsfR.ensures

pub returns-in-FqsymF : goal.returns-in-FqsymF
returns-in-FqsymF c =
    some_coproduct FqsymF c.args.basis 1 (c.args.component - 1) c.args.combo.now c.coproduct_component-in-FqsymF.result c.in-FqsymF.is c.coproduct_component-in-FqsymF.ensures

pub returns-in-FqsymG : goal.returns-in-FqsymG
returns-in-FqsymG c =
    some_coproduct FqsymG c.args.basis 1 (c.args.component - 1) c.args.combo.now c.coproduct_component-in-FqsymG.result c.in-FqsymG.is c.coproduct_component-in-FqsymG.ensures

pub returns-in-WqsymM : goal.returns-in-WqsymM
returns-in-WqsymM c =
    some_coproduct WqsymM c.args.basis 1 (c.args.component - 1) c.args.combo.now c.coproduct_component-in-WqsymM.result c.in-WqsymM.is c.coproduct_component-in-WqsymM.ensures

pub returns-in-FsymS : goal.returns-in-FsymS
returns-in-FsymS c =
    some_coproduct FsymS c.args.basis 4 (c.args.component - 1) c.args.combo.now c.coproduct_component-in-FsymS.result c.in-FsymS.is c.coproduct_component-in-FsymS.ensures

pub returns-in-PbtP : goal.returns-in-PbtP
returns-in-PbtP c =
    some_coproduct PbtP c.args.basis 1 (c.args.component - 1) c.args.combo.now c.coproduct_component-in-PbtP.result c.in-PbtP.is c.coproduct_component-in-PbtP.ensures
