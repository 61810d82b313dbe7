-- Rows that allow exactly one answer, whose value reads as the row says.
use Rattle.std.proofs.Common.{◌≡◌, ◌≤◌, List, map}
use Rattle.std.specs.Prelude.{All}
use Rattle.basis_names.specs.declared.bases.BasisId.{BasisId}
use Rattle.realisations.specs.Bases.{kind_of}
use Rattle.realisations.specs.Readings.{Reading, kinds_of, denominator}
use Rattle.hopf_laws.specs.Values.{Expansion, Expands}
use Rattle.basis_routes.specs.declared.checks.Check.{Check}
use Rattle.basis_routes.specs.Checks.{Passes, IsCheck}
use Rattle.basis_routes.specs.Rows.{Row, Answers, Checked, Decides}
use Rattle.basis_routes.proofs.OnceRows.{checked_once_where, answers_once}
use Rattle.basis_routes.proofs.SomeRows.{Any, checked_some, answers_some}
use Rattle.basis_routes.proofs.ValueRows.{checked_value, answers_value}

-- what there has to be of a reading over bases: its denominator is positive, it has a value, and its kinds are those of the bases
pub record IsExpanded (bases : List BasisId) (reading : Reading) : Type 0 where
  pub positive : 1 ≤ denominator reading
  pub exists : (v : Expansion) × Expands bases reading v
  pub kinds : map kind_of bases ≡ kinds_of reading

-- checks, and then the value that reads so
pub checked_answers_decide : (checks : List Check) (bases : List BasisId) (reading : Reading) → All IsCheck checks → (All Passes checks → IsExpanded bases reading) → Decides (Checked checks (Answers bases reading)) bases reading
checked_answers_decide checks bases reading are expanded =
    let row = checked_some checks (Answers bases reading) Any are (λ pass. let e = (expanded pass).exists in answers_some bases reading Any e.0 e.1 tt) in
    record {
      once = checked_once_where checks (Answers bases reading) (λ pass. answers_once bases reading (expanded pass).positive);
      some = (row.answer, row.allowed);
      reads = λ v h. answers_value bases reading v (checked_value checks (Answers bases reading) v h).1;
      kinds = λ v h. (expanded (checked_value checks (Answers bases reading) v h).0).kinds;
    }

-- the value that reads so, without a check
pub answers_decide : (bases : List BasisId) (reading : Reading) → IsExpanded bases reading → Decides (Answers bases reading) bases reading
answers_decide bases reading expanded =
    let row = answers_some bases reading Any expanded.exists.0 expanded.exists.1 tt in
    record {
      once = answers_once bases reading expanded.positive;
      some = (row.answer, row.allowed);
      reads = λ v h. answers_value bases reading v h;
      kinds = λ v h. expanded.kinds;
    }

-- checks, and then a row that decides where they pass
pub checked_decide : (checks : List Check) (Rest : Row) (bases : List BasisId) (reading : Reading) → All IsCheck checks → (All Passes checks → Decides Rest bases reading) → Decides (Checked checks Rest) bases reading
checked_decide checks Rest bases reading are decides =
    let row = checked_some checks Rest Any are (λ pass. record { answer = (decides pass).some.0; allowed = (decides pass).some.1; holds = λ v is. tt }) in
    record {
      once = checked_once_where checks Rest (λ pass. (decides pass).once);
      some = (row.answer, row.allowed);
      reads = λ v h. let (pass, rest) = checked_value checks Rest v h in (decides pass).reads v rest;
      kinds = λ v h. let (pass, rest) = checked_value checks Rest v h in (decides pass).kinds v rest;
    }
