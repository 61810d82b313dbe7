use Rattle.std.proofs.Common.{◌≤◌, drop}
use Rattle.hopf_laws.specs.Bases.{least_limit}
use Rattle.hopf_laws.specs.Values.{degree_of_value}
use Rattle.basis_routes.specs.Conversions.{ConvertsFrom}
use Rattle.basis_routes.specs.Joins.{LieIn}
use Rattle.basis_routes.specs.Rows.{Answer}
use Rattle.basis_routes.proofs.conversions.converted_from.Given as goal

-- the conversions that are left answer what all of them do
abbrev pub invariant-loop-at : goal.invariant-loop-at
invariant-loop-at l = record {
  inside : LieIn l.now.bases l.targets;
  degree : degree_of_value l.now ≤ least_limit l.targets;
  left : (answer : Answer) → ConvertsFrom l.at (drop l.at l.targets) l.now answer → ConvertsFrom l.fn.first (drop l.fn.first l.targets) l.fn.value answer;
}
