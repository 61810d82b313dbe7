-- The law of existence for tensor products.
use Rattle.std.proofs.Common.{◌+◌, ◌*◌, ◌^◌, ◌<◌, ◌≤◌, ◌++◌, length, refl, arith}
use Rattle.std.specs.Prelude.{All}
use Rattle.realisations.specs.Readings.{tensor}
use Rattle.realisations.specs.Combinations.{norm_of}
use Rattle.hopf_laws.specs.Bases.{least_limit}
use Rattle.hopf_laws.specs.Values.{Expansion, IsValue, Expands, reading_of, degree_of_value}
use Rattle.index_rules.proofs.TensorsExist.{tensor_exists as combination_exists}
use Rattle.basis_routes.specs.declared.checks.Check.TheVariants.{Scalar}
use Rattle.basis_routes.specs.Checks.{Passes}
use Rattle.hopf_ops.specs.Operations.{tensor_checks}
use Rattle.hopf_ops.proofs.LowestExist.{value_over}
use Rattle.hopf_ops.proofs.TensorsOfValues.{tensor_over, tensor_reads}

-- the tensor product of two values has a value, where its rank and degree are within the limits
pub tensor_value : (a b : Expansion) → IsValue a → IsValue b → length a.bases + length b.bases ≤ 3 → degree_of_value a + degree_of_value b ≤ least_limit (a.bases ++ b.bases)
    → a.combination.den * b.combination.den < 2 ^ 127 → norm_of a.combination.terms * norm_of b.combination.terms < 2 ^ 127
    → (v : Expansion) × Expands (a.bases ++ b.bases) (tensor (reading_of a) (reading_of b)) v
tensor_value a b ha hb short within small room =
    let c = combination_exists a.combination b.combination ha.canonical hb.canonical room small in (
      record { bases = a.bases ++ b.bases; combination = c.0 },
      record {
        value = value_over (a.bases ++ b.bases) c.0 (tensor_over a b c.0 ha hb short within c.1.tensor) c.1.canonical;
        over = refl;
        reads = λ ps points. tensor_reads a b c.0 ha c.1.tensor.weighs ps points;
      },
    )

-- where the checks pass
pub tensor_exists : (a b : Expansion) → IsValue a → IsValue b → All Passes (tensor_checks a b) → (v : Expansion) × Expands (a.bases ++ b.bases) (tensor (reading_of a) (reading_of b)) v
tensor_exists a b ha hb pass =
    let short : length a.bases + length b.bases ≤ 3 = pass 0 (Scalar 0) (omega arith) in
    let within : degree_of_value a + degree_of_value b ≤ least_limit (a.bases ++ b.bases) = pass 1 (Scalar 0) (omega arith) in
    let dens : a.combination.den * b.combination.den * 2 ^ 0 < 2 ^ 127 = pass 2 (Scalar 0) (omega arith) in
    let norms : norm_of a.combination.terms * norm_of b.combination.terms * 2 ^ 0 < 2 ^ 127 = pass 3 (Scalar 0) (omega arith) in
    tensor_value a b ha hb short within (omega (arith, dens)) (omega (arith, norms))
