-- The lift of a change keeps the reading, and that of an operation on elements is the operation; its keys are indices of the same degrees.
use Rattle.std.proofs.Common.{[], ◌∷◌, ◌++◌, refl, sym, ◌∙◌, ap, subst}
use Rattle.std.proofs.Math.IntN.{pos, ◌*ℤ◌}
use Rattle.change_laws.proofs.LiftedKeys.{indices-replaced, degrees-replaced}
use Rattle.change_laws.proofs.Lifts.{component_readings}
use Rattle.index_rules.specs.Laws.{ChangeReadsLaw, OperationReadsLaw, LiftedIndicesLaw}
use Rattle.realisations.specs.Indices.{AreIndices, total_degree}
use Rattle.realisations.proofs.TuplesOfPoints.{length-points_over}

-- a change keeps the reading
pub change_reads : ChangeReadsLaw
change_reads before after from to most growth old new ps rs q ep point over is =
    is.reads before after ps (q ∷ []) rs refl ep over (point, tt)
    ∙ ap (λ z. z *ℤ pos new.den) (sym (component_readings.elements before after from old.den old.terms ps rs q ep over))

-- an operation on elements is that on the component
pub operation_reads : OperationReadsLaw
operation_reads operation takes before after bases from most growth old new ps qs rs em ep points over is =
    is.reads before after ps qs rs refl ep over points
    ∙ ap (λ z. z *ℤ pos new.den) (sym (component_readings.operations operation takes before after from old.den old.terms ps qs rs ep (length-points_over bases qs points ∙ em) over))

-- indices, each of the degree of an old key
pub lifted_indices : LiftedIndicesLaw
lifted_indices before after facts old new over is key has =
    let put = is.keys key has in
    record {
      indices = subst (AreIndices (before ++ (facts.bases ++ after))) (sym put.is) (indices-replaced before after facts.basis put.key (over put.key put.has) facts.bases put.codes put.indices);
      key = put.key;
      has = put.has;
      degrees = ap (total_degree (before ++ (facts.bases ++ after))) put.is ∙ degrees-replaced before after facts.basis put.key (over put.key put.has) facts.bases put.codes put.indices put.degrees;
    }
