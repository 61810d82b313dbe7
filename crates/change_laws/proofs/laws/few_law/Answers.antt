use Rattle.change_laws.proofs.PassingSums.{few_passing}
use Rattle.realisations.specs.Descents.{is_finer}
use Rattle.basis_representatives.proofs.Refinement.{sum-finer}
use Rattle.std.proofs.Common.{sym}
use Rattle.std.specs.List.{sum}
use Rattle.change_laws.proofs.laws.few_law.Goals as goal

pub returns : goal.returns
returns c = record {
  refinements = λ parts codes h lists. few_passing (sum parts) (λ code. is_finer code parts) (λ code hc finer. sum-finer code parts finer) codes lists;
  coarsenings = λ parts codes h lists. few_passing (sum parts) (λ code. is_finer parts code) (λ code hc finer. sym (sum-finer parts code finer)) codes lists;
}
