use Rattle.hopf_ops.proofs.ConvolvedValues.{values_convolve}
use Rattle.hopf_ops.proofs.laws.convolution_law.Goals as goal

pub returns : goal.returns
returns c = values_convolve
