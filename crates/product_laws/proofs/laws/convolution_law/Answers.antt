use Rattle.product_laws.proofs.CutRules.{convolution_rule}
use Rattle.product_laws.proofs.laws.convolution_law.Goals as goal

pub returns : goal.returns
returns c = convolution_rule
