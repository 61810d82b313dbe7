use Rattle.word_laws.proofs.Convolutions.{convolution_is_spread, convolution_start}
use Rattle.word_laws.proofs.laws.convolution_law.Goals as goal

pub returns : goal.returns
returns c = record { spread = convolution_is_spread; standard = convolution_start }
