use Rattle.word_laws.proofs.Merges.{merge_is_spread, merge_start}
use Rattle.word_laws.proofs.laws.merge_law.Goals as goal

pub returns : goal.returns
returns c = record { spread = merge_is_spread; packed = merge_start }
