use Rattle.inclusion_rules.proofs.InclusionsExist.{all_inclusions_exist}
use Rattle.inclusion_rules.proofs.laws.inclusions_exist_law.Goals as goal

pub returns : goal.returns
returns c = all_inclusions_exist
