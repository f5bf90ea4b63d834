use Rattle.glass_base.proofs.Refusals.{allowed_is_not_refused}
use Rattle.glass_base.proofs.laws.instances_are_not_refused.Goals as goal

pub returns : goal.returns
returns c = allowed_is_not_refused
