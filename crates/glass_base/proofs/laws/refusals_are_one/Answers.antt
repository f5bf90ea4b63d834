use Rattle.glass_base.proofs.Refusals.{refusal_is_one}
use Rattle.glass_base.proofs.laws.refusals_are_one.Goals as goal

pub returns : goal.returns
returns c = refusal_is_one
