use Rattle.glass_run.proofs.CheckRefusals.{refused_check}
use Rattle.glass_run.proofs.laws.refused_checks_are_true.Goals as goal

pub returns : goal.returns
returns c = refused_check
