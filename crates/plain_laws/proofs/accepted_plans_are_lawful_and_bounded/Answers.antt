use Rattle.plain_laws.proofs.Plain.{accepts_plan}
use Rattle.plain_laws.proofs.accepted_plans_are_lawful_and_bounded.Goals as goal

pub returns : goal.returns
returns c = λ words line held old new none e. accepts_plan line held old new none (c.done_checks_are_right.ensures words line held old new e)
