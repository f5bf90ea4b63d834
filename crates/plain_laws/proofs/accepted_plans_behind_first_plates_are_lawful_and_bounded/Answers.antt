use Rattle.plain_laws.proofs.Plain.{accepts_plan_behind}
use Rattle.plain_laws.proofs.accepted_plans_behind_first_plates_are_lawful_and_bounded.Goals as goal

pub returns : goal.returns
returns c = λ words line held old new k some e. accepts_plan_behind k line held old new some (c.done_checks_are_right.ensures words line held old new e)
