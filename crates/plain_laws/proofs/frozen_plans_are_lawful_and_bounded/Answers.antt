use Rattle.plain_laws.proofs.Plain.{freezes_plan}
use Rattle.plain_laws.proofs.frozen_plans_are_lawful_and_bounded.Goals as goal

pub returns : goal.returns
returns c = λ words line held old new result end e. freezes_plan line held old new result (c.searches_behind_first_plates_are_right.ensures words line held old new result end e)
