use Rattle.plain_laws.proofs.Plain.{resumes_plan}
use Rattle.plain_laws.proofs.resumed_plans_are_lawful_and_bounded.Goals as goal

pub returns : goal.returns
returns c = λ words line held old new result end e. resumes_plan line held old new result e.verb_is (c.resumptions_are_right.ensures words line held old new result end e)
