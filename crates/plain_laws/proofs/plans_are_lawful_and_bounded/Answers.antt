use Rattle.plain_laws.proofs.Plain.{finds_plan}
use Rattle.plain_laws.proofs.plans_are_lawful_and_bounded.Goals as goal

pub returns : goal.returns
returns c = λ words line held old new result search searches end e. finds_plan line held old new result (c.searches_are_right.ensures words line held old new result search searches end e)
