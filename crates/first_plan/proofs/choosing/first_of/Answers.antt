use Rattle.first_plan.proofs.Choices.{shorter_is_first}
use Rattle.first_plan.proofs.choosing.first_of.Goals as goal

pub returns-clause-plan : goal.returns-clause-plan
returns-clause-plan c =
    shorter_is_first c.args.instance.now c.args.drafted c.args.found c.shorter.result c.requires.drafted c.shorter.ensures.complete c.shorter.ensures.better
