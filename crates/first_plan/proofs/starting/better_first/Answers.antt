use Rattle.first_plan.proofs.Choices.{better_is_first, better_is_no_worse, better_is_none}
use Rattle.first_plan.proofs.starting.better_first.Goals as goal

pub returns-clause-plan : goal.returns-clause-plan
returns-clause-plan c =
    better_is_first c.args.instance.now c.args.first c.args.other c.better_of.result c.requires.plan c.requires.none c.better_of.ensures.complete c.better_of.ensures.better

pub returns-clause-none : goal.returns-clause-none
returns-clause-none c = better_is_none c.args.instance.now c.args.first c.args.other c.better_of.result c.requires.none c.better_of.ensures.better

pub returns-clause-no_worse : goal.returns-clause-no_worse
returns-clause-no_worse c = better_is_no_worse c.args.instance.now c.args.first c.args.other c.better_of.result c.better_of.ensures.better
