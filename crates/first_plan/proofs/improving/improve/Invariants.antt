use Rattle.first_plan.specs.FirstPlans.{IsImproved}
use Rattle.first_plan.proofs.improving.improve.Given as goal

abbrev pub invariant-loop-round : goal.invariant-loop-round
invariant-loop-round g l = IsImproved l.fn.ground.instance.now l.fn.first.steps.items l.work.best.steps.items
