use Rattle.first_plan.specs.FirstPlans.{IsImproved}
use Rattle.first_plan.proofs.improving.work_tails.Given as goal

abbrev pub invariant-loop-number : goal.invariant-loop-number
invariant-loop-number g l = IsImproved l.goal.ground.instance.now l.fn.before.best.steps.items l.work.best.steps.items
