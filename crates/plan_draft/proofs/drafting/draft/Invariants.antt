use Rattle.std.proofs.Common.{[]}
use Rattle.plan_draft.specs.inner.Drafting.{AreMore, order_from}
use Rattle.plan_draft.proofs.drafting.draft.Given as goal

abbrev pub invariant-loop-stack : goal.invariant-loop-stack
invariant-loop-stack l = AreMore l.instance [] (order_from l.instance 0 l.stack) l.drafting.steps.items l.drafting.plates l.drafting.right
