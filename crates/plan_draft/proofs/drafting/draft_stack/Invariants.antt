use Rattle.std.proofs.Common.{replicate}
use Rattle.plan_draft.specs.inner.Drafting.{AreMore}
use Rattle.plan_draft.proofs.drafting.draft_stack.Given as goal

abbrev pub invariant-loop-position : goal.invariant-loop-position
invariant-loop-position l = AreMore l.ground.instance.now l.initial.drafting.steps.items (replicate l.position-index l.stack) l.drafting.steps.items l.drafting.plates l.drafting.right
