use Rattle.std.proofs.Common.{◌≡◌, ◌≤◌, take}
use Rattle.plan_trace.specs.Marks.{drawn}
use Rattle.plan_box.specs.Follows.{draws_of}
use Rattle.box_bound.proofs.kept.drawn.Given as goal

abbrev pub invariant-loop-ranges : goal.invariant-loop-ranges
invariant-loop-ranges l = (l.count ≡ drawn (draws_of (take l.ranges-index l.before)) l.stack) × (l.count ≤ l.ranges-index)
