use Rattle.std.proofs.Common.{◌≡◌, map, take}
use Rattle.box_bound.proofs.filling.same.Given as goal

abbrev pub invariant-loop-i : goal.invariant-loop-i
invariant-loop-i l = map (λ k. k.ranges) (take l.i l.steps) ≡ take l.i l.ranges
