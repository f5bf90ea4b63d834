use Rattle.std.proofs.Common.{◌≡◌, length, map, take}
use Rattle.plan_box.specs.Leasts.{least_step}
use Rattle.box_bound.specs.Kept.{late}
use Rattle.box_bound.proofs.refuting.is_broken.Given as goal
use Rattle.glass_base.specs.declared.limits.TheConstants.{MOST_ITEMS}

abbrev pub invariant-loop-i : goal.invariant-loop-i
invariant-loop-i l = record {
  room : length l.numbers ≡ MOST_ITEMS;
  written : take l.i l.numbers ≡ map (λ k. least_step (late k)) (take l.i l.steps);
}
