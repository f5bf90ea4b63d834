use Rattle.std.proofs.Common.{◌≡◌, ◌-◌, ◌≤◌, length, map, take, drop}
use Rattle.plan_box.specs.Leasts.{settle}
use Rattle.box_bound.specs.Kept.{early_fixed, late_fixed}
use Rattle.box_bound.proofs.filling.settle.Given as goal

abbrev pub invariant-loop-i : goal.invariant-loop-i
invariant-loop-i l = record {
  inside : (l.start ≤ l.i) × (l.i ≤ l.count);
  many : length l.steps.items ≡ length l.initial.steps.items;
  kept : take l.start l.steps.items ≡ take l.start l.initial.steps.items;
  early : map early_fixed l.steps.items ≡ map early_fixed l.initial.steps.items;
  ranges : map (λ k. k.ranges) l.steps.items ≡ map (λ k. k.ranges) l.initial.steps.items;
  late : map late_fixed (take (l.count - l.i) (drop l.i l.steps.items)) ≡ settle (map early_fixed (take (l.count - l.i) (drop l.i l.steps.items)));
}

abbrev pub decreases-loop-i : goal.decreases-loop-i
decreases-loop-i l = l.i
