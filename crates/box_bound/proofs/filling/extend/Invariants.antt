use Rattle.std.proofs.Common.{◌≡◌, length, map, take}
use Rattle.plan_box.specs.Leasts.{last_known, no_known}
use Rattle.box_bound.specs.Kept.{early, early_fixed}
use Rattle.box_bound.specs.inner.Drawn.{IsFollowed}
use Rattle.box_bound.proofs.filling.extend.Given as goal

abbrev pub invariant-loop-i : goal.invariant-loop-i
invariant-loop-i l = record {
  many : length l.steps.items ≡ length l.initial.steps.items;
  kept : take l.from l.steps.items ≡ take l.from l.initial.steps.items;
  followed : IsFollowed l.instance l.steps.items l.ranges l.i;
  last : early l.last ≡ last_known no_known (map early_fixed (take l.i l.steps.items));
}
