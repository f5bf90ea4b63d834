use Rattle.std.proofs.Common.{◌≡◌, ◌-◌, ◌≤◌, length, map, take, drop}
use Rattle.plan_box.specs.Leasts.{settle}
use Rattle.cert_check.specs.inner.Knowns.{fixed_of}
use Rattle.cert_check.proofs.filling.settle.Given as goal

abbrev pub invariant-loop-i : goal.invariant-loop-i
invariant-loop-i l = record {
  inside : l.i ≤ l.count;
  many : length l.steps.items ≡ length l.initial.steps.items;
  front : take l.i l.steps.items ≡ take l.i l.initial.steps.items;
  back : map fixed_of (take (l.count - l.i) (drop l.i l.steps.items)) ≡ settle (map fixed_of (take (l.count - l.i) (drop l.i l.initial.steps.items)));
}
