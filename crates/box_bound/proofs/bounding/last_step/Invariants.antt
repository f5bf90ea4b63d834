use Rattle.std.proofs.Common.{◌≡◌, [], map, take}
use Rattle.plan_box.specs.Leasts.{last_known, no_known}
use Rattle.plan_box.specs.Packed.{unpacked}
use Rattle.box_bound.specs.Kept.{early, late}
use Rattle.plan_box.specs.Follows.{follow}
use Rattle.box_bound.proofs.bounding.last_step.Given as goal

abbrev pub invariant-loop-i : goal.invariant-loop-i
invariant-loop-i l = record {
  last : early l.last ≡ last_known no_known (follow l.instance [] no_known (map unpacked (take l.i l.ranges)));
  ends : late l.last ≡ early l.last;
}
