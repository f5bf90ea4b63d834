use Rattle.std.proofs.Common.{◌≡◌, [], length, map, take}
use Rattle.plan_box.specs.Leasts.{last_known, no_known}
use Rattle.plan_box.specs.Packed.{unpacked}
use Rattle.plan_box.specs.Follows.{draws_of, follow}
use Rattle.cert_check.specs.inner.Knowns.{fixed_of, known_in}
use Rattle.cert_check.specs.inner.Taken.{HaveDrawn}
use Rattle.cert_check.proofs.filling.follow.Given as goal

abbrev pub invariant-loop-i : goal.invariant-loop-i
invariant-loop-i l = record {
  many : length l.steps.items ≡ length l.initial.steps.items;
  taken : HaveDrawn l.ranges (draws_of (take l.i l.ranges)) l.taken.items;
  steps : map fixed_of (take l.i l.steps.items) ≡ follow l.instance [] no_known (map unpacked (take l.i l.ranges));
  last : known_in l.last ≡ last_known no_known (follow l.instance [] no_known (map unpacked (take l.i l.ranges)));
}
