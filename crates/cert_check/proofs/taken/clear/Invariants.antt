use Rattle.std.proofs.Common.{◌≡◌, length, take, get_or, All}
use Rattle.plan_box.specs.Packed.{unpacked}
use Rattle.cert_check.proofs.taken.clear.Given as goal
use Rattle.glass_base.specs.declared.limits.TheConstants.{MOST_ITEMS}

abbrev pub invariant-loop-here : goal.invariant-loop-here
invariant-loop-here l = record {
  many : length l.taken.items ≡ MOST_ITEMS;
  zero : All (λ r. get_or l.taken.items (unpacked r).stack.low 0 ≡ 0) (take l.here-index l.ranges);
}
