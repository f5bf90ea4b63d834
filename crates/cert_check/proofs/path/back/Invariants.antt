use Rattle.std.proofs.Common.{◌≡◌, length, map, reverse}
use Rattle.plan_box.specs.Packed.{unpacked}
use Rattle.cert_check.specs.inner.Paths.{beside, IsPathOf}
use Rattle.cert_check.proofs.path.back.Given as goal

abbrev pub invariant-loop-turn : goal.invariant-loop-turn
invariant-loop-turn l = record {
  path : IsPathOf l.frame l.stored.items l.turns.items;
  boxes : beside (map unpacked l.stored.items) (reverse l.turns.items) ≡ beside (map unpacked l.initial.stored.items) (reverse l.initial.turns.items);
}

abbrev pub decreases-loop-turn : goal.decreases-loop-turn
decreases-loop-turn l = length l.turns.items
