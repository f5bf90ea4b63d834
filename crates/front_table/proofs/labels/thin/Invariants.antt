use Rattle.std.proofs.Common.{ℕ, ◌+◌, ◌≤◌, ◌⊎◌, length}
use Rattle.front_table.specs.Sets.{HeldTo, Stands}
use Rattle.front_table.proofs.labels.thin.Given as goal

abbrev pub invariant-loop-done : goal.invariant-loop-done
invariant-loop-done l = record {
  left : l.all ≤ l.done + length l.labels.items;
  held : (x y right up : ℕ) → HeldTo l.fn.labels.items x y right up → HeldTo l.labels.items x y right up ⊎ Stands l.fn.label x y right up;
}
