use Rattle.std.proofs.Common.{ℕ, ◌<◌, get_or}
use Rattle.front_table.specs.declared.ends.End.{End}
use Rattle.front_table.specs.Ends.{Ended}
use Rattle.front_table.proofs.stairs.push_ends.Given as goal

abbrev pub invariant-loop-end : goal.invariant-loop-end
invariant-loop-end l = record {
  kept : (a t : ℕ) → Ended l.fn.stairs.items a t → Ended l.stairs.items a t;
  new : (k : ℕ) (d : End) → k < l.end-index → Ended l.stairs.items (get_or l.ends k d).area (get_or l.ends k d).to_go;
}
