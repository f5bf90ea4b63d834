use Rattle.std.proofs.Common.{ℕ, ◌+◌, ◌<◌, ◌≤◌, get_or}
use Rattle.front_table.specs.declared.ends.End.{End}
use Rattle.front_table.specs.Ends.{Ended}
use Rattle.front_table.proofs.stairs.append_all_behind.Given as goal

abbrev pub invariant-loop-end : goal.invariant-loop-end
invariant-loop-end l = record {
  kept : (a t : ℕ) → Ended l.fn.all.items a t → Ended l.all.items a t;
  new : (k : ℕ) (d : End) → k < l.end-index → (get_or l.ends k d).area + l.area ≤ l.most → Ended l.all.items ((get_or l.ends k d).area + l.area) (get_or l.ends k d).to_go;
}
