use Rattle.std.proofs.Common.{◌≡◌, ℕ, ◌*◌, ◌<◌, ◌≤◌, length, take}
use Rattle.std.specs.Prelude.{sum, slice_index}
use Rattle.glass_base.proofs.plates.starts.Given as goal
use Rattle.glass_base.specs.declared.limits.TheConstants.{MOST_SIDE}

abbrev pub invariant-loop-width : goal.invariant-loop-width
invariant-loop-width l = record {
  many : length l.starts.items ≡ l.width-index;
  each : (plate : ℕ) → plate < l.width-index → slice_index l.starts.items plate ≡ sum (take plate l.widths);
  next : l.start ≡ sum (take l.width-index l.widths);
  small : l.start ≤ MOST_SIDE * l.width-index;
}
