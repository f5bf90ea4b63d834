use Rattle.std.proofs.Common.{◌≡◌, ℕ, ◌+◌, ◌<◌, length}
use Rattle.std.specs.Prelude.{slice_index}
use Rattle.glass_base.specs.Plates.{Width}
use Rattle.plan_freeze.proofs.resting.widths_from.Given as goal

abbrev pub invariant-loop-plate : goal.invariant-loop-plate
invariant-loop-plate l = record {
  many : length l.widths.items + l.k ≡ l.plate;
  each : (plate : ℕ) → plate < length l.widths.items → slice_index l.widths.items plate ≡ Width l.instance (plate + l.k);
}
