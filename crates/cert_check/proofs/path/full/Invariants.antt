use Rattle.std.proofs.Common.{◌≡◌, length, map, replicate}
use Rattle.plan_box.specs.Packed.{unpacked}
use Rattle.cert_check.specs.inner.Paths.{AreStored}
use Rattle.plan_box.specs.Ranges.{full_ranges}
use Rattle.cert_check.proofs.path.full.Given as goal

abbrev pub invariant-loop : goal.invariant-loop
invariant-loop l = record { stored : AreStored l.frame l.run.items; len : length l.run.items ≡ l.counter; ranges : map unpacked l.run.items ≡ replicate l.counter (full_ranges l.frame) }
