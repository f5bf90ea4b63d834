use Rattle.std.proofs.Common.{◌≡◌, take}
use Rattle.front_table.specs.Packed.{unpacked_all}
use Rattle.front_table.proofs.packed.pack_all.Given as goal

abbrev pub invariant-loop-at : goal.invariant-loop-at
invariant-loop-at l = unpacked_all l.packed.items ≡ take l.at l.bands
