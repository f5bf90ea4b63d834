-- Bands as a table keeps them.
use Rattle.std.specs.Prelude.{List, map}
use Rattle.front_table.specs.declared.moves.Move.{Move}
use Rattle.front_table.specs.declared.packed.PackedBand.{PackedBand}
use Rattle.front_table.specs.declared.packed.PackedSet.{PackedSet}
use Rattle.front_table.specs.declared.sets.SizeSet.{SizeSet}

abbrev pub unpacked_set : PackedSet → SizeSet
unpacked_set s = record { least = s.least; more = s.more }

-- the band that is kept so
abbrev pub unpacked : PackedBand → Move
unpacked p = record { to = p.to; label = record { along = unpacked_set p.along; across = unpacked_set p.across; right = record { least = 0; more = 0 }; up = 0 } }

abbrev pub unpacked_all : List PackedBand → List Move
unpacked_all bands = map unpacked bands
