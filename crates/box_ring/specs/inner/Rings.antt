-- What holds while the arms of a ring are put together.
use Rattle.std.specs.Prelude.{◌≡◌, Option, Some, None}
use Rattle.box_ring.specs.declared.tally.Tally.{Tally}
use Rattle.box_ring.specs.Tallies.{IsWhole}
use Rattle.box_ring.specs.Arms.{Deque}

-- who may steal from that deque has the other part of this one's pass; or nobody has, and this one's pass is whole
abbrev pub Completes : Option Deque → Deque → Tally → Type 0
Completes None d v = IsWhole v
Completes (Some e) d v = (e ≡ d) × (v.parts ≡ 1)
