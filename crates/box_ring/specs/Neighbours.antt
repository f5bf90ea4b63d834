-- The deque that an arm steals from, if there is one.
use Rattle.std.specs.Prelude.{◌≡◌, Option, Some, None}
use Rattle.crossbeam_deque.specs.Handles as deques
use Rattle.plan_box.specs.declared.frame.Frame.{Frame}
use Rattle.box_ring.specs.declared.tally.Tally.{Tally}
use Rattle.box_ring.specs.declared.neighbour.Neighbour.{Neighbour}
use Rattle.box_ring.specs.Tallies.{no_tally}
use Rattle.box_ring.specs.Arms.{Deque}

-- which deque it is
abbrev pub deque_of : Option Neighbour → Option Deque
deque_of None = None
deque_of (Some n) = Some (deques.stealer_deque n.thief)

-- what is known of it
abbrev pub tally_of : Option Neighbour → Tally
tally_of None = no_tally
tally_of (Some n) = deques.view n.pass

-- its boxes are of this frame
abbrev pub IsAlike : Frame → Option Neighbour → Type 0
IsAlike f o = (n : Neighbour) → o ≡ Some n → (deques.view n.pass).frame ≡ f
