-- What each kind of step does to the tally of the one who makes it.
use Rattle.std.specs.Prelude.{◌≡◌, ◌+◌, ◌-◌, true, false, List, [], ◌∷◌, ◌++◌, length}
use Rattle.plan_box.specs.Ranges.{PlainBox}
use Rattle.plan_box.specs.declared.frame.Frame.{Frame}
use Rattle.box_ring.specs.declared.tally.Tally.{Tally}
use Rattle.box_ring.specs.Tallies.{tally, no_frame, all_parts, putting, taking, AreOfFrame, IsWhole, HasRest, Rests, FoundFew, HeldMany}

-- a new deque's whole pass, before the frame is known
abbrev pub blank_tally : Tally
blank_tally = tally all_parts false no_frame [] []

-- and once it is known
abbrev pub ready_tally : Frame → Tally
ready_tally f = tally all_parts true f [] []

-- boxes were put in
abbrev pub PutThen : Tally → List PlainBox → Tally → Type 0
PutThen v xs w = w ≡ putting v xs

-- boxes were taken: they are of the frame, and who has the whole pass knows that some boxes rest
pub record TakeThen (v : Tally) (xs : List PlainBox) (w : Tally) : Type 0 where
  pub is : w ≡ taking v xs
  pub framed : v.framed ≡ true → AreOfFrame v.frame xs
  pub rests : IsWhole v → HasRest w

-- the frame of the first box
abbrev pub first_frame : List PlainBox → Frame
first_frame [] = no_frame
first_frame (x ∷ xs) = x.frame

-- the first box was put in, and tells the frame
abbrev pub SeedThen : Tally → List PlainBox → Tally → Type 0
SeedThen v xs w = w ≡ tally all_parts true (first_frame xs) xs []

-- it was taken back, and counts no more
abbrev pub UnseedThen : Tally → List PlainBox → Tally → Type 0
UnseedThen v xs w = w ≡ ready_tally v.frame

-- who has the whole pass has taken all that it put but what the deque holds
abbrev pub TotalFact : Tally → List PlainBox → Type 0
TotalFact v xs = IsWhole v → Rests v xs

-- the deque was found to hold so many boxes
abbrev pub NumberFact : Tally → List PlainBox → Type 0
NumberFact v xs = FoundFew (length xs) v × HeldMany (length xs) v

-- what the owner keeps when the pass is split
abbrev pub owner_tally : Tally → Tally
owner_tally v = tally (v.parts - 1) v.framed v.frame v.put v.taken

-- what the thief gets
abbrev pub thief_tally : Tally → Tally
thief_tally v = tally 1 v.framed v.frame [] []

-- after the second was joined into the first
abbrev pub both_tallies : Tally → Tally → Tally
both_tallies v w = tally (v.parts + w.parts) v.framed v.frame (v.put ++ w.put) (v.taken ++ w.taken)
