-- What is known of a deque, and the rule that it keeps: what was put in is what was taken out and what it holds.
use Rattle.std.specs.Prelude.{◌≡◌, ℕ, ◌+◌, ◌≤◌, Bool, true, false, List, [], ◌∷◌, ◌++◌, length, sum_by}
use mathlib.Core.Option.{some}
use lib.ListN.{get_elem?}
use Rattle.plan_box.specs.Ranges.{PlainBox}
use Rattle.plan_box.specs.declared.frame.Frame.{Frame}
use Rattle.box_ring.specs.declared.tally.Tally.{Tally}

-- a tally by its fields, in the order in which they are declared
abbrev pub tally : ℕ → Bool → Frame → List PlainBox → List PlainBox → Tally
tally n s f ps ts = record { parts = n; framed = s; frame = f; put = ps; taken = ts }

-- stands where no frame is known
abbrev pub no_frame : Frame
no_frame = record { items = 0; stacks = 0; width = 0; height = 0 }

-- in how many parts a deque's pass can be held: its owner's and its thief's
abbrev pub all_parts : ℕ
all_parts = 2

-- who has no part has put and taken nothing
abbrev pub no_tally : Tally
no_tally = tally 0 false no_frame [] []

-- after these boxes were put in
abbrev pub putting : Tally → List PlainBox → Tally
putting v xs = tally v.parts v.framed v.frame (v.put ++ xs) v.taken

-- after these boxes were taken
abbrev pub taking : Tally → List PlainBox → Tally
taking v xs = tally v.parts v.framed v.frame v.put (v.taken ++ xs)

-- both parts of the pass are held together
abbrev pub IsWhole : Tally → Type 0
IsWhole v = v.parts ≡ all_parts

-- what was put is what was taken and these boxes, in any order: however boxes are weighed, the sums are equal
abbrev pub Rests : Tally → List PlainBox → Type 0
Rests v xs = (h : PlainBox → ℕ) → sum_by h v.put ≡ sum_by h v.taken + sum_by h xs

-- what was put is what was taken and some boxes
abbrev pub HasRest : Tally → Type 0
HasRest v = (xs : List PlainBox) × Rests v xs

-- each holds a whole pass, and knows that some boxes rest
abbrev pub AllWhole : List Tally → Type 0
AllWhole [] = Unit {0}
AllWhole (v ∷ vs) = (IsWhole v × HasRest v) × AllWhole vs

-- all boxes are of this frame
abbrev pub AreOfFrame : Frame → List PlainBox → Type 0
AreOfFrame f [] = Unit {0}
AreOfFrame f (x ∷ xs) = (x.frame ≡ f) × AreOfFrame f xs

-- who has no part has put and taken nothing; a frame that is known is this one
pub record Fits (frame : Frame) (v : Tally) : Type 0 where
  pub idle : v.parts ≡ 0 → v ≡ no_tally
  pub of_frame : v.framed ≡ true → v.frame ≡ frame

-- the rule of a deque that holds these boxes, with the tallies of all who have a part of its pass: what all have put is what all have taken
-- and what it holds, and all boxes in it are of one frame
pub record Balanced (items : List PlainBox) (tallies : List Tally) : Type 0 where
  pub frame : Frame
  pub parts : sum_by (λ v. v.parts) tallies ≡ all_parts
  pub weighs : (h : PlainBox → ℕ) → sum_by (λ v. sum_by h v.put) tallies ≡ sum_by (λ v. sum_by h v.taken) tallies + sum_by h items
  pub framed : AreOfFrame frame items
  pub each : (holder : ℕ) (v : Tally) → get_elem? tallies holder ≡ some v → Fits frame v

-- there was a state of the deque which keeps the rule, in which one of the tallies is this one, and with at most so many boxes in it
pub record HeldFew (most : ℕ) (v : Tally) : Type 0 where
  pub items : List PlainBox
  pub tallies : List Tally
  pub holder : ℕ
  pub few : length items ≤ most
  pub balanced : Balanced items tallies
  pub here : get_elem? tallies holder ≡ some v

-- there was a state of the deque which keeps the rule, in which one of the tallies is this one, and with at least so many boxes in it
pub record HeldMany (least : ℕ) (v : Tally) : Type 0 where
  pub items : List PlainBox
  pub tallies : List Tally
  pub holder : ℕ
  pub many : least ≤ length items
  pub balanced : Balanced items tallies
  pub here : get_elem? tallies holder ≡ some v

-- the deque was found to hold at most so many boxes; who holds the whole pass knows that all which was put was taken, but for so many
pub record FoundFew (most : ℕ) (v : Tally) : Type 0 where
  pub held : HeldFew most v
  pub whole : IsWhole v → (xs : List PlainBox) × (length xs ≤ most) × Rests v xs
