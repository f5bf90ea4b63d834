-- A path from the root to a box, kept as one list of ranges and the ranges that were replaced on the way.
use Rattle.std.specs.Prelude.{◌≡◌, ◌<◌, ◌≤◌, List, [], ◌∷◌, length, reverse, cond, Bool, true, false, All}
use Rattle.plan_box.specs.declared.frame.Frame.{Frame}
use Rattle.plan_box.specs.declared.packed.Packed.{Packed}
use Rattle.plan_box.specs.Halves.{upper_half, half_at}
use Rattle.plan_box.specs.Frames.{IsFrame}
use Rattle.plan_box.specs.Packed.{unpacked}
use Rattle.plan_box.specs.Ranges.{AreInFrame, Ranges, span_of, full_ranges}
use Rattle.cert_check.specs.declared.path.Turn.{Turn}

-- ranges of steps of boxes of this frame
pub record AreStored (f : Frame) (stored : List Packed) : Type 0 where
  pub frame : IsFrame f
  pub few : length stored ≤ f.items
  pub in_frame : All (λ x. AreInFrame f (unpacked x)) stored

-- a path as contracts see it: the boxes that wait, the one at hand first
pub record Trail : Type 0 where
  pub frame : Frame
  pub boxes : List (List Ranges)

-- the ranges before this turn
abbrev pub restored : List Ranges → Turn → List Ranges
restored rs t = half_at (λ _. record { low = t.low; high = t.high }) rs t.step t.var

-- the boxes that wait beside the path to these ranges, with the turns of the path, the last one first
abbrev pub beside : List Ranges → List Turn → List (List Ranges)
beside rs [] = []
beside rs (t ∷ ts) = cond t.upper (beside (restored rs t) ts) (half_at upper_half (restored rs t) t.step t.var ∷ beside (restored rs t) ts)

-- the boxes that wait, where a path leads to these ranges; none where all is done
abbrev pub boxes_of : Bool → List Ranges → List Turn → List (List Ranges)
boxes_of true rs turns = []
boxes_of false rs turns = rs ∷ beside rs (reverse turns)

-- a turn replaced a range of a step
pub record IsTurn (f : Frame) (t : Turn) : Type 0 where
  pub inside : t.step < f.items
  pub wide : t.low < t.high
  pub within : t.high ≤ (span_of t.var (full_ranges f)).high

-- what a path keeps
pub record IsPathOf (f : Frame) (ranges : List Packed) (turns : List Turn) : Type 0 where
  pub stored : AreStored f ranges
  pub each_step : length ranges ≡ f.items
  pub each_turn : All (IsTurn f) turns

-- the box at hand
abbrev pub top : List (List Ranges) → List Ranges
top [] = []
top (rs ∷ boxes) = rs

-- the boxes that wait behind it
abbrev pub below : List (List Ranges) → List (List Ranges)
below [] = []
below (rs ∷ boxes) = boxes
