-- What is left in the deques of a ring once its arms are put together, by their tallies.
use Rattle.std.specs.Prelude.{◌≡◌, ℕ, ◌+◌, List, [], ◌∷◌, sum_by, true}
use Rattle.plan_box.specs.declared.frame.Frame.{Frame}
use Rattle.plan_box.specs.Ranges.{PlainBox}
use Rattle.box_ring.specs.declared.tally.Tally.{Tally}
use Rattle.box_ring.specs.Arms.{ArmState, AllOfFrame, put, taken}

-- what the boxes weigh that were put into the deques
abbrev pub all_put : (PlainBox → ℕ) → List Tally → ℕ
all_put h ts = sum_by (λ (t : Tally). sum_by h t.put) ts

-- what the boxes weigh that were taken from them
abbrev pub all_taken : (PlainBox → ℕ) → List Tally → ℕ
all_taken h ts = sum_by (λ (t : Tally). sum_by h t.taken) ts

-- these boxes are left, in any order: what was put is what was taken and these, however boxes are weighed
abbrev pub IsLeft : List Tally → List PlainBox → Type 0
IsLeft ts xs = (h : PlainBox → ℕ) → all_put h ts ≡ all_taken h ts + sum_by h xs

-- all boxes in the deque are of this frame
pub record IsFramed (f : Frame) (t : Tally) : Type 0 where
  pub framed : t.framed ≡ true
  pub frame : t.frame ≡ f

-- the same of each deque
abbrev pub AllFramed : Frame → List Tally → Type 0
AllFramed f [] = Unit {0}
AllFramed f (t ∷ ts) = IsFramed f t × AllFramed f ts

-- this box was taken of those that were left, and some boxes are left; if all deques are of one frame, the box is of it, and they stay so
pub record Drains (x : PlainBox) (old new : List Tally) : Type 0 where
  pub some : (xs : List PlainBox) × IsLeft new xs
  pub left : (xs : List PlainBox) → IsLeft new xs → IsLeft old (x ∷ xs)
  pub frame : (f : Frame) → AllFramed f old → (x.frame ≡ f) × AllFramed f new

-- some boxes are left; what the arms have put is what they have taken and what is left; the deques are of the arms' frame
pub record Gathers (arms : List ArmState) (ts : List Tally) : Type 0 where
  pub some : (xs : List PlainBox) × IsLeft ts xs
  pub weighs : (xs : List PlainBox) → IsLeft ts xs → (h : PlainBox → ℕ) → sum_by (put h) arms ≡ sum_by (taken h) arms + sum_by h xs
  pub frame : (f : Frame) → AllOfFrame f arms → AllFramed f ts
