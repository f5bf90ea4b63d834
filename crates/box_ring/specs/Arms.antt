-- Arms of a ring as contracts see them.
use Rattle.std.specs.Prelude.{◌≡◌, ℕ, ◌+◌, Bool, true, false, if◌then◌else◌, List, [], ◌∷◌, ◌++◌, min, sum_by, Option, Some, None}
use Rattle.std.proofs.Common.{Global}
use Rattle.atomic_blocks.specs.Lent.{RowsId}
use Rattle.plan_box.specs.declared.frame.Frame.{Frame}
use Rattle.plan_box.specs.Ranges.{PlainBox}
use Rattle.box_ring.specs.declared.tally.Tally.{Tally}
use Rattle.box_ring.specs.Tallies.{all_parts, putting, taking}

-- which deque it is
abbrev pub Deque : Type 0
Deque = RowsId × Global

-- an arm: its own deque and what it knows of it, the deque that it steals from, if there is one, and what it knows of that; how often it
-- missed since the last box, whether its last call was a pop that gave none, and the boxes that it pushed and popped at once
pub record ArmState : Type 0 where
  pub deque : Deque
  pub own : Tally
  pub next : Option Deque
  pub other : Tally
  pub misses : ℕ
  pub missed : Bool
  pub passed : List PlainBox

-- the frame of all boxes of its ring
abbrev pub frame : ArmState → Frame
frame a = a.own.frame

-- an arm of which nothing was asked yet, by its deques and what it knows of them
abbrev pub new_arm : Deque → Tally → Option Deque → Tally → ArmState
new_arm d v next w = record { deque = d; own = v; next = next; other = w; misses = 0; missed = false; passed = [] }

-- after a push of this box
abbrev pub after_push : ArmState → PlainBox → ArmState
after_push a x = record a { own = putting a.own (x ∷ []); missed = false }

-- after this box was pushed and popped at once
abbrev pub after_push_pop : ArmState → PlainBox → ArmState
after_push_pop a x = record a { misses = 0; missed = false; passed = a.passed ++ x ∷ [] }

-- after a push that was refused
abbrev pub after_refusal : ArmState → ArmState
after_refusal a = record a { missed = false }

-- after a pop that gave this box
abbrev pub after_pop : ArmState → PlainBox → ArmState
after_pop a x = record a { own = taking a.own (x ∷ []); misses = 0; missed = false }

-- after a pop that gave none
abbrev pub after_no_pop : ArmState → ArmState
after_no_pop a = record a { missed = true }

-- after a steal that gave this box
abbrev pub after_steal : ArmState → PlainBox → ArmState
after_steal a x = record a { other = taking a.other (x ∷ []); misses = 0; missed = false }

-- after a steal that gave none: one miss more where a pop that gave none was the last call, up to the greatest number of 64 bits
abbrev pub after_no_steal : ArmState → ArmState
after_no_steal a = record a { misses = if a.missed then min (a.misses + 1) 18446744073709551615 else a.misses; missed = false }

-- the arm stays where it is in its ring: the same deques, the same parts of their passes, the same frame, and it puts nothing into the next deque
pub record Stays (old new : ArmState) : Type 0 where
  pub deque : new.deque ≡ old.deque
  pub next : new.next ≡ old.next
  pub parts : new.own.parts ≡ old.own.parts
  pub frame : frame new ≡ frame old
  pub other_put : new.other.put ≡ old.other.put

-- each arm of a row stays where it is
abbrev pub EachStays : List ArmState → List ArmState → Type 0
EachStays [] [] = Unit {0}
EachStays [] (b ∷ bs) = ⊥
EachStays (a ∷ rest) [] = ⊥
EachStays (a ∷ rest) (b ∷ bs) = Stays a b × EachStays rest bs

-- the first deque of a row of arms, or else `end`
abbrev pub first_or : List ArmState → Deque → Deque
first_or [] end = end
first_or (a ∷ rest) end = a.deque

-- each arm of the row steals from the next, and the last from `end`
abbrev pub Links : List ArmState → Deque → Type 0
Links [] end = Unit {0}
Links (a ∷ rest) end = (a.next ≡ Some (first_or rest end)) × (a.own.parts ≡ 1) × Links rest end

-- the arms of one ring, all, in order: one that steals from none, or several of which each steals from the next, and the last from the first
abbrev pub IsRing : List ArmState → Type 0
IsRing [] = ⊥
IsRing (a ∷ []) = (a.next ≡ None) × (a.own.parts ≡ all_parts)
IsRing (a ∷ b ∷ rest) = Links (a ∷ b ∷ rest) a.deque

-- all arms are of this frame
abbrev pub AllOfFrame : Frame → List ArmState → Type 0
AllOfFrame f [] = Unit {0}
AllOfFrame f (a ∷ rest) = (frame a ≡ f) × AllOfFrame f rest

-- nothing was put, taken or missed
pub record IsFresh (a : ArmState) : Type 0 where
  pub own_put : a.own.put ≡ []
  pub own_taken : a.own.taken ≡ []
  pub other_put : a.other.put ≡ []
  pub other_taken : a.other.taken ≡ []
  pub misses : a.misses ≡ 0
  pub missed : a.missed ≡ false
  pub passed : a.passed ≡ []

-- the same of each arm
abbrev pub AllFresh : List ArmState → Type 0
AllFresh [] = Unit {0}
AllFresh (a ∷ rest) = IsFresh a × AllFresh rest

-- what the boxes weigh that an arm has put into the two deques
abbrev pub deques_put : (PlainBox → ℕ) → ArmState → ℕ
deques_put h a = sum_by h a.own.put + sum_by h a.other.put

-- what the boxes weigh that an arm has taken from the two deques
abbrev pub deques_taken : (PlainBox → ℕ) → ArmState → ℕ
deques_taken h a = sum_by h a.own.taken + sum_by h a.other.taken

-- what the boxes weigh that an arm has put, with those that it took at once
abbrev pub put : (PlainBox → ℕ) → ArmState → ℕ
put h a = deques_put h a + sum_by h a.passed

-- what the boxes weigh that an arm has taken, with those that it had put just before
abbrev pub taken : (PlainBox → ℕ) → ArmState → ℕ
taken h a = deques_taken h a + sum_by h a.passed
