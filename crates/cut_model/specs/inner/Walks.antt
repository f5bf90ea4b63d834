-- How a walk goes over neighbours.
use Rattle.std.specs.Prelude.{◌≡◌, ℕ, ◌+◌, ◌*◌, ◌≤◌, List, Bool}
use Rattle.cut_model.specs.declared.family.Sort.{Sort}
use Rattle.cut_model.specs.declared.family.Area.{Area}
use Rattle.cut_model.specs.declared.family.Family.{Family}
use Rattle.cut_model.specs.Tree.{Forest, children_in}
use Rattle.cut_model.specs.Families.{family_with, inside}
use Rattle.cut_model.specs.Visits.{IsSmall, Tells}
use Rattle.cut_model.specs.inner.Room.{FitsIn}
use Rattle.glass_base.specs.declared.limits.TheConstants.{MOST_ROWS, MOST_SIDE}

-- these families were told, and `next` is the node number after theirs
pub record Walked {S : Type 0} (HasSeen : S → S → List Family → Type 0) (old new : S) (told : List Family) (next wanted : ℕ) : Type 0 where
  pub next_is : next ≡ wanted
  pub tells : Tells HasSeen old new told

-- where a list of pieces of this level can begin, and its first node
pub record IsStart (level node : ℕ) (at : Area) : Type 0 where
  pub cut : at.cut ≡ level
  pub plate : at.plate ≤ node
  pub x : at.x ≤ MOST_SIDE * level
  pub y : at.y ≤ MOST_SIDE * level
  pub width : at.width ≤ MOST_SIDE
  pub height : at.height ≤ MOST_SIDE

-- a piece at this place, and what is inside it, are in range
pub record NextWithin (level node : ℕ) (at : Area) (first ends : Bool) (size : ℕ) (sort : Sort) (inner : Forest) : Type 0 where
  pub small : IsSmall (family_with at first ends node size sort (children_in inner))
  pub start : IsStart (level + 1) (node + 1) (inside (family_with at first ends node size sort (children_in inner)))
  pub fits : FitsIn MOST_SIDE MOST_ROWS inner
  pub short : size ≤ MOST_SIDE
