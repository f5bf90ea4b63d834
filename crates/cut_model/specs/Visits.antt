-- What a visitor is told.
use Rattle.std.specs.Prelude.{◌≤◌, List, ◌++◌}
use Rattle.cut_model.specs.declared.family.Family.{Family}
use Rattle.glass_base.specs.declared.limits.TheConstants.{MOST_SIDE}

-- whoever had seen some families has now seen these after them
pub record Tells {S : Type 0} (HasSeen : S → S → List Family → Type 0) (old new : S) (more : List Family) : Type 0 where
  pub after : (start : S) (seen : List Family) → HasSeen start old seen → HasSeen start new (seen ++ more)

-- the numbers of a family of a plan that fits
pub record IsSmall (f : Family) : Type 0 where
  pub x : f.row.x ≤ 100000
  pub y : f.row.y ≤ 100000
  pub width : f.row.width ≤ MOST_SIDE
  pub height : f.row.height ≤ MOST_SIDE
  pub cut : f.row.cut ≤ 4
  pub total : f.children.total ≤ MOST_SIDE
