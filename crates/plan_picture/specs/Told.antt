-- What the elements of a picture tell, one after the other.
use Rattle.std.specs.Prelude.{ℕ, List, [], ◌∷◌, ◌++◌, Option, Some, None}
use Rattle.glass_base.specs.declared.item.Defect.{Defect}
use Rattle.cut_model.specs.declared.family.Row.{Row}
use Rattle.plan_picture.specs.declared.mark.PieceLook.{PieceLook}
use Rattle.plan_picture.specs.declared.mark.Mark.{Mark}
use Rattle.plan_picture.specs.declared.mark.Mark.TheVariants as mark
use Rattle.plan_picture.specs.declared.mark.Words.{Words}

-- the group of a plate, and where its lower left corner stands
pub record Group : Type 0 where
  pub number : ℕ
  pub x : ℕ
  pub y : ℕ

-- a row that is drawn, the plate in whose group it stands, and what it looks like
pub record Drawn : Type 0 where
  pub plate : Option ℕ
  pub row : Row
  pub how : PieceLook

-- the plate in whose group the next element stands, the groups, and in which plate's group what is drawn, and what lines of text say
pub record Told : Type 0 where
  pub plate : Option ℕ
  pub groups : List Group
  pub pieces : List Drawn
  pub outlines : List (Option ℕ × Row)
  pub rings : List (Option ℕ × (ℕ × ℕ))
  pub defects : List (Option ℕ × Defect)
  pub texts : List (Option ℕ × Words)

-- nothing
abbrev pub untold : Told
untold = record { plate = None; groups = []; pieces = []; outlines = []; rings = []; defects = []; texts = [] }

-- the plate in whose group the elements stand behind the beginning of a group; a group inside another one is no plate's
abbrev pub begun : Option ℕ → ℕ → Option ℕ
begun None number = Some number
begun (Some _) number = None

-- what is told once one more element is
abbrev pub tell : Told → Mark → Told
tell t (mark.Plate number x y) = record t { plate = begun t.plate number; groups = t.groups ++ record { number = number; x = x; y = y } ∷ [] }
tell t mark.PlateEnd = record t { plate = None }
tell t (mark.Piece row how) = record t { pieces = t.pieces ++ record { plate = t.plate; row = row; how = how } ∷ [] }
tell t (mark.Outline row) = record t { outlines = t.outlines ++ (t.plate, row) ∷ [] }
tell t (mark.Ring x y) = record t { rings = t.rings ++ (t.plate, (x, y)) ∷ [] }
tell t (mark.Defect d) = record t { defects = t.defects ++ (t.plate, d) ∷ [] }
tell t (mark.Label label) = record t { texts = t.texts ++ (t.plate, label.words) ∷ [] }
tell t _ = t

-- what is told once these elements are, one after the other
abbrev pub tell_all : Told → List Mark → Told
tell_all t [] = t
tell_all t (m ∷ later) = tell_all (tell t m) later

-- what elements tell
abbrev pub told : List Mark → Told
told marks = tell_all untold marks
