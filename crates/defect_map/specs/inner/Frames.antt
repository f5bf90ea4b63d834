-- What a frame asks of a defect, and of those whose positions stand in columns.
use Rattle.std.specs.Prelude.{ℕ, Bool, false, List, slice_get}
use Rattle.std.specs.List.{list_any}
use Rattle.std.specs.Option.{option_map_or}
use Rattle.glass_base.specs.Defects.{hits}
use Rattle.glass_base.specs.declared.item.Defect.{Defect}
use Rattle.smallvec.specs.SmallVec.{SmallVec}
use Rattle.defect_map.specs.declared.frame.Region.{Region}

-- the defect lies on the frame's plate, ends behind its first numbers and begins before its second ones
abbrev pub is_met : Region → Defect → Bool
is_met f d = hits f.plate f.x.0 f.y.0 f.x.1 f.y.1 d

-- so does the defect at this position; where there is none, nothing does
abbrev pub is_met_at : Region → List Defect → ℕ → Bool
is_met_at f ds position = option_map_or (is_met f) (slice_get ds position) false

-- so does some defect whose position stands in one of these columns
abbrev pub is_some_met : Region → List Defect → List (SmallVec ℕ) → Bool
is_some_met f ds columns = list_any (λ column. list_any (is_met_at f ds) column.items) columns
