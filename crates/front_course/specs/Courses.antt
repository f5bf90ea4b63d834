-- Courses: strips one behind the other, on plates in order, that take all items off their stacks.
use Rattle.std.specs.Prelude.{◌≡◌, ℕ, suc, ◌+◌, ◌-◌, ◌<◌, ◌≤◌, ◌⊎◌, List, [], ◌∷◌}
use Rattle.glass_base.specs.Plates.{Before, Width}
use Rattle.glass_base.specs.Problem.{Problem}
use Rattle.plan_trace.specs.TraceRules.{Gap}
use Rattle.front_course.specs.Fronts.{Front, no_item, IsFull}
use Rattle.front_course.specs.Strips.{Band, after_bands, IsStrip}
use Rattle.front_course.specs.Places.{BandPlaces, IsClearLine}

-- a strip on its plate, its width and its right side, and its bands
pub record Strip : Type 0 where
  pub plate : ℕ
  pub width : ℕ
  pub right : ℕ
  pub bands : List Band

-- the strip lies behind what ends at `from` on a plate: a gap behind it there, or on the next plate, where what is left of
-- this one is a gap
abbrev pub Behind : Problem → ℕ → ℕ → Strip → Type 0
Behind b plate from s =
    ((s.plate ≡ plate) × Gap b.params.waste (from + s.width) s.right)
    ⊎ ((s.plate ≡ suc plate) × Gap b.params.waste from (Width b plate) × Gap b.params.waste s.width s.right)

-- the left side of a strip
abbrev pub left_of : Strip → ℕ
left_of strip = strip.right - strip.width

-- the strip follows what ends at `from` on a plate, and its items have places there
pub record Follows (b : Problem) (f : Front) (plate from : ℕ) (strip : Strip) : Type 0 where
  pub is_strip : IsStrip b strip.width f strip.bands
  pub behind : Behind b plate from strip
  pub within : strip.right ≤ Width b strip.plate
  pub few : strip.plate < b.params.plates
  pub places : BandPlaces b strip.plate (left_of strip) strip.right f 0 strip.bands
  pub begin : IsClearLine b strip.plate (left_of strip)
  pub end : IsClearLine b strip.plate strip.right

abbrev pub AreStrips : Problem → Front → ℕ → ℕ → List Strip → Type 0
AreStrips b f plate from [] = Unit {0}
AreStrips b f plate from (strip ∷ strips) =
    Follows b f plate from strip × AreStrips b (after_bands f strip.bands) strip.plate strip.right strips

abbrev pub after_strips : Front → List Strip → Front
after_strips f [] = f
after_strips f (strip ∷ strips) = after_strips (after_bands f strip.bands) strips

-- the plate and the place on it where the last strip ends
abbrev pub last_plate : ℕ → List Strip → ℕ
last_plate plate [] = plate
last_plate plate (strip ∷ strips) = last_plate strip.plate strips

abbrev pub last_right : ℕ → List Strip → ℕ
last_right from [] = from
last_right from (strip ∷ strips) = last_right strip.right strips

-- a course takes all items, and what is left of its last plate is a gap
pub record IsCourse (b : Problem) (course : List Strip) : Type 0 where
  pub strips : AreStrips b no_item 0 0 course
  pub full : IsFull b (after_strips no_item course)
  pub rest : Gap b.params.waste (last_right 0 course) (Width b (last_plate 0 course))

-- its length: where it ends, with all plates before that in one line
abbrev pub course_length : Problem → List Strip → ℕ
course_length b course = Before b (last_plate 0 course) + last_right 0 course
