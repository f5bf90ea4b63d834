-- Where strips end: labels along are right sides on a plate, and across the number of the plate.
use Rattle.std.specs.Prelude.{ℕ, suc, ◌+◌, ◌-◌, ◌<◌, ◌≤◌, ◌⊎◌, List, [], ◌∷◌, Contains}
use Rattle.glass_base.specs.Plates.{Before, Width}
use Rattle.glass_base.specs.Problem.{Problem}
use Rattle.plan_trace.specs.TraceRules.{Gap}
use Rattle.front_course.specs.Fronts.{Front}
use Rattle.front_course.specs.Strips.{Band, IsStrip, after_bands}
use Rattle.front_course.specs.Places.{BandPlaces, IsClearLine}
use Rattle.front_course.specs.Courses.{Strip, Follows}
use Rattle.front_table.specs.declared.labels.FrontLabel.{FrontLabel}
use Rattle.front_table.specs.declared.rows.FrontRow.{FrontRow}
use Rattle.front_table.specs.Lattice.{At}
use Rattle.front_table.specs.Pools.{HeldAt, row_at}
use Rattle.front_table.specs.Sets.{Held}

-- each right side of a strip of this width, behind what ends at `from` on its plate, is held at a row, where it is near enough
unfoldable pub EndsHeld : Problem → ℕ → ℕ → List (List FrontLabel) → ℕ → ℕ → ℕ → ℕ → Type 0
EndsHeld b far most sides m plate from width =
    (right : ℕ) → Gap b.params.waste (from + width) right → right ≤ Width b plate → Before b plate + right + far ≤ most → HeldAt sides m right plate

-- the items of a strip of these bands, which ends at `right`, have places, and its right side is clear
pub record Placed (b : Problem) (plate right width : ℕ) (f : Front) (bands : List Band) : Type 0 where
  pub places : BandPlaces b plate (right - width) right f 0 bands
  pub end : IsClearLine b plate right

-- the same of the strip of these bands, where its items have places
unfoldable pub StripHeld : Problem → ℕ → ℕ → List (List FrontLabel) → ℕ → ℕ → ℕ → ℕ → Front → List Band → Type 0
StripHeld b far most sides m plate from width f bands =
    (right : ℕ) → Placed b plate right width f bands → Gap b.params.waste (from + width) right → right ≤ Width b plate → Before b plate + right + far ≤ most → HeldAt sides m right plate

-- strips from a row behind what these labels stand for on a plate, and narrower than `low`, are held where they end
unfoldable pub PlateGoesOn : Problem → List FrontRow → (ℕ → ℕ) → ℕ → List (List FrontLabel) → ℕ → List FrontLabel → ℕ → ℕ → Type 0
PlateGoesOn b rows to_go most sides n begins plate low =
    (f : Front) → At b rows n f → (from : ℕ) → Held begins from plate → (width : ℕ) (bands : List Band) → IsStrip b width f bands → width < low → (m : ℕ) → At b rows m (after_bands f bands)
    → StripHeld b (to_go m) most sides m plate from width f bands

-- the same of widths from `low` to `top`, that have room and are near enough
unfoldable pub ClassGoesOn : Problem → List FrontRow → (ℕ → ℕ) → ℕ → List (List FrontLabel) → ℕ → List FrontLabel → ℕ → ℕ → ℕ → ℕ → ℕ → Type 0
ClassGoesOn b rows to_go most sides n begins plate low top room left =
    (f : Front) → At b rows n f → (from : ℕ) → Held begins from plate → (width : ℕ) (bands : List Band) → IsStrip b width f bands → low ≤ width → width ≤ top → width ≤ room → (m : ℕ) → At b rows m (after_bands f bands)
    → width + to_go m ≤ left → StripHeld b (to_go m) most sides m plate from width f bands

-- strips behind this label are held where they end, or it is one of those that are clear of defects
abbrev pub BeginGoesOn : Problem → List FrontRow → (ℕ → ℕ) → ℕ → List (List FrontLabel) → ℕ → List FrontLabel → FrontLabel → ℕ → ℕ → ℕ → ℕ → ℕ → Type 0
BeginGoesOn b rows to_go most sides n clear begin plate low top room left = Contains clear begin ⊎ ClassGoesOn b rows to_go most sides n (begin ∷ []) plate low top room left

-- strips from a row behind what these labels stand for are held where they end
unfoldable pub RowGoesOn : Problem → List FrontRow → (ℕ → ℕ) → ℕ → List FrontLabel → List (List FrontLabel) → ℕ → Type 0
RowGoesOn b rows to_go most begins sides n =
    (f : Front) → At b rows n f → (plate from : ℕ) → Held begins from plate → (strip : Strip) → Follows b f plate from strip → (m : ℕ) → At b rows m (after_bands f strip.bands)
    → Before b strip.plate + strip.right + to_go m ≤ most → HeldAt sides m strip.right strip.plate

-- the same behind what is held at the row
abbrev pub SidesGoOn : Problem → List FrontRow → (ℕ → ℕ) → ℕ → List (List FrontLabel) → ℕ → Type 0
SidesGoOn b rows to_go most sides n = RowGoesOn b rows to_go most (row_at sides n) sides n

-- a strip can begin on the next plate, where what is left of this one is a gap
abbrev pub NextHeld : Problem → ℕ → ℕ → List FrontLabel → ℕ → ℕ → Type 0
NextHeld b far most begins from plate = suc plate < b.params.plates → Gap b.params.waste from (Width b plate) → Before b (suc plate) + far ≤ most → Held begins 0 (suc plate)
