-- The search for strips whose items have places around defects.
use Rattle.std.specs.Prelude.{◌≡◌, ℕ, ◌+◌, ◌*◌, ◌-◌, ◌<◌, ◌≤◌, ◌⊎◌, List, length, Some, Contains, slice_get, slice_index_or}
use Rattle.front_bound.specs.declared.stretch.Stretch.{Stretch}
use Rattle.front_bound.specs.declared.stretch.Sought.{Sought}
use Rattle.std.specs.Coded.{Π_prop, le_prop}
use Rattle.front_table.specs.declared.labels.FrontLabel.{FrontLabel}
use Rattle.front_table.specs.declared.moves.Move.{Move}
use Rattle.front_bound.specs.inner.Clear.{Clear}
use Rattle.front_table.specs.Ends.{Ended, Falls}
use Rattle.front_table.specs.Lattice.{LeadDown, area_at, moves_at}
use Rattle.front_table.specs.Levels.{bands_at, ends_at}
use Rattle.front_table.specs.Tails.{tail_at, tails_at, unit_in}
use Rattle.front_table.specs.Widths.{Rises, waste_of}
use Rattle.front_table.specs.Pools.{row_at}
use Rattle.front_table.specs.Sets.{Fits, Has, HeldTo, Stands}
use Rattle.plan_trace.specs.TraceRules.{Gap}

-- what is known of the fronts that a search looks at
pub record IsStretch (t : Stretch) : Type 0 where
  pub len : length t.fronts.levels.now ≡ length t.fronts.rows.now
  pub down : LeadDown t.fronts.rows.now
  pub bound : t.limits.bound ≤ t.limits.top
  pub falls : (n : ℕ) → n < length t.fronts.levels.now → Falls (ends_at t.fronts.levels.now n)
  pub rises : (n : ℕ) → n < length t.fronts.levels.now → Rises (bands_at t.fronts.levels.now n)

-- cells that lead to a row, `x` wide in a band `y` high, leave no more beside and over them than the band may
abbrev pub IsLean : Stretch → Sought → ℕ → ℕ → ℕ → Type 0
IsLean t s to x y = x * y + area_at t.fronts.rows.now to ≤ s.slack + area_at t.fronts.rows.now s.start

-- a cell can come behind cells that are `x` wide, at `left` in a band `y` high that ends at `top`: its items have a place there
pub record CanJoin (t : Stretch) (s : Sought) (m : Move) (x w y left top bottom : ℕ) : Type 0 where
  pub wide : x + w ≤ t.site.widest
  pub high : y ≤ t.site.height
  pub tall : s.low + y ≤ top
  pub within : top ≤ t.site.height
  pub above : s.low ≤ bottom
  pub below : bottom + m.label.across.least ≤ top
  pub room : left + w ≤ t.site.room
  pub clear : Clear t.holes.now left bottom (left + m.label.along.least) (bottom + m.label.across.least)
  pub lean : IsLean t s m.to (x + w) y

-- what a label stands for goes on by the cell: the next one begins behind it, or a gap further on
unfoldable pub CellJoined : Stretch → Sought → List (List FrontLabel) → FrontLabel → Move → Type 0
CellJoined t s pool label m =
    (x w y left top bottom next : ℕ) → Stands label x y left top → Fits m.label w y → CanJoin t s m x w y left top bottom → Gap t.site.waste (left + w) next → HeldTo (row_at pool m.to) (x + w) y next top

-- the same of all that is held at a row, and each of its cells
unfoldable pub CellsGoOn : Stretch → Sought → List (List FrontLabel) → ℕ → List Move → Type 0
CellsGoOn t s pool n moves =
    (x y left top : ℕ) → HeldTo (row_at pool n) x y left top → (m : Move) → Contains moves m → (w bottom next : ℕ) → Fits m.label w y → CanJoin t s m x w y left top bottom → Gap t.site.waste (left + w) next
    → HeldTo (row_at pool m.to) (x + w) y next top

-- all cells of the bands that are sought
pub record CellsPlaced (t : Stretch) (s : Sought) (cells : List (List FrontLabel)) : Type 0 where
  pub begun : (x y left top : ℕ) → (x ≡ 0) ⊎ (0 + t.site.waste ≤ x) → t.site.least ≤ y → Has t.site.left left → HeldTo (row_at cells s.start) x y left top
  pub goes_on : (n : ℕ) → n ≤ s.start → CellsGoOn t s cells n (moves_at t.fronts.rows.now n)

-- these are the cells of bands from a row on
abbrev pub AreCells : Stretch → ℕ → List (List FrontLabel) → Sought → Type 0
AreCells t n cells s = (s.start ≡ n) × CellsPlaced t s cells

-- a strip `w` wide, which ends at `right` and whose bands reach up to `up`, can still end near enough
pub record CanEnd (t : Stretch) (to w right up : ℕ) : Type 0 where
  pub area : ℕ
  pub far : ℕ
  pub narrow : w ≤ t.limits.bound
  pub top : up ≤ t.limits.height
  pub ends : Ended (ends_at t.fronts.levels.now to) area far
  pub within : area ≤ w * (t.limits.height - up)
  pub tails : (k : ℕ) → t.limits.height < up + (k + 1) * unit_in t.limits.height → tail_at (tails_at t.fronts.levels.now to t.limits.class) k ≤ far
  pub near : w + far ≤ t.limits.most
  pub reaches : right + far ≤ t.reach

-- with a band of height `d` at `low`, and so can the strip before it
pub record CanGoOn (t : Stretch) (n to d w right low : ℕ) : Type 0 where
  pub end : CanEnd t to w right (low + d)
  pub down : to < n
  pub area : ℕ
  pub here : Ended (ends_at t.fronts.levels.now n) area end.far
  pub within : area ≤ w * (t.limits.height - low)
  pub split : area ≤ area_at t.fronts.rows.now n - area_at t.fronts.rows.now to + end.area

-- what a label stands for goes on by a band at the place that it stands for: the next one begins on it, or a gap above it
unfoldable pub BandJoined : Stretch → List (List FrontLabel) → FrontLabel → ℕ → FrontLabel → Type 0
BandJoined t pool label to band =
    (d w right low next : ℕ) → Stands label low w right 0 → Stands band d w right (low + d) → CanEnd t to w right (low + d) → Gap t.site.waste (low + d) next → HeldTo (row_at pool to) next w right 0

-- by the bands that cells make
unfoldable pub RunJoined : Stretch → List (List FrontLabel) → ℕ → FrontLabel → ℕ → FrontLabel → Type 0
RunJoined t pool n label to cells =
    (d w right low next : ℕ) → Stands label low w right 0 → Stands cells w d right (low + d) → CanGoOn t n to d w right low → Gap t.site.waste (low + d) next → HeldTo (row_at pool to) next w right 0

unfoldable pub RunsJoined : Stretch → List (List FrontLabel) → ℕ → FrontLabel → ℕ → List FrontLabel → Type 0
RunsJoined t pool n label to runs =
    (d w right low next : ℕ) → Stands label low w right 0 → HeldTo runs w d right (low + d) → CanGoOn t n to d w right low → Gap t.site.waste (low + d) next → HeldTo (row_at pool to) next w right 0

-- by a band from a row on that no defect is in the way of
unfoldable pub MoveJoined : Stretch → List (List FrontLabel) → ℕ → FrontLabel → Move → Type 0
MoveJoined t pool n label m =
    (d w right low next : ℕ) → Stands label low w right 0 → Fits m.label d w → CanGoOn t n m.to d w right low → Gap t.site.waste (low + d) next → HeldTo (row_at pool m.to) next w right 0

-- the same of a band that leaves no more than this in the widest of the strips
unfoldable pub WasteJoined : Stretch → List (List FrontLabel) → ℕ → FrontLabel → ℕ → Move → Type 0
WasteJoined t pool n label slack m = waste_of t.fronts.rows.now n t.limits.top m ≤ slack → MoveJoined t pool n label m

-- no band by which a label of a row can go on leaves more than this in the widest strip
unfoldable pub IsSlack : Stretch → ℕ → FrontLabel → ℕ → Type 0
IsSlack t n label slack = (to d w right low : ℕ) → Stands label low w right 0 → CanGoOn t n to d w right low → t.limits.top * d - (area_at t.fronts.rows.now n - area_at t.fronts.rows.now to) ≤ slack

-- that is known in one way at the most
pub IsSlack-prop : (t : Stretch) (n : ℕ) (label : FrontLabel) (slack : ℕ) → IsProp (IsSlack t n label slack)
unfolding IsSlack
IsSlack-prop t n label slack = Π_prop (λ to. Π_prop (λ d. Π_prop (λ w. Π_prop (λ right. Π_prop (λ low. Π_prop (λ own. Π_prop (λ can. le_prop)))))))

-- there is no such band
unfoldable pub NoneGoesOn : Stretch → ℕ → FrontLabel → Type 0
NoneGoesOn t n label = (to d w right low : ℕ) → Stands label low w right 0 → CanGoOn t n to d w right low → ⊥

-- a label of a row goes on by each band, where no defect is above
unfoldable pub MovesExtended : Stretch → List (List FrontLabel) → ℕ → FrontLabel → Type 0
MovesExtended t pool n label = (m : Move) → Contains (bands_at t.fronts.levels.now n) m → MoveJoined t pool n label m

-- by each band whose items have places
pub record RunsExtended (t : Stretch) (pool : List (List FrontLabel)) (n : ℕ) (label : FrontLabel) : Type 0 where
  pub sought : Sought
  pub cells : List (List FrontLabel)
  pub are : AreCells t n cells sought
  pub low : sought.low ≤ label.along.least
  pub slack : IsSlack t n label sought.slack
  pub joined : (to : ℕ) → to < n → RunsJoined t pool n label to (row_at cells to)

abbrev pub Extended : Stretch → List (List FrontLabel) → ℕ → FrontLabel → Type 0
Extended t pool n label = MovesExtended t pool n label ⊎ RunsExtended t pool n label

-- each label of a row is
unfoldable pub RowPlaced : Stretch → List (List FrontLabel) → ℕ → Type 0
RowPlaced t pool n = (k : ℕ) (d : FrontLabel) → k < length (row_at pool n) → Extended t pool n (slice_index_or (row_at pool n) k d)
