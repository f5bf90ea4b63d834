-- What is known of rows, so that strips can be looked for.
use Rattle.std.specs.Prelude.{◌≡◌, ℕ, ◌+◌, ◌*◌, ◌<◌, ◌≤◌, List, [], map, length, slice_index_or}
use Rattle.glass_base.specs.Problem.{Problem}
use Rattle.front_course.specs.Fronts.{Front}
use Rattle.front_course.specs.Strips.{Band, IsStrip, after_bands}
use Rattle.front_table.specs.declared.ends.End.{End}
use Rattle.front_table.specs.declared.levels.RowFacts.{RowFacts}
use Rattle.front_table.specs.declared.moves.Move.{Move}
use Rattle.front_table.specs.declared.rows.FrontRow.{FrontRow}
use Rattle.front_table.specs.declared.strips.Limits.{Limits}
use Rattle.front_table.specs.declared.fronts.Fronts.{Fronts}
use Rattle.front_table.specs.declared.table.FrontTable.{FrontTable}
use Rattle.front_table.specs.Ends.{Ended, Falls, EndsFrom, EndsBehind, LeadsBelow}
use Rattle.front_table.specs.Lattice.{At, IsLattice}
use Rattle.front_table.specs.Leads.{BandsLead}
use Rattle.front_table.specs.Levels.{bands_at, ends_at, to_go_at, IsToGo}
use Rattle.front_table.specs.Packed.{unpacked_all}
use Rattle.front_table.specs.Tails.{HasTails, HasTailsBehind, IsLower, tail_at, tails_at, tails_of_all, unit_in}
use Rattle.front_table.specs.Widths.{Rises}

-- what is known of a row and of those below another one, so that strips can be looked for from it
pub record Ready (b : Problem) (rows : List FrontRow) (levels : List RowFacts) (cover : ℕ) (to_go : ℕ → ℕ) (start below : ℕ) (bands : List Move) (ends : List End) : Type 0 where
  pub lead : BandsLead b rows start bands
  pub behind : EndsBehind b rows cover to_go start ends
  pub beneath : LeadsBelow b rows start below
  pub leads_below : (n : ℕ) → n < below → BandsLead b rows n (bands_at levels n)
  pub ends_below : (n : ℕ) → n < below → EndsFrom b rows cover to_go n (ends_at levels n)

-- the same of a row of which all is known
abbrev pub ReadyFrom : Problem → List FrontRow → List RowFacts → ℕ → (ℕ → ℕ) → ℕ → Type 0
ReadyFrom b rows levels cover to_go start = Ready b rows levels cover to_go start start (bands_at levels start) (ends_at levels start)

-- the limits are those of plates, and of widths that the table of ends covers
pub record Fitting (b : Problem) (l : Limits) (cover : ℕ) : Type 0 where
  pub height : l.height ≡ b.params.height
  pub bound : l.bound ≤ b.params.max1
  pub covered : l.bound * l.height ≤ cover

-- the rows below one have the tails of strips of a class that are no wider than `bound`
abbrev pub TailsBelow : Problem → List FrontRow → List RowFacts → ℕ → ℕ → (ℕ → ℕ) → ℕ → Type 0
TailsBelow b rows levels class bound to_go start = (n : ℕ) → n < start → HasTails b rows bound (unit_in b.params.height) to_go n (tails_at levels n class)

-- the tails of a row in a class of strips
abbrev pub tails_in : RowFacts → ℕ → List ℕ
tails_in level k = tails_of_all level.tails.items k

-- a row's ends and bands
pub record IsLevel (b : Problem) (rows : List FrontRow) (levels : List RowFacts) (n : ℕ) : Type 0 where
  pub falls : Falls (ends_at levels n)
  pub rises : Rises (bands_at levels n)
  pub bands : BandsLead b rows n (bands_at levels n)

-- a row's tails in each class of strips
abbrev pub ClassTails : Problem → List FrontRow → List ℕ → List RowFacts → ℕ → Type 0
ClassTails b rows tops levels n = (k d : ℕ) → k < length tops → HasTails b rows (slice_index_or tops k d) (unit_in b.params.height) (to_go_at levels) n (tails_at levels n k)

-- rows of which all is known
pub record Built (b : Problem) (rows : List FrontRow) (tops : List ℕ) (cover : ℕ) (levels : List RowFacts) : Type 0 where
  pub each : (n : ℕ) → n < length levels → IsLevel b rows levels n
  pub ends : (n : ℕ) → n < length levels → EndsFrom b rows cover (to_go_at levels) n (ends_at levels n)
  pub to_go : (n : ℕ) → n < length levels → IsToGo b rows (to_go_at levels) n
  pub tails : (n : ℕ) → n < length levels → ClassTails b rows tops levels n

-- a row of which it is not known what is to go from it
pub record IsOpen (b : Problem) (rows : List FrontRow) (tops : List ℕ) (cover : ℕ) (to_go : ℕ → ℕ) (n : ℕ) (level : RowFacts) : Type 0 where
  pub falls : Falls level.ends.items
  pub rises : Rises (unpacked_all level.bands.items)
  pub bands : BandsLead b rows n (unpacked_all level.bands.items)
  pub behind : EndsBehind b rows cover to_go n level.ends.items
  pub tails : (k d : ℕ) → k < length tops → HasTailsBehind b rows (slice_index_or tops k d) (unit_in b.params.height) to_go n (tails_in level k)

-- the first rows, and such a row, from which items lead to those alone
pub record Opened (b : Problem) (rows : List FrontRow) (tops : List ℕ) (cover : ℕ) (levels : List RowFacts) (start : ℕ) (level : RowFacts) : Type 0 where
  pub low : length levels ≤ start
  pub built : Built b rows tops cover levels
  pub beneath : LeadsBelow b rows start (length levels)
  pub is : IsOpen b rows tops cover (to_go_at levels) start level

-- no strip of these widths from a row, that is near enough, leaves less to go than this
abbrev pub IsLeast : Problem → List FrontRow → (ℕ → ℕ) → ℕ → ℕ → ℕ → ℕ → ℕ → Type 0
IsLeast b rows to_go start low bound most least =
    (f : Front) → At b rows start f → (width : ℕ) (bands : List Band) → IsStrip b width f bands → low ≤ width → width ≤ bound → (m : ℕ) → At b rows m (after_bands f bands) → width + to_go m ≤ most → least ≤ width + to_go m

-- two lists of rows know the same of a row
pub record SameLevel (levels other : List RowFacts) (n : ℕ) : Type 0 where
  pub bands : bands_at other n ≡ bands_at levels n
  pub ends : ends_at other n ≡ ends_at levels n
  pub to_go : to_go_at other n ≡ to_go_at levels n
  pub tails : (k : ℕ) → tails_at other n k ≡ tails_at levels n k

-- the same of the widths below one, for all that is near enough
unfoldable pub LeastBelow : Problem → List FrontRow → (ℕ → ℕ) → ℕ → ℕ → ℕ → ℕ → Type 0
LeastBelow b rows to_go start low most least =
    (f : Front) → At b rows start f → (width : ℕ) (bands : List Band) → IsStrip b width f bands → width < low → (m : ℕ) → At b rows m (after_bands f bands) → width + to_go m ≤ most → least ≤ width + to_go m

-- no strip from a row leaves less to go
unfoldable pub LeavesLeast : Problem → List FrontRow → (ℕ → ℕ) → ℕ → ℕ → Type 0
LeavesLeast b rows to_go start least =
    (f : Front) → At b rows start f → (width : ℕ) (bands : List Band) → IsStrip b width f bands → (m : ℕ) → At b rows m (after_bands f bands) → least ≤ width + to_go m

-- this is what is known of the row
pub record IsLast (levels : List RowFacts) (n : ℕ) (level : RowFacts) : Type 0 where
  pub bands : bands_at levels n ≡ unpacked_all level.bands.items
  pub ends : ends_at levels n ≡ level.ends.items
  pub to_go : to_go_at levels n ≡ level.to_go
  pub tails : (k : ℕ) → tails_at levels n k ≡ tails_in level k

-- a row with itself as an end, and with what is to go from it
pub record IsClosed (opened closed : RowFacts) (far : ℕ) : Type 0 where
  pub bands : unpacked_all closed.bands.items ≡ unpacked_all opened.bands.items
  pub to_go : closed.to_go ≡ far
  pub falls : Falls closed.ends.items
  pub lower : (k : ℕ) → IsLower (tails_in closed k) (tails_in opened k)
  pub tails : (k j : ℕ) → tail_at (tails_in closed k) j ≤ far
  pub own : Ended closed.ends.items 0 far
  pub kept : (area to_go : ℕ) → Ended opened.ends.items area to_go → Ended closed.ends.items area to_go

-- what is to go from the first rows and from this one
abbrev pub Continues : List RowFacts → ℕ → RowFacts → (ℕ → ℕ) → Type 0
Continues levels n level to_go = ((m : ℕ) → m < length levels → to_go m ≡ to_go_at levels m) × (to_go n ≡ level.to_go)

-- a row of which all is known, from which items lead to the first rows alone
pub record IsKnown (b : Problem) (rows : List FrontRow) (tops : List ℕ) (cover : ℕ) (levels : List RowFacts) (n : ℕ) (level : RowFacts) : Type 0 where
  pub falls : Falls level.ends.items
  pub rises : Rises (unpacked_all level.bands.items)
  pub bands : BandsLead b rows n (unpacked_all level.bands.items)
  pub ends : (to_go : ℕ → ℕ) → Continues levels n level to_go → EndsFrom b rows cover to_go n level.ends.items
  pub to_go : (to_go : ℕ → ℕ) → Continues levels n level to_go → IsToGo b rows to_go n
  pub tails : (to_go : ℕ → ℕ) → Continues levels n level to_go → (k d : ℕ) → k < length tops → HasTails b rows (slice_index_or tops k d) (unit_in b.params.height) to_go n (tails_in level k)

-- all rows, with all that is known of them
pub record IsTable (b : Problem) (table : FrontTable) : Type 0 where
  pub lattice : IsLattice b table.rows.items
  pub len : length table.levels.items ≡ length table.rows.items
  pub enough : b.params.max1 * b.params.height ≤ table.cover
  pub built : Built b table.rows.items table.tops.items table.cover table.levels.items
  pub zero : to_go_at table.levels.items 0 ≡ 0

-- all is known of the fronts
pub record AreFronts (fronts : Fronts) : Type 0 where
  pub lattice : IsLattice fronts.instance.now fronts.rows.now
  pub len : length fronts.levels.now ≡ length fronts.rows.now
  pub enough : fronts.instance.now.params.max1 * fronts.instance.now.params.height ≤ fronts.cover
  pub built : Built fronts.instance.now fronts.rows.now fronts.tops.now fronts.cover fronts.levels.now
  pub zero : to_go_at fronts.levels.now 0 ≡ 0
