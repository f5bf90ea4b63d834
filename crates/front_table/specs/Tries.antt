-- What a search for strips has tried.
use Rattle.std.specs.Prelude.{ℕ, ◌+◌, ◌*◌, ◌-◌, ◌<◌, ◌≤◌, List, length, Contains}
use Rattle.front_table.specs.declared.labels.FrontLabel.{FrontLabel}
use Rattle.front_table.specs.declared.ends.End.{End}
use Rattle.front_table.specs.declared.levels.RowFacts.{RowFacts}
use Rattle.front_table.specs.declared.moves.Move.{Move}
use Rattle.front_table.specs.declared.rows.FrontRow.{FrontRow}
use Rattle.front_table.specs.declared.strips.Limits.{Limits}
use Rattle.front_table.specs.Ends.{Ended, Falls}
use Rattle.front_table.specs.Lattice.{area_at}
use Rattle.front_table.specs.Levels.{bands_at, ends_at}
use Rattle.front_table.specs.Pools.{HeldAt}
use Rattle.front_table.specs.Sets.{Fits}
use Rattle.front_table.specs.Tails.{tail_at, tails_at, unit_in}
use Rattle.front_table.specs.Widths.{Rises, waste_of}

-- what a label stands for goes on by a band, where the strip can still end near enough
unfoldable pub Tried : List RowFacts → Limits → List (List FrontLabel) → FrontLabel → Move → Type 0
Tried levels l pool label m =
    (x d w to_go : ℕ) → Fits label x w → Fits m.label d w → x + d ≤ l.height → w ≤ l.bound → ((k : ℕ) → l.height < x + d + (k + 1) * unit_in l.height → tail_at (tails_at levels m.to l.class) k ≤ to_go) → w + to_go ≤ l.most
    → HeldAt pool m.to (x + d) w

-- the same of a band that leads below a row, and that leaves no more waste than this in the widest of the strips
unfoldable pub BandTried : List FrontRow → List RowFacts → Limits → List (List FrontLabel) → ℕ → ℕ → FrontLabel → ℕ → Move → Type 0
BandTried rows levels l pool n below label slack m = m.to < below → waste_of rows n l.top m ≤ slack → Tried levels l pool label m

-- a strip that is `x` high and `w` wide so far, at a row with these ends, can go on by a band of height `d`, and end near enough
pub record MayGoOn (rows : List FrontRow) (levels : List RowFacts) (l : Limits) (n below : ℕ) (ends : List End) (m : Move) (x d w : ℕ) : Type 0 where
  pub to_go : ℕ
  pub before : ℕ
  pub behind : ℕ
  pub down : m.to < below
  pub here : Ended ends before to_go
  pub tails : (k : ℕ) → l.height < x + d + (k + 1) * unit_in l.height → tail_at (tails_at levels m.to l.class) k ≤ to_go
  pub within : before ≤ w * (l.height - x)
  pub rest : behind ≤ w * (l.height - (x + d))
  pub split : before ≤ area_at rows n - area_at rows m.to + behind
  pub sum : x + d ≤ l.height
  pub narrow : w ≤ l.bound
  pub near : w + to_go ≤ l.most

-- what a label of a row stands for goes on by each of the bands
unfoldable pub Extended : List FrontRow → List RowFacts → Limits → List (List FrontLabel) → ℕ → ℕ → List Move → List End → FrontLabel → Type 0
Extended rows levels l pool n below bands ends label =
    (m : Move) → Contains bands m → (x d w : ℕ) → Fits label x w → Fits m.label d w → MayGoOn rows levels l n below ends m x d w → HeldAt pool m.to (x + d) w

-- what is held at a row goes on by each of the bands, which lead below another row
unfoldable pub ExtendedBy : List FrontRow → List RowFacts → Limits → List (List FrontLabel) → ℕ → ℕ → List Move → List End → Type 0
ExtendedBy rows levels l pool n below bands ends =
    (x w : ℕ) → HeldAt pool n x w → (m : Move) → Contains bands m → (d : ℕ) → Fits m.label d w → MayGoOn rows levels l n below ends m x d w → HeldAt pool m.to (x + d) w

-- the same of a row of which all is known
abbrev pub RowExtended : List FrontRow → List RowFacts → Limits → List (List FrontLabel) → ℕ → Type 0
RowExtended rows levels l pool n = ExtendedBy rows levels l pool n n (bands_at levels n) (ends_at levels n)

-- what a search needs of the row at which it begins, and of each row below another one
pub record Searchable (levels : List RowFacts) (l : Limits) (start below : ℕ) (bands : List Move) (ends : List End) : Type 0 where
  pub low : below ≤ start
  pub len : below ≤ length levels
  pub bound : l.bound ≤ l.top
  pub falls : (n : ℕ) → n < below → Falls (ends_at levels n)
  pub rises : (n : ℕ) → n < below → Rises (bands_at levels n)
  pub own_falls : Falls ends
  pub own_rises : Rises bands
