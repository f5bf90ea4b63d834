-- What is to go at least behind stacks of bands, by how high these are.
use Rattle.std.specs.Prelude.{◌≡◌, ℕ, ◌+◌, ◌*◌, ◌/◌, ◌<◌, ◌≤◌, List, [], map, length, slice_index_or, Contains}
use Rattle.glass_base.specs.Problem.{Problem}
use Rattle.front_course.specs.Fronts.{Front}
use Rattle.front_course.specs.Strips.{Band, AreBands, after_bands, bands_height}
use Rattle.front_table.specs.declared.levels.RowFacts.{RowFacts}
use Rattle.front_table.specs.declared.moves.Move.{Move}
use Rattle.front_table.specs.declared.rows.FrontRow.{FrontRow}
use Rattle.front_table.specs.Lattice.{At}

-- how high a unit is on plates of this height
abbrev pub unit_in : ℕ → ℕ
unit_in height = height / 64 + 1

abbrev pub tail_at : List ℕ → ℕ → ℕ
tail_at tails k = slice_index_or tails k 0

-- the tails of a class
abbrev pub tails_of_all : List (List ℕ) → ℕ → List ℕ
tails_of_all all class = slice_index_or all class []

abbrev pub tails_at : List RowFacts → ℕ → ℕ → List ℕ
tails_at levels n class = tails_of_all (slice_index_or (map (λ l. l.tails.items) levels) n []) class

-- none of the tails is more than it was
abbrev pub IsLower : List ℕ → List ℕ → Type 0
IsLower new old = (k : ℕ) → tail_at new k ≤ tail_at old k

-- these tails are no more than those of the row behind a band that is at least so high
unfoldable pub AreBehind : List ℕ → List ℕ → ℕ → ℕ → Type 0
AreBehind tails others unit low = (q : ℕ) × (q * unit ≤ low) × ((j : ℕ) → tail_at tails (j + q) ≤ tail_at others j)

-- the same of the row behind a band
unfoldable pub AreBehindBand : List ℕ → List RowFacts → ℕ → ℕ → Move → Type 0
AreBehindBand tails levels class unit m = m.to < length levels → AreBehind tails (tails_at levels m.to class) unit m.label.along.least

-- the same of each band that is no wider than this
unfoldable pub AreBehindBands : List ℕ → List RowFacts → ℕ → ℕ → ℕ → List Move → Type 0
AreBehindBands tails levels class top unit bands = (m : Move) → Contains bands m → m.label.across.least ≤ top → AreBehindBand tails levels class unit m

-- no tail is more than what is to go behind a stack of bands that are no wider than `top`, where the stack is lower than one unit more
abbrev pub HasTails : Problem → List FrontRow → ℕ → ℕ → (ℕ → ℕ) → ℕ → List ℕ → Type 0
HasTails b rows top unit to_go n tails =
    (f : Front) → At b rows n f → (w : ℕ) (bands : List Band) → AreBands b w f bands → w ≤ top → w ≤ b.params.max1 → bands_height bands ≤ b.params.height → (m : ℕ) → At b rows m (after_bands f bands) → (k : ℕ) →
    bands_height bands < (k + 1) * unit → tail_at tails k ≤ to_go m

-- the same of stacks of at least one band
abbrev pub HasTailsBehind : Problem → List FrontRow → ℕ → ℕ → (ℕ → ℕ) → ℕ → List ℕ → Type 0
HasTailsBehind b rows top unit to_go n tails =
    (f : Front) → At b rows n f → (w : ℕ) (bands : List Band) → 1 ≤ length bands → AreBands b w f bands → w ≤ top → w ≤ b.params.max1 → bands_height bands ≤ b.params.height → (m : ℕ) → At b rows m (after_bands f bands) → (k : ℕ) →
    bands_height bands < (k + 1) * unit → tail_at tails k ≤ to_go m

-- for each class up to one, tails that are no more than those behind each band that is no wider than the strips of the class
unfoldable pub AllBehind : List (List ℕ) → List RowFacts → List Move → List ℕ → ℕ → ℕ → Type 0
AllBehind all levels bands tops unit many =
    (length all ≡ many) × ((k : ℕ) → k < many → AreBehindBands (slice_index_or all k []) levels k (slice_index_or tops k 0) unit bands)

-- for each class up to one, tails that are no more than they were, nor than this
unfoldable pub AllLower : List (List ℕ) → List (List ℕ) → ℕ → ℕ → Type 0
AllLower all old most many = (length all ≡ many) × ((k : ℕ) → k < many → IsLower (slice_index_or all k []) (slice_index_or old k []) × ((j : ℕ) → tail_at (slice_index_or all k []) j ≤ most))
