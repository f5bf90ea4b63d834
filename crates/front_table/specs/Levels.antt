-- What is known of each row: its bands, where strips from it can end, and what is to go from it.
use Rattle.std.specs.Prelude.{ℕ, ◌+◌, ◌-◌, ◌≤◌, List, [], map, slice_index_or}
use Rattle.glass_base.specs.Problem.{Problem}
use Rattle.front_course.specs.Fronts.{Front}
use Rattle.front_course.specs.Strips.{Band, IsStrip, after_bands}
use Rattle.front_table.specs.declared.ends.End.{End}
use Rattle.front_table.specs.declared.levels.RowFacts.{RowFacts}
use Rattle.front_table.specs.declared.moves.Move.{Move}
use Rattle.front_table.specs.declared.rows.FrontRow.{FrontRow}
use Rattle.front_table.specs.Ends.{Ended}
use Rattle.front_table.specs.Lattice.{At, area_at}
use Rattle.front_table.specs.Packed.{unpacked_all}

abbrev pub bands_at : List RowFacts → ℕ → List Move
bands_at levels n = unpacked_all (slice_index_or (map (λ l. l.bands.items) levels) n [])

abbrev pub ends_at : List RowFacts → ℕ → List End
ends_at levels n = slice_index_or (map (λ l. l.ends.items) levels) n []

abbrev pub to_go_at : List RowFacts → ℕ → ℕ
to_go_at levels n = slice_index_or (map (λ l. l.to_go) levels) n 0

-- no strip from a row leaves less to go than this
abbrev pub IsToGo : Problem → List FrontRow → (ℕ → ℕ) → ℕ → Type 0
IsToGo b rows to_go n = (f : Front) → At b rows n f → (width : ℕ) (bands : List Band) → IsStrip b width f bands → (m : ℕ) → At b rows m (after_bands f bands) → to_go n ≤ width + to_go m

-- the ends of another row are among these, with what lies before that row
unfoldable pub Gathered : List FrontRow → List RowFacts → ℕ → ℕ → List End → ℕ → Type 0
Gathered rows levels n most all to =
    (area to_go : ℕ) → Ended (ends_at levels to) area to_go → area + (area_at rows n - area_at rows to) ≤ most → Ended all (area + (area_at rows n - area_at rows to)) to_go
