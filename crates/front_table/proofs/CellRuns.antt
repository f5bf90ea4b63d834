-- Runs of cells are held where they end, and so bands are led to.
use Rattle.std.proofs.Common.{◌≡◌, ℕ, ◌+◌, ◌-◌, ◌<◌, ◌≤◌, ◌⊎◌, inl, inr, List, [], ◌∷◌, length, sym, ap, subst, arith}
use Rattle.glass_base.specs.declared.params.Params.{Params}
use Rattle.glass_base.specs.Problem.{Problem}
use Rattle.plan_trace.specs.TraceRules.{Gap}
use Rattle.front_course.specs.Fronts.{Front}
use Rattle.front_course.specs.Cells.{Cell, after_cell, cell_width, after_cells, cells_width, AllStand}
use Rattle.front_table.specs.declared.labels.FrontLabel.{FrontLabel}
use Rattle.front_table.specs.declared.moves.Move.{Move}
use Rattle.front_table.specs.declared.rows.FrontRow.{FrontRow}
use Rattle.front_table.specs.Pools.{HeldAt, GoesOn}
use Rattle.front_table.specs.Lattice.{At, area_at, moves_at, IsLattice, Led}
use Rattle.front_table.specs.Leads.{cell_area, cells_area, Moved, BandsLead}
use Rattle.front_table.proofs.FrontRows.{cells_lead}

-- each row up to `start` goes on by its cells
abbrev pub Closed : Problem → List FrontRow → List (List FrontLabel) → ℕ → Type 0
Closed b rows pool start = (n : ℕ) → n ≤ start → GoesOn b.params.max1 b.params.height pool n (moves_at rows n)

-- cells are held where they end, with what they have added along
record Ran (b : Problem) (rows : List FrontRow) (pool : List (List FrontLabel)) (n : ℕ) (to : Front) (size steps x high cover : ℕ) : Type 0 where
  row : ℕ
  down : row + steps ≤ n
  at : At b rows row to
  held : HeldAt pool row (x + size) high
  left : area_at rows n ≡ area_at rows row + cover

run_held : (b : Problem) (rows : List FrontRow) → IsLattice b rows → (pool : List (List FrontLabel)) (start : ℕ) → Closed b rows pool start → (high : ℕ) → high ≤ b.params.height → (cells : List Cell) (n : ℕ) (f : Front) (x : ℕ) →
    n ≤ start → At b rows n f → AllStand b high f cells → x + cells_width b f cells ≤ b.params.max1 → HeldAt pool n x high → Ran b rows pool n (after_cells f cells) (cells_width b f cells) (length cells) x high (cells_area b f cells)
unfolding GoesOn
run_held b rows h pool start closed high low [] n f x le at stand sum held = record {
  row = n;
  down = omega arith;
  at = at;
  held = subst (λ k. HeldAt pool n k high) (omega arith) held;
  left = omega arith;
}
run_held b rows h pool start closed high low (c ∷ cells) n f x le at stand sum held =
    let w : ℕ = cell_width b f c in
    let rest : ℕ = cells_width b (after_cell f c) cells in
    let m : Moved b rows n (moves_at rows n) (after_cell f c) w high (cell_area b f c) = cells_lead b rows h n f at high c stand.0 in
    let more : HeldAt pool m.move.to (x + w) high = closed n le x high held m.move m.has w m.fits (omega (arith, sum)) low in
    let r : Ran b rows pool m.move.to (after_cells (after_cell f c) cells) rest (length cells) (x + w) high (cells_area b (after_cell f c) cells) =
    run_held b rows h pool start closed high low cells m.move.to (after_cell f c) (x + w) (omega (arith, m.down, le)) m.at stand.1 (omega (arith, sum)) more in
    record {
      row = r.row;
      down = omega (arith, r.down, m.down);
      at = r.at;
      held = subst (λ k. HeldAt pool r.row k high) (omega arith) r.held;
      left = omega (arith, m.left, r.left);
    }

-- what is left beside the cells is a size of the set of a gap
pub gap_left : (waste size whole : ℕ) → Gap waste size whole → (whole - size ≡ 0) ⊎ (0 + waste ≤ whole - size)
gap_left waste size whole (inl same) = inl (omega (arith, same))
gap_left waste size whole (inr least) = inr (omega (arith, least))

pub gap_within : (waste size whole : ℕ) → Gap waste size whole → size ≤ whole
gap_within waste size whole (inl same) = omega (arith, same)
gap_within waste size whole (inr least) = omega (arith, least)

-- the bands that are gathered are all
pub bands_lead : (b : Problem) (rows : List FrontRow) → IsLattice b rows → (pool : List (List FrontLabel)) (start : ℕ) → Closed b rows pool start →
    ((x y : ℕ) → (x ≡ 0) ⊎ (0 + b.params.waste ≤ x) → b.params.min2 ≤ y → HeldAt pool start x y) → (bands : List Move) →
    ((n x y : ℕ) → n < start → HeldAt pool n x y → Led bands n y x) → BandsLead b rows start bands
unfolding Led
bands_lead b rows h pool start closed begun bands gathered f at width band narrow low is =
    let size : ℕ = cells_width b f band.cells in
    let within : size ≤ width = gap_within b.params.waste size width is.fill in
    let held : HeldAt pool start (width - size) band.high = begun (width - size) band.high (gap_left b.params.waste size width is.fill) is.tall in
    let r : Ran b rows pool start (after_cells f band.cells) size (length band.cells) (width - size) band.high (cells_area b f band.cells) =
    run_held b rows h pool start closed band.high low band.cells start f (width - size) (omega arith) at is.stand (omega (arith, within, narrow)) held in
    let whole : width - size + size ≡ width = omega (arith, within) in
    let led : Led bands r.row band.high width = gathered r.row width band.high (omega (arith, r.down, is.some)) (subst (λ k. HeldAt pool r.row k band.high) whole r.held) in
    record {
      move = led.0;
      has = led.1;
      at = subst (λ k. At b rows k (after_cells f band.cells)) (sym led.2) r.at;
      down = omega (arith, led.2, r.down, is.some);
      fits = led.3;
      left = omega (arith, r.left, ap (area_at rows) led.2);
    }

-- the same, with the parameters under another name
pub bands_lead_by : (b : Problem) (rows : List FrontRow) → IsLattice b rows → (p : Params) → p ≡ b.params → (pool : List (List FrontLabel)) (start : ℕ) →
    ((n : ℕ) → n ≤ start → GoesOn p.max1 p.height pool n (moves_at rows n)) →
    ((x y : ℕ) → (x ≡ 0) ⊎ (0 + p.waste ≤ x) → p.min2 ≤ y → HeldAt pool start x y) → (bands : List Move) →
    ((n x y : ℕ) → n < start → HeldAt pool n x y → Led bands n y x) → BandsLead b rows start bands
bands_lead_by b rows h p same pool start closed begun bands gathered =
    bands_lead b rows h pool start (subst (λ (q : Params). (n : ℕ) → n ≤ start → GoesOn q.max1 q.height pool n (moves_at rows n)) same closed)
    (subst (λ (q : Params). (x y : ℕ) → (x ≡ 0) ⊎ (0 + q.waste ≤ x) → q.min2 ≤ y → HeldAt pool start x y) same begun) bands gathered
