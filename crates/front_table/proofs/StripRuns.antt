-- Strips are held where they end.
use Rattle.std.proofs.Common.{◌≡◌, ℕ, ◌+◌, ◌*◌, ◌-◌, ◌<◌, ◌≤◌, ◌⊎◌, inl, inr, List, [], ◌∷◌, ◌++◌, length, length-append, refl, sym, ap, ◌∙◌, subst, arith}
use Rattle.std.proofs.Math.Nat.{mul-add, mul_comm}
use Rattle.std.proofs.lemmas.Bool.{cases_lt}
use Rattle.std.proofs.lemmas.Nat.{mul-le}
use Rattle.glass_base.specs.Problem.{Problem}
use Rattle.front_course.specs.Fronts.{Front, next}
use Rattle.front_course.specs.Cells.{Cell, pick_width, pick_height, Stands, CanStand, after_cell, cell_width, after_cells, cells_width, AllStand}
use Rattle.front_course.specs.Cells.Cell.{alone, pair}
use Rattle.front_course.specs.Strips.{Band, IsBand, after_bands, bands_height, AreBands, IsStrip}
use Rattle.front_table.specs.declared.ends.End.{End}
use Rattle.front_table.specs.declared.labels.FrontLabel.{FrontLabel}
use Rattle.front_table.specs.declared.levels.RowFacts.{RowFacts}
use Rattle.front_table.specs.declared.moves.Move.{Move}
use Rattle.front_table.specs.declared.rows.FrontRow.{FrontRow}
use Rattle.front_table.specs.declared.strips.Limits.{Limits}
use Rattle.front_table.specs.Ends.{Ended, Takes, after_items, EndsFrom, EndsBehind, LeadsBelow}
use Rattle.front_table.specs.Lattice.{At, area_at, moves_at, IsLattice}
use Rattle.front_table.specs.Leads.{cell_area, cells_area, Moved, BandsLead}
use Rattle.front_table.specs.Levels.{bands_at, ends_at}
use Rattle.front_table.specs.Pools.{HeldAt}
use Rattle.front_table.specs.Ready.{Ready, ReadyFrom, Fitting, TailsBelow}
use Rattle.front_table.specs.Tails.{tail_at, tails_at, unit_in}
use Rattle.front_table.specs.Tries.{ExtendedBy, RowExtended, MayGoOn}
use Rattle.front_table.proofs.FrontRows.{one_row, cells_lead}
use Rattle.front_table.proofs.CellRuns.{gap_within, gap_left}
use Rattle.front_table.proofs.Paths.{leads_down}

-- the stacks of the items of cells and of bands, in turn
abbrev pub stacks_of : List Cell → List ℕ
stacks_of [] = []
stacks_of (alone p ∷ cells) = p.stack ∷ stacks_of cells
stacks_of (pair p q ∷ cells) = p.stack ∷ q.stack ∷ stacks_of cells

abbrev pub stacks_in : List Band → List ℕ
stacks_in [] = []
stacks_in (band ∷ bands) = stacks_of band.cells ++ stacks_in bands

after_stacks : (f : Front) (cells : List Cell) → after_items f (stacks_of cells) ≡ after_cells f cells
after_stacks f [] = refl
after_stacks f (alone p ∷ cells) = after_stacks (next f p.stack) cells
after_stacks f (pair p q ∷ cells) = after_stacks (next (next f p.stack) q.stack) cells

after_more : (f : Front) (ss ts : List ℕ) → after_items f (ss ++ ts) ≡ after_items (after_items f ss) ts
after_more f [] ts = refl
after_more f (s ∷ ss) ts = after_more (next f s) ss ts

pub after_in : (f : Front) (bands : List Band) → after_items f (stacks_in bands) ≡ after_bands f bands
after_in f [] = refl
after_in f (band ∷ bands) = after_more f (stacks_of band.cells) (stacks_in bands) ∙ ap (λ g. after_items g (stacks_in bands)) (after_stacks f band.cells) ∙ after_in (after_cells f band.cells) bands

cells_take : (b : Problem) (high : ℕ) (f : Front) (cells : List Cell) → AllStand b high f cells → Takes b f (stacks_of cells)
cells_take b high f [] stand = tt
cells_take b high f (alone p ∷ cells) stand = (stand.0.0, cells_take b high (next f p.stack) cells stand.1)
cells_take b high f (pair p q ∷ cells) stand = (stand.0.0, (stand.0.1, cells_take b high (next (next f p.stack) q.stack) cells stand.1))

take_more : (b : Problem) (f : Front) (ss ts : List ℕ) → Takes b f ss → Takes b (after_items f ss) ts → Takes b f (ss ++ ts)
take_more b f [] ts first second = second
take_more b f (s ∷ ss) ts first second = (first.0, take_more b (next f s) ss ts first.1 second)

pub bands_take : (b : Problem) (width : ℕ) (f : Front) (bands : List Band) → AreBands b width f bands → Takes b f (stacks_in bands)
bands_take b width f [] are = tt
bands_take b width f (band ∷ bands) are =
    take_more b f (stacks_of band.cells) (stacks_in bands) (cells_take b band.high f band.cells are.0.stand)
    (subst (λ g. Takes b g (stacks_in bands)) (sym (after_stacks f band.cells)) (bands_take b width (after_cells f band.cells) bands are.1))

-- cells lie in their band, and bands in their strip
stands_low : (waste w h high : ℕ) → Stands waste w h high → h ≤ high
stands_low waste w h high (inl same) = omega (arith, same)
stands_low waste w h high (inr least) = omega (arith, least.0)

cell_within : (b : Problem) (high : ℕ) (f : Front) (c : Cell) → CanStand b high f c → cell_area b f c ≤ high * cell_width b f c
cell_within b high f (alone p) can =
    omega (arith, mul-le (pick_width b f p) (pick_height b f p) (pick_width b f p) high (omega arith) (stands_low b.params.waste (pick_width b f p) (pick_height b f p) high can.1), mul_comm (pick_width b f p) high)
cell_within b high f (pair p q) can =
    let w : ℕ = pick_width b f p in
    let g : Front = next f p.stack in
    omega (
      arith,
      mul-add w (pick_height b f p) (pick_height b g q),
      ap (λ n. w * n) can.3,
      ap (λ n. n * pick_height b g q) can.2,
      mul_comm w high,
    )

pub cells_within : (b : Problem) (high : ℕ) (f : Front) (cells : List Cell) → AllStand b high f cells → cells_area b f cells ≤ high * cells_width b f cells
cells_within b high f [] stand = omega arith
cells_within b high f (c ∷ cells) stand =
    omega (arith, cell_within b high f c stand.0, cells_within b high (after_cell f c) cells stand.1, mul-add high (cell_width b f c) (cells_width b (after_cell f c) cells))

pub band_within : (b : Problem) (width : ℕ) (f : Front) (band : Band) → IsBand b width f band → cells_area b f band.cells ≤ width * band.high
band_within b width f band is =
    omega (
      arith,
      cells_within b band.high f band.cells is.stand,
      mul-le band.high (cells_width b f band.cells) band.high width (omega arith) (gap_within b.params.waste (cells_width b f band.cells) width is.fill),
      mul_comm band.high width,
    )

abbrev pub bands_area : Problem → Front → List Band → ℕ
bands_area b f [] = 0
bands_area b f (band ∷ bands) = cells_area b f band.cells + bands_area b (after_cells f band.cells) bands

pub bands_within : (b : Problem) (width : ℕ) (f : Front) (bands : List Band) → AreBands b width f bands → bands_area b f bands ≤ width * bands_height bands
bands_within b width f [] are = omega arith
bands_within b width f (band ∷ bands) are =
    omega (arith, band_within b width f band are.0, bands_within b width (after_cells f band.cells) bands are.1, mul-add width band.high (bands_height bands))

stacks_some : (cells : List Cell) → length cells ≤ length (stacks_of cells)
stacks_some [] = omega arith
stacks_some (alone p ∷ cells) = omega (arith, stacks_some cells)
stacks_some (pair p q ∷ cells) = omega (arith, stacks_some cells)

pub stacks_more : (band : Band) (bands : List Band) → 1 ≤ length band.cells → 1 ≤ length (stacks_in (band ∷ bands))
stacks_more band bands some = omega (arith, length-append (stacks_of band.cells) (stacks_in bands), stacks_some band.cells, some)

-- a row to which items lead from another, and their area
pub record Path (b : Problem) (rows : List FrontRow) (n : ℕ) (to : Front) (cover : ℕ) : Type 0 where
  pub row : ℕ
  pub down : row ≤ n
  pub at : At b rows row to
  pub left : area_at rows n ≡ area_at rows row + cover

cells_path : (b : Problem) (rows : List FrontRow) → IsLattice b rows → (high : ℕ) (cells : List Cell) (n : ℕ) (f : Front) → At b rows n f → AllStand b high f cells → Path b rows n (after_cells f cells) (cells_area b f cells)
cells_path b rows h high [] n f at stand = record { row = n; down = omega arith; at = at; left = omega arith }
cells_path b rows h high (c ∷ cells) n f at stand =
    let m : Moved b rows n (moves_at rows n) (after_cell f c) (cell_width b f c) high (cell_area b f c) = cells_lead b rows h n f at high c stand.0 in
    let p : Path b rows m.move.to (after_cells (after_cell f c) cells) (cells_area b (after_cell f c) cells) = cells_path b rows h high cells m.move.to (after_cell f c) m.at stand.1 in
    record { row = p.row; down = omega (arith, p.down, m.down); at = p.at; left = omega (arith, m.left, p.left) }

-- each cell leads down
record Down (b : Problem) (rows : List FrontRow) (n : ℕ) (to : Front) (steps : ℕ) : Type 0 where
  row : ℕ
  down : row + steps ≤ n
  at : At b rows row to

cells_down : (b : Problem) (rows : List FrontRow) → IsLattice b rows → (high : ℕ) (cells : List Cell) (n : ℕ) (f : Front) → At b rows n f → AllStand b high f cells → Down b rows n (after_cells f cells) (length cells)
cells_down b rows h high [] n f at stand = record { row = n; down = omega arith; at = at }
cells_down b rows h high (c ∷ cells) n f at stand =
    let m : Moved b rows n (moves_at rows n) (after_cell f c) (cell_width b f c) high (cell_area b f c) = cells_lead b rows h n f at high c stand.0 in
    let p : Down b rows m.move.to (after_cells (after_cell f c) cells) (length cells) = cells_down b rows h high cells m.move.to (after_cell f c) m.at stand.1 in
    record { row = p.row; down = omega (arith, p.down, m.down); at = p.at }

pub bands_path : (b : Problem) (rows : List FrontRow) → IsLattice b rows → (width : ℕ) (bands : List Band) (n : ℕ) (f : Front) → At b rows n f → AreBands b width f bands → Path b rows n (after_bands f bands) (bands_area b f bands)
bands_path b rows h width [] n f at are = record { row = n; down = omega arith; at = at; left = omega arith }
bands_path b rows h width (band ∷ bands) n f at are =
    let m : Path b rows n (after_cells f band.cells) (cells_area b f band.cells) = cells_path b rows h band.high band.cells n f at are.0.stand in
    let p : Path b rows m.row (after_bands (after_cells f band.cells) bands) (bands_area b (after_cells f band.cells) bands) = bands_path b rows h width bands m.row (after_cells f band.cells) m.at are.1 in
    record { row = p.row; down = omega (arith, p.down, m.down); at = p.at; left = omega (arith, m.left, p.left) }

-- what lies between two rows
pub bands_left : (b : Problem) (rows : List FrontRow) → IsLattice b rows → (width : ℕ) (bands : List Band) (n : ℕ) (f : Front) → At b rows n f → AreBands b width f bands → (m : ℕ) → At b rows m (after_bands f bands) →
    area_at rows n ≡ area_at rows m + bands_area b f bands
bands_left b rows h width bands n f at are m to =
    let p : Path b rows n (after_bands f bands) (bands_area b f bands) = bands_path b rows h width bands n f at are in
    omega (arith, p.left, ap (area_at rows) (one_row b rows h p.row m (after_bands f bands) p.at to))

-- of a row of which all is known, and of those below it
pub behind_at : (b : Problem) (rows : List FrontRow) (levels : List RowFacts) (cover : ℕ) (to_go : ℕ → ℕ) (start : ℕ) → ReadyFrom b rows levels cover to_go start → (n : ℕ) → n ≤ start → EndsBehind b rows cover to_go n (ends_at levels n)
behind_at b rows levels cover to_go start r n le f at stacks some takes m to area left few =
    elim (cases_lt n start) [
      | inl below ↦ r.ends_below n below f at stacks takes m to area left few
      | inr last ↦
          let same : start ≡ n = omega (arith, le, last) in
          subst (λ k. EndsBehind b rows cover to_go k (ends_at levels k)) same r.behind f at stacks some takes m to area left few
    ]

pub lead_at : (b : Problem) (rows : List FrontRow) (levels : List RowFacts) (cover : ℕ) (to_go : ℕ → ℕ) (start : ℕ) → ReadyFrom b rows levels cover to_go start → (n : ℕ) → n ≤ start → BandsLead b rows n (bands_at levels n)
lead_at b rows levels cover to_go start r n le f at width band narrow low is =
    elim (cases_lt n start) [
      | inl below ↦ r.leads_below n below f at width band narrow low is
      | inr last ↦
          let same : start ≡ n = omega (arith, le, last) in
          subst (λ k. BandsLead b rows k (bands_at levels k)) same r.lead f at width band narrow low is
    ]

-- where bands lead to from a row
pub bands_below : (b : Problem) (rows : List FrontRow) (n below : ℕ) → LeadsBelow b rows n below → (f : Front) → At b rows n f → (w : ℕ) (band : Band) (bands : List Band) → AreBands b w f (band ∷ bands) → (m : ℕ) → At b rows m (after_bands f (band ∷ bands)) → m < below
bands_below b rows n below leads f at w band bands are m to =
    leads f at (stacks_in (band ∷ bands)) (stacks_more band bands are.0.some) (bands_take b w f (band ∷ bands) are) m (subst (λ k. At b rows m k) (sym (after_in f (band ∷ bands))) to)

-- a row at which what is stacked so far is held
record HeldBehind (b : Problem) (rows : List FrontRow) (pool : List (List FrontLabel)) (below : ℕ) (g : Front) (x w : ℕ) : Type 0 where
  row : ℕ
  down : row < below
  at : At b rows row g
  held : HeldAt pool row x w

module _ (b : Problem) (rows : List FrontRow) (h : IsLattice b rows) (levels : List RowFacts) (l : Limits) (cover : ℕ) (fit : Fitting b l cover) (to_go : ℕ → ℕ) (pool : List (List FrontLabel)) (w : ℕ) (narrow : w ≤ l.bound) where
  sum_left : (height used rest : ℕ) → used + rest ≡ height → rest ≡ height - used
  sum_left height used rest e = omega (arith, e)

  -- one band more
  band_held : (n below : ℕ) (moves : List Move) (ends : List End) → BandsLead b rows n moves → EndsBehind b rows cover to_go n ends → LeadsBelow b rows n below → TailsBelow b rows levels l.class l.bound to_go below → ExtendedBy rows levels l pool n below moves ends →
      (band : Band) (bands : List Band) (f : Front) (x : ℕ) → At b rows n f → AreBands b w f (band ∷ bands) → x + bands_height (band ∷ bands) ≡ l.height → (m : ℕ) → At b rows m (after_bands f (band ∷ bands)) → w + to_go m ≤ l.most → HeldAt pool n x w →
      HeldBehind b rows pool below (after_cells f band.cells) (x + band.high) w
  unfolding ExtendedBy
  band_held n below moves ends lead behind leads under closed band bands f x at are whole m to near held =
      let g : Front = after_cells f band.cells in
      let d : ℕ = band.high in
      let rest : ℕ = bands_height bands in
      let mv : Moved b rows n moves g d w (cells_area b f band.cells) = lead f at w band (omega (arith, narrow, fit.bound)) (omega (arith, whole, fit.height)) are.0 in
      let down : mv.move.to < below = bands_below b rows n below leads f at w band [] (are.0, tt) mv.move.to mv.at in
      let all : ℕ = bands_area b f (band ∷ bands) in
      let more : ℕ = bands_area b g bands in
      let left : area_at rows n ≡ area_at rows m + all = bands_left b rows h w (band ∷ bands) n f at are m to in
      let later : area_at rows mv.move.to ≡ area_at rows m + more = bands_left b rows h w bands mv.move.to g mv.at are.1 m to in
      let here : all ≤ w * (l.height - x) = omega (arith, bands_within b w f (band ∷ bands) are, ap (λ k. w * k) (sum_left l.height x (d + rest) whole)) in
      let there : more ≤ w * (l.height - (x + d)) = omega (arith, bands_within b w g bands are.1, ap (λ k. w * k) (sum_left l.height (x + d) rest (omega (arith, whole)))) in
      let few : all ≤ cover = omega (arith, here, mul-le w (l.height - x) l.bound l.height narrow (omega arith), fit.covered) in
      let to_all : At b rows m (after_items f (stacks_in (band ∷ bands))) = subst (λ k. At b rows m k) (sym (after_in f (band ∷ bands))) to in
      let before : Ended ends all (to_go m) = behind f at (stacks_in (band ∷ bands)) (stacks_more band bands are.0.some) (bands_take b w f (band ∷ bands) are) m to_all all left few in
      let tails : (k : ℕ) → l.height < x + d + (k + 1) * unit_in l.height → tail_at (tails_at levels mv.move.to l.class) k ≤ to_go m =
      λ k fits.
      under mv.move.to down g mv.at w bands are.1 narrow (omega (arith, narrow, fit.bound)) (omega (arith, whole, fit.height)) m to k
      (omega (arith, whole, fits, ap (λ n. (k + 1) * unit_in n) fit.height)) in
      let may : MayGoOn rows levels l n below ends mv.move x d w = record {
        to_go = to_go m;
        before = all;
        behind = more;
        down = down;
        here = before;
        tails = tails;
        within = here;
        rest = there;
        split = omega (arith, left, later);
        sum = omega (arith, whole);
        narrow = narrow;
        near = near;
      } in
      record { row = mv.move.to; down = down; at = mv.at; held = closed x w held mv.move mv.has d mv.fits may }

  -- all bands from a row below one
  bands_held : (below : ℕ) → ((n : ℕ) → n < below → BandsLead b rows n (bands_at levels n)) → ((n : ℕ) → n < below → EndsFrom b rows cover to_go n (ends_at levels n)) → TailsBelow b rows levels l.class l.bound to_go below →
      ((n : ℕ) → n < below → RowExtended rows levels l pool n) → (bands : List Band) (n : ℕ) (f : Front) (x : ℕ) → n < below → At b rows n f → AreBands b w f bands →
      x + bands_height bands ≡ l.height → (m : ℕ) → At b rows m (after_bands f bands) → w + to_go m ≤ l.most → HeldAt pool n x w → HeldAt pool m l.height w
  bands_held below leads ends under closed [] n f x lt at are whole m to near held =
      let same : n ≡ m = one_row b rows h n m f at to in
      subst (λ k. HeldAt pool k l.height w) same (subst (λ k. HeldAt pool n k w) (omega (arith, whole)) held)
  bands_held below leads ends under closed (band ∷ bands) n f x lt at are whole m to near held =
      let next : HeldBehind b rows pool n (after_cells f band.cells) (x + band.high) w =
      band_held n n (bands_at levels n) (ends_at levels n) (leads n lt) (λ f at stacks some. ends n lt f at stacks) (leads_down b rows h n)
      (λ k less. under k (omega (arith, less, lt))) (closed n lt) band bands f x at are whole m to near held in
      bands_held below leads ends under closed bands next.row (after_cells f band.cells) (x + band.high) (omega (arith, next.down, lt)) next.at are.1 (omega (arith, whole)) m to near next.held

-- each strip from the row is held where it ends
pub strips_held : (b : Problem) (rows : List FrontRow) → IsLattice b rows → (levels : List RowFacts) (l : Limits) (cover : ℕ) → Fitting b l cover → (to_go : ℕ → ℕ) (start below : ℕ) (moves : List Move) (ends : List End) → Ready b rows levels cover to_go start below moves ends →
    TailsBelow b rows levels l.class l.bound to_go below → (pool : List (List FrontLabel)) → ExtendedBy rows levels l pool start below moves ends → ((n : ℕ) → n < below → RowExtended rows levels l pool n) →
    (low : ℕ) → ((x w : ℕ) → (x ≡ 0) ⊎ (0 + b.params.waste ≤ x) → low ≤ w → HeldAt pool start x w) →
    (f : Front) → At b rows start f → (w : ℕ) (bands : List Band) → IsStrip b w f bands → low ≤ w → w ≤ l.bound → (m : ℕ) → At b rows m (after_bands f bands) → w + to_go m ≤ l.most → HeldAt pool m l.height w
strips_held b rows h levels l cover fit to_go start below moves ends r under pool own closed low begun f at w [] is wide narrow m to near = absurd (omega (arith, is.some))
strips_held b rows h levels l cover fit to_go start below moves ends r under pool own closed low begun f at w (band ∷ bands) is wide narrow m to near =
    let high : ℕ = bands_height (band ∷ bands) in
    let within : high ≤ b.params.height = gap_within b.params.waste high b.params.height is.fill in
    let none : (l.height - high ≡ 0) ⊎ (0 + b.params.waste ≤ l.height - high) =
    subst (λ k. (k - high ≡ 0) ⊎ (0 + b.params.waste ≤ k - high)) (sym fit.height) (gap_left b.params.waste high b.params.height is.fill) in
    let x : ℕ = l.height - high in
    let next : HeldBehind b rows pool below (after_cells f band.cells) (x + band.high) w =
    band_held b rows h levels l cover fit to_go pool w narrow start below moves ends r.lead r.behind r.beneath under own band bands f x at is.each (omega (arith, within, fit.height)) m to near (begun x w none wide) in
    bands_held b rows h levels l cover fit to_go pool w narrow below r.leads_below r.ends_below under closed bands next.row (after_cells f band.cells) (x + band.high) next.down next.at is.each.1 (omega (arith, within, fit.height)) m to near next.held

-- the row behind bands
pub bands_within_row : (b : Problem) (rows : List FrontRow) → IsLattice b rows → (f : Front) (n : ℕ) → At b rows n f → (w : ℕ) (bands : List Band) → AreBands b w f bands → (m : ℕ) → At b rows m (after_bands f bands) → m ≤ n
bands_within_row b rows h f n at w bands are m to =
    let p : Path b rows n (after_bands f bands) (bands_area b f bands) = bands_path b rows h w bands n f at are in
    omega (arith, p.down, one_row b rows h p.row m (after_bands f bands) p.at to)

pub bands_down : (b : Problem) (rows : List FrontRow) → IsLattice b rows → (f : Front) (n : ℕ) → At b rows n f → (w : ℕ) (bands : List Band) → 1 ≤ length bands → AreBands b w f bands → (m : ℕ) → At b rows m (after_bands f bands) → m < n
bands_down b rows h f n at w [] some are m to = absurd (omega (arith, some))
bands_down b rows h f n at w (band ∷ bands) some are m to =
    let p = cells_down b rows h band.high band.cells n f at are.0.stand in
    omega (arith, p.down, are.0.some, bands_within_row b rows h (after_cells f band.cells) p.row p.at w bands are.1 m to)

-- a strip leads down
pub strip_down : (b : Problem) (rows : List FrontRow) → IsLattice b rows → (f : Front) (n : ℕ) → At b rows n f → (w : ℕ) (bands : List Band) → IsStrip b w f bands → (m : ℕ) → At b rows m (after_bands f bands) → m < n
strip_down b rows h f n at w [] is m to = absurd (omega (arith, is.some))
strip_down b rows h f n at w (band ∷ bands) is m to =
    let p = cells_down b rows h band.high band.cells n f at is.each.0.stand in
    let q : Path b rows p.row (after_bands (after_cells f band.cells) bands) (bands_area b (after_cells f band.cells) bands) = bands_path b rows h w bands p.row (after_cells f band.cells) p.at is.each.1 in
    omega (arith, p.down, q.down, is.each.0.some, one_row b rows h q.row m (after_bands f (band ∷ bands)) q.at to)

-- and where it leads to from a row
pub strip_below : (b : Problem) (rows : List FrontRow) (n below : ℕ) → LeadsBelow b rows n below → (f : Front) → At b rows n f → (w : ℕ) (bands : List Band) → IsStrip b w f bands → (m : ℕ) → At b rows m (after_bands f bands) → m < below
strip_below b rows n below leads f at w [] is m to = absurd (omega (arith, is.some))
strip_below b rows n below leads f at w (band ∷ bands) is m to = bands_below b rows n below leads f at w band bands is.each m to
