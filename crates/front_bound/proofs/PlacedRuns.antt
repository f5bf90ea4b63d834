-- Strips whose items have places are held where they end.
use Rattle.std.proofs.Common.{◌≡◌, ℕ, zero, suc, ◌+◌, ◌*◌, ◌-◌, ◌<◌, ◌≤◌, ◌⊎◌, inl, inr, List, [], ◌∷◌, ◌++◌, length, get_or, refl, sym, ap, ◌∙◌, subst, arith, Contains, All, IsTrue, true}
use Rattle.std.proofs.Math.Nat.{mul-add, mul_comm}
use Rattle.std.proofs.lemmas.Bool.{cases_lt}
use Rattle.std.proofs.lemmas.Bool.Decides.{nat_tests}
use Rattle.std.proofs.lemmas.Nat.{mul-le}
use Rattle.std.proofs.lemmas.List.Elements.{All-contains, Contains-get_or}
use Rattle.glass_base.specs.declared.item.Defect.{Defect}
use Rattle.glass_base.specs.Defects.{hits, crosses_x}
use Rattle.glass_base.specs.Items.{IsDefectInRange}
use Rattle.glass_base.specs.Plates.{Before, Width}
use Rattle.glass_base.specs.Problem.{Problem}
use Rattle.plan_trace.specs.TraceRules.{Gap}
use Rattle.defect_map.specs.Queries.{HitsNone}
use Rattle.front_course.specs.Fronts.{Front, next}
use Rattle.front_course.specs.Cells.{Cell, pick_width, pick_height, CanStand, after_cell, cell_width, after_cells, cells_width, AllStand}
use Rattle.front_course.specs.Cells.Cell.{alone, pair}
use Rattle.front_course.specs.Strips.{Band, IsBand, after_bands, bands_height, AreBands}
use Rattle.front_course.specs.Places.{HasPlaces, CellPlaces, BandPlaces, IsClearLine}
use Rattle.front_bound.specs.declared.stretch.Stretch.{Stretch}
use Rattle.front_bound.specs.declared.stretch.Sought.{Sought}
use Rattle.front_table.specs.declared.labels.FrontLabel.{FrontLabel}
use Rattle.front_table.specs.declared.moves.Move.{Move}
use Rattle.front_table.specs.declared.rows.FrontRow.{FrontRow}
use Rattle.front_bound.specs.inner.Clear.{AreHoles, Avoids, Clear, LineClear, EndsPlaced}
use Rattle.front_table.specs.Ends.{Ended, after_items}
use Rattle.front_table.specs.Lattice.{At, area_at, moves_at, IsLattice}
use Rattle.front_table.specs.Leads.{cell_height, cells_area, Moved}
use Rattle.front_table.specs.Levels.{bands_at, ends_at}
use Rattle.front_bound.specs.inner.Placed.{CellsGoOn, CanJoin, CanGoOn, RunsJoined, MoveJoined, MovesExtended, IsSlack, Extended, RowPlaced}
use Rattle.front_table.specs.Pools.{row_at, HeldAt}
use Rattle.front_table.specs.Ready.{TailsBelow, ReadyFrom, Fitting}
use Rattle.front_table.specs.Tails.{unit_in}
use Rattle.front_table.specs.Sets.{Has, HeldTo}
use Rattle.front_bound.specs.Sides.{StripHeld, ClassGoesOn}
use Rattle.front_table.proofs.CellRuns.{gap_within, gap_left}
use Rattle.front_table.proofs.FrontRows.{one_row, CellMoved, cell_led}
use Rattle.front_table.proofs.HeldLists.{least_first}
use Rattle.front_bound.proofs.PlacedRows.{one_held}
use Rattle.front_table.proofs.StripRuns.{bands_area, bands_within, cells_within, bands_left, bands_take, behind_at, lead_at, stacks_in, stacks_more, after_in, strip_down}

pub contains_pushed : (xs : List Defect) (x y : Defect) → Contains (xs ++ x ∷ []) y → Contains xs y ⊎ (x ≡ y)
contains_pushed [] x y (zero, lt, is) = inr is
contains_pushed [] x y (suc k, lt, is) = absurd (omega (arith, lt))
contains_pushed (z ∷ xs) x y (zero, lt, is) = inl (0, omega arith, is)
contains_pushed (z ∷ xs) x y (suc k, lt, is) =
    elim (contains_pushed xs x y (k, omega (arith, lt), is)) [
      | inl old ↦ inl (suc old.0, omega (arith, old.1), old.2)
      | inr new ↦ inr new
    ]

pub holes_none : (b : Problem) (plate : ℕ) (holes : List Defect) → holes ≡ [] → AreHoles b plate holes
unfolding AreHoles
holes_none b plate holes none d has = absurd (omega (arith, has.1, ap length none))

-- one of an instance's defects, and lists of those of a plate
pub defect_at : (b : Problem) (xs : List Defect) (at : ℕ) (d : Defect) → xs ≡ b.defects → at < length xs → Contains b.defects (get_or xs at d)
defect_at b xs at d same lt = subst (λ l. Contains l (get_or xs at d)) same (Contains-get_or xs at d lt)

pub holes_more : (b : Problem) (plate : ℕ) (old new : List Defect) (e : Defect) → All IsDefectInRange b.defects → Contains b.defects e → AreHoles b plate old → ((d : Defect) → Contains new d → Contains old d ⊎ ((e ≡ d) × (plate ≡ e.plate))) → AreHoles b plate new
unfolding AreHoles
holes_more b plate old new e range has are more d in_new =
    elim (more d in_new) [
      | inl before ↦ are d before
      | inr own ↦
          let here : Contains b.defects d = subst (Contains b.defects) own.0 has in
          (here, own.1 ∙ ap (λ (e : Defect). e.plate) own.0, (All-contains IsDefectInRange b.defects d range here).2)
    ]

-- what meets no defect of the plate avoids each of these
hit_true : (plate x0 y0 x1 y1 : ℕ) (d : Defect) → plate ≡ d.plate → d.x0 < x1 → x0 < d.x1 → d.y0 < y1 → y0 < d.y1 → hits plate x0 y0 x1 y1 d ≡ true
hit_true plate x0 y0 x1 y1 d same a b e f = grind (arith, nat_tests)

avoids : (plate x0 y0 x1 y1 : ℕ) (d : Defect) → plate ≡ d.plate → (IsTrue (hits plate x0 y0 x1 y1 d) → ⊥) → Avoids d x0 y0 x1 y1
avoids plate x0 y0 x1 y1 d same none =
    elim (cases_lt d.x0 x1) [
      | inr before ↦ inl before
      | inl a ↦
          elim (cases_lt x0 d.x1) [
            | inr behind ↦ inr (inl behind)
            | inl c ↦
                elim (cases_lt d.y0 y1) [
                  | inr below ↦ inr (inr (inl below))
                  | inl e ↦
                      elim (cases_lt y0 d.y1) [
                        | inr above ↦ inr (inr (inr above))
                        | inl f ↦ absurd (none (hit_true plate x0 y0 x1 y1 d same a c e f))
                      ]
                ]
          ]
    ]

clear_of : (b : Problem) (plate : ℕ) (holes : List Defect) → AreHoles b plate holes → (x0 y0 x1 y1 : ℕ) → HitsNone b.defects plate x0 y0 x1 y1 → Clear holes x0 y0 x1 y1
unfolding AreHoles Clear
clear_of b plate holes are x0 y0 x1 y1 none d has = avoids plate x0 y0 x1 y1 d (are d has).1 (All-contains (λ d. ¬ IsTrue (hits plate x0 y0 x1 y1 d)) b.defects d none (are d has).0)

cross_true : (plate x y1 : ℕ) (d : Defect) → plate ≡ d.plate → d.x0 < x → x < d.x1 → d.y0 < y1 → 0 < d.y1 → crosses_x plate x 0 y1 d ≡ true
cross_true plate x y1 d same a b e f = grind (arith, nat_tests)

line_clear : (b : Problem) (plate : ℕ) (holes : List Defect) → AreHoles b plate holes → (x : ℕ) → IsClearLine b plate x → x < Width b plate → LineClear holes b.params.height x
unfolding AreHoles LineClear
line_clear b plate holes are x line within d has low top =
    elim (cases_lt d.x0 x) [
      | inr before ↦ inl before
      | inl a ↦
          elim (cases_lt x d.x1) [
            | inr behind ↦ inr behind
            | inl c ↦ absurd (All-contains (λ d. ¬ IsTrue (crosses_x plate x 0 b.params.height d)) b.defects d (line (omega (arith, a)) within) (are d has).0 (cross_true plate x b.params.height d (are d has).1 a c low top))
          ]
    ]

-- a smaller rectangle, and one over another
clear_within : (holes : List Defect) (x0 y0 x1 y1 a b : ℕ) → a ≤ x1 → b ≤ y1 → Clear holes x0 y0 x1 y1 → Clear holes x0 y0 a b
unfolding Clear
clear_within holes x0 y0 x1 y1 a b narrow low clear d has =
    elim (clear d has) [
      | inl before ↦ inl (omega (arith, before, narrow))
      | inr more ↦
          elim more [
            | inl behind ↦ inr (inl behind)
            | inr rest ↦
                elim rest [
                  | inl below ↦ inr (inr (inl (omega (arith, below, low))))
                  | inr above ↦ inr (inr (inr above))
                ]
          ]
    ]

clear_both : (b : Problem) (plate : ℕ) (holes : List Defect) → AreHoles b plate holes → (x0 y0 x1 mid y1 : ℕ) → Clear holes x0 y0 x1 mid → Clear holes x0 mid x1 y1 → Clear holes x0 y0 x1 y1
unfolding Clear AreHoles
clear_both b plate holes are x0 y0 x1 mid y1 under over d has =
    elim (under d has) [
      | inl before ↦ inl before
      | inr more ↦
          elim more [
            | inl behind ↦ inr (inl behind)
            | inr rest ↦
                elim rest [
                  | inr above ↦ inr (inr (inr above))
                  | inl below ↦
                      elim (over d has) [
                        | inl before ↦ inl before
                        | inr more ↦
                            elim more [
                              | inl behind ↦ inr (inl behind)
                              | inr rest ↦
                                  elim rest [
                                    | inl beyond ↦ inr (inr (inl beyond))
                                    | inr above ↦ absurd (omega (arith, above, below, (are d has).2))
                                  ]
                            ]
                      ]
                ]
          ]
    ]

-- places lie within what they lie in
cells_end : (b : Problem) (plate low top : ℕ) (f : Front) (from right : ℕ) (cells : List Cell) → CellPlaces b plate low top f from right cells → from ≤ right
cells_end b plate low top f from right [] gap = gap_within b.params.waste from right gap
cells_end b plate low top f from right (c ∷ cells) (left, gap, own, rest) =
    omega (arith, gap_within b.params.waste from left gap, cells_end b plate low top (after_cell f c) (left + cell_width b f c) right cells rest)

bands_end : (b : Problem) (plate left right : ℕ) (f : Front) (from : ℕ) (bands : List Band) → BandPlaces b plate left right f from bands → from + bands_height bands ≤ b.params.height
bands_end b plate left right f from [] gap = omega (arith, gap_within b.params.waste from b.params.height gap)
bands_end b plate left right f from (band ∷ bands) (low, gap, cells, rest) =
    omega (arith, gap_within b.params.waste from low gap, bands_end b plate left right (after_cells f band.cells) (low + band.high) bands rest)

-- where a cell's items lie, as one piece
record CellPlace (b : Problem) (holes : List Defect) (left low top : ℕ) (f : Front) (c : Cell) : Type 0 where
  bottom : ℕ
  above : low ≤ bottom
  within : bottom + cell_height b f c ≤ top
  clear : Clear holes left bottom (left + cell_width b f c) (bottom + cell_height b f c)

cell_place : (b : Problem) (plate : ℕ) (holes : List Defect) → AreHoles b plate holes → (left low high : ℕ) (f : Front) (c : Cell) → CanStand b high f c → HasPlaces b plate left low (low + high) f c → CellPlace b holes left low (low + high) f c
cell_place b plate holes are left low high f (alone p) can (bottom, above, within, none) = record {
  bottom = bottom;
  above = above;
  within = within;
  clear = clear_of b plate holes are left bottom (left + pick_width b f p) (bottom + pick_height b f p) none;
}
cell_place b plate holes are left low high f (pair p q) can ((bottom, above, within, none), (bottom2, above2, within2, none2)) =
    let h : ℕ = pick_height b f p in
    let h2 : ℕ = pick_height b (next f p.stack) q in
    let first : bottom ≡ low = omega (arith, above, within) in
    let second : bottom2 ≡ low + h = omega (arith, above2, within2, can.3) in
    let under : Clear holes left low (left + pick_width b f p) (low + h) = subst (λ k. Clear holes left k (left + pick_width b f p) (k + h)) first (clear_of b plate holes are left bottom (left + pick_width b f p) (bottom + h) none) in
    let over : Clear holes left (low + h) (left + pick_width b f p) (low + h + h2) =
    subst (λ w. Clear holes left (low + h) (left + w) (low + h + h2)) can.2
    (subst (λ k. Clear holes left k (left + pick_width b (next f p.stack) q) (k + h2)) second (clear_of b plate holes are left bottom2 (left + pick_width b (next f p.stack) q) (bottom2 + h2) none2)) in
    record {
      bottom = low;
      above = omega arith;
      within = omega (arith, can.3);
      clear = clear_within holes left low (left + pick_width b f p) (low + h + h2) (left + pick_width b f p) (low + (h + h2)) (omega arith) (omega arith) (clear_both b plate holes are left low (left + pick_width b f p) (low + h) (low + h + h2) under over);
    }

-- cells are held where they end
record CellsRan (b : Problem) (rows : List FrontRow) (cells : List (List FrontLabel)) (to : Front) (wide high right up : ℕ) : Type 0 where
  row : ℕ
  at : At b rows row to
  held : HeldTo (row_at cells row) wide high right up

-- cells in front of others leave no more than all of them
lean_left : (x r whole high after slack start more : ℕ) → x + r ≡ whole → more ≤ high * r → whole * high + after ≤ slack + start + more → x * high + after ≤ slack + start
lean_left x r whole high after slack start more sum within lean = omega (arith, mul-add high x r, ap (λ k. high * k) sum, mul_comm whole high, mul_comm x high, within, lean)

cells_ran : (b : Problem) (t : Stretch) → IsLattice b t.fronts.rows.now → (plate : ℕ) → AreHoles b plate t.holes.now → t.site.height ≡ b.params.height → t.site.waste ≡ b.params.waste → (s : Sought) (low high : ℕ) → s.low ≤ low → low + high ≤ b.params.height →
    (pool : List (List FrontLabel)) → ((n : ℕ) → n ≤ s.start → CellsGoOn t s pool n (moves_at t.fronts.rows.now n)) → (right : ℕ) → right ≤ t.site.room → (whole : ℕ) → whole ≤ t.site.widest → (cells : List Cell) (n : ℕ) (f : Front) (x from : ℕ) → n ≤ s.start →
    At b t.fronts.rows.now n f → AllStand b high f cells → CellPlaces b plate low (low + high) f from right cells → x + cells_width b f cells ≡ whole → whole * high + area_at t.fronts.rows.now n ≤ s.slack + area_at t.fronts.rows.now s.start + cells_area b f cells →
    ((next : ℕ) → Gap b.params.waste from next → HeldTo (row_at pool n) x high next (low + high)) → CellsRan b t.fronts.rows.now pool (after_cells f cells) whole high right (low + high)
unfolding CellsGoOn
cells_ran b t h plate are tall waste s low high above top pool goes right room whole widest [] n f x from le at stand gap sum lean held = record {
  row = n;
  at = at;
  held = subst (λ k. HeldTo (row_at pool n) k high right (low + high)) (omega (arith, sum)) (held right gap);
}
cells_ran b t h plate are tall waste s low high above top pool goes right room whole widest (c ∷ cells) n f x from le at stand (left, gap, own, rest) sum lean held =
    let w : ℕ = cell_width b f c in
    let e : Front = after_cell f c in
    let m : CellMoved b t.fronts.rows.now n f high c = cell_led b t.fronts.rows.now h n f at high c stand.0 in
    let p : CellPlace b t.holes.now left low (low + high) f c = cell_place b plate t.holes.now are left low high f c stand.0 own in
    let mv : Move = m.moved.move in
    let thin : mv.label.along.least ≤ w = least_first mv.label.along w m.moved.fits.0 in
    let end : left + w ≤ right = cells_end b plate low (low + high) e (left + w) right cells rest in
    let leaner : whole * high + area_at t.fronts.rows.now mv.to ≤ s.slack + area_at t.fronts.rows.now s.start + cells_area b e cells = omega (arith, lean, m.moved.left) in
    let can : CanJoin t s mv x w high left (low + high) p.bottom = record {
      wide = omega (arith, sum, widest);
      high = omega (arith, top, tall);
      tall = omega (arith, above);
      within = omega (arith, top, tall);
      above = omega (arith, above, p.above);
      below = omega (arith, m.low, p.within);
      room = omega (arith, end, room);
      clear = clear_within t.holes.now left p.bottom (left + w) (p.bottom + cell_height b f c) (left + mv.label.along.least) (p.bottom + mv.label.across.least) (omega (arith, thin)) (omega (arith, m.low)) p.clear;
      lean = lean_left (x + w) (cells_width b e cells) whole high (area_at t.fronts.rows.now mv.to) s.slack (area_at t.fronts.rows.now s.start) (cells_area b e cells) (omega (arith, sum)) (cells_within b high e cells stand.1) leaner;
    } in
    cells_ran b t h plate are tall waste s low high above top pool goes right room whole widest cells mv.to e (x + w) (left + w) (omega (arith, m.moved.down, le)) m.moved.at stand.1 rest (omega (arith, sum)) leaner
    (λ next behind. goes n le x high left (low + high) (held left gap) mv m.moved.has w p.bottom next m.moved.fits can (subst (λ k. Gap k (left + w) next) (sym waste) behind))

-- what a search around defects knows
pub record Searched (b : Problem) (t : Stretch) (plate : ℕ) (pool : List (List FrontLabel)) (start : ℕ) : Type 0 where
  pub are : AreHoles b plate t.holes.now
  pub height : t.site.height ≡ b.params.height
  pub least : t.site.least ≡ b.params.min2
  pub waste : t.site.waste ≡ b.params.waste
  pub widest : t.limits.bound ≤ t.site.widest
  pub bound : t.limits.bound ≤ t.limits.top
  pub placed : (n : ℕ) → n ≤ start → RowPlaced t pool n

-- a strip can begin at a place: where its first cells can
abbrev Begins : Problem → Stretch → ℕ → Type 0
Begins b t left = (next : ℕ) → Gap b.params.waste left next → Has t.site.left next

-- one band more
band_step : (b : Problem) (t : Stretch) → IsLattice b t.fronts.rows.now → (plate : ℕ) (pool : List (List FrontLabel)) (start : ℕ) → Searched b t plate pool start → (n : ℕ) (f : Front) → n ≤ start → At b t.fronts.rows.now n f → (w : ℕ) (band : Band) → IsBand b w f band →
    (mv : Moved b t.fronts.rows.now n (bands_at t.fronts.levels.now n) (after_cells f band.cells) band.high w (cells_area b f band.cells)) → w ≤ t.limits.bound → (left right low : ℕ) → Begins b t left → right ≤ t.site.room → low + band.high ≤ b.params.height →
    CellPlaces b plate low (low + band.high) f left right band.cells → CanGoOn t n mv.move.to band.high w right low → HeldTo (row_at pool n) low w right 0 → (next : ℕ) → Gap b.params.waste (low + band.high) next → HeldTo (row_at pool mv.move.to) next w right 0
unfolding RowPlaced HeldTo MovesExtended MoveJoined RunsJoined IsSlack
band_step b t h plate pool start s n f le at w band is mv narrow left right low begins room top cells can (label, (k, lt, same), stands) next behind =
    let gap : Gap t.site.waste (low + band.high) next = subst (λ k. Gap k (low + band.high) next) (sym s.waste) behind in
    elim (subst (λ (a : FrontLabel). Extended t pool n a) same (s.placed n le k label lt)) [
      | inl moves ↦ moves mv.move mv.has band.high w right low next stands mv.fits can gap
      | inr runs ↦
          let size : ℕ = cells_width b f band.cells in
          let within : size ≤ w = gap_within b.params.waste size w is.fill in
          let none : (w - size ≡ 0) ⊎ (0 + t.site.waste ≤ w - size) = subst (λ k. (w - size ≡ 0) ⊎ (0 + k ≤ w - size)) (sym s.waste) (gap_left b.params.waste size w is.fill) in
          let begun : (at : ℕ) → Gap b.params.waste left at → HeldTo (row_at runs.cells n) (w - size) band.high at (low + band.high) = λ at gap.
          subst (λ k. HeldTo (row_at runs.cells k) (w - size) band.high at (low + band.high)) runs.are.0 (runs.are.1.begun (w - size) band.high at (low + band.high) none (omega (arith, s.least, is.tall)) (begins at gap)) in
          let leaves : w * band.high ≤ t.limits.top * band.high = mul-le w band.high t.limits.top band.high (omega (arith, narrow, s.bound)) (omega arith) in
          let lean : w * band.high + area_at t.fronts.rows.now n ≤ runs.sought.slack + area_at t.fronts.rows.now runs.sought.start + cells_area b f band.cells =
          omega (arith, leaves, runs.slack mv.move.to band.high w right low stands can, mv.left, ap (area_at t.fronts.rows.now) runs.are.0) in
          let r : CellsRan b t.fronts.rows.now runs.cells (after_cells f band.cells) w band.high right (low + band.high) =
          cells_ran b t h plate s.are s.height s.waste runs.sought low band.high (omega (arith, runs.low, least_first label.along low stands.0.0)) top runs.cells runs.are.1.goes_on right room w (omega (arith, narrow, s.widest)) band.cells n f (w - size) left (omega (arith, runs.are.0)) at is.stand
          cells (omega (arith, within)) lean begun in
          let to : r.row ≡ mv.move.to = one_row b t.fronts.rows.now h r.row mv.move.to (after_cells f band.cells) r.at mv.at in
          runs.joined mv.move.to mv.down band.high w right low next stands (subst (λ k. HeldTo (row_at runs.cells k) w band.high right (low + band.high)) to r.held) can gap
    ]

bands_placed : (b : Problem) (t : Stretch) → IsLattice b t.fronts.rows.now → (cover : ℕ) → Fitting b t.limits cover → (to_go : ℕ → ℕ) (start : ℕ) → ReadyFrom b t.fronts.rows.now t.fronts.levels.now cover to_go start → TailsBelow b t.fronts.rows.now t.fronts.levels.now t.limits.class t.limits.bound to_go start → (plate : ℕ) (pool : List (List FrontLabel)) → Searched b t plate pool start →
    (w : ℕ) → w ≤ t.limits.bound → (left right : ℕ) → Begins b t left → right ≤ t.site.room → (bands : List Band) (n : ℕ) (f : Front) (from : ℕ) → n ≤ start → At b t.fronts.rows.now n f → AreBands b w f bands → BandPlaces b plate left right f from bands →
    (m : ℕ) → At b t.fronts.rows.now m (after_bands f bands) → w + to_go m ≤ t.limits.most → right + to_go m ≤ t.reach → ((low : ℕ) → Gap b.params.waste from low → HeldTo (row_at pool n) low w right 0) → HeldTo (row_at pool m) b.params.height w right 0
bands_placed b t h cover fit to_go start r under plate pool s w narrow left right begins room [] n f from le at are gap m to near reaches held =
    let same : n ≡ m = one_row b t.fronts.rows.now h n m f at to in
    subst (λ k. HeldTo (row_at pool k) b.params.height w right 0) same (held b.params.height gap)
bands_placed b t h cover fit to_go start r under plate pool s w narrow left right begins room (band ∷ bands) n f from le at are (low, gap, cells, rest) m to near reaches held =
    let rows : List FrontRow = t.fronts.rows.now in
    let e : Front = after_cells f band.cells in
    let d : ℕ = band.high in
    let tall : ℕ = t.limits.height in
    let top : low + d + bands_height bands ≤ b.params.height = bands_end b plate left right e (low + d) bands rest in
    let mv : Moved b rows n (bands_at t.fronts.levels.now n) e d w (cells_area b f band.cells) = lead_at b rows t.fronts.levels.now cover to_go start r n le f at w band (omega (arith, narrow, fit.bound)) (omega (arith, top)) are.0 in
    let all : ℕ = bands_area b f (band ∷ bands) in
    let more : ℕ = bands_area b e bands in
    let left_all : area_at rows n ≡ area_at rows m + all = bands_left b rows h w (band ∷ bands) n f at are m to in
    let left_more : area_at rows mv.move.to ≡ area_at rows m + more = bands_left b rows h w bands mv.move.to e mv.at are.1 m to in
    let here : all ≤ w * (tall - low) = omega (arith, bands_within b w f (band ∷ bands) are, mul-le w (bands_height (band ∷ bands)) w (tall - low) (omega arith) (omega (arith, top, fit.height))) in
    let there : more ≤ w * (tall - (low + d)) = omega (arith, bands_within b w e bands are.1, mul-le w (bands_height bands) w (tall - (low + d)) (omega arith) (omega (arith, top, fit.height))) in
    let few : all ≤ cover = omega (arith, here, mul-le w (tall - low) t.limits.bound tall narrow (omega arith), fit.covered) in
    let to_all : At b rows m (after_items f (stacks_in (band ∷ bands))) = subst (λ k. At b rows m k) (sym (after_in f (band ∷ bands))) to in
    let to_more : At b rows m (after_items e (stacks_in bands)) = subst (λ k. At b rows m k) (sym (after_in e bands)) to in
    let before : Ended (ends_at t.fronts.levels.now n) all (to_go m) = behind_at b rows t.fronts.levels.now cover to_go start r n le f at (stacks_in (band ∷ bands)) (stacks_more band bands are.0.some) (bands_take b w f (band ∷ bands) are) m to_all all left_all few in
    let behind : Ended (ends_at t.fronts.levels.now mv.move.to) more (to_go m) = r.ends_below mv.move.to (omega (arith, mv.down, le)) e mv.at (stacks_in bands) (bands_take b w e bands are.1) m to_more more left_more (omega (arith, few)) in
    let can : CanGoOn t n mv.move.to d w right low = record {
      end = record {
        area = more;
        far = to_go m;
        narrow = narrow;
        top = omega (arith, top, fit.height);
        ends = behind;
        within = there;
        tails = λ k fits.
            under mv.move.to (omega (arith, mv.down, le)) e mv.at w bands are.1 narrow (omega (arith, narrow, fit.bound)) (omega (arith, top)) m to k
            (omega (arith, top, fits, fit.height, ap (λ n. (k + 1) * unit_in n) fit.height));
        near = near;
        reaches = reaches;
      };
      down = mv.down;
      area = all;
      here = before;
      within = here;
      split = omega (arith, left_all, left_more);
    } in
    bands_placed b t h cover fit to_go start r under plate pool s w narrow left right begins room bands mv.move.to e (low + d) (omega (arith, mv.down, le)) mv.at are.1 rest m to near reaches
    (band_step b t h plate pool start s n f le at w band are.0 mv narrow left right low begins room (omega (arith, top)) cells can (held low gap))

-- a gap behind a gap is one
gap_on : (waste from mid to : ℕ) → Gap waste from mid → Gap waste mid to → Gap waste from to
gap_on waste from mid to (inl none) (inl also) = inl (none ∙ also)
gap_on waste from mid to (inl none) (inr some) = inr (omega (arith, none, some))
gap_on waste from mid to (inr some) behind = inr (omega (arith, some, gap_within waste mid to behind))

-- where a strip of this width begins that ends at `right`, behind what ends at `from`
gap_before : (waste from w right : ℕ) → Gap waste (from + w) right → Gap waste from (right - w)
gap_before waste from w right (inl none) = inl (omega (arith, none))
gap_before waste from w right (inr some) = inr (omega (arith, some))

-- strips that begin behind one of a plate are held where they end
pub placed_goes_on : (b : Problem) (t : Stretch) → IsLattice b t.fronts.rows.now → (cover : ℕ) → Fitting b t.limits cover → (to_go : ℕ → ℕ) (start : ℕ) → ReadyFrom b t.fronts.rows.now t.fronts.levels.now cover to_go start → TailsBelow b t.fronts.rows.now t.fronts.levels.now t.limits.class t.limits.bound to_go start → (plate : ℕ) (pool : List (List FrontLabel)) → Searched b t plate pool start →
    (low : ℕ) → ((at left w : ℕ) → Gap t.site.waste 0 at → low ≤ w → Has t.site.left left → HeldTo (row_at pool start) at w (left + w) 0) → (holes : List Defect) → AreHoles b plate holes → (most : ℕ) (sides : List (List FrontLabel)) (begin : FrontLabel) (top room most_left : ℕ) →
    ((x y : ℕ) → Has begin.along x → Gap b.params.waste x y → Has t.site.left y) → t.site.room ≡ Width b plate → most ≤ Before b plate + t.reach → t.reach ≤ t.site.left.least + t.limits.most → ((w : ℕ) → w ≤ top → w ≤ b.params.max1 → w ≤ room → t.site.left.least + w ≤ Width b plate → w ≤ t.limits.bound) →
    ((m : ℕ) → m < start → EndsPlaced b holes (to_go m) most sides m plate t.site.left (row_at pool m)) → ClassGoesOn b t.fronts.rows.now to_go most sides start (begin ∷ []) plate low top room most_left
unfolding ClassGoesOn StripHeld EndsPlaced
placed_goes_on b t h cover fit to_go start r under plate pool s low begun holes are most sides begin top room most_left gaps width reaches tight bound ends f at from held w bands is wide narrow fits m to near right placed gap within close =
    let sum : from + w ≤ right = gap_within b.params.waste (from + w) right gap in
    let left : ℕ = right - w in
    let whole : left + w ≡ right = omega (arith, sum) in
    let here : Has begin.along from = (one_held begin from plate held).0 in
    let begins : Begins b t left = λ next behind. gaps from next here (gap_on b.params.waste from left next (gap_before b.params.waste from w right gap) behind) in
    let has : Has t.site.left left = begins left (inl refl) in
    let least : t.site.left.least ≤ left = least_first t.site.left left has in
    let strip : HeldTo (row_at pool m) b.params.height w (left + w) 0 =
    subst (λ k. HeldTo (row_at pool m) b.params.height w k 0) (sym whole)
    (bands_placed b t h cover fit to_go start r under plate pool s w (bound w narrow is.narrow fits (omega (arith, least, whole, within))) left right begins (omega (arith, width, within)) bands start f 0 (omega arith) at is.each placed.places
    m to (omega (arith, close, reaches, tight, least, whole)) (omega (arith, close, reaches))
    (λ low gap. subst (λ k. HeldTo (row_at pool start) low w k 0) whole (begun low left w (subst (λ k. Gap k 0 low) (sym s.waste) gap) wide has))) in
    subst (λ k. HeldAt sides m k plate) whole
    (ends m (strip_down b t.fronts.rows.now h f start at w bands is m to) left w has strip (omega (arith, whole, within))
    (λ inside. subst (λ k. LineClear holes b.params.height k) (sym whole) (line_clear b plate holes are right placed.end (omega (arith, inside, whole)))) (omega (arith, close, whole)))
