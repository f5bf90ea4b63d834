-- Places around defects, and labels that reach so far: what was joined stays so.
use Rattle.std.proofs.Common.{◌≡◌, ℕ, zero, suc, ◌+◌, ◌*◌, ◌-◌, ◌<◌, ◌≤◌, ◌⊎◌, inl, inr, List, [], ◌∷◌, ◌++◌, length, get_or, refl, sym, ap, ◌∙◌, subst, arith, All, Contains, slice_get}
use Rattle.std.proofs.lemmas.Nat.{mul-le}
use Rattle.std.proofs.lemmas.List.Elements.{All-contains, Contains-append_left, Contains-push}
use Rattle.glass_base.specs.declared.item.Defect.{Defect}
use Rattle.glass_base.specs.Plates.{Before, Width}
use Rattle.glass_base.specs.Problem.{Problem}
use Rattle.plan_trace.specs.TraceRules.{Gap}
use Rattle.front_bound.specs.declared.stretch.Stretch.{Stretch}
use Rattle.front_bound.specs.declared.stretch.Sought.{Sought}
use Rattle.front_table.specs.declared.labels.FrontLabel.{FrontLabel}
use Rattle.front_table.specs.declared.moves.Move.{Move}
use Rattle.front_table.specs.declared.sets.SizeSet.{SizeSet}
use Rattle.front_bound.specs.declared.places.PieceToPlace.{PieceToPlace}
use Rattle.front_bound.specs.declared.places.Corner.{Corner}
use Rattle.front_bound.specs.inner.Clear.{Clear, LineClear, Meets, IsFree, Covered, EndsPlaced}
use Rattle.front_table.specs.Lattice.{area_at}
use Rattle.front_table.specs.Levels.{bands_at}
use Rattle.front_table.specs.Widths.{waste_of}
use Rattle.front_bound.specs.inner.Placed.{CellJoined, CellsGoOn, CanGoOn, RunJoined, RunsJoined, MoveJoined, WasteJoined, IsSlack, NoneGoesOn, MovesExtended, Extended, RowPlaced}
use Rattle.front_table.specs.Pools.{row_at, HeldAt, Spreads}
use Rattle.front_table.specs.Sets.{Has, Fits, Held, HeldTo, Stands}
use Rattle.front_table.proofs.Each.{contained_each}
use Rattle.front_table.proofs.HeldLists.{least_first, held_none}
use Rattle.front_table.proofs.PoolRows.{kept_at}
use Rattle.front_table.proofs.StripTries.{less_glass, least_waste}

-- a list of places
pub covered_push_old : (places : List Corner) (p : Corner) (left low : ℕ) → Covered places left low → Covered (places ++ p ∷ []) left low
unfolding Covered
covered_push_old places p left low (q, has, x, y) = (q, Contains-append_left places (p ∷ []) q has, x, y)

pub covered_push_new : (places : List Corner) (p : Corner) (left low : ℕ) → p.x ≤ left → p.y ≤ low → Covered (places ++ p ∷ []) left low
unfolding Covered
covered_push_new places p left low x y = (p, Contains-push places p, x, y)

pub covered_each : (places : List Corner) (Q : ℕ → ℕ → Type 0) → ((k : ℕ) (d : Corner) → k < length places → (left low : ℕ) → (get_or places k d).x ≤ left → (get_or places k d).y ≤ low → Q left low) → (left low : ℕ) → Covered places left low → Q left low
unfolding Covered
covered_each places Q each left low (p, (k, lt, is), x, y) =
    each k p lt left low (subst (λ (p : Corner). p.x ≤ left) (sym is) x) (subst (λ (p : Corner). p.y ≤ low) (sym is) y)

-- a piece that meets no defect lies behind each that is met where it is looked for, or above it
pub behind_or_above : (holes : List Defect) (piece : PieceToPlace) (at : Corner) (d : Defect) (left low : ℕ) → Contains holes d → Meets d piece at → at.x ≤ left → at.y ≤ low → IsFree holes piece left low → (d.x1 ≤ left) ⊎ (d.y1 ≤ low)
unfolding Clear
behind_or_above holes piece at d left low has meets x y free =
    elim (free.clear d has) [
      | inl before ↦ absurd (omega (arith, before, meets.left, x))
      | inr behind ↦
          elim behind [
            | inl right ↦ inl right
            | inr beyond ↦
                elim beyond [
                  | inl below ↦ absurd (omega (arith, below, meets.low, y))
                  | inr above ↦ inr above
                ]
          ]
    ]

-- cells
module _ (t : Stretch) (s : Sought) where
  pub cell_joined_kept : (from : ℕ) (old new : List (List FrontLabel)) (l : FrontLabel) (m : Move) → Spreads from old new → CellJoined t s old l m → CellJoined t s new l m
  unfolding CellJoined
  cell_joined_kept from old new l m spreads joined x w y left top bottom next own fits can gap = spreads.kept m.to (x + w) y next top (joined x w y left top bottom next own fits can gap)

  pub cells_kept : (from : ℕ) (old new : List (List FrontLabel)) (n : ℕ) (moves : List Move) → Spreads from old new → from ≤ n → CellsGoOn t s old n moves → CellsGoOn t s new n moves
  unfolding CellsGoOn
  cells_kept from old new n moves spreads le goes x y left top held m has w bottom next fits can gap =
      spreads.kept m.to (x + w) y next top (goes x y left top (subst (λ l. HeldTo l x y left top) (spreads.same n le) held) m has w bottom next fits can gap)

  pub cells_go_on : (pool : List (List FrontLabel)) (n : ℕ) (moves : List Move) → ((k : ℕ) (d : FrontLabel) → k < length (row_at pool n) → All (CellJoined t s pool (get_or (row_at pool n) k d)) moves) → CellsGoOn t s pool n moves
  unfolding CellsGoOn CellJoined HeldTo
  cells_go_on pool n moves each x y left top (l, (k, lt, is), stands) m has w bottom next fits can gap =
      let all : All (CellJoined t s pool l) moves = subst (λ (l : FrontLabel). All (CellJoined t s pool l) moves) is (each k l lt) in
      All-contains (CellJoined t s pool l) moves m all has x w y left top bottom next stands fits can gap

  -- where no label leads to the row
  pub cells_none : (pool : List (List FrontLabel)) (n : ℕ) (moves : List Move) → row_at pool n ≡ [] → CellsGoOn t s pool n moves
  unfolding CellsGoOn
  cells_none pool n moves none x y left top held m has w bottom next fits can gap = absurd (held_none (row_at pool n) x y left top none held)

-- bands
module _ (t : Stretch) (from : ℕ) (old new : List (List FrontLabel)) (s : Spreads from old new) where
  pub run_kept : (n : ℕ) (label : FrontLabel) (to : ℕ) (cells : FrontLabel) → RunJoined t old n label to cells → RunJoined t new n label to cells
  unfolding RunJoined
  run_kept n label to cells joined d w right low next own run can gap = s.kept to next w right 0 (joined d w right low next own run can gap)

  pub runs_kept : (n : ℕ) (label : FrontLabel) (to : ℕ) (runs : List FrontLabel) → RunsJoined t old n label to runs → RunsJoined t new n label to runs
  unfolding RunsJoined
  runs_kept n label to runs joined d w right low next own held can gap = s.kept to next w right 0 (joined d w right low next own held can gap)

  pub move_kept : (n : ℕ) (label : FrontLabel) (m : Move) → MoveJoined t old n label m → MoveJoined t new n label m
  unfolding MoveJoined
  move_kept n label m joined d w right low next own fits can gap = s.kept m.to next w right 0 (joined d w right low next own fits can gap)

  pub waste_kept : (n : ℕ) (label : FrontLabel) (slack : ℕ) (m : Move) → WasteJoined t old n label slack m → WasteJoined t new n label slack m
  unfolding WasteJoined
  waste_kept n label slack m joined low = move_kept n label m (joined low)

  pub extended_kept : (n : ℕ) (label : FrontLabel) → Extended t old n label → Extended t new n label
  unfolding MovesExtended
  extended_kept n label (inl moves) = inl (λ m has. move_kept n label m (moves m has))
  extended_kept n label (inr runs) = inr (record { sought = runs.sought; cells = runs.cells; are = runs.are; low = runs.low; slack = runs.slack; joined = λ to lt. runs_kept n label to (row_at runs.cells to) (runs.joined to lt) })

  pub placed_kept : (n : ℕ) → from ≤ n → RowPlaced t old n → RowPlaced t new n
  unfolding RowPlaced
  placed_kept n le placed =
      subst (λ row. (k : ℕ) (d : FrontLabel) → k < length row → Extended t new n (get_or row k d)) (sym (s.same n le)) (λ k d lt. extended_kept n (get_or (row_at old n) k d) (placed k d lt))

module _ (t : Stretch) (pool : List (List FrontLabel)) (n : ℕ) where
  pub runs_joined : (label : FrontLabel) (to : ℕ) (runs : List FrontLabel) → ((k : ℕ) (d : FrontLabel) → k < length runs → RunJoined t pool n label to (get_or runs k d)) → RunsJoined t pool n label to runs
  unfolding RunsJoined RunJoined HeldTo
  runs_joined label to runs each d w right low next own (cells, has, stands) can gap = contained_each (λ (cells : FrontLabel). RunJoined t pool n label to cells) runs each cells has d w right low next own stands can gap

  pub runs_none : (label : FrontLabel) (to : ℕ) (runs : List FrontLabel) → runs ≡ [] → RunsJoined t pool n label to runs
  unfolding RunsJoined
  runs_none label to runs none d w right low next own held can gap = absurd (held_none runs w d right (low + d) none held)

  -- where no band goes on
  pub none_extended : (label : FrontLabel) → NoneGoesOn t n label → Extended t pool n label
  unfolding NoneGoesOn MovesExtended MoveJoined
  none_extended label none = inl (λ m has d w right low next own fits can gap. absurd (none m.to d w right low own can))

  pub row_none : row_at pool n ≡ [] → RowPlaced t pool n
  unfolding RowPlaced
  row_none none k d lt = absurd (omega (arith, lt, ap length none))

  -- each band goes on, or leaves more than it may
  pub all_joined : (label : FrontLabel) (slack : ℕ) → t.limits.bound ≤ t.limits.top → IsSlack t n label slack →
      ((m : Move) → Contains (bands_at t.fronts.levels.now n) m → m.label.across.least ≤ t.limits.top → WasteJoined t pool n label slack m) → Extended t pool n label
  unfolding MovesExtended WasteJoined MoveJoined IsSlack
  all_joined label slack bound most joined = inl (λ m has d w right low next own fits can gap.
      let narrow : m.label.across.least ≤ t.limits.top = omega (arith, least_first m.label.across w fits.1, can.end.narrow, bound) in
      let less : t.limits.top * m.label.along.least ≤ t.limits.top * d = mul-le t.limits.top m.label.along.least t.limits.top d (omega arith) (least_first m.label.along d fits.0) in
      let waste : waste_of t.fronts.rows.now n t.limits.top m ≤ slack = omega (arith, less, most m.to d w right low own can) in
      joined m has narrow waste d w right low next own fits can gap)

-- how much a band may leave
pub slack_more : (t : Stretch) (n : ℕ) (label : FrontLabel) (slack more : ℕ) → slack ≤ more → IsSlack t n label slack → IsSlack t n label more
unfolding IsSlack
slack_more t n label slack more le is to d w right low own can = omega (arith, is to d w right low own can, le)

pub can_leave : (t : Stretch) (n to d w right low area least : ℕ) → t.limits.bound ≤ t.limits.top → least ≤ low → (can : CanGoOn t n to d w right low) → area ≤ can.area →
    t.limits.top * d - (area_at t.fronts.rows.now n - area_at t.fronts.rows.now to) ≤ t.limits.top * (t.limits.height - least) - area
can_leave t n to d w right low area least bound below can more =
    least_waste t.limits.top w t.limits.height low d least d area (area_at t.fronts.rows.now n - area_at t.fronts.rows.now to) can.area can.end.area (omega (arith, can.end.narrow, bound)) below (omega arith) can.end.top more can.split can.end.within

pub can_hold : (t : Stretch) (n to d w right low least : ℕ) → t.limits.bound ≤ t.limits.top → least ≤ low → (can : CanGoOn t n to d w right low) → can.area ≤ t.limits.top * (t.limits.height - least)
can_hold t n to d w right low least bound below can = omega (arith, can.within, less_glass w t.limits.top t.limits.height low least (omega (arith, can.end.narrow, bound)) below)

-- where the first band begins: below all of the plate, or a gap above that
pub first_gap : (waste at : ℕ) → Gap waste 0 at → (at ≡ 0) ⊎ (0 + waste ≤ at)
first_gap waste at (inl none) = inl (sym none)
first_gap waste at (inr some) = inr some

-- right sides
pub one_stands : (strip : FrontLabel) (x y right up : ℕ) → HeldTo (strip ∷ []) x y right up → Stands strip x y right up
unfolding HeldTo
one_stands strip x y right up (l, (zero, lt, is), stands) = subst (λ (l : FrontLabel). Stands l x y right up) (sym is) stands
one_stands strip x y right up (l, (suc k, lt, is), stands) = absurd (omega (arith, lt))

module _ (b : Problem) (holes : List Defect) (far most : ℕ) where
  pub ends_placed_kept : (g : ℕ) (old new : List (List FrontLabel)) (m plate : ℕ) (begin : SizeSet) (strips : List FrontLabel) → Spreads g old new → EndsPlaced b holes far most old m plate begin strips → EndsPlaced b holes far most new m plate begin strips
  unfolding EndsPlaced
  ends_placed_kept g old new m plate begin strips s placed left width from held within line near = kept_at g old new s m (left + width) plate (placed left width from held within line near)

  module _ (sides : List (List FrontLabel)) (m plate : ℕ) (begin : SizeSet) where
    pub ends_of_each : (strips : List FrontLabel) → ((k : ℕ) (d : FrontLabel) → k < length strips → EndsPlaced b holes far most sides m plate begin (get_or strips k d ∷ [])) → EndsPlaced b holes far most sides m plate begin strips
    unfolding EndsPlaced HeldTo
    ends_of_each strips each left width from (strip, has, stands) within line near =
        contained_each (λ (strip : FrontLabel). EndsPlaced b holes far most sides m plate begin (strip ∷ [])) strips each strip has left width from (strip, (0, omega arith, refl), stands) within line near

    pub ends_empty : (strips : List FrontLabel) → strips ≡ [] → EndsPlaced b holes far most sides m plate begin strips
    unfolding EndsPlaced
    ends_empty strips none left width from held within line near = absurd (held_none strips b.params.height width (left + width) 0 none held)

    -- where each right side of the strips of one label is
    pub ends_from : (strip : FrontLabel) → ((left width : ℕ) → Has begin left → Stands strip b.params.height width (left + width) 0 → left + width ≤ Width b plate → (left + width < Width b plate → LineClear holes b.params.height (left + width)) → Before b plate + (left + width) + far ≤ most → HeldAt sides m (left + width) plate) →
        EndsPlaced b holes far most sides m plate begin (strip ∷ [])
    unfolding EndsPlaced
    ends_from strip each left width from held within line near = each left width from (one_stands strip b.params.height width (left + width) 0 held) within line near

pub one_held : (label : FrontLabel) (x y : ℕ) → Held (label ∷ []) x y → Fits label x y
unfolding Held
one_held label x y (l, (zero, lt, is), fits) = subst (λ (l : FrontLabel). Fits l x y) (sym is) fits
one_held label x y (l, (suc k, lt, is), fits) = absurd (omega (arith, lt))
