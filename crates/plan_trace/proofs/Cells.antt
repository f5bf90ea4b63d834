-- The cells of a band, and the leaves of a cell: their items keep the rules.
use Rattle.std.proofs.Common.{◌≡◌, ℕ, zero, suc, ◌+◌, ◌-◌, ◌<◌, ◌≤◌, ◌&&◌, inl, inr, List, [], ◌∷◌, ◌++◌, refl, sym, ◌∙◌, subst, append_assoc, add-zero, arith, Bool, true, false, IsTrue, Option, Some, All}
use Rattle.std.specs.Prelude.{IfSome}
use Rattle.glass_base.specs.Plates.{Width}
use Rattle.glass_base.specs.Problem.{Problem}
use Rattle.cut_model.specs.declared.family.Sort.{Sort}
use Rattle.cut_model.specs.declared.family.Along.{Along}
use Rattle.cut_model.specs.declared.family.Area.{Area}
use Rattle.cut_model.specs.declared.steps.Step.{Step}
use Rattle.cut_model.specs.Families.{families}
use Rattle.cut_model.specs.Order.{item_with}
use Rattle.cut_model.specs.Rules.{KeepsCutRules}
use Rattle.cut_model.specs.Tree.{Forest, nothing, piece, is_nothing, count, total_size, holds_item}
use Rattle.cut_model.specs.Traces.{Sides, next_kind, step_of, steps_in}
use Rattle.cut_model.proofs.Cutting.{items_in}
use Rattle.loss_area.proofs.Areas.{hold_of}
use Rattle.cut_model.proofs.TracesTold.{next_append, next_same}
use Rattle.defect_map.specs.Queries.{HitsNone, CrossesNoneX, CrossesNoneY}
use Rattle.plan_trace.specs.Marks.{Level, Over, level_of, Draw, Cut}
use Rattle.plan_trace.specs.inner.Shape.{AreLeaves, AreCells}
use Rattle.plan_trace.specs.TraceRules.{Gap, is_last_strip, is_last_band, is_last_cell}
use Rattle.plan_trace.proofs.Ahead.{levels_of, AreBroad, Passes, passes, ahead, gap_more, next_some}
use Rattle.plan_trace.proofs.Placing.{Meeting, Due, Follows, Now, OnPlate, InStrip, Behind, Turns, item_meets, over_meets}

-- a place on a plate whose pieces lie side by side, and one whose pieces lie one over the other
abbrev pub area_x : ℕ → ℕ → Option ℕ → ℕ → ℕ → ℕ → ℕ → Bool → Area
area_x plate cut parent x y width height last =
    record { plate = plate; cut = cut; along = Along.X; parent = parent; x = x; y = y; width = width; height = height; last = last }

abbrev pub area_y : ℕ → ℕ → Option ℕ → ℕ → ℕ → ℕ → ℕ → Bool → Area
area_y plate cut parent x y width height last =
    record { plate = plate; cut = cut; along = Along.Y; parent = parent; x = x; y = y; width = width; height = height; last = last }

-- the border before the next piece, where one is left
pub border_x : (b : Problem) (plate cut : ℕ) (parent : Option ℕ) (x y width height : ℕ) (last : Bool) (node : ℕ) (forest : Forest) (end : ℕ) →
    All (KeepsCutRules b) (families (area_x plate cut parent x y width height last) false node forest) → x + total_size forest ≡ end → 0 < height → x < end →
    CrossesNoneX b.defects plate x y (y + height)
border_x b plate cut parent x y width height last node nothing end keeps total high lt = absurd (omega (arith, total, lt))
border_x b plate cut parent x y width height last node (piece size sort inner later) end keeps total high lt =
    (hold_of (KeepsCutRules b) (area_x plate cut parent x y width height last) false node size sort inner later keeps).here.l8 refl high

pub border_y : (b : Problem) (plate cut : ℕ) (parent : Option ℕ) (x y width height : ℕ) (last : Bool) (node : ℕ) (forest : Forest) (end : ℕ) →
    All (KeepsCutRules b) (families (area_y plate cut parent x y width height last) false node forest) → y + total_size forest ≡ end → 0 < width → y < end →
    CrossesNoneY b.defects plate y x (x + width)
border_y b plate cut parent x y width height last node nothing end keeps total wide lt = absurd (omega (arith, total, lt))
border_y b plate cut parent x y width height last node (piece size sort inner later) end keeps total wide lt =
    (hold_of (KeepsCutRules b) (area_y plate cut parent x y width height last) false node size sort inner later keeps).here.l8 refl wide

-- the cases of a cell that is cut: two items, or an item with a waste above or below
pub leaf_cases : (P : Forest → Type 0) →
    ((low number high other : ℕ) → P (piece low (Sort.Item number) nothing (piece high (Sort.Item other) nothing nothing))) →
    ((low number high : ℕ) → P (piece low (Sort.Item number) nothing (piece high Sort.Waste nothing nothing))) →
    ((low high number : ℕ) → P (piece low Sort.Waste nothing (piece high (Sort.Item number) nothing nothing))) →
    (inner : Forest) → AreLeaves inner → holds_item inner ≡ true → P inner
leaf_cases P both under over nothing shape some = absurd shape
leaf_cases P both under over (piece low s i nothing) shape some = absurd shape
leaf_cases P both under over (piece low s i (piece high t j (piece n u k l))) shape some = absurd shape
leaf_cases P both under over (piece low (Sort.Item number) i (piece high (Sort.Item other) j nothing)) shape some = rw (shape.0, shape.1) (both low number high other)
leaf_cases P both under over (piece low (Sort.Item number) i (piece high Sort.Waste j nothing)) shape some = rw (shape.0, shape.1) (under low number high)
leaf_cases P both under over (piece low Sort.Waste i (piece high (Sort.Item number) j nothing)) shape some = rw (shape.0, shape.1) (over low high number)
leaf_cases P both under over (piece low Sort.Waste i (piece high Sort.Waste j nothing)) shape some = cc
leaf_cases P both under over (piece low (Sort.Item number) i (piece high Sort.Branch j nothing)) shape some = absurd shape.1
leaf_cases P both under over (piece low (Sort.Item number) i (piece high Sort.Residual j nothing)) shape some = absurd shape.1
leaf_cases P both under over (piece low Sort.Waste i (piece high Sort.Branch j nothing)) shape some = absurd shape.1
leaf_cases P both under over (piece low Sort.Waste i (piece high Sort.Residual j nothing)) shape some = absurd shape.1
leaf_cases P both under over (piece low Sort.Branch i (piece high t j nothing)) shape some = absurd shape.0
leaf_cases P both under over (piece low Sort.Residual i (piece high t j nothing)) shape some = absurd shape.0

-- the band of the cells, in its strip on its plate
pub record InBand (b : Problem) (plate left wide low tall : ℕ) : Type 0 where
  pub few : plate < b.params.plates
  pub strip : OnPlate b plate left (left + wide)
  pub band : InStrip b plate left (left + wide) low (low + tall)

abbrev pub band_sides : ℕ → ℕ → ℕ → ℕ → Sides
band_sides left wide low tall = record { width = wide; a = left; b = left + wide; c = low; d = low + tall; e = left }

abbrev pub cell_sides : ℕ → ℕ → ℕ → ℕ → ℕ → ℕ → Sides
cell_sides left wide low tall at size = record { width = size; a = left; b = left + wide; c = low; d = low + tall; e = at }

-- what the later steps tell of the strip and the band
pub record Closing (b : Problem) (plate left wide low tall : ℕ) (later : List Level) : Type 0 where
  pub strip : IsTrue (is_last_strip true later) → Gap b.params.waste (left + wide) (Width b plate)
  pub band : IsTrue (is_last_band true later) → Gap b.params.waste (low + tall) b.params.height

-- the borders of a cell
pub record CellClear (b : Problem) (plate left wide low tall at size : ℕ) : Type 0 where
  pub at_e : left < at → CrossesNoneX b.defects plate at low (low + tall)
  pub at_end : at + size < left + wide → CrossesNoneX b.defects plate (at + size) low (low + tall)

-- the state behind a cell
pub now_behind : (b : Problem) (r : Sides) (lift plate h : ℕ) (before : List Draw) (t : Cut) (numbers : List ℕ) → Behind b r lift plate h before t numbers →
    Now b 3 plate r.a r.b r.c r.d (r.e + r.width) before t numbers
now_behind b r lift plate h before t numbers x = record {
  begun = x.begun 3;
  follows = (x.plates_is, x.a_is, x.b_is, x.c_is, x.d_is, inl (omega (arith, x.e_is, x.cell_is)));
  due = x.due;
}

-- an item that is cut from a band as a whole cell
pub cell_meets : (b : Problem) (plate left wide low tall : ℕ) → InBand b plate left wide low tall → (at size number : ℕ) → CellClear b plate left wide low tall at size →
    IfSome (item_with b.items number) (Turns size tall) → (0 < size → 0 < tall → HitsNone b.defects plate at low (at + size) (low + tall)) →
    (kind : ℕ) (before : List Draw) (m : Level) (t : Cut) (numbers : List ℕ) (follow : List Step) → Now b kind plate left (left + wide) low (low + tall) at before t (number ∷ numbers) →
    Closing b plate left wide low tall (levels_of follow) → (IsTrue (is_last_cell true (levels_of follow)) → Gap b.params.waste (at + size) (left + wide)) →
    ((next : List Draw) (m' : Level) (s : Cut) → Now b 3 plate left (left + wide) low (low + tall) (at + size) next s numbers → Meeting b next m' s follow) →
    Meeting b before m t (step_of b (cell_sides left wide low tall at size) kind 0 number ∷ follow)
cell_meets b plate left wide low tall i at size number clear sides sound kind before m t numbers follow now closing last rest =
    let r : Sides = cell_sides left wide low tall at size in
    item_meets b r kind 0 number plate tall before m t numbers follow now sides (record {
      few = i.few;
      strip = i.strip;
      band = i.band;
      lifted = omega arith;
      at_e = clear.at_e;
      at_end = clear.at_end;
      line = λ _ above. absurd (omega (arith, above));
      sound = sound;
      last_strip = closing.strip;
      last_band = closing.band;
      last_cell = last;
      alone = λ _. inl refl;
    }) (λ next s x. rest next (level_of kind) s (now_behind b r 0 plate tall next s numbers x))

-- what is known where a cell is cut: its band and borders, what was cut before it, and what comes behind it
record CellHere (b : Problem) (plate left wide low tall at size : ℕ) (numbers : List ℕ) (follow : List Step) : Type 0 where
  in_band : InBand b plate left wide low tall
  clear : CellClear b plate left wide low tall at size
  closing : Closing b plate left wide low tall (levels_of follow)
  last : IsTrue (is_last_cell true (levels_of follow)) → Gap b.params.waste (at + size) (left + wide)
  rest : (next : List Draw) (m' : Level) (s : Cut) → Now b 3 plate left (left + wide) low (low + tall) (at + size) next s numbers → Meeting b next m' s follow

-- the leaves of a cell are cut as the rules ask
abbrev LeavesMeet : Problem → ℕ → ℕ → ℕ → ℕ → ℕ → ℕ → ℕ → ℕ → List Draw → Level → Cut → List ℕ → List Step → ℕ → Option ℕ → ℕ → Bool → ℕ → Forest → Type 0
LeavesMeet b plate left wide low tall at size kind before m t numbers follow cut parent height last node inner =
    All (KeepsCutRules b) (families (area_y plate cut parent at low size height last) true node inner) → total_size inner ≡ tall →
    Now b kind plate left (left + wide) low (low + tall) at before t (items_in inner ++ numbers) →
    Meeting b before m t (steps_in b 4 (cell_sides left wide low tall at size) low kind 0 inner ++ follow)

-- a step that begins a cell lies over none
below_over : (kind plate waste : ℕ) (t : Cut) (a b c d e : ℕ) → Follows waste kind plate t a b c d e → level_of kind ≡ Over → ⊥
below_over zero plate waste t a b c d e f same = cc
below_over (suc zero) plate waste t a b c d e f same = cc
below_over (suc (suc zero)) plate waste t a b c d e f same = cc
below_over (suc (suc (suc zero))) plate waste t a b c d e f same = cc
below_over (suc (suc (suc (suc n)))) plate waste t a b c d e f same = f

-- two items
both_meet : (b : Problem) (plate left wide low tall at size kind : ℕ) (before : List Draw) (m : Level) (t : Cut) (numbers : List ℕ) (follow : List Step) → CellHere b plate left wide low tall at size numbers follow →
    (cut : ℕ) (parent : Option ℕ) (height : ℕ) (last : Bool) (node under number over other : ℕ) →
    LeavesMeet b plate left wide low tall at size kind before m t numbers follow cut parent height last node (piece under (Sort.Item number) nothing (piece over (Sort.Item other) nothing nothing))
both_meet b plate left wide low tall at size kind before m t numbers follow x cut parent height last node under number over other keeps total now =
    let r : Sides = cell_sides left wide low tall at size in
    let one = hold_of (KeepsCutRules b) (area_y plate cut parent at low size height last) true node under (Sort.Item number) nothing (piece over (Sort.Item other) nothing nothing) keeps in
    let two = hold_of (KeepsCutRules b) (area_y plate cut parent at (low + under) size height last) false (node + 1 + 0) over (Sort.Item other) nothing nothing one.after in
    let y : (low + tall) - over ≡ low + under = omega (arith, total) in
    item_meets b r kind 0 number plate under before m t (other ∷ numbers) (step_of b r 4 0 other ∷ follow) now one.here.l2 (record {
      few = x.in_band.few;
      strip = x.in_band.strip;
      band = x.in_band.band;
      lifted = omega arith;
      at_e = x.clear.at_e;
      at_end = x.clear.at_end;
      line = λ some above. two.here.l8 refl some;
      sound = one.here.l7;
      last_strip = x.closing.strip;
      last_band = x.closing.band;
      last_cell = x.last;
      alone = λ never. cc;
    }) (λ next s behind. over_meets b r other plate under over next (level_of kind) s numbers follow behind (below_over kind plate b.params.waste t left (left + wide) low (low + tall) at now.follows) two.here.l2 (record {
      few = x.in_band.few;
      strip = x.in_band.strip;
      band = x.in_band.band;
      at_e = x.clear.at_e;
      at_end = x.clear.at_end;
      fill = omega (arith, total);
      sound = λ some high. rw y (two.here.l7 some high);
    }) (λ last_draws last_step done. x.rest last_draws Over last_step (now_behind b r 0 plate over last_draws last_step numbers done)))

-- an item below a waste
under_meet : (b : Problem) (plate left wide low tall at size kind : ℕ) (before : List Draw) (m : Level) (t : Cut) (numbers : List ℕ) (follow : List Step) → CellHere b plate left wide low tall at size numbers follow →
    (cut : ℕ) (parent : Option ℕ) (height : ℕ) (last : Bool) (node under number over : ℕ) →
    LeavesMeet b plate left wide low tall at size kind before m t numbers follow cut parent height last node (piece under (Sort.Item number) nothing (piece over Sort.Waste nothing nothing))
under_meet b plate left wide low tall at size kind before m t numbers follow x cut parent height last node under number over keeps total now =
    let r : Sides = cell_sides left wide low tall at size in
    let one = hold_of (KeepsCutRules b) (area_y plate cut parent at low size height last) true node under (Sort.Item number) nothing (piece over Sort.Waste nothing nothing) keeps in
    let two = hold_of (KeepsCutRules b) (area_y plate cut parent at (low + under) size height last) false (node + 1 + 0) over Sort.Waste nothing nothing one.after in
    item_meets b r kind 0 number plate under before m t numbers follow now one.here.l2 (record {
      few = x.in_band.few;
      strip = x.in_band.strip;
      band = x.in_band.band;
      lifted = omega arith;
      at_e = x.clear.at_e;
      at_end = x.clear.at_end;
      line = λ some above. two.here.l8 refl some;
      sound = one.here.l7;
      last_strip = x.closing.strip;
      last_band = x.closing.band;
      last_cell = x.last;
      alone = λ _. inr (omega (arith, total, two.here.l3.1), two.here.l3.0);
    }) (λ next s behind. x.rest next (level_of kind) s (now_behind b r 0 plate under next s numbers behind))

-- an item above a waste
over_meet : (b : Problem) (plate left wide low tall at size kind : ℕ) (before : List Draw) (m : Level) (t : Cut) (numbers : List ℕ) (follow : List Step) → CellHere b plate left wide low tall at size numbers follow →
    (cut : ℕ) (parent : Option ℕ) (height : ℕ) (last : Bool) (node under over number : ℕ) →
    LeavesMeet b plate left wide low tall at size kind before m t numbers follow cut parent height last node (piece under Sort.Waste nothing (piece over (Sort.Item number) nothing nothing))
over_meet b plate left wide low tall at size kind before m t numbers follow x cut parent height last node under over number keeps total now =
    let r : Sides = cell_sides left wide low tall at size in
    let one = hold_of (KeepsCutRules b) (area_y plate cut parent at low size height last) true node under Sort.Waste nothing (piece over (Sort.Item number) nothing nothing) keeps in
    let two = hold_of (KeepsCutRules b) (area_y plate cut parent at (low + under) size height last) false (node + 1 + 0) over (Sort.Item number) nothing nothing one.after in
    let y : (low + tall) - over ≡ low + under = omega (arith, total) in
    item_meets b r kind 1 number plate over before m t numbers follow now two.here.l2 (record {
      few = x.in_band.few;
      strip = x.in_band.strip;
      band = x.in_band.band;
      lifted = omega arith;
      at_e = x.clear.at_e;
      at_end = x.clear.at_end;
      line = λ some. rw y (two.here.l8 refl some);
      sound = λ some high. rw y (two.here.l7 some high);
      last_strip = x.closing.strip;
      last_band = x.closing.band;
      last_cell = x.last;
      alone = λ _. (omega (arith, total, one.here.l3.1), one.here.l3.0);
    }) (λ next s behind. x.rest next (level_of kind) s (now_behind b r 1 plate over next s numbers behind))

leaves_meet : (b : Problem) (plate left wide low tall at size kind : ℕ) (before : List Draw) (m : Level) (t : Cut) (numbers : List ℕ) (follow : List Step) → CellHere b plate left wide low tall at size numbers follow →
    (cut : ℕ) (parent : Option ℕ) (height : ℕ) (last : Bool) (node : ℕ) (inner : Forest) → AreLeaves inner → holds_item inner ≡ true →
    LeavesMeet b plate left wide low tall at size kind before m t numbers follow cut parent height last node inner
leaves_meet b plate left wide low tall at size kind before m t numbers follow x cut parent height last node inner shape some =
    leaf_cases (LeavesMeet b plate left wide low tall at size kind before m t numbers follow cut parent height last node)
    (both_meet b plate left wide low tall at size kind before m t numbers follow x cut parent height last node)
    (under_meet b plate left wide low tall at size kind before m t numbers follow x cut parent height last node)
    (over_meet b plate left wide low tall at size kind before m t numbers follow x cut parent height last node)
    inner shape some

-- a cell that is cut has a step
pub leaves_cut : (b : Problem) (r : Sides) (at kind : ℕ) (inner : Forest) → AreLeaves inner → holds_item inner ≡ true → steps_in b 4 r at kind 0 inner ≡ [] → ⊥
leaves_cut b r at kind inner shape some =
    leaf_cases (λ inner. steps_in b 4 r at kind 0 inner ≡ [] → ⊥) (λ low number high other none. cc) (λ low number high none. cc) (λ low high number none. cc) inner shape some

-- each cell is an item, has one inside, or is a waste
broad_cells : (b : Problem) (plate cut : ℕ) (parent : Option ℕ) (x y width height : ℕ) (last first : Bool) (node : ℕ) (forest : Forest) → cut ≡ 3 → AreCells forest →
    All (KeepsCutRules b) (families (area_x plate cut parent x y width height last) first node forest) → AreBroad b.params.waste b 3 forest
broad_cells b plate cut parent x y width height last first node nothing is shape keeps = tt
broad_cells b plate cut parent x y width height last first node (piece size (Sort.Item number) inner later) is shape keeps =
    let h = hold_of (KeepsCutRules b) (area_x plate cut parent x y width height last) first node size (Sort.Item number) inner later keeps in
    (tt, broad_cells b plate cut parent (x + size) y width height last false (node + 1 + count inner) later is shape.1 h.after)
broad_cells b plate cut parent x y width height last first node (piece size Sort.Waste inner later) is shape keeps =
    let h = hold_of (KeepsCutRules b) (area_x plate cut parent x y width height last) first node size Sort.Waste inner later keeps in
    (h.here.l3.0, broad_cells b plate cut parent (x + size) y width height last false (node + 1 + count inner) later is shape.1 h.after)
broad_cells b plate cut parent x y width height last first node (piece size Sort.Branch inner later) is shape keeps =
    let h = hold_of (KeepsCutRules b) (area_x plate cut parent x y width height last) first node size Sort.Branch inner later keeps in
    (inr (λ r at kind none. leaves_cut b r at kind inner shape.0 (h.here.l6 is) none), broad_cells b plate cut parent (x + size) y width height last false (node + 1 + count inner) later is shape.1 h.after)
broad_cells b plate cut parent x y width height last first node (piece size Sort.Residual inner later) is shape keeps = absurd shape.0

-- the tests of the levels pass over the steps of cells
pub strip_passes : Passes 2 (λ ls. is_last_strip true ls)
strip_passes zero later le = absurd (omega (arith, le))
strip_passes (suc zero) later le = absurd (omega (arith, le))
strip_passes (suc (suc zero)) later le = refl
strip_passes (suc (suc (suc zero))) later le = refl
strip_passes (suc (suc (suc (suc n)))) later le = refl

pub band_passes : Passes 3 (λ ls. is_last_band true ls)
band_passes zero later le = absurd (omega (arith, le))
band_passes (suc zero) later le = absurd (omega (arith, le))
band_passes (suc (suc zero)) later le = absurd (omega (arith, le))
band_passes (suc (suc (suc zero))) later le = refl
band_passes (suc (suc (suc (suc n)))) later le = refl

-- a further waste
pub follows_more : (waste kind plate : ℕ) (t : Cut) (a b c d e size : ℕ) → Follows waste kind plate t a b c d e → waste ≤ size → Follows waste kind plate t a b c d (e + size)
follows_more waste zero plate t a b c d e size f le = (f.0, f.1, f.2, gap_more waste a e size f.3 le)
follows_more waste (suc zero) plate t a b c d e size f le = (f.0, f.1, f.2, gap_more waste a e size f.3 le)
follows_more waste (suc (suc zero)) plate t a b c d e size f le = (f.0, f.1, f.2, f.3, gap_more waste a e size f.4 le)
follows_more waste (suc (suc (suc zero))) plate t a b c d e size f le = (f.0, f.1, f.2, f.3, f.4, gap_more waste (t.e + t.cell_w) e size f.5 le)
follows_more waste (suc (suc (suc (suc n)))) plate t a b c d e size f le = absurd f

-- the same state, where the numbers are written in another way
pub now_as : (b : Problem) (kind plate a r c d e : ℕ) (before : List Draw) (t : Cut) (numbers same : List ℕ) → numbers ≡ same → Now b kind plate a r c d e before t numbers → Now b kind plate a r c d e before t same
now_as b kind plate a r c d e before t numbers same is now = record { begun = now.begun; follows = now.follows; due = subst (Due b before) is now.due }

-- the height of a band
tall_band : (b : Problem) (plate left right low tall : ℕ) → InStrip b plate left right low (low + tall) → 0 < tall
tall_band b plate left right low tall band = omega (arith, band.least, b.params.accepted.waste_positive, b.params.accepted.waste_min2)

-- what the steps of later cells tell of the strip and the band
closing_more : (b : Problem) (plate left wide low tall : ℕ) (r : Sides) (at kind : ℕ) (forest : Forest) (follow : List Step) → 3 ≤ kind → Closing b plate left wide low tall (levels_of follow) →
    Closing b plate left wide low tall (levels_of (steps_in b 3 r at kind 0 forest ++ follow))
closing_more b plate left wide low tall r at kind forest follow le x = record {
  strip = λ last. x.strip (rw (passes (λ ls. is_last_strip true ls) 2 strip_passes b 3 r at kind 0 forest follow (omega arith) (omega (arith, le))) at last);
  band = λ last. x.band (rw (passes (λ ls. is_last_band true ls) 3 band_passes b 3 r at kind 0 forest follow (omega arith) le) at last);
}

-- the cells of a band are cut as the rules ask
pub cells_meet : (b : Problem) (plate left wide low tall : ℕ) → InBand b plate left wide low tall →
    (cut : ℕ) (parent : Option ℕ) (at width : ℕ) (last first : Bool) (node : ℕ) (cells : Forest) → cut ≡ 3 → AreCells cells →
    All (KeepsCutRules b) (families (area_x plate cut parent at low width tall last) first node cells) → at + total_size cells ≡ left + wide → (left < at → first ≡ false) →
    (kind : ℕ) (before : List Draw) (m : Level) (t : Cut) (numbers : List ℕ) (follow : List Step) →
    Now b kind plate left (left + wide) low (low + tall) at before t (items_in cells ++ numbers) →
    let steps : List Step = steps_in b 3 (band_sides left wide low tall) at kind 0 cells in
    ((steps ≡ [] → ⊥) → Closing b plate left wide low tall (levels_of follow)) →
    ((next : List Draw) (m' : Level) (s : Cut) → Now b (next_kind steps kind 3) plate left (left + wide) low (low + tall) (left + wide) next s numbers → Meeting b next m' s follow) →
    Meeting b before m t (steps ++ follow)
cells_meet b plate left wide low tall i cut parent at width last first node nothing is shape keeps total side kind before m t numbers follow now closing rest =
    rest before m t (subst (λ n. Now b kind plate left (left + wide) low (low + tall) n before t numbers) (sym (add-zero at) ∙ total) now)
cells_meet b plate left wide low tall i cut parent at width last first node (piece size (Sort.Item number) inner later) is shape keeps total side kind before m t numbers follow now closing rest =
    let h = hold_of (KeepsCutRules b) (area_x plate cut parent at low width tall last) first node size (Sort.Item number) inner later keeps in
    let r : Sides = band_sides left wide low tall in
    let high : 0 < tall = tall_band b plate left (left + wide) low tall i.band in
    let end : (at + size) + total_size later ≡ left + wide = omega (arith, total) in
    let after : List Step = steps_in b 3 r (at + size) 3 0 later in
    cell_meets b plate left wide low tall i at size number
    (record {
      at_e = λ lt. h.here.l8 (side lt) high;
      at_end = border_x b plate cut parent (at + size) low width tall last (node + 1 + count inner) later (left + wide) h.after end high;
    })
    h.here.l2 h.here.l7 kind before m t (items_in later ++ numbers) (after ++ follow)
    (now_as b kind plate left (left + wide) low (low + tall) at before t _ (number ∷ (items_in later ++ numbers)) (rw shape.0 refl) now)
    (closing_more b plate left wide low tall r (at + size) 3 later follow (omega arith) (closing (λ none. cc)))
    (λ alone. subst (λ n. Gap b.params.waste (at + size) n) end
    (ahead b.params.waste (λ ls. is_last_cell true ls) b 3 (λ ls. refl) r (at + size) (at + size) 0 later follow
    (broad_cells b plate cut parent (at + size) low width tall last false (node + 1 + count inner) later is shape.1 h.after) (inl refl) alone))
    (λ next m' s behind. cells_meet b plate left wide low tall i cut parent (at + size) width last false (node + 1 + count inner) later is shape.1 h.after end (λ _. refl)
    3 next m' s numbers follow behind (λ _. closing (λ none. cc)) (λ next' m'' s' done. rest next' m'' s' (subst (λ n. Now b n plate left (left + wide) low (low + tall) (left + wide) next' s' numbers) (next_same after 3) done)))
cells_meet b plate left wide low tall i cut parent at width last first node (piece size Sort.Waste inner later) is shape keeps total side kind before m t numbers follow now closing rest =
    let h = hold_of (KeepsCutRules b) (area_x plate cut parent at low width tall last) first node size Sort.Waste inner later keeps in
    cells_meet b plate left wide low tall i cut parent (at + size) width last false (node + 1 + count inner) later is shape.1 h.after (omega (arith, total)) (λ _. refl)
    kind before m t numbers follow (record {
      begun = now.begun;
      follows = follows_more b.params.waste kind plate t left (left + wide) low (low + tall) at size now.follows h.here.l3.0;
      due = subst (λ (inner' : Forest). Due b before ((items_in inner' ++ items_in later) ++ numbers)) shape.0 now.due;
    }) closing rest
cells_meet b plate left wide low tall i cut parent at width last first node (piece size Sort.Branch inner later) is shape keeps total side kind before m t numbers follow now closing rest =
    let h = hold_of (KeepsCutRules b) (area_x plate cut parent at low width tall last) first node size Sort.Branch inner later keeps in
    let r : Sides = band_sides left wide low tall in
    let high : 0 < tall = tall_band b plate left (left + wide) low tall i.band in
    let end : (at + size) + total_size later ≡ left + wide = omega (arith, total) in
    let some : holds_item inner ≡ true = h.here.l6 is in
    let here : List Step = steps_in b 4 (cell_sides left wide low tall at size) low kind 0 inner in
    let cut_here : here ≡ [] → ⊥ = leaves_cut b (cell_sides left wide low tall at size) low kind inner shape.0 some in
    let after : List Step = steps_in b 3 r (at + size) 3 0 later in
    let kind_is : next_kind here kind 3 ≡ 3 = next_some here kind 3 cut_here in
    let steps_is : (here ++ steps_in b 3 r (at + size) (next_kind here kind 3) 0 later) ++ follow ≡ here ++ (after ++ follow) = rw kind_is (append_assoc here after follow) in
    let closed : Closing b plate left wide low tall (levels_of follow) = closing (λ none. cut_here (grind (arith, none))) in
    subst (λ (steps : List Step). Meeting b before m t steps) (sym steps_is)
    (leaves_meet b plate left wide low tall at size kind before m t (items_in later ++ numbers) (after ++ follow)
    (record {
      in_band = i;
      clear = record {
        at_e = λ lt. h.here.l8 (side lt) high;
        at_end = border_x b plate cut parent (at + size) low width tall last (node + 1 + count inner) later (left + wide) h.after end high;
      };
      closing = closing_more b plate left wide low tall r (at + size) 3 later follow (omega arith) closed;
      last = λ alone. subst (λ n. Gap b.params.waste (at + size) n) end
          (ahead b.params.waste (λ ls. is_last_cell true ls) b 3 (λ ls. refl) r (at + size) (at + size) 0 later follow
          (broad_cells b plate cut parent (at + size) low width tall last false (node + 1 + count inner) later is shape.1 h.after) (inl refl) alone);
      rest = λ next m' s behind. cells_meet b plate left wide low tall i cut parent (at + size) width last false (node + 1 + count inner) later is shape.1 h.after end (λ _. refl)
          3 next m' s numbers follow behind (λ _. closed)
          (λ next' m'' s' done. rest next' m'' s' (subst (λ n. Now b n plate left (left + wide) low (low + tall) (left + wide) next' s' numbers)
          (next_same after 3 ∙ sym (next_append here (steps_in b 3 r (at + size) (next_kind here kind 3) 0 later) kind 3 ∙ rw kind_is (next_same after 3))) done));
    })
    (cut + 1) (Some node) tall (last && is_nothing later) (node + 1) inner shape.0 some h.below h.here.l1.1
    (now_as b kind plate left (left + wide) low (low + tall) at before t _ (items_in inner ++ (items_in later ++ numbers)) (append_assoc (items_in inner) (items_in later) numbers) now))
cells_meet b plate left wide low tall i cut parent at width last first node (piece size Sort.Residual inner later) is shape keeps total side kind before m t numbers follow now closing rest = absurd shape.0
