-- The canonical plan of a trace keeps the rules on cuts.
use Rattle.std.proofs.Common.{◌≡◌, ℕ, zero, suc, ◌+◌, ◌-◌, ◌==◌, ◌<◌, ◌≤◌, inl, inr, List, [], ◌∷◌, refl, sym, ap, ◌∙◌, subst, arith, Bool, true, false, cond, ◌&&◌, Some, None, IsTrue, All, map}
use Rattle.glass_base.specs.declared.params.Params.{Params}
use Rattle.glass_base.specs.declared.item.Item.{Item}
use Rattle.glass_base.specs.declared.item.Defect.{Defect}
use Rattle.glass_base.specs.Items.{HasSides}
use Rattle.glass_base.specs.Plates.{Width}
use Rattle.glass_base.specs.Problem.{Problem, IsProblem}
use Rattle.cut_model.specs.declared.family.Sort.{Sort}
use Rattle.cut_model.specs.declared.family.Along.{Along}
use Rattle.cut_model.specs.Sized.{sized}
use Rattle.cut_model.proofs.OnPlates.{nothing-sized}
use Rattle.cut_model.specs.Tree.{Forest, nothing, piece, is_nothing, holds_item, total_size}
use Rattle.cut_model.specs.declared.steps.Step.{Step}
use Rattle.cut_model.specs.Families.{families_of}
use Rattle.cut_model.specs.Rules.{KeepsCutRules}
use Rattle.defect_map.specs.Queries.{HitsNone, CrossesNoneX, CrossesNoneY}
use Rattle.plan_trace.specs.Marks.{Level, NewPlate, NewStrip, NewBand, NewCell, Over, Spot, spot, Cut, cut, no_cut, no_place, place_of, draw_of, marks, attach, levels}
use Rattle.plan_trace.specs.TraceRules.{Rules, EachStep, Gap, AloneFits, bottom, Meets, LiftLine, is_last_cell, is_last_band, is_last_in_cell, Inherits}
use Rattle.plan_trace.specs.Canonical.{Grown, grown, canonical, gap, start_of, end_sort, hoisted, cell_pieces, item_id}
use Rattle.plan_trace.proofs.Totals.{Totals, gap_total}
use Rattle.plan_trace.proofs.Items.{IsItemOf, high, item_all, wide}
use Rattle.plan_trace.proofs.Known.{Known, totals_of, known_all}
use Rattle.plan_trace.proofs.Kept.{Kept, kept_nothing, gap_by, kept_y, gap_x, gap_y, waste_x, waste_y, residual_x, hoisted_x, hoisted_y, item_leaf, plate_kept}

gap_le : (waste from to : ℕ) → Gap waste from to → from ≤ to
gap_le waste from to g = elim g [ inl e ↦ omega (arith, e) | inr le ↦ omega (arith, le) ]

gap_broad : (waste from to : ℕ) → Gap waste from to → from < to → from + waste ≤ to
gap_broad waste from to g lt = elim g [ inl e ↦ absurd (omega (arith, e, lt)) | inr le ↦ le ]

-- a list that has a piece still has one behind a gap
pub some_gap : (from to : ℕ) (sort : Sort) (later : Forest) → is_nothing later ≡ false → is_nothing (gap from to sort later) ≡ false
some_gap from to sort later e = elim (from == to) as (λ same. is_nothing (cond same later (piece (to - from) sort nothing later)) ≡ false) [ true ↦ e | false ↦ refl ]

item_gap : (from to : ℕ) (later : Forest) → holds_item later ≡ true → holds_item (gap from to Sort.Waste later) ≡ true
item_gap from to later e = elim (from == to) as (λ same. holds_item (cond same later (piece (to - from) Sort.Waste nothing later)) ≡ true) [ true ↦ e | false ↦ e ]

-- in a cell of a step that begins it the item lies and is cut as by this level
begun_bottom : (l : Level) (lift c d h : ℕ) → ¬ (l ≡ Over) → bottom l lift c d h ≡ bottom NewCell lift c d h
begun_bottom NewPlate zero c d h new = refl
begun_bottom NewPlate (suc n) c d h new = refl
begun_bottom NewStrip zero c d h new = refl
begun_bottom NewStrip (suc n) c d h new = refl
begun_bottom NewBand zero c d h new = refl
begun_bottom NewBand (suc n) c d h new = refl
begun_bottom NewCell lift c d h new = refl
begun_bottom Over lift c d h new = absurd (new refl)

begun_line : (defects : List Defect) (l : Level) (lift : ℕ) (s : Cut) → ¬ (l ≡ Over) → LiftLine defects l lift s → LiftLine defects NewCell lift s
begun_line defects NewPlate zero s new h = h
begun_line defects NewPlate (suc n) s new h = h
begun_line defects NewStrip zero s new h = h
begun_line defects NewStrip (suc n) s new h = h
begun_line defects NewBand zero s new h = h
begun_line defects NewBand (suc n) s new h = h
begun_line defects NewCell lift s new h = h
begun_line defects Over lift s new h = absurd (new refl)

begun_alone : (b : Problem) (m : Level) (t : Cut) (l : Level) (s : Cut) (later : List Spot) → ¬ (l ≡ Over) → Rules b m t l s later → IsTrue (is_last_in_cell true (levels later)) → AloneFits b.params s.draw.lift s
begun_alone b m t NewPlate s later new r = r.tr7
begun_alone b m t NewStrip s later new r = r.tr7
begun_alone b m t NewBand s later new r = r.tr7
begun_alone b m t NewCell s later new r = r.tr7
begun_alone b m t Over s later new r = absurd (new refl)

-- what is known of a step that begins its cell
record Begun (b : Problem) (s : Cut) : Type 0 where
  clear : HitsNone b.defects s.plate s.e (bottom NewCell s.draw.lift s.c s.d s.h) (s.e + s.w) (bottom NewCell s.draw.lift s.c s.d s.h + s.h)
  line : LiftLine b.defects NewCell s.draw.lift s

begun : (b : Problem) (m : Level) (t : Cut) (l : Level) (s : Cut) (later : List Spot) → ¬ (l ≡ Over) → Rules b m t l s later → Begun b s
begun b m t l s later new r = record {
  clear = subst (λ (y : ℕ). HitsNone b.defects s.plate s.e y (s.e + s.w) (y + s.h)) (begun_bottom l s.draw.lift s.c s.d s.h new) r.tr8;
  line = begun_line b.defects l s.draw.lift s new r.tr9.at_lift;
}

-- a step's item as a leaf of its cell
leaf : (b : Problem) (s : Cut) (item : Item) (y height : ℕ) (last first : Bool) (later : Forest) → IsItemOf b s.place item →
    (first ≡ false → CrossesNoneY b.defects s.plate y s.e (s.e + s.w)) → HitsNone b.defects s.plate s.e y (s.e + s.w) (y + s.h) →
    Kept b s.plate 4 Along.Y s.e (y + s.h) s.w height last false later →
    Kept b s.plate 4 Along.Y s.e y s.w height last first (piece s.h (Sort.Item (item_id s.item)) nothing later)
leaf b s item y height last first later is border clear after =
    kept_y b s.plate 4 s.e y s.w height last first s.h (Sort.Item (item_id s.item)) nothing later
    (item_leaf b s.plate s.e y s.w height last first s.h (item_id s.item) s.draw.turn item later (rw is.is is.found) is.w is.h border clear)
    (kept_nothing b s.plate 5 Along.X s.e y s.w s.h _ true) after

-- an item that is alone in its cell
alone_leaves : (b : Problem) (s : Cut) (item : Item) (lift : ℕ) (last : Bool) → IsItemOf b s.place item → 1 ≤ b.params.waste → AloneFits b.params lift s →
    HitsNone b.defects s.plate s.e (bottom NewCell lift s.c s.d s.h) (s.e + s.w) (bottom NewCell lift s.c s.d s.h + s.h) → LiftLine b.defects NewCell lift s →
    Kept b s.plate 4 Along.Y s.e s.c s.w (s.d - s.c) last true (cell_pieces None lift (s.d - s.c) s.h (item_id s.item))
alone_leaves b s item zero last is some fits clear line =
    leaf b s item s.c (s.d - s.c) last true (gap s.h (s.d - s.c) Sort.Waste nothing) is (λ e. cc) clear
    (gap_by (Kept b s.plate 4 Along.Y s.e (s.c + s.h) s.w (s.d - s.c) last false) s.h (s.d - s.c) Sort.Waste nothing (omega (arith, fits))
    (λ lt. kept_y b s.plate 4 s.e (s.c + s.h) s.w (s.d - s.c) last false (s.d - s.c - s.h) Sort.Waste nothing nothing
    (waste_y b s.plate 4 s.e (s.c + s.h) s.w (s.d - s.c) last false (s.d - s.c - s.h) nothing (λ _. line (omega (arith, lt))) (omega (arith, fits, lt)) (omega (arith, fits, lt)))
    (kept_nothing b s.plate 5 Along.X s.e (s.c + s.h) s.w (s.d - s.c - s.h) (last && true) true)
    (kept_nothing b s.plate 4 Along.Y s.e (s.c + s.h + (s.d - s.c - s.h)) s.w (s.d - s.c) last false))
    (λ _. kept_nothing b s.plate 4 Along.Y s.e (s.c + s.h) s.w (s.d - s.c) last false))
alone_leaves b s item (suc n) last is some fits clear line =
    let at : s.d - s.h ≡ s.c + (s.d - s.c - s.h) = omega (arith, fits.0) in
    let top : Forest = piece s.h (Sort.Item (item_id s.item)) nothing nothing in
    gap_by (Kept b s.plate 4 Along.Y s.e s.c s.w (s.d - s.c) last true) s.h (s.d - s.c) Sort.Waste top (omega (arith, fits.0))
    (λ lt. kept_y b s.plate 4 s.e s.c s.w (s.d - s.c) last true (s.d - s.c - s.h) Sort.Waste nothing top
    (waste_y b s.plate 4 s.e s.c s.w (s.d - s.c) last true (s.d - s.c - s.h) top (λ e. cc) fits.1 (omega (arith, fits.0)))
    (kept_nothing b s.plate 5 Along.X s.e s.c s.w (s.d - s.c - s.h) (last && false) true)
    (subst (λ (y : ℕ). Kept b s.plate 4 Along.Y s.e y s.w (s.d - s.c) last false top) at
    (leaf b s item (s.d - s.h) (s.d - s.c) last false nothing is (λ _. line) clear
    (kept_nothing b s.plate 4 Along.Y s.e (s.d - s.h + s.h) s.w (s.d - s.c) last false))))
    (λ e. absurd (omega (arith, e, fits.0, some)))

-- an item with one over it
two_leaves : (b : Problem) (n o : Cut) (item over : Item) (last : Bool) → IsItemOf b n.place item → IsItemOf b o.place over → HasSides over → n.draw.lift ≡ 0 → Inherits Over n o → o.plate ≡ n.plate → o.w ≡ n.w →
    o.c + (n.h + o.h) ≡ o.d → Begun b n → HitsNone b.defects o.plate o.e (o.d - o.h) (o.e + o.w) (o.d - o.h + o.h) →
    Kept b n.plate 4 Along.Y n.e n.c n.w (n.d - n.c) last true (cell_pieces (Some (o.h, item_id o.item)) n.draw.lift (n.d - n.c) n.h (item_id n.item))
two_leaves b n o item over last is over_is sides low same plate wide fills new clear =
    let fills_n : n.c + (n.h + o.h) ≡ n.d = omega (arith, fills, same) in
    let some : 1 ≤ o.h = omega (arith, over_is.h, high o.draw.turn over sides) in
    let below = subst (λ (lift : ℕ). HitsNone b.defects n.plate n.e (bottom NewCell lift n.c n.d n.h) (n.e + n.w) (bottom NewCell lift n.c n.d n.h + n.h)) low new.clear in
    let line : n.c + n.h < n.d → CrossesNoneY b.defects n.plate (n.c + n.h) n.e (n.e + n.w) = subst (λ (lift : ℕ). LiftLine b.defects NewCell lift n) low new.line in
    let at : o.d - o.h ≡ n.c + n.h = omega (arith, fills_n, same) in
    leaf b n item n.c (n.d - n.c) last true (piece o.h (Sort.Item (item_id o.item)) nothing nothing) is (λ e. cc) below
    (kept_y b n.plate 4 n.e (n.c + n.h) n.w (n.d - n.c) last false o.h (Sort.Item (item_id o.item)) nothing nothing
    (item_leaf b n.plate n.e (n.c + n.h) n.w (n.d - n.c) last false o.h (item_id o.item) o.draw.turn over nothing (rw over_is.is over_is.found) (sym wide ∙ over_is.w) over_is.h
    (λ _. line (omega (arith, fills_n, some))) (rw (plate, same.4, wide, at) at clear))
    (kept_nothing b n.plate 5 Along.X n.e (n.c + n.h) n.w o.h (last && true) true)
    (kept_nothing b n.plate 4 Along.Y n.e (n.c + n.h + o.h) n.w (n.d - n.c) last false))

-- what a step's cell is cut into, by the steps behind it
abbrev pub cell_at : Problem → Cut → List Spot → Forest
cell_at b n later = cell_pieces (grown b later).above n.draw.lift (n.d - n.c) n.h (item_id n.item)

one_leaf : (b : Problem) (m : Level) (t : Cut) (l : Level) (n : Cut) (later : List Spot) (last : Bool) → ¬ (l ≡ Over) → Known b m t l n later → IsTrue (is_last_in_cell true (levels later)) →
    Kept b n.plate 4 Along.Y n.e n.c n.w (n.d - n.c) last true (cell_pieces None n.draw.lift (n.d - n.c) n.h (item_id n.item))
one_leaf b m t l n later last new k ends =
    let h = begun b m t l n later new k.rules in
    alone_leaves b n k.item.0 n.draw.lift last k.item.1 b.params.accepted.waste_positive (begun_alone b m t l n later new k.rules ends) h.clear h.line

leaves : (b : Problem) → IsProblem b → (m : Level) (t : Cut) (l : Level) (n : Cut) (later : List Spot) (last : Bool) → ¬ (l ≡ Over) → Known b m t l n later → EachStep (Known b) l n later →
    Kept b n.plate 4 Along.Y n.e n.c n.w (n.d - n.c) last true (cell_at b n later)
leaves b rules m t l n [] last new k each = one_leaf b m t l n [] last new k refl
leaves b rules m t l n (spot NewPlate o ∷ later) last new k each = one_leaf b m t l n (spot NewPlate o ∷ later) last new k refl
leaves b rules m t l n (spot NewStrip o ∷ later) last new k each = one_leaf b m t l n (spot NewStrip o ∷ later) last new k refl
leaves b rules m t l n (spot NewBand o ∷ later) last new k each = one_leaf b m t l n (spot NewBand o ∷ later) last new k refl
leaves b rules m t l n (spot NewCell o ∷ later) last new k each = one_leaf b m t l n (spot NewCell o ∷ later) last new k refl
leaves b rules m t l n (spot Over o ∷ later) last new k each =
    let r = each.0.rules in
    two_leaves b n o k.item.0 each.0.item.0 last k.item.1 each.0.item.1 (item_all b HasSides o.place each.0.item.0 rules.sides each.0.item.1) r.tr7.2 r.tr3.3 each.0.sound.plate_is r.tr7.1 r.tr7.4
    (begun b m t l n (spot Over o ∷ later) new k.rules) r.tr8

-- the pieces of a cell: there are some, one is an item, and they fill its height
record Cells (n : Cut) (inner : Forest) : Type 0 where
  some : is_nothing inner ≡ false
  item : holds_item inner ≡ true
  total : total_size inner ≡ n.d - n.c

alone_cells : (p : Params) (n : Cut) (lift id : ℕ) → AloneFits p lift n → Cells n (cell_pieces None lift (n.d - n.c) n.h id)
alone_cells p n zero id fits = record { some = refl; item = refl; total = omega (arith, gap_total n.h (n.d - n.c) Sort.Waste nothing (omega (arith, fits))) }
alone_cells p n (suc k) id fits =
    let top : Forest = piece n.h (Sort.Item id) nothing nothing in
    record {
      some = some_gap n.h (n.d - n.c) Sort.Waste top refl;
      item = item_gap n.h (n.d - n.c) top refl;
      total = omega (arith, gap_total n.h (n.d - n.c) Sort.Waste top (omega (arith, fits.0)));
    }

cells_are : (b : Problem) (m : Level) (t : Cut) (l : Level) (n : Cut) (later : List Spot) → ¬ (l ≡ Over) → Known b m t l n later → EachStep (Known b) l n later → Cells n (cell_at b n later)
cells_are b m t l n [] new k each = alone_cells b.params n n.draw.lift (item_id n.item) (begun_alone b m t l n [] new k.rules refl)
cells_are b m t l n (spot NewPlate o ∷ later) new k each = alone_cells b.params n n.draw.lift (item_id n.item) (begun_alone b m t l n (spot NewPlate o ∷ later) new k.rules refl)
cells_are b m t l n (spot NewStrip o ∷ later) new k each = alone_cells b.params n n.draw.lift (item_id n.item) (begun_alone b m t l n (spot NewStrip o ∷ later) new k.rules refl)
cells_are b m t l n (spot NewBand o ∷ later) new k each = alone_cells b.params n n.draw.lift (item_id n.item) (begun_alone b m t l n (spot NewBand o ∷ later) new k.rules refl)
cells_are b m t l n (spot NewCell o ∷ later) new k each = alone_cells b.params n n.draw.lift (item_id n.item) (begun_alone b m t l n (spot NewCell o ∷ later) new k.rules refl)
cells_are b m t l n (spot Over o ∷ later) new k each = let r = each.0.rules in record { some = refl; item = refl; total = omega (arith, r.tr7.4, r.tr3.3) }

-- the pieces behind a step's cell, above its band and right of its strip, and the plates behind its plate
abbrev pub cells_behind : Cut → Grown → Forest
cells_behind s g = gap (s.e + s.w) (start_of g.cells g.from s.b) Sort.Waste g.cells

abbrev pub bands_behind : Params → Cut → Grown → Forest
bands_behind p s g = gap s.d (start_of g.bands g.low p.height) Sort.Waste g.bands

abbrev pub strips_behind : Problem → Cut → Grown → Forest
strips_behind b s g = gap s.b (start_of g.strips g.left (Width b s.plate)) (end_sort g.plates g.strips) g.strips

-- they keep the rules
record Behind (b : Problem) (s : Cut) (g : Grown) : Type 0 where
  cells : (last : Bool) → Kept b s.plate 3 Along.X (s.e + s.w) s.c (s.b - s.a) (s.d - s.c) last false (cells_behind s g)
  bands : (last : Bool) → Kept b s.plate 2 Along.Y s.a s.d (s.b - s.a) b.params.height last false (bands_behind b.params s g)
  strips : Kept b s.plate 1 Along.X s.b 0 (Width b s.plate) b.params.height (is_nothing g.plates) false (strips_behind b s g)
  plates : Kept b (s.plate + 1) 0 Along.Plates 0 0 0 b.params.height true false (sized b (s.plate + 1) g.plates)

-- sides of a step's strip and band
record Sides (b : Problem) (s : Cut) : Type 0 where
  right : s.e + s.w ≤ s.b
  across : s.a ≤ s.e
  wide : s.a + b.params.min1 ≤ s.b
  tall : s.c + b.params.min2 ≤ s.d
  high : s.d ≤ b.params.height

sides : (b : Problem) (m : Level) (t : Cut) (l : Level) (s : Cut) (later : List Spot) → Known b m t l s later → Sides b s
sides b m t l s later k = record {
  right = omega (arith, k.sound.fits.right, k.sound.own);
  across = k.sound.fits.ends.2;
  wide = k.sound.fits.least k.rules.tr1.0;
  tall = k.sound.fits.tall k.rules.tr1.0;
  high = k.sound.fits.high;
}

-- a gap behind a step's cell, and what stands behind it
cells_gap : (b : Problem) (m : Level) (t : Cut) (l : Level) (s : Cut) (steps : List Spot) (to : ℕ) (later : Forest) (last : Bool) → Known b m t l s steps → Gap b.params.waste (s.e + s.w) to → to ≤ s.b →
    Kept b s.plate 3 Along.X to s.c (s.b - s.a) (s.d - s.c) last false later → Kept b s.plate 3 Along.X (s.e + s.w) s.c (s.b - s.a) (s.d - s.c) last false (gap (s.e + s.w) to Sort.Waste later)
cells_gap b m t l s steps to later last k g inside after =
    let h = sides b m t l s steps k in
    let upper : s.d ≡ s.c + (s.d - s.c) = omega (arith, h.tall) in
    gap_x b s.plate 3 (s.e + s.w) to s.c (s.b - s.a) (s.d - s.c) last false Sort.Waste later (gap_le _ _ _ g)
    (λ lt. waste_x b s.plate 3 (s.e + s.w) s.c (s.b - s.a) (s.d - s.c) last false (to - (s.e + s.w)) later
    (λ _. subst (λ (y : ℕ). CrossesNoneX b.defects s.plate (s.e + s.w) s.c y) upper (k.rules.tr9.at_end (omega (arith, lt, inside))))
    (omega (arith, gap_broad _ _ _ g lt)) (omega (arith, h.tall, b.params.accepted.waste_min2)))
    (λ _. after) (λ _. after)

-- a gap above a step's band
bands_gap : (b : Problem) (m : Level) (t : Cut) (l : Level) (s : Cut) (steps : List Spot) (to : ℕ) (later : Forest) (last : Bool) → Known b m t l s steps → Gap b.params.waste s.d to → to ≤ b.params.height →
    Kept b s.plate 2 Along.Y s.a to (s.b - s.a) b.params.height last false later → Kept b s.plate 2 Along.Y s.a s.d (s.b - s.a) b.params.height last false (gap s.d to Sort.Waste later)
bands_gap b m t l s steps to later last k g inside after =
    let h = sides b m t l s steps k in
    let end : s.b ≡ s.a + (s.b - s.a) = omega (arith, h.wide) in
    gap_y b s.plate 2 s.a s.d to (s.b - s.a) b.params.height last false Sort.Waste later (gap_le _ _ _ g)
    (λ lt. waste_y b s.plate 2 s.a s.d (s.b - s.a) b.params.height last false (to - s.d) later
    (λ _. subst (λ (x : ℕ). CrossesNoneY b.defects s.plate s.d s.a x) end (k.rules.tr9.at_d (omega (arith, lt, inside))))
    (omega (arith, h.wide, b.params.accepted.waste_min1)) (omega (arith, gap_broad _ _ _ g lt)))
    (λ _. after) (λ _. after)

-- a line over the whole height of a plate
from_ground : (b : Problem) (plate x : ℕ) → CrossesNoneX b.defects plate x 0 b.params.height → CrossesNoneX b.defects plate x 0 (0 + b.params.height)
from_ground b plate x h = subst (λ (y : ℕ). CrossesNoneX b.defects plate x 0 y) (omega arith) h

-- a gap right of a step's strip
strips_gap : (b : Problem) (m : Level) (t : Cut) (l : Level) (s : Cut) (steps : List Spot) (to : ℕ) (later : Forest) (last : Bool) → Known b m t l s steps → Gap b.params.waste s.b to → to ≤ Width b s.plate →
    Kept b s.plate 1 Along.X to 0 (Width b s.plate) b.params.height last false later → Kept b s.plate 1 Along.X s.b 0 (Width b s.plate) b.params.height last false (gap s.b to Sort.Waste later)
strips_gap b m t l s steps to later last k g inside after =
    gap_x b s.plate 1 s.b to 0 (Width b s.plate) b.params.height last false Sort.Waste later (gap_le _ _ _ g)
    (λ lt. waste_x b s.plate 1 s.b 0 (Width b s.plate) b.params.height last false (to - s.b) later
    (λ _. from_ground b s.plate s.b (k.rules.tr9.at_b (omega (arith, lt, inside))))
    (omega (arith, gap_broad _ _ _ g lt)) (omega (arith, b.params.accepted.waste_min2, b.params.accepted.min2_height)))
    (λ _. after) (λ _. after)

-- the residual
residual_gap : (b : Problem) (m : Level) (t : Cut) (l : Level) (s : Cut) (steps : List Spot) → Known b m t l s steps → Gap b.params.waste s.b (Width b s.plate) →
    Kept b s.plate 1 Along.X s.b 0 (Width b s.plate) b.params.height true false (gap s.b (Width b s.plate) Sort.Residual nothing)
residual_gap b m t l s steps k g =
    gap_x b s.plate 1 s.b (Width b s.plate) 0 (Width b s.plate) b.params.height true false Sort.Residual nothing (gap_le _ _ _ g)
    (λ lt. residual_x b s.plate s.b 0 (Width b s.plate) b.params.height true false (Width b s.plate - s.b) nothing
    (λ _. from_ground b s.plate s.b (k.rules.tr9.at_b lt)) (omega (arith, gap_broad _ _ _ g lt)) refl)
    (λ _. kept_nothing b s.plate 1 Along.X (Width b s.plate) 0 (Width b s.plate) b.params.height true false)
    (λ _. kept_nothing b s.plate 1 Along.X (Width b s.plate) 0 (Width b s.plate) b.params.height true false)

-- a step's cell with what is behind it, its band with what is above it, its strip with what is right of it
abbrev pub cell_part : Problem → Cut → List Spot → Forest
cell_part b n later = hoisted n.w (cell_at b n later) (cells_behind n (grown b later))

abbrev pub band_part : Problem → Cut → List Spot → Forest
band_part b n later = hoisted (n.d - n.c) (gap n.a n.e Sort.Waste (cell_part b n later)) (bands_behind b.params n (grown b later))

abbrev pub strip_part : Problem → Cut → List Spot → Forest
strip_part b n later = hoisted (n.b - n.a) (gap 0 n.c Sort.Waste (band_part b n later)) (strips_behind b n (grown b later))

cell_kept : (b : Problem) → IsProblem b → (m : Level) (t : Cut) (l : Level) (n : Cut) (later : List Spot) (last first : Bool) → ¬ (l ≡ Over) → Known b m t l n later → EachStep (Known b) l n later →
    Behind b n (grown b later) → (first ≡ false → n.a < n.e) → Kept b n.plate 3 Along.X n.e n.c (n.b - n.a) (n.d - n.c) last first (cell_part b n later)
cell_kept b rules m t l n later last first new k each behind before =
    let h = sides b m t l n later k in
    let upper : n.d ≡ n.c + (n.d - n.c) = omega (arith, h.tall) in
    let cells = cells_are b m t l n later new k each in
    hoisted_x b n.plate 3 n.e n.c (n.b - n.a) (n.d - n.c) last first n.w (cell_at b n later) (cells_behind n (grown b later))
    (record {
      some = cells.some;
      total = cells.total;
      border = λ e. subst (λ (y : ℕ). CrossesNoneX b.defects n.plate n.e n.c y) upper (k.rules.tr9.at_e (before e));
      strip = λ e. absurd (omega (arith, e));
      no_band = λ e. omega (arith, e);
      item = λ _. cells.item;
    })
    (leaves b rules m t l n later _ new k each) (behind.cells last)

cells_total : (b : Problem) (n : Cut) (later : List Spot) → Sides b n → n.cell_w ≡ n.w → Totals b n (grown b later) → total_size (gap n.a n.e Sort.Waste (cell_part b n later)) ≡ n.b - n.a
cells_total b n later h own tot =
    let full = rw own at tot.cells in
    omega (arith, full, gap_total n.a n.e Sort.Waste (cell_part b n later) h.across)

band_kept : (b : Problem) → IsProblem b → (m : Level) (t : Cut) (l : Level) (n : Cut) (later : List Spot) (last first : Bool) → ¬ (l ≡ Over) → Known b m t l n later → EachStep (Known b) l n later →
    Totals b n (grown b later) → Behind b n (grown b later) → Gap b.params.waste n.a n.e → (first ≡ false → 0 < n.c) →
    Kept b n.plate 2 Along.Y n.a n.c (n.b - n.a) b.params.height last first (band_part b n later)
band_kept b rules m t l n later last first new k each tot behind g before =
    let h = sides b m t l n later k in
    let end : n.b ≡ n.a + (n.b - n.a) = omega (arith, h.wide) in
    let upper : n.d ≡ n.c + (n.d - n.c) = omega (arith, h.tall) in
    hoisted_y b n.plate 2 n.a n.c (n.b - n.a) b.params.height last first (n.d - n.c) (gap n.a n.e Sort.Waste (cell_part b n later)) (bands_behind b.params n (grown b later))
    (record {
      some = some_gap n.a n.e Sort.Waste (cell_part b n later) refl;
      total = cells_total b n later h k.sound.own tot;
      border = λ e. subst (λ (x : ℕ). CrossesNoneY b.defects n.plate n.c n.a x) end (k.rules.tr9.at_c (before e));
      band = λ _. omega (arith, h.tall);
      no_strip = λ e. omega (arith, e);
      no_cell = λ e. omega (arith, e);
    })
    (gap_x b n.plate 3 n.a n.e n.c (n.b - n.a) (n.d - n.c) _ true Sort.Waste (cell_part b n later) h.across
    (λ lt. waste_x b n.plate 3 n.a n.c (n.b - n.a) (n.d - n.c) _ true (n.e - n.a) (cell_part b n later) (λ e. cc) (omega (arith, gap_broad _ _ _ g lt)) (omega (arith, h.tall, b.params.accepted.waste_min2)))
    (λ lt. cell_kept b rules m t l n later _ false new k each behind (λ _. lt))
    (λ same. cell_kept b rules m t l n later _ true new k each behind (λ e. cc)))
    (subst (λ (y : ℕ). Kept b n.plate 2 Along.Y n.a y (n.b - n.a) b.params.height last false (bands_behind b.params n (grown b later))) upper (behind.bands last))

strip_kept : (b : Problem) → IsProblem b → (m : Level) (t : Cut) (l : Level) (n : Cut) (later : List Spot) (first : Bool) → ¬ (l ≡ Over) → Known b m t l n later → EachStep (Known b) l n later →
    Totals b n (grown b later) → Behind b n (grown b later) → Gap b.params.waste n.a n.e → Gap b.params.waste 0 n.c → (first ≡ false → 0 < n.a) →
    Kept b n.plate 1 Along.X n.a 0 (Width b n.plate) b.params.height (is_nothing (grown b later).plates) first (strip_part b n later)
strip_kept b rules m t l n later first new k each tot behind g under before =
    let h = sides b m t l n later k in
    let end : n.b ≡ n.a + (n.b - n.a) = omega (arith, h.wide) in
    let last : Bool = is_nothing (grown b later).plates in
    hoisted_x b n.plate 1 n.a 0 (Width b n.plate) b.params.height last first (n.b - n.a) (gap 0 n.c Sort.Waste (band_part b n later)) (strips_behind b n (grown b later))
    (record {
      some = some_gap 0 n.c Sort.Waste (band_part b n later) refl;
      total = omega (arith, tot.bands, h.tall, gap_total 0 n.c Sort.Waste (band_part b n later) (omega arith));
      border = λ e. from_ground b n.plate n.a (k.rules.tr9.at_a (before e));
      strip = λ _. (omega (arith, h.wide), omega (arith, k.sound.fits.narrow));
      no_band = λ e. omega (arith, e);
      item = λ e. absurd (omega (arith, e));
    })
    (gap_y b n.plate 2 n.a 0 n.c (n.b - n.a) b.params.height _ true Sort.Waste (band_part b n later) (omega arith)
    (λ lt. waste_y b n.plate 2 n.a 0 (n.b - n.a) b.params.height _ true (n.c - 0) (band_part b n later) (λ e. cc) (omega (arith, h.wide, b.params.accepted.waste_min1)) (omega (arith, gap_broad _ _ _ under lt)))
    (λ lt. band_kept b rules m t l n later _ false new k each tot behind g (λ _. lt))
    (λ same. band_kept b rules m t l n later _ true new k each tot behind g (λ e. cc)))
    (subst (λ (x : ℕ). Kept b n.plate 1 Along.X x 0 (Width b n.plate) b.params.height last false (strips_behind b n (grown b later))) end behind.strips)

-- a plate whose first strip is that of a step
abbrev plate_part : Problem → Cut → List Spot → Forest
plate_part b n later = gap 0 n.a Sort.Waste (strip_part b n later)

first_kept : (b : Problem) → IsProblem b → (m : Level) (t : Cut) (l : Level) (n : Cut) (later : List Spot) (first : Bool) → ¬ (l ≡ Over) → Known b m t l n later → EachStep (Known b) l n later →
    Totals b n (grown b later) → Behind b n (grown b later) → Gap b.params.waste n.a n.e → Gap b.params.waste 0 n.c → Gap b.params.waste 0 n.a →
    Kept b n.plate 0 Along.Plates 0 0 0 b.params.height true first (sized b n.plate (piece 0 Sort.Branch (plate_part b n later) (grown b later).plates))
first_kept b rules m t l n later first new k each tot behind g under left =
    let h = sides b m t l n later k in
    let after : Forest = sized b (n.plate + 1) (grown b later).plates in
    plate_kept b n.plate b.params.height first (plate_part b n later) after
    (some_gap 0 n.a Sort.Waste (strip_part b n later) refl)
    (omega (arith, tot.strips, h.wide, gap_total 0 n.a Sort.Waste (strip_part b n later) (omega arith)))
    (subst (λ (last : Bool). Kept b n.plate 1 Along.X 0 0 (Width b n.plate) b.params.height last true (plate_part b n later)) (sym (nothing-sized b (n.plate + 1) (grown b later).plates))
    (gap_x b n.plate 1 0 n.a 0 (Width b n.plate) b.params.height _ true Sort.Waste (strip_part b n later) (omega arith)
    (λ lt. waste_x b n.plate 1 0 0 (Width b n.plate) b.params.height _ true (n.a - 0) (strip_part b n later) (λ e. cc) (omega (arith, gap_broad _ _ _ left lt)) (omega (arith, b.params.accepted.waste_min2, b.params.accepted.min2_height)))
    (λ lt. strip_kept b rules m t l n later false new k each tot behind g under (λ _. lt))
    (λ same. strip_kept b rules m t l n later true new k each tot behind g under (λ e. cc))))
    behind.plates

-- behind a strip there is a waste where a strip or a plate follows
pub waste_then : (plates : Forest) (size : ℕ) (sort : Sort) (inner later : Forest) → end_sort plates (piece size sort inner later) ≡ Sort.Waste
waste_then nothing size sort inner later = refl
waste_then (piece n t i l) size sort inner later = refl

-- the same pieces at the same place
moved : (b : Problem) (plate other cut : ℕ) (along : Along) (x x' y y' w w' h h' : ℕ) (last first : Bool) (f : Forest) → plate ≡ other → x ≡ x' → y ≡ y' → w ≡ w' → h ≡ h' →
    Kept b plate cut along x y w h last first f → Kept b other cut along x' y' w' h' last first f
moved b plate other cut along x x' y y' w w' h h' last first f ep ex ey ew eh k = rw (← ep, ← ex, ← ey, ← ew, ← eh) k

-- an item has a width
item_wide : (b : Problem) → IsProblem b → (m : Level) (t : Cut) (l : Level) (s : Cut) (later : List Spot) → Known b m t l s later → 1 ≤ s.w
item_wide b rules m t l s later k = omega (arith, k.item.1.w, wide s.draw.turn k.item.0 (item_all b HasSides s.place k.item.0 rules.sides k.item.1))

-- nothing more behind a step's cell, above its band, or right of its strip
no_cells : (b : Problem) (m : Level) (t : Cut) (l : Level) (s : Cut) (later : List Spot) (last : Bool) → Known b m t l s later → IsTrue (is_last_cell true (levels later)) →
    Kept b s.plate 3 Along.X (s.e + s.w) s.c (s.b - s.a) (s.d - s.c) last false (gap (s.e + s.w) s.b Sort.Waste nothing)
no_cells b m t l s later last k e =
    cells_gap b m t l s later s.b nothing last k (rw k.sound.own at (k.ends.cell e)) (omega arith) (kept_nothing b s.plate 3 Along.X s.b s.c (s.b - s.a) (s.d - s.c) last false)

no_bands : (b : Problem) (m : Level) (t : Cut) (l : Level) (s : Cut) (later : List Spot) (last : Bool) → Known b m t l s later → IsTrue (is_last_band true (levels later)) →
    Kept b s.plate 2 Along.Y s.a s.d (s.b - s.a) b.params.height last false (gap s.d b.params.height Sort.Waste nothing)
no_bands b m t l s later last k e =
    bands_gap b m t l s later b.params.height nothing last k (k.ends.band e) (omega arith) (kept_nothing b s.plate 2 Along.Y s.a b.params.height (s.b - s.a) b.params.height last false)

-- what stands behind each step keeps the rules
behind : (b : Problem) → IsProblem b → (m : Level) (t : Cut) (l : Level) (s : Cut) (later : List Spot) → Known b m t l s later → EachStep (Known b) l s later → Behind b s (grown b later)
behind b rules m t l s [] k each = record {
  cells = λ last. no_cells b m t l s [] last k refl;
  bands = λ last. no_bands b m t l s [] last k refl;
  strips = residual_gap b m t l s [] k (k.ends.strip refl);
  plates = kept_nothing b (s.plate + 1) 0 Along.Plates 0 0 0 b.params.height true false;
}
behind b rules m t l s (spot NewPlate n ∷ later) k each =
    let steps : List Spot = spot NewPlate n ∷ later in
    let r = each.0.rules in
    let rest = behind b rules l s NewPlate n later each.0 each.1 in
    let next : n.plate ≡ s.plate + 1 = omega (arith, each.0.sound.plate_is, k.sound.follows.plate, k.rules.tr1.0) in
    record {
      cells = λ last. no_cells b m t l s steps last k refl;
      bands = λ last. no_bands b m t l s steps last k refl;
      strips = strips_gap b m t l s steps (Width b s.plate) nothing false k (k.ends.strip refl) (omega arith) (kept_nothing b s.plate 1 Along.X (Width b s.plate) 0 (Width b s.plate) b.params.height false false);
      plates = subst (λ (q : ℕ). Kept b q 0 Along.Plates 0 0 0 b.params.height true false (sized b q (grown b (spot NewPlate n ∷ later)).plates)) next
          (first_kept b rules l s NewPlate n later false (λ e. cc) each.0 each.1 (totals_of b l s NewPlate n later each.0 each.1) rest r.tr6.0 r.tr5.0 r.tr4.0);
    }
behind b rules m t l s (spot NewStrip n ∷ later) k each =
    let p : Params = b.params in
    let steps : List Spot = spot NewStrip n ∷ later in
    let r = each.0.rules in
    let h = sides b m t l s steps k in
    let g : Grown = grown b later in
    let rest = behind b rules l s NewStrip n later each.0 each.1 in
    let same = each.0.sound.plate_is in
    let inside = rw same at each.0.sound.fits.within in
    let strip = strip_kept b rules l s NewStrip n later false (λ e. cc) each.0 each.1 (totals_of b l s NewStrip n later each.0 each.1) rest r.tr6.0 r.tr5.0
    (λ _. omega (arith, r.tr4.0, h.wide, p.accepted.waste_positive, p.accepted.waste_min1)) in
    record {
      cells = λ last. no_cells b m t l s steps last k refl;
      bands = λ last. no_bands b m t l s steps last k refl;
      strips = subst (λ (sort : Sort). Kept b s.plate 1 Along.X s.b 0 (Width b s.plate) p.height (is_nothing g.plates) false (gap s.b n.a sort (strip_part b n later))) (sym (waste_then g.plates _ _ _ _))
          (strips_gap b m t l s steps n.a (strip_part b n later) (is_nothing g.plates) k r.tr4.0 (omega (arith, each.0.sound.fits.ends, inside))
          (moved b n.plate s.plate 1 Along.X n.a n.a 0 0 (Width b n.plate) (Width b s.plate) p.height p.height (is_nothing g.plates) false (strip_part b n later) same refl refl (ap (Width b) same) refl strip));
      plates = rw same at rest.plates;
    }
behind b rules m t l s (spot NewBand n ∷ later) k each =
    let p : Params = b.params in
    let steps : List Spot = spot NewBand n ∷ later in
    let r = each.0.rules in
    let h = sides b m t l s steps k in
    let rest = behind b rules l s NewBand n later each.0 each.1 in
    let same = each.0.sound.plate_is in
    let i = each.0.sound.inherits in
    record {
      cells = λ last. no_cells b m t l s steps last k refl;
      bands = λ last. bands_gap b m t l s steps n.c (band_part b n later) last k r.tr5.0 (omega (arith, each.0.sound.fits.ends, each.0.sound.fits.high))
          (moved b n.plate s.plate 2 Along.Y n.a s.a n.c n.c (n.b - n.a) (s.b - s.a) p.height p.height last false (band_part b n later) same i.0 refl (omega (arith, i)) refl
          (band_kept b rules l s NewBand n later last false (λ e. cc) each.0 each.1 (totals_of b l s NewBand n later each.0 each.1) rest r.tr6.0
          (λ _. omega (arith, r.tr5.0, h.tall, p.accepted.waste_positive, p.accepted.waste_min2))));
      strips = rw (i.1, same) at rest.strips;
      plates = rw same at rest.plates;
    }
behind b rules m t l s (spot NewCell n ∷ later) k each =
    let p : Params = b.params in
    let steps : List Spot = spot NewCell n ∷ later in
    let r = each.0.rules in
    let h = sides b m t l s steps k in
    let rest = behind b rules l s NewCell n later each.0 each.1 in
    let same = each.0.sound.plate_is in
    let i = each.0.sound.inherits in
    let beside = rw k.sound.own at r.tr6.0 in
    record {
      cells = λ last. cells_gap b m t l s steps n.e (cell_part b n later) last k beside (omega (arith, (sides b l s NewCell n later each.0).right, i))
          (moved b n.plate s.plate 3 Along.X n.e n.e n.c s.c (n.b - n.a) (s.b - s.a) (n.d - n.c) (s.d - s.c) last false (cell_part b n later) same refl i.2 (omega (arith, i)) (omega (arith, i))
          (cell_kept b rules l s NewCell n later last false (λ e. cc) each.0 each.1 rest (λ _. omega (arith, beside, h.across, i, item_wide b rules m t l s steps k))));
      bands = λ last. rw (i.0, i.1, i.3, same) at (rest.bands last);
      strips = rw (i.1, same) at rest.strips;
      plates = rw same at rest.plates;
    }
behind b rules m t l s (spot Over n ∷ later) k each =
    let rest = behind b rules l s Over n later each.0 each.1 in
    let same = each.0.sound.plate_is in
    let i = each.0.sound.inherits in
    record {
      cells = λ last. rw (i.0, i.1, i.2, i.3, i.4, each.0.rules.tr7.1, same) at (rest.cells last);
      bands = λ last. rw (i.0, i.1, i.3, same) at (rest.bands last);
      strips = rw (i.1, same) at rest.strips;
      plates = rw same at rest.plates;
    }

-- the canonical plan of a trace keeps the rules on cuts
pub canonical_cuts : (b : Problem) → IsProblem b → (ss : List Step) → Meets b ss → All (KeepsCutRules b) (families_of b (canonical b ss))
canonical_cuts b rules [] m = kept_nothing b 0 0 Along.Plates 0 0 0 b.params.height true true None 0
canonical_cuts b rules (s ∷ ss) m =
    let first : Cut = cut (place_of b [] no_place (draw_of s)) s in
    let later : List Spot = attach (marks b (draw_of s ∷ []) first.place (map draw_of ss)) ss in
    let k = known_all b rules (s ∷ ss) m in
    let zero_plate : first.plate ≡ 0 = omega (arith, k.0.sound.plate_is) in
    let kept = first_kept b rules NewPlate no_cut NewPlate first later true (λ e. cc) k.0 k.1 (totals_of b NewPlate no_cut NewPlate first later k.0 k.1) (behind b rules NewPlate no_cut NewPlate first later k.0 k.1)
    m.0.tr6.0 m.0.tr5.0 m.0.tr4.0 in
    subst (λ (q : ℕ). Kept b q 0 Along.Plates 0 0 0 b.params.height true true (sized b q (canonical b (s ∷ ss)))) zero_plate kept None 0
