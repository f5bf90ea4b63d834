-- One step of an item in its place keeps the rules, given what was cut before it and what is known of its place.
use Rattle.std.proofs.Common.{◌≡◌, ℕ, zero, suc, ◌+◌, ◌-◌, ◌<◌, ◌≤◌, ◌⊎◌, ◌==◌, inl, inr, List, [], ◌∷◌, map, refl, sym, ap, ◌∙◌, subst, arith, eqb-true, Bool, true, false, cond, IsTrue, Some, IsSome}
use Rattle.std.specs.Prelude.{IfSome}
use Rattle.std.proofs.lemmas.Bool.Decides.{nat_tests}
use Rattle.glass_base.specs.declared.params.Params.{Params}
use Rattle.glass_base.specs.declared.item.Item.{Item}
use Rattle.glass_base.specs.Items.{HasSides}
use Rattle.glass_base.specs.Plates.{Width}
use Rattle.glass_base.specs.Problem.{Problem, item_at}
use Rattle.glass_base.specs.Stacks.{stack_of}
use Rattle.cut_model.specs.declared.steps.Step.{Step}
use Rattle.cut_model.specs.Order.{item_with}
use Rattle.cut_model.specs.Steps.{plates_after}
use Rattle.cut_model.specs.Traces.{Sides, turn_in, step_of}
use Rattle.defect_map.specs.Queries.{HitsNone, CrossesNoneX, CrossesNoneY}
use Rattle.plan_trace.specs.Marks.{Level, NewCell, Over, level_of, begins, Draw, drawn, Place, Cut, Spot, draw_of, item_width, item_height, cell_width, place_of, marks, attach, levels}
use Rattle.plan_trace.specs.TraceRules.{Gap, is_last_strip, is_last_band, is_last_cell, is_last_in_cell, AloneFits, StripFits, BandFits, CellFits, LiftLine, TR9, bottom, Rules, EachStep}
use Rattle.plan_trace.proofs.Ahead.{levels_of, levels_later}

-- the steps from a state on keep the rules: the draws before them, and the step before them with its level
abbrev pub Meeting : Problem → List Draw → Level → Cut → List Step → Type 0
Meeting b before m t steps = EachStep (Rules b) m t (attach (marks b before t.place (map draw_of steps)) steps)

-- the item of this number is the next of its stack
pub record IsNext (b : Problem) (before : List Draw) (number : ℕ) : Type 0 where
  pub item : Item
  pub stack : ℕ
  pub found : item_with b.items number ≡ Some item
  pub mine : stack_of b.items item ≡ Some stack
  pub there : item_at b stack (drawn before stack) ≡ Some item
  pub sides : HasSides item

-- so are the items of these numbers, one after the other
abbrev pub Due : Problem → List Draw → List ℕ → Type 0
Due b before [] = Unit {0}
Due b before (number ∷ later) =
    (h : IsNext b before number) × ((turn kind lift : ℕ) → Due b (record { stack = h.stack; turn = turn; kind = kind; lift = lift } ∷ before) later)

-- what a step of this kind needs of the step before it, where its piece has these sides
abbrev pub Follows : ℕ → ℕ → ℕ → Cut → ℕ → ℕ → ℕ → ℕ → ℕ → Type 0
Follows waste zero plate t a b c d e = (t.plates ≡ plate) × Gap waste 0 a × Gap waste 0 c × Gap waste a e
Follows waste (suc zero) plate t a b c d e = (t.plates ≡ plate + 1) × Gap waste t.b a × Gap waste 0 c × Gap waste a e
Follows waste (suc (suc zero)) plate t a b c d e = (t.plates ≡ plate + 1) × (a ≡ t.a) × (b ≡ t.b) × Gap waste t.d c × Gap waste a e
Follows waste (suc (suc (suc zero))) plate t a b c d e =
    (t.plates ≡ plate + 1) × (a ≡ t.a) × (b ≡ t.b) × (c ≡ t.c) × (d ≡ t.d) × Gap waste (t.e + t.cell_w) e
Follows waste (suc (suc (suc (suc _)))) plate t a b c d e = ⊥

-- the state in which the next item is cut, with this kind, in a place with these sides; the numbers are those of the items to come
pub record Now (b : Problem) (kind plate left right low high from : ℕ) (before : List Draw) (t : Cut) (numbers : List ℕ) : Type 0 where
  pub begun : begins before kind ≡ level_of kind
  pub follows : Follows b.params.waste kind plate t left right low high from
  pub due : Due b before numbers

-- a strip on its plate
pub record OnPlate (b : Problem) (plate left right : ℕ) : Type 0 where
  pub wide : left + b.params.min1 ≤ right
  pub narrow : right ≤ left + b.params.max1
  pub within : right ≤ Width b plate
  pub at_a : 0 < left → CrossesNoneX b.defects plate left 0 b.params.height
  pub at_b : right < Width b plate → CrossesNoneX b.defects plate right 0 b.params.height

-- a band in its strip
pub record InStrip (b : Problem) (plate left right low high : ℕ) : Type 0 where
  pub least : low + b.params.min2 ≤ high
  pub within : high ≤ b.params.height
  pub at_c : 0 < low → CrossesNoneY b.defects plate low left right
  pub at_d : high < b.params.height → CrossesNoneY b.defects plate high left right

-- an item that is alone in its cell, by its lift
abbrev pub AloneIn : ℕ → ℕ → ℕ → ℕ → ℕ → ℕ → Type 0
AloneIn waste zero low high h w = (low + h ≡ high) ⊎ ((low + h + waste ≤ high) × (waste ≤ w))
AloneIn waste (suc _) low high h w = (low + h + waste ≤ high) × (waste ≤ w)

-- the line of a lift
abbrev pub LineIn : Problem → ℕ → ℕ → ℕ → ℕ → ℕ → ℕ → ℕ → Type 0
LineIn b plate zero low high h from w = low + h < high → CrossesNoneY b.defects plate (low + h) from (from + w)
LineIn b plate (suc _) low high h from w = CrossesNoneY b.defects plate (high - h) from (from + w)

-- the lower side of an item that begins a cell
abbrev pub bottom_in : ℕ → ℕ → ℕ → ℕ → ℕ
bottom_in zero low high h = low
bottom_in (suc _) low high h = high - h

-- what is known of an item's place: its sides, its height, its lift, and the levels of the later steps
pub record InPlace (b : Problem) (plate : ℕ) (r : Sides) (h lift : ℕ) (later : List Level) : Type 0 where
  pub few : plate < b.params.plates
  pub strip : OnPlate b plate r.a r.b
  pub band : InStrip b plate r.a r.b r.c r.d
  pub lifted : lift ≤ 1
  pub at_e : r.a < r.e → CrossesNoneX b.defects plate r.e r.c r.d
  pub at_end : r.e + r.width < r.b → CrossesNoneX b.defects plate (r.e + r.width) r.c r.d
  pub line : 0 < r.width → LineIn b plate lift r.c r.d h r.e r.width
  pub sound : 0 < r.width → 0 < h → HitsNone b.defects plate r.e (bottom_in lift r.c r.d h) (r.e + r.width) (bottom_in lift r.c r.d h + h)
  pub last_strip : IsTrue (is_last_strip true later) → Gap b.params.waste r.b (Width b plate)
  pub last_band : IsTrue (is_last_band true later) → Gap b.params.waste r.d b.params.height
  pub last_cell : IsTrue (is_last_cell true later) → Gap b.params.waste (r.e + r.width) r.b
  pub alone : IsTrue (is_last_in_cell true later) → AloneIn b.params.waste lift r.c r.d h r.width

-- a step with these sides
abbrev pub in_sides : Place → Sides → Cut
in_sides q r = record { place = q; a = r.a; b = r.b; c = r.c; d = r.d; e = r.e }

-- what the place of a step that begins a cell within these sides is
pub record IsPlace (q : Place) (r : Sides) (kind lift plate h : ℕ) : Type 0 where
  pub kind_is : q.draw.kind ≡ kind
  pub lift_is : q.draw.lift ≡ lift
  pub turn : q.draw.turn ≤ 1
  pub square : q.w ≡ q.h → q.draw.turn ≡ 0
  pub some : IsSome q.item
  pub plates_is : q.plates ≡ plate + 1
  pub plate_is : q.plate ≡ plate
  pub w_is : q.w ≡ r.width
  pub h_is : q.h ≡ h
  pub cell_is : q.cell_w ≡ r.width
  pub wide : 0 < r.width
  pub high : 0 < h

alone_fits : (p : Params) (lift : ℕ) (q : Place) (r : Sides) (h : ℕ) → q.w ≡ r.width → q.h ≡ h → AloneIn p.waste lift r.c r.d h r.width → AloneFits p lift (in_sides q r)
alone_fits p zero q r h w k x = rw (w, k) x
alone_fits p (suc n) q r h w k x = rw (w, k) x

lift_line : (b : Problem) (lift : ℕ) (q : Place) (r : Sides) (plate h : ℕ) → q.plate ≡ plate → q.w ≡ r.width → q.h ≡ h → LineIn b plate lift r.c r.d h r.e r.width → LiftLine b.defects NewCell lift (in_sides q r)
lift_line b zero q r plate h p w k x = rw (p, w, k) x
lift_line b (suc n) q r plate h p w k x = rw (p, w, k) x

sound_at : (b : Problem) (lift : ℕ) (q : Place) (r : Sides) (plate h : ℕ) → q.plate ≡ plate → q.w ≡ r.width → q.h ≡ h →
    HitsNone b.defects plate r.e (bottom_in lift r.c r.d h) (r.e + r.width) (bottom_in lift r.c r.d h + h) →
    let y : ℕ = bottom NewCell lift r.c r.d q.h in HitsNone b.defects q.plate r.e y (r.e + q.w) (y + q.h)
sound_at b zero q r plate h p w k x = rw (p, w, k) x
sound_at b (suc n) q r plate h p w k x = rw (p, w, k) x

-- the lines of a step that begins a cell
lines : (b : Problem) (q : Place) (r : Sides) (kind lift plate h : ℕ) (later : List Level) → IsPlace q r kind lift plate h → InPlace b plate r h lift later → TR9 b b.defects NewCell (in_sides q r)
lines b q r kind lift plate h later is x = record {
  at_a = rw is.plate_is x.strip.at_a;
  at_b = rw is.plate_is x.strip.at_b;
  at_c = rw is.plate_is x.band.at_c;
  at_d = rw is.plate_is x.band.at_d;
  at_e = rw is.plate_is x.at_e;
  at_end = rw (is.plate_is, is.w_is) x.at_end;
  at_lift = subst (λ n. LiftLine b.defects NewCell n (in_sides q r)) (sym is.lift_is) (lift_line b lift q r plate h is.plate_is is.w_is is.h_is (x.line is.wide));
}

-- what holds at a step that begins a cell, whatever else it begins
record Starts (b : Problem) (s : Cut) (later : List Spot) : Type 0 where
  strip : (from : ℕ) → Gap b.params.waste from s.a → StripFits b from s later
  band : (from : ℕ) → Gap b.params.waste from s.c → BandFits b.params from s later
  cell : (from : ℕ) → Gap b.params.waste from s.e → CellFits b.params from s later
  alone : IsTrue (is_last_in_cell true (levels later)) → AloneFits b.params s.draw.lift s
  sound : let y : ℕ = bottom NewCell s.draw.lift s.c s.d s.h in HitsNone b.defects s.plate s.e y (s.e + s.w) (y + s.h)
  lines : TR9 b b.defects NewCell s

starts : (b : Problem) (q : Place) (r : Sides) (kind lift plate h : ℕ) (later : List Spot) (ls : List Level) → levels later ≡ ls → IsPlace q r kind lift plate h → InPlace b plate r h lift ls → Starts b (in_sides q r) later
starts b q r kind lift plate h later ls same is x = record {
  strip = λ from gap. rw is.plate_is (gap, x.strip.wide, x.strip.narrow, x.strip.within, λ last. x.last_strip (rw same at last));
  band = λ from gap. (gap, x.band.least, x.band.within, λ last. x.last_band (rw same at last));
  cell = λ from gap. rw is.cell_is (gap, λ last. x.last_cell (rw same at last));
  alone = λ last. subst (λ n. AloneFits b.params n (in_sides q r)) (sym is.lift_is) (alone_fits b.params lift q r h is.w_is is.h_is (x.alone (rw same at last)));
  sound = rw is.lift_is (sound_at b lift q r plate h is.plate_is is.w_is is.h_is (x.sound is.wide is.high));
  lines = lines b q r kind lift plate h ls is x;
}

-- the rules at a step that begins a cell
rules : (b : Problem) (m : Level) (t : Cut) (q : Place) (r : Sides) (kind lift plate h : ℕ) (later : List Spot) → plate < b.params.plates → lift ≤ 1 → IsPlace q r kind lift plate h →
    Follows b.params.waste kind plate t r.a r.b r.c r.d r.e → Starts b (in_sides q r) later → Rules b m t (level_of kind) (in_sides q r) later
rules b m t q r zero lift plate h later few one is f x = record {
  tr1 = omega (arith, few, is.plates_is, is.kind_is);
  tr2 = is.some;
  tr3 = (is.turn, omega (arith, one, is.lift_is), is.square, tt);
  tr4 = x.strip 0 f.1;
  tr5 = x.band 0 f.2;
  tr6 = x.cell r.a f.3;
  tr7 = x.alone;
  tr8 = x.sound;
  tr9 = record { at_a = x.lines.at_a; at_b = x.lines.at_b; at_c = x.lines.at_c; at_d = x.lines.at_d; at_e = x.lines.at_e; at_end = x.lines.at_end; at_lift = x.lines.at_lift };
}
rules b m t q r (suc zero) lift plate h later few one is f x = record {
  tr1 = omega (arith, few, is.plates_is, is.kind_is);
  tr2 = is.some;
  tr3 = (is.turn, omega (arith, one, is.lift_is), is.square, tt);
  tr4 = x.strip t.b f.1;
  tr5 = x.band 0 f.2;
  tr6 = x.cell r.a f.3;
  tr7 = x.alone;
  tr8 = x.sound;
  tr9 = record { at_a = x.lines.at_a; at_b = x.lines.at_b; at_c = x.lines.at_c; at_d = x.lines.at_d; at_e = x.lines.at_e; at_end = x.lines.at_end; at_lift = x.lines.at_lift };
}
rules b m t q r (suc (suc zero)) lift plate h later few one is f x = record {
  tr1 = omega (arith, few, is.plates_is, is.kind_is);
  tr2 = is.some;
  tr3 = (is.turn, omega (arith, one, is.lift_is), is.square, (f.1, f.2));
  tr4 = tt;
  tr5 = x.band t.d f.3;
  tr6 = x.cell r.a f.4;
  tr7 = x.alone;
  tr8 = x.sound;
  tr9 = record { at_a = x.lines.at_a; at_b = x.lines.at_b; at_c = x.lines.at_c; at_d = x.lines.at_d; at_e = x.lines.at_e; at_end = x.lines.at_end; at_lift = x.lines.at_lift };
}
rules b m t q r (suc (suc (suc zero))) lift plate h later few one is f x = record {
  tr1 = omega (arith, few, is.plates_is, is.kind_is);
  tr2 = is.some;
  tr3 = (is.turn, omega (arith, one, is.lift_is), is.square, (f.1, f.2, f.3, f.4));
  tr4 = tt;
  tr5 = tt;
  tr6 = x.cell (t.e + t.cell_w) f.5;
  tr7 = x.alone;
  tr8 = x.sound;
  tr9 = x.lines;
}
rules b m t q r (suc (suc (suc (suc n)))) lift plate h later few one is f x = absurd f

-- the sides of an item in a piece of this width and height
abbrev pub Turns : ℕ → ℕ → Item → Type 0
Turns width height item = ((width ≡ item.length) × (height ≡ item.width)) ⊎ ((width ≡ item.width) × (height ≡ item.length))

-- its turn, and its sides by the turn
record Turned (width height : ℕ) (item : Item) (turn : ℕ) : Type 0 where
  width_is : item_width turn (Some item) ≡ width
  height_is : item_height turn (Some item) ≡ height
  least : turn ≤ 1
  square : width ≡ height → turn ≡ 0
  wide : 0 < width
  high : 0 < height

turned : (r : Sides) (height : ℕ) (item : Item) → HasSides item → Turns r.width height item → Turned r.width height item (turn_in r item)
turned r height item some sides = by (r.width == item.length) refl sides
  where
    by : (same : Bool) → (r.width == item.length) ≡ same → Turns r.width height item → Turned r.width height item (cond same 0 1)
    by true e (inl h) = record { width_is = sym h.0; height_is = sym h.1; least = omega arith; square = λ _. refl; wide = omega (arith, some, h); high = omega (arith, some, h) }
    by true e (inr h) =
        let is : r.width ≡ item.length = eqb-true r.width item.length e in
        record { width_is = sym is; height_is = omega (arith, is, h.0, h.1); least = omega arith; square = λ _. refl; wide = omega (arith, some, h); high = omega (arith, some, h) }
    by false e (inl h) = absurd (grind (arith, nat_tests))
    by false e (inr h) = record { width_is = sym h.0; height_is = sym h.1; least = omega arith; square = λ same. absurd (grind (arith, nat_tests)); wide = omega (arith, some, h); high = omega (arith, some, h) }

-- the state behind a step that was placed within these sides
pub record Behind (b : Problem) (r : Sides) (lift plate h : ℕ) (before : List Draw) (t : Cut) (numbers : List ℕ) : Type 0 where
  pub begun : (kind : ℕ) → begins before kind ≡ level_of kind
  pub due : Due b before numbers
  pub plates_is : t.plates ≡ plate + 1
  pub lift_is : t.draw.lift ≡ lift
  pub a_is : r.a ≡ t.a
  pub b_is : r.b ≡ t.b
  pub c_is : r.c ≡ t.c
  pub d_is : r.d ≡ t.d
  pub e_is : r.e ≡ t.e
  pub w_is : t.w ≡ r.width
  pub h_is : t.h ≡ h
  pub cell_is : t.cell_w ≡ r.width

-- plates after a step, by its kind
plates_by : (waste kind plate : ℕ) (t : Cut) (a b c d e : ℕ) → Follows waste kind plate t a b c d e → plates_after kind t.plates ≡ plate + 1
plates_by waste zero plate t a b c d e f = ap (λ n. n + 1) f.0
plates_by waste (suc zero) plate t a b c d e f = f.0
plates_by waste (suc (suc zero)) plate t a b c d e f = f.0
plates_by waste (suc (suc (suc zero))) plate t a b c d e f = f.0
plates_by waste (suc (suc (suc (suc n)))) plate t a b c d e f = absurd f

-- the cell of a step that begins one has the width of its item
cell_by : (waste kind plate : ℕ) (t : Cut) (a b c d e before w : ℕ) → Follows waste kind plate t a b c d e → cell_width (level_of kind) before w ≡ w
cell_by waste zero plate t a b c d e before w f = refl
cell_by waste (suc zero) plate t a b c d e before w f = refl
cell_by waste (suc (suc zero)) plate t a b c d e before w f = refl
cell_by waste (suc (suc (suc zero))) plate t a b c d e before w f = refl
cell_by waste (suc (suc (suc (suc n)))) plate t a b c d e before w f = absurd f

-- the step of an item whose stack is known
abbrev pub placed : Sides → ℕ → ℕ → ℕ → Item → Step
placed r stack kind lift item = record { stack = stack; turn = turn_in r item; kind = kind; lift = lift; a = r.a; b = r.b; c = r.c; d = r.d; e = r.e }

pub step_placed : (b : Problem) (r : Sides) (kind lift number : ℕ) (before : List Draw) (n : IsNext b before number) → step_of b r kind lift number ≡ placed r n.stack kind lift n.item
step_placed b r kind lift number before n = rw (n.found, n.mine) refl

-- an item that begins a cell in its place keeps the rules, and those that follow keep them behind it
pub item_meets : (b : Problem) (r : Sides) (kind lift number plate h : ℕ) (before : List Draw) (m : Level) (t : Cut) (numbers : List ℕ) (follow : List Step) →
    Now b kind plate r.a r.b r.c r.d r.e before t (number ∷ numbers) → IfSome (item_with b.items number) (Turns r.width h) → InPlace b plate r h lift (levels_of follow) →
    ((next : List Draw) (s : Cut) → Behind b r lift plate h next s numbers → Meeting b next (level_of kind) s follow) →
    Meeting b before m t (step_of b r kind lift number ∷ follow)
item_meets b r kind lift number plate h before m t numbers follow now sides x rest =
    let n : IsNext b before number = now.due.0 in
    let s : Step = placed r n.stack kind lift n.item in
    let q : Place = place_of b before t.place (draw_of s) in
    let turn : Turned r.width h n.item (turn_in r n.item) = turned r h n.item n.sides (rw n.found at sides) in
    let w_is : q.w ≡ r.width = ap (item_width (turn_in r n.item)) n.there ∙ turn.width_is in
    let h_is : q.h ≡ h = ap (item_height (turn_in r n.item)) n.there ∙ turn.height_is in
    let plates : q.plates ≡ plate + 1 = plates_by b.params.waste kind plate t r.a r.b r.c r.d r.e now.follows in
    let cell : q.cell_w ≡ r.width = ap (λ l. cell_width l t.cell_w q.w) now.begun ∙ cell_by b.params.waste kind plate t r.a r.b r.c r.d r.e t.cell_w q.w now.follows ∙ w_is in
    let is : IsPlace q r kind lift plate h = record {
      kind_is = refl;
      lift_is = refl;
      turn = turn.least;
      square = λ same. turn.square (omega (arith, same, w_is, h_is));
      some = subst IsSome (sym n.there) refl;
      plates_is = plates;
      plate_is = omega (arith, plates);
      w_is = w_is;
      h_is = h_is;
      cell_is = cell;
      wide = turn.wide;
      high = turn.high;
    } in
    let later : List Spot = attach (marks b (draw_of s ∷ before) q (map draw_of follow)) follow in
    let behind : Behind b r lift plate h (draw_of s ∷ before) (in_sides q r) numbers = record {
      begun = λ _. refl;
      due = now.due.1 (turn_in r n.item) kind lift;
      plates_is = plates;
      lift_is = refl;
      a_is = refl;
      b_is = refl;
      c_is = refl;
      d_is = refl;
      e_is = refl;
      w_is = w_is;
      h_is = h_is;
      cell_is = cell;
    } in
    let kept : Rules b m t (level_of kind) (in_sides q r) later =
    rules b m t q r kind lift plate h later x.few x.lifted is now.follows (starts b q r kind lift plate h later (levels_of follow) (levels_later b (draw_of s) before q follow) is x) in
    subst (λ (step : Step). Meeting b before m t (step ∷ follow)) (sym (step_placed b r kind lift number before n))
    (subst (λ l. Rules b m t l (in_sides q r) later × EachStep (Rules b) l (in_sides q r) later) (sym now.begun) (kept, rest (draw_of s ∷ before) (in_sides q r) behind))

-- what is known of the place of an item that lies over another one in its cell
pub record OverPlace (b : Problem) (plate : ℕ) (r : Sides) (below h : ℕ) : Type 0 where
  pub few : plate < b.params.plates
  pub strip : OnPlate b plate r.a r.b
  pub band : InStrip b plate r.a r.b r.c r.d
  pub at_e : r.a < r.e → CrossesNoneX b.defects plate r.e r.c r.d
  pub at_end : r.e + r.width < r.b → CrossesNoneX b.defects plate (r.e + r.width) r.c r.d
  pub fill : r.c + (below + h) ≡ r.d
  pub sound : 0 < r.width → 0 < h → HitsNone b.defects plate r.e (r.d - h) (r.e + r.width) (r.d - h + h)

over_sound : (b : Problem) (q : Place) (r : Sides) (plate h : ℕ) → q.plate ≡ plate → q.w ≡ r.width → q.h ≡ h → HitsNone b.defects plate r.e (r.d - h) (r.e + r.width) (r.d - h + h) →
    let y : ℕ = r.d - q.h in HitsNone b.defects q.plate r.e y (r.e + q.w) (y + q.h)
over_sound b q r plate h p w k x = rw (p, w, k) x

-- an item over another one keeps the rules
pub over_meets : (b : Problem) (r : Sides) (number plate below h : ℕ) (before : List Draw) (m : Level) (t : Cut) (numbers : List ℕ) (follow : List Step) →
    Behind b r 0 plate below before t (number ∷ numbers) → (m ≡ Over → ⊥) → IfSome (item_with b.items number) (Turns r.width h) → OverPlace b plate r below h →
    ((next : List Draw) (s : Cut) → Behind b r 0 plate h next s numbers → Meeting b next Over s follow) →
    Meeting b before m t (step_of b r 4 0 number ∷ follow)
over_meets b r number plate below h before m t numbers follow behind lower sides x rest =
    let n : IsNext b before number = behind.due.0 in
    let s : Step = placed r n.stack 4 0 n.item in
    let q : Place = place_of b before t.place (draw_of s) in
    let turn : Turned r.width h n.item (turn_in r n.item) = turned r h n.item n.sides (rw n.found at sides) in
    let w_is : q.w ≡ r.width = ap (item_width (turn_in r n.item)) n.there ∙ turn.width_is in
    let h_is : q.h ≡ h = ap (item_height (turn_in r n.item)) n.there ∙ turn.height_is in
    let plate_is : q.plate ≡ plate = omega (arith, behind.plates_is) in
    let cell : q.cell_w ≡ r.width = ap (λ l. cell_width l t.cell_w q.w) (behind.begun 4) ∙ behind.cell_is in
    let later : List Spot = attach (marks b (draw_of s ∷ before) q (map draw_of follow)) follow in
    let kept : Rules b m t Over (in_sides q r) later = record {
      tr1 = omega (arith, x.few, behind.plates_is);
      tr2 = subst IsSome (sym n.there) refl;
      tr3 = (turn.least, omega arith, λ same. turn.square (omega (arith, same, w_is, h_is)), (behind.a_is, behind.b_is, behind.c_is, behind.d_is, behind.e_is));
      tr4 = tt;
      tr5 = tt;
      tr6 = tt;
      tr7 = (refl, w_is ∙ sym behind.w_is, behind.lift_is, lower, omega (arith, behind.h_is, h_is, x.fill));
      tr8 = over_sound b q r plate h plate_is w_is h_is (x.sound turn.wide turn.high);
      tr9 = record {
        at_a = subst (λ n. 0 < r.a → CrossesNoneX b.defects n r.a 0 b.params.height) (sym plate_is) x.strip.at_a;
        at_b = subst (λ n. r.b < Width b n → CrossesNoneX b.defects n r.b 0 b.params.height) (sym plate_is) x.strip.at_b;
        at_c = subst (λ n. 0 < r.c → CrossesNoneY b.defects n r.c r.a r.b) (sym plate_is) x.band.at_c;
        at_d = subst (λ n. r.d < b.params.height → CrossesNoneY b.defects n r.d r.a r.b) (sym plate_is) x.band.at_d;
        at_e = subst (λ n. r.a < r.e → CrossesNoneX b.defects n r.e r.c r.d) (sym plate_is) x.at_e;
        at_end = subst (λ w. r.e + w < r.b → CrossesNoneX b.defects q.plate (r.e + w) r.c r.d) (sym w_is)
            (subst (λ n. r.e + r.width < r.b → CrossesNoneX b.defects n (r.e + r.width) r.c r.d) (sym plate_is) x.at_end);
        at_lift = tt;
      };
    } in
    let next : Behind b r 0 plate h (draw_of s ∷ before) (in_sides q r) numbers = record {
      begun = λ _. refl;
      due = behind.due.1 (turn_in r n.item) 4 0;
      plates_is = behind.plates_is;
      lift_is = refl;
      a_is = refl;
      b_is = refl;
      c_is = refl;
      d_is = refl;
      e_is = refl;
      w_is = w_is;
      h_is = h_is;
      cell_is = cell;
    } in
    subst (λ (step : Step). Meeting b before m t (step ∷ follow)) (sym (step_placed b r 4 0 number before n))
    (subst (λ l. Rules b m t l (in_sides q r) later × EachStep (Rules b) l (in_sides q r) later) (sym (behind.begun 4)) (kept, rest (draw_of s ∷ before) (in_sides q r) next))
