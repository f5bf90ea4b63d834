-- The steps that may follow are those that have a place.
use Rattle.std.proofs.Common.{◌≡◌, ◌↔◌, ℕ, zero, suc, ◌+◌, ◌-◌, ◌<◌, ◌≤◌, inl, inr, List, [], ◌∷◌, Some, Option, IsSome, refl, sym, ap, ◌∙◌, subst, arith}
use Rattle.glass_base.specs.declared.item.Item.{Item}
use Rattle.glass_base.specs.Problem.{Problem, item_at}
use Rattle.cut_model.specs.declared.steps.Step.{Step}
use Rattle.defect_map.specs.Queries.{CrossesNoneY, HitsNone}
use Rattle.plan_trace.specs.declared.level.Level.{Level}
use Rattle.plan_trace.specs.declared.level.Level.TheVariants.{NewPlate, NewStrip, NewBand, NewCell, Over}
use Rattle.plan_trace.specs.Marks.{Cut, Draw, begins, cell_width, draw_of, drawn, item_height, item_width, no_cut}
use Rattle.plan_trace.specs.TraceRules.{AloneFits, EachStep, LiftLine, Meets, Rules, StripFits, TR1, TR2, bottom}
use Rattle.plan_trace.specs.inner.Laid.{draws_before, draws_of}
use Rattle.plan_draft.specs.Drafts.{MayFollow, StandsAlone}
use Rattle.plan_draft.specs.inner.Lasts.{last_cut}
use Rattle.plan_draft.specs.inner.Places.{IsPlace}
use Rattle.plan_draft.specs.inner.Steps.{IsPlaced, MayStand, place_in}
use Rattle.plan_draft.proofs.Appending.{appended, behind, last_level, last_rules, next_cut, next_level}
use Rattle.plan_draft.proofs.Placing.{IsAlone, Stands, place_of, stands_of}

abbrev IsPlaceOf : Problem → ℕ → ℕ → Item → Step → Type 0
IsPlaceOf b plate from item s = IsPlace b plate from item (place_in s)

-- a step that begins a strip, behind what ends at `from`
abbrev Begins : Level → Cut → ℕ → Type 0
Begins NewPlate t from = from ≡ 0
Begins NewStrip t from = from ≡ t.b
Begins _ t from = ⊥

unlifted_low : (l : Level) (lift c d h : ℕ) (t : Cut) (from : ℕ) → Begins l t from → lift ≡ 0 → bottom l lift c d h ≡ c
unlifted_low NewPlate lift c d h t from at e = rw e refl
unlifted_low NewStrip lift c d h t from at e = rw e refl
unlifted_low NewBand lift c d h t from at e = absurd at
unlifted_low NewCell lift c d h t from at e = absurd at
unlifted_low Over lift c d h t from at e = absurd at

unlifted_line : (b : Problem) (l : Level) (s t : Cut) (from : ℕ) → Begins l t from → (s.c + s.h < s.d → CrossesNoneY b.defects s.plate (s.c + s.h) s.e (s.e + s.w)) → LiftLine b.defects l 0 s
unlifted_line b NewPlate s t from at h = h
unlifted_line b NewStrip s t from at h = h
unlifted_line b NewBand s t from at h = absurd at
unlifted_line b NewCell s t from at h = absurd at
unlifted_line b Over s t from at h = absurd at

line_of : (b : Problem) (l : Level) (s t : Cut) (from : ℕ) → Begins l t from → LiftLine b.defects l 0 s → s.c + s.h < s.d → CrossesNoneY b.defects s.plate (s.c + s.h) s.e (s.e + s.w)
line_of b NewPlate s t from at h = h
line_of b NewStrip s t from at h = h
line_of b NewBand s t from at h = absurd at
line_of b NewCell s t from at h = absurd at
line_of b Over s t from at h = absurd at

-- the rules at a step that begins a plate, or a strip
to_rules : (b : Problem) (m : Level) (t : Cut) (l : Level) (s : Cut) (from : ℕ) → Begins l t from → TR1 b.params s → TR2 s → s.draw.lift ≡ 0 → s.e ≡ s.a → Stands b l from s → Rules b m t l s []
to_rules b m t NewPlate s from at one two lift e h = record {
  tr1 = one;
  tr2 = two;
  tr3 = (h.turn, omega (arith, lift), h.square, tt);
  tr4 = subst (λ n. StripFits b n s []) at h.strip;
  tr5 = h.band;
  tr6 = h.cell;
  tr7 = λ _. subst (λ n. AloneFits b.params n s) (sym lift) h.item;
  tr8 = subst (λ y. HitsNone b.defects s.plate s.e y (s.e + s.w) (y + s.h)) (sym (unlifted_low NewPlate s.draw.lift s.c s.d s.h t from at lift)) h.clear;
  tr9 = record {
    at_a = h.at_a;
    at_b = h.at_b;
    at_c = h.at_c;
    at_d = h.at_d;
    at_e = λ lt. absurd (omega (arith, lt, e));
    at_end = h.at_end;
    at_lift = subst (λ n. LiftLine b.defects NewPlate n s) (sym lift) h.at_lift;
  };
}
to_rules b m t NewStrip s from at one two lift e h = record {
  tr1 = one;
  tr2 = two;
  tr3 = (h.turn, omega (arith, lift), h.square, tt);
  tr4 = subst (λ n. StripFits b n s []) at h.strip;
  tr5 = h.band;
  tr6 = h.cell;
  tr7 = λ _. subst (λ n. AloneFits b.params n s) (sym lift) h.item;
  tr8 = subst (λ y. HitsNone b.defects s.plate s.e y (s.e + s.w) (y + s.h)) (sym (unlifted_low NewStrip s.draw.lift s.c s.d s.h t from at lift)) h.clear;
  tr9 = record {
    at_a = h.at_a;
    at_b = h.at_b;
    at_c = h.at_c;
    at_d = h.at_d;
    at_e = λ lt. absurd (omega (arith, lt, e));
    at_end = h.at_end;
    at_lift = subst (λ n. LiftLine b.defects NewStrip n s) (sym lift) h.at_lift;
  };
}
to_rules b m t NewBand s from at one two lift e h = absurd at
to_rules b m t NewCell s from at one two lift e h = absurd at
to_rules b m t Over s from at one two lift e h = absurd at

from_rules : (b : Problem) (m : Level) (t : Cut) (l : Level) (s : Cut) (from : ℕ) → Begins l t from → s.draw.lift ≡ 0 → Rules b m t l s [] → Stands b l from s
from_rules b m t NewPlate s from at lift r = record {
  turn = r.tr3.0;
  square = r.tr3.2;
  strip = subst (λ n. StripFits b n s []) (sym at) r.tr4;
  band = r.tr5;
  cell = r.tr6;
  item = subst (λ n. AloneFits b.params n s) lift (r.tr7 refl);
  clear = subst (λ y. HitsNone b.defects s.plate s.e y (s.e + s.w) (y + s.h)) (unlifted_low NewPlate s.draw.lift s.c s.d s.h t from at lift) r.tr8;
  at_a = r.tr9.at_a;
  at_b = r.tr9.at_b;
  at_c = r.tr9.at_c;
  at_d = r.tr9.at_d;
  at_end = r.tr9.at_end;
  at_lift = subst (λ n. LiftLine b.defects NewPlate n s) lift r.tr9.at_lift;
}
from_rules b m t NewStrip s from at lift r = record {
  turn = r.tr3.0;
  square = r.tr3.2;
  strip = subst (λ n. StripFits b n s []) (sym at) r.tr4;
  band = r.tr5;
  cell = r.tr6;
  item = subst (λ n. AloneFits b.params n s) lift (r.tr7 refl);
  clear = subst (λ y. HitsNone b.defects s.plate s.e y (s.e + s.w) (y + s.h)) (unlifted_low NewStrip s.draw.lift s.c s.d s.h t from at lift) r.tr8;
  at_a = r.tr9.at_a;
  at_b = r.tr9.at_b;
  at_c = r.tr9.at_c;
  at_d = r.tr9.at_d;
  at_end = r.tr9.at_end;
  at_lift = subst (λ n. LiftLine b.defects NewStrip n s) lift r.tr9.at_lift;
}
from_rules b m t NewBand s from at lift r = absurd at
from_rules b m t NewCell s from at lift r = absurd at
from_rules b m t Over s from at lift r = absurd at

begins_zero : (before : List Draw) → begins before 0 ≡ NewPlate
begins_zero [] = refl
begins_zero (x ∷ before) = refl

-- the cell of a step that begins a strip is as wide as its item
own_cell : (l : Level) (t : Cut) (from before w : ℕ) → Begins l t from → cell_width l before w ≡ w
own_cell NewPlate t from before w at = refl
own_cell NewStrip t from before w at = refl
own_cell NewBand t from before w at = absurd at
own_cell NewCell t from before w at = absurd at
own_cell Over t from before w at = absurd at

-- the next step as it is placed
abbrev Next : Problem → List Step → Step → Cut
Next b steps s = next_cut b [] no_cut steps s

abbrev pub Last : Problem → List Step → Cut
Last b steps = last_cut b [] no_cut steps

next_alone : (b : Problem) (steps : List Step) (stack plate from : ℕ) (item : Item) (s : Step) → StandsAlone stack s → item_at b stack (drawn (draws_of steps) stack) ≡ Some item →
    Begins (next_level [] steps s) (Last b steps) from → (Next b steps s).plate ≡ plate → IsAlone plate item (Next b steps s)
next_alone b steps stack plate from item s alone due at plate_is =
    let found : (Next b steps s).item ≡ Some item = ap (λ n. item_at b n (drawn (draws_of steps) n)) alone.from_stack ∙ due in
    record {
      plate_is = plate_is;
      item_is = found;
      w_is = ap (item_width s.turn) found;
      h_is = ap (item_height s.turn) found;
      cell_is = own_cell (next_level [] steps s) (Last b steps) from (Last b steps).cell_w _ at;
      lift_is = alone.unlifted;
      e_is = alone.left;
    }

some_item : (item : Item) (o : Option Item) → o ≡ Some item → IsSome o
some_item item o e = rw e refl

-- whether the steps and the next one meet the rules, where the step begins a strip on this plate
on_plate : (b : Problem) (steps : List Step) (stack plate from : ℕ) (item : Item) (s : Step) → Meets b steps → StandsAlone stack s → item_at b stack (drawn (draws_of steps) stack) ≡ Some item →
    Begins (next_level [] steps s) (Last b steps) from → (Next b steps s).plate ≡ plate → TR1 b.params (Next b steps s) →
    MayFollow b steps stack s ↔ IsPlaceOf b plate from item s
on_plate b steps stack plate from item s m alone due at plate_is one =
    let c : Cut = Next b steps s in
    let l : Level = next_level [] steps s in
    let is : IsAlone plate item c = next_alone b steps stack plate from item s alone due at plate_is in (
      λ h. place_of b l plate from item c is (from_rules b (last_level [] NewPlate steps) (Last b steps) l c from at alone.unlifted (last_rules b [] NewPlate no_cut steps s h.meets)),
      λ p. record {
        alone = alone;
        meets = appended b [] NewPlate no_cut steps s m
            (to_rules b (last_level [] NewPlate steps) (Last b steps) l c from at one (some_item item c.item is.item_is) alone.unlifted alone.left (stands_of b l plate from item c is p));
      },
    )

begins_one : (ss : List Step) (x : Draw) (before : List Draw) → begins (draws_before ss (x ∷ before)) 1 ≡ NewStrip
begins_one [] x before = refl
begins_one (s ∷ ss) x before = begins_one ss (draw_of s) (x ∷ before)

-- no plate too many is begun
pub few_plates : (b : Problem) (before : List Draw) (m : Level) (t : Cut) (ss : List Step) → t.plates ≤ b.params.plates → EachStep (Rules b) m t (behind b before t.place ss) → (last_cut b before t ss).plates ≤ b.params.plates
few_plates b before m t [] few h = few
few_plates b before m t (s ∷ ss) few h = few_plates b (draw_of s ∷ before) _ _ ss h.0.tr1.1 h.1

abbrev SameStep : Problem → List Step → ℕ → Item → Step → Type 0
SameStep b steps stack item s = MayFollow b steps stack s ↔ MayStand b (Last b steps).plates (Last b steps).b stack item s

on_next : (b : Problem) (steps : List Step) (stack : ℕ) (item : Item) (s : Step) → Meets b steps → item_at b stack (drawn (draws_of steps) stack) ≡ Some item → SameStep b steps stack item (record s { kind = 0 })
on_next b steps stack item s m due =
    let n : Step = record s { kind = 0 } in
    let t : Cut = Last b steps in
    let at : Begins (next_level [] steps n) t 0 = subst (λ l. Begins l t 0) (sym (begins_zero (draws_of steps))) refl in
    let plate : (Next b steps n).plate ≡ t.plates = omega arith in (
      λ h.
          let r = last_rules b [] NewPlate no_cut steps n h.meets in
          record { alone = h.alone; placed = inr (refl, omega (arith, r.tr1.1), (on_plate b steps stack t.plates 0 item n m h.alone due at plate r.tr1).0 h) },
      λ h. by n t h at plate h.placed,
    )
  where
    by : (n : Step) (t : Cut) → MayStand b t.plates t.b stack item (record n { kind = 0 }) → Begins (next_level [] steps (record n { kind = 0 })) (Last b steps) 0 →
        (Next b steps (record n { kind = 0 })).plate ≡ (Last b steps).plates → IsPlaced b (Last b steps).plates (Last b steps).b item (record n { kind = 0 }) → MayFollow b steps stack (record n { kind = 0 })
    by n t h at plate (inl p) = absurd (omega (arith, p.0))
    by n t h at plate (inr p) =
        (on_plate b steps stack (Last b steps).plates 0 item (record n { kind = 0 }) m h.alone due at plate (omega arith, omega (arith, p.1), omega arith)).1 p.2

beside : (b : Problem) (steps : List Step) (stack : ℕ) (item : Item) (s : Step) → Meets b steps → item_at b stack (drawn (draws_of steps) stack) ≡ Some item → SameStep b steps stack item (record s { kind = 1 })
beside b [] stack item s m due = (
  λ h. absurd (omega (arith, (last_rules b [] NewPlate no_cut [] (record s { kind = 1 }) h.meets).tr1.0)),
  λ h. by h h.placed,
)
  where
    by : MayStand b 0 0 stack item (record s { kind = 1 }) → IsPlaced b 0 0 item (record s { kind = 1 }) → MayFollow b [] stack (record s { kind = 1 })
    by h (inl p) = absurd (omega (arith, p.1))
    by h (inr p) = absurd (omega (arith, p.0))
beside b (x ∷ xs) stack item s m due =
    let n : Step = record s { kind = 1 } in
    let steps : List Step = x ∷ xs in
    let t : Cut = Last b steps in
    let at : Begins (next_level [] steps n) t t.b = subst (λ l. Begins l t t.b) (sym (begins_one xs (draw_of x) [])) refl in (
      λ h.
          let r = last_rules b [] NewPlate no_cut steps n h.meets in
          record { alone = h.alone; placed = inl (refl, r.tr1.0, (on_plate b steps stack (t.plates - 1) t.b item n m h.alone due at refl r.tr1).0 h) },
      λ h. by h at h.placed,
    )
  where
    by : MayStand b (Last b (x ∷ xs)).plates (Last b (x ∷ xs)).b stack item (record s { kind = 1 }) → Begins (next_level [] (x ∷ xs) (record s { kind = 1 })) (Last b (x ∷ xs)) (Last b (x ∷ xs)).b →
        IsPlaced b (Last b (x ∷ xs)).plates (Last b (x ∷ xs)).b item (record s { kind = 1 }) → MayFollow b (x ∷ xs) stack (record s { kind = 1 })
    by h at (inl p) =
        (on_plate b (x ∷ xs) stack ((Last b (x ∷ xs)).plates - 1) (Last b (x ∷ xs)).b item (record s { kind = 1 }) m h.alone due at refl
        (p.1, few_plates b [] NewPlate no_cut (x ∷ xs) (omega arith) m, omega arith)).1 p.2
    by h at (inr p) = absurd (omega (arith, p.0))

-- a step may follow exactly where its item has this place
pub follows_placed : (b : Problem) (steps : List Step) (stack : ℕ) (item : Item) (s : Step) → Meets b steps → item_at b stack (drawn (draws_of steps) stack) ≡ Some item → SameStep b steps stack item s
follows_placed b steps stack item s m due = by s.kind
  where
    by : (kind : ℕ) → SameStep b steps stack item (record s { kind = kind })
    by zero = on_next b steps stack item s m due
    by (suc zero) = beside b steps stack item s m due
    by (suc (suc n)) = (λ h. absurd (omega (arith, h.alone.begins)), λ h. absurd (omega (arith, h.alone.begins)))
