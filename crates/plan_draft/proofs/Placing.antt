-- The rules at a step of an item that stands alone: its place.
use Rattle.std.proofs.Common.{◌≡◌, ℕ, zero, suc, ◌+◌, ◌<◌, ◌≤◌, ◌⊎◌, inl, inr, [], Some, refl, sym, ◌∙◌, arith}
use Rattle.std.proofs.lemmas.Bool.{cases_lt}
use Rattle.glass_base.specs.declared.item.Item.{Item}
use Rattle.glass_base.specs.Plates.{Width}
use Rattle.glass_base.specs.Problem.{Problem}
use Rattle.defect_map.specs.Queries.{CrossesNoneX, CrossesNoneY, HitsNone}
use Rattle.plan_trace.specs.declared.level.Level.{Level}
use Rattle.plan_trace.specs.Marks.{Cut, item_height, item_width}
use Rattle.plan_trace.specs.TraceRules.{AloneFits, BandFits, CellFits, StripFits}
use Rattle.plan_draft.specs.declared.place.ItemPlace.{ItemPlace}
use Rattle.plan_draft.specs.inner.Places.{IsPlace}

-- a step that stands alone on this plate with this item
pub record IsAlone (plate : ℕ) (item : Item) (s : Cut) : Type 0 where
  pub plate_is : s.plate ≡ plate
  pub item_is : s.item ≡ Some item
  pub w_is : s.w ≡ item_width s.draw.turn (Some item)
  pub h_is : s.h ≡ item_height s.draw.turn (Some item)
  pub cell_is : s.cell_w ≡ s.w
  pub lift_is : s.draw.lift ≡ 0
  pub e_is : s.e ≡ s.a

abbrev pub place_of_cut : Cut → ItemPlace
place_of_cut s = record { a = s.a; b = s.b; c = s.c; d = s.d; turn = s.draw.turn }

-- the rules that do not speak of the step before, but for the end of its strip
pub record Stands (b : Problem) (l : Level) (from : ℕ) (s : Cut) : Type 0 where
  pub turn : s.draw.turn ≤ 1
  pub square : s.w ≡ s.h → s.draw.turn ≡ 0
  pub strip : StripFits b from s []
  pub band : BandFits b.params 0 s []
  pub cell : CellFits b.params s.a s []
  pub item : AloneFits b.params 0 s
  pub clear : HitsNone b.defects s.plate s.e s.c (s.e + s.w) (s.c + s.h)
  pub at_a : 0 < s.a → CrossesNoneX b.defects s.plate s.a 0 b.params.height
  pub at_b : s.b < Width b s.plate → CrossesNoneX b.defects s.plate s.b 0 b.params.height
  pub at_c : 0 < s.c → CrossesNoneY b.defects s.plate s.c s.a s.b
  pub at_d : s.d < b.params.height → CrossesNoneY b.defects s.plate s.d s.a s.b
  pub at_end : s.e + s.w < s.b → CrossesNoneX b.defects s.plate (s.e + s.w) s.c s.d
  pub at_lift : s.c + s.h < s.d → CrossesNoneY b.defects s.plate (s.c + s.h) s.e (s.e + s.w)

-- the sides of a square are the same in both turns
square_of : (turn : ℕ) (item : Item) → item_width turn (Some item) ≡ item_height turn (Some item) → item.length ≡ item.width
square_of zero item e = e
square_of (suc n) item e = sym e

of_square : (turn : ℕ) (item : Item) → item.length ≡ item.width → item_width turn (Some item) ≡ item_height turn (Some item)
of_square zero item e = e
of_square (suc n) item e = sym e

at_or_clear : (C : Type 0) (x side : ℕ) → (side < x → C) → side ≤ x → (x ≡ side) ⊎ C
at_or_clear C x side h le = elim (cases_lt side x) [ inl lt ↦ inr (h lt) | inr more ↦ inl (omega (arith, le, more)) ]

below_or_clear : (C : Type 0) (x side : ℕ) → (x < side → C) → x ≤ side → (x ≡ side) ⊎ C
below_or_clear C x side h le = elim (cases_lt x side) [ inl lt ↦ inr (h lt) | inr more ↦ inl (omega (arith, le, more)) ]

clear_above : {C : Type 0} {x side : ℕ} → (x ≡ side) ⊎ C → side < x → C
clear_above (inl e) lt = absurd (omega (arith, e, lt))
clear_above (inr c) lt = c

clear_below : {C : Type 0} {x side : ℕ} → (x ≡ side) ⊎ C → x < side → C
clear_below (inl e) lt = absurd (omega (arith, e, lt))
clear_below (inr c) lt = c

-- from the place to the rules
pub stands_of : (b : Problem) (l : Level) (plate from : ℕ) (item : Item) (s : Cut) → IsAlone plate item s → IsPlace b plate from item (place_of_cut s) → Stands b l from s
stands_of b l plate from item s is p =
    let t = p.stands.1 in
    let w = is.w_is in
    let h = is.h_is in
    record {
      turn = p.stands.0.known;
      square = λ e. p.stands.0.square (square_of s.draw.turn item (sym w ∙ e ∙ h));
      strip = rw is.plate_is (p.left.before, t.wide, t.right.narrow, t.right.within, λ _. t.right.behind);
      band = (t.bottom.below, t.top.tall, t.top.top.within, λ _. t.top.top.above);
      cell = rw (is.e_is, is.cell_is, w) (inl refl, λ _. t.behind);
      item = rw (w, h) (alone t.top.under);
      clear = rw (is.plate_is, is.e_is, w, h) t.bottom.clear;
      at_a = rw is.plate_is (clear_above p.left.line);
      at_b = rw is.plate_is (clear_below t.right.line);
      at_c = rw is.plate_is (clear_above t.bottom.line);
      at_d = rw is.plate_is (clear_below t.top.top.line);
      at_end = rw (is.plate_is, is.e_is, w) (clear_below t.top.beside);
      at_lift = rw (is.plate_is, is.e_is, w, h) (over t.top.under);
    }
  where
    width : ℕ
    width = item_width s.draw.turn (Some item)

    height : ℕ
    height = item_height s.draw.turn (Some item)

    alone : (s.c + height ≡ s.d) ⊎ ((s.c + height + b.params.waste ≤ s.d) × (b.params.waste ≤ width) × CrossesNoneY b.defects plate (s.c + height) s.a (s.a + width)) →
        (s.c + height ≡ s.d) ⊎ ((s.c + height + b.params.waste ≤ s.d) × (b.params.waste ≤ width))
    alone (inl e) = inl e
    alone (inr u) = inr (u.0, u.1)

    over : (s.c + height ≡ s.d) ⊎ ((s.c + height + b.params.waste ≤ s.d) × (b.params.waste ≤ width) × CrossesNoneY b.defects plate (s.c + height) s.a (s.a + width)) →
        s.c + height < s.d → CrossesNoneY b.defects plate (s.c + height) s.a (s.a + width)
    over (inl e) lt = absurd (omega (arith, e, lt))
    over (inr u) lt = u.2

-- and from the rules to the place
pub place_of : (b : Problem) (l : Level) (plate from : ℕ) (item : Item) (s : Cut) → IsAlone plate item s → Stands b l from s → IsPlace b plate from item (place_of_cut s)
place_of b l plate from item s is t =
    let w = is.w_is in
    let h = is.h_is in
    let strip = rw is.plate_is at t.strip in
    let cell = rw (is.e_is, is.cell_is, w) at t.cell in
    let clear = rw (is.plate_is, is.e_is, w, h) at t.clear in
    let at_a = rw is.plate_is at t.at_a in
    let at_b = rw is.plate_is at t.at_b in
    let at_c = rw is.plate_is at t.at_c in
    let at_d = rw is.plate_is at t.at_d in
    let at_end = rw (is.plate_is, is.e_is, w) at t.at_end in
    let at_lift = rw (is.plate_is, is.e_is, w, h) at t.at_lift in
    let item_fits = rw (w, h) at t.item in
    record {
      left = record { before = strip.0; line = at_or_clear (CrossesNoneX b.defects plate s.a 0 b.params.height) s.a 0 at_a (omega arith) };
      stands = (
        record { known = t.turn; square = λ e. t.square (w ∙ of_square s.draw.turn item e ∙ sym h) },
        record {
          a_is = refl;
          turn_is = refl;
          wide = strip.1;
          right = record {
            narrow = strip.2;
            within = strip.3;
            behind = strip.4 refl;
            line = below_or_clear (CrossesNoneX b.defects plate s.b 0 b.params.height) s.b (Width b plate) at_b strip.3;
          };
          behind = cell.1 refl;
          bottom = record { below = t.band.0; line = at_or_clear (CrossesNoneY b.defects plate s.c s.a s.b) s.c 0 at_c (omega arith); clear = clear };
          top = record {
            tall = t.band.1;
            top = record {
              within = t.band.2;
              above = t.band.3 refl;
              line = below_or_clear (CrossesNoneY b.defects plate s.d s.a s.b) s.d b.params.height at_d t.band.2;
            };
            under = under item_fits at_lift;
            beside = below_or_clear (CrossesNoneX b.defects plate (s.a + width) s.c s.d) (s.a + width) s.b at_end (omega (arith, cell.1 refl));
          };
        },
      );
    }
  where
    width : ℕ
    width = item_width s.draw.turn (Some item)

    height : ℕ
    height = item_height s.draw.turn (Some item)

    under : (s.c + height ≡ s.d) ⊎ ((s.c + height + b.params.waste ≤ s.d) × (b.params.waste ≤ width)) → (s.c + height < s.d → CrossesNoneY b.defects plate (s.c + height) s.a (s.a + width)) →
        (s.c + height ≡ s.d) ⊎ ((s.c + height + b.params.waste ≤ s.d) × (b.params.waste ≤ width) × CrossesNoneY b.defects plate (s.c + height) s.a (s.a + width))
    under (inl e) line = inl e
    under (inr u) line = inr (u.0, u.1, line (omega (arith, u.0, b.params.accepted.waste_positive)))
