-- A reason that contradicts each step contradicts the trace.
use Rattle.std.proofs.Common.{◌≡◌, ℕ, zero, suc, ◌+◌, ◌-◌, ◌<◌, ◌≤◌, List, [], ◌∷◌, All, IsTrue, Bool, true, refl, arith, sym, ap, ◌∙◌, inl, inr, length, subst, IsNone, IsSome, None, Some, Option}
use Rattle.std.specs.List.{list_any}
use Rattle.std.proofs.lemmas.Bool.Decides.{nat_tests}
use Rattle.std.proofs.lemmas.List.Folds.{Any-from_list_any}
use Rattle.glass_base.specs.declared.item.Defect.{Defect}
use Rattle.glass_base.specs.declared.item.Item.{Item}
use Rattle.glass_base.specs.Defects.{hits, crosses_x, crosses_y}
use Rattle.glass_base.specs.Plates.{Width}
use Rattle.glass_base.specs.Problem.{Problem}
use Rattle.defect_map.specs.Queries.{hits_all, crosses_x_all, crosses_y_all, HitsNone, CrossesNoneX, CrossesNoneY}
use Rattle.plan_trace.specs.declared.level.Level.{Level}
use Rattle.plan_trace.specs.declared.level.Level.TheVariants.{NewPlate, NewStrip, NewBand, NewCell, Over}
use Rattle.plan_trace.specs.Marks.{Spot, spot, levels, Cut}
use Rattle.plan_trace.specs.TraceRules.{Rules, EachStep, Gap, is_last_strip, is_last_band, is_last_cell, is_last_in_cell, LiftLine, bottom, AloneFits}
use Rattle.plan_trace.proofs.Inside.{Sound}
use Rattle.plan_box.specs.Leasts.{Known, Fixed, fixed, Holds, HoldAll}
use Rattle.plan_box.specs.Reasons.{fixed_levels, SomeFixed, HitsAll, CrossesXAll, CrossesYAll, StepR1, Tight, StripR2, BandR2, CellR2, TopR2, StepR2, ItemR3, StepR3, StepR4, LiftR4, StepR5, OverR6, StepR6}

-- the levels of the decided steps begin those of the trace, and are all of them where the box is whole
abbrev pub Leads : Bool → List Level → List Level → Type 0
Leads whole [] ys = IsTrue whole → ys ≡ []
Leads whole (x ∷ xs) [] = ⊥
Leads whole (x ∷ xs) (y ∷ ys) = (x ≡ y) × Leads whole xs ys

-- what is known where a step of the trace and what the box knows of it stand side by side
pub record Here (b : Problem) (whole : Bool) (m : Level) (j : Known) (t : Cut) (l : Level) (k : Known) (s : Cut) (later : List Level) (rest : List Spot) : Type 0 where
  pub before : Holds j t
  pub now : Holds k s
  pub rules : Rules b m t l s rest
  pub sound : Sound b l t s
  pub leads : Leads whole later (levels rest)

-- a reason that contradicts each step contradicts the trace
pub refute : (b : Problem) (whole : Bool) (R : Level → Known → Level → Known → List Level → Type 0) →
    ((m : Level) (j : Known) (t : Cut) (l : Level) (k : Known) (s : Cut) (later : List Level) (rest : List Spot) →
    Here b whole m j t l k s later rest → R m j l k later → ⊥) →
    (m : Level) (j : Known) (t : Cut) (ks : List Fixed) (ss : List Spot) →
    Holds j t → HoldAll ks ss → EachStep (Rules b) m t ss → EachStep (λ _ t l s _. Sound b l t s) m t ss → Leads whole (fixed_levels ks) (levels ss) →
    SomeFixed R m j ks → ⊥
refute b whole R step m j t [] ss h hs r ok le some = some
refute b whole R step m j t (fixed l k ∷ ks) [] h hs r ok le some = hs
refute b whole R step m j t (fixed l k ∷ ks) (spot y s ∷ ss) h hs r ok le some =
    elim some [
      | inl x ↦ step m j t y k s (fixed_levels ks) ss
          (record { before = h; now = hs.1; rules = r.0; sound = ok.0; leads = le.1 }) (subst (λ v. R m j v k (fixed_levels ks)) hs.0 x)
      | inr x ↦ refute b whole R step y k s ks ss hs.1 hs.2 r.1 ok.1 le.1 (subst (λ v. SomeFixed R v k ks) hs.0 x)
    ]

pub leads_of : (whole : Bool) (ks : List Fixed) (ss : List Spot) → HoldAll ks ss → (IsTrue whole → length ss ≤ length ks) → Leads whole (fixed_levels ks) (levels ss)
leads_of whole [] [] h e = λ _. refl
leads_of whole [] (x ∷ ss) h e = λ w. absurd (omega (arith, e w))
leads_of whole (fixed l k ∷ ks) [] h e = h
leads_of whole (fixed l k ∷ ks) (spot y s ∷ ss) h e = (h.0, leads_of whole ks ss h.2 (λ w. omega (arith, e w)))

-- a cut that can lie nowhere
pub step_r1 : (b : Problem) (whole : Bool) (m : Level) (j : Known) (t : Cut) (l : Level) (k : Known) (s : Cut) (later : List Level) (rest : List Spot) →
    Here b whole m j t l k s later rest → StepR1 m j l k later → ⊥
step_r1 b whole m j t l k s later rest here r = omega arith

-- a defect that passes one test passes the other, so not all fail the other
pub clash : {A : Type 0} (p q : A → Bool) (xs : List A) → ((x : A) → p x ≡ true → q x ≡ true) → IsTrue (list_any p xs) → ¬ All (λ x. ¬ IsTrue (q x)) xs
clash p q xs f some none = let h = Any-from_list_any p xs some in none h.0 h.1 h.2 (ap q h.3 ∙ f h.1 h.4)

-- one defect at every place of a range is one at each place
crosses_x_at : (ds : List Defect) (plate there low high x from to y0 y1 : ℕ) → CrossesXAll ds plate low high from to → CrossesNoneX ds there x y0 y1 → plate ≡ there → low ≤ x → x ≤ high → y0 ≤ from → to ≤ y1 → ⊥
crosses_x_at ds plate there low high x from to y0 y1 some none e p q u v =
    clash (crosses_x_all plate low high from to) (crosses_x there x y0 y1) ds (λ d h. grind (arith, nat_tests, p, q, u, v, e, h)) some none

crosses_y_at : (ds : List Defect) (plate there low high y from to x0 x1 : ℕ) → CrossesYAll ds plate low high from to → CrossesNoneY ds there y x0 x1 → plate ≡ there → low ≤ y → y ≤ high → x0 ≤ from → to ≤ x1 → ⊥
crosses_y_at ds plate there low high y from to x0 x1 some none e p q u v =
    clash (crosses_y_all plate low high from to) (crosses_y there y x0 x1) ds (λ d h. grind (arith, nat_tests, p, q, u, v, e, h)) some none

hits_at : (ds : List Defect) (plate there xl xh x w v yl yh y h g : ℕ) → HitsAll ds plate xl xh w yl yh h → HitsNone ds there x y (x + v) (y + g) → plate ≡ there → w ≡ v → h ≡ g → xl ≤ x → x ≤ xh → yl ≤ y → y ≤ yh → ⊥
hits_at ds plate there xl xh x w v yl yh y h g some none e f j p q r s =
    clash (hits_all plate xl xh w yl yh h) (hits there x y (x + v) (y + g)) ds (λ d t. grind (arith, nat_tests, p, q, r, s, e, f, j, t)) some none

-- a cut below the width of its plate
below_width : (b : Problem) (plate there high x : ℕ) → plate ≡ there → high < Width b plate → x ≤ high → x < Width b there
below_width b plate there high x e lt le = subst (λ (n : ℕ). x < Width b n) e (omega (arith, lt, le))

-- the facts that a step's place gives on both sides
record Same (k : Known) (s : Cut) : Type 0 where
  plate : k.plate ≡ s.plate
  w : k.w ≡ s.w
  h : k.h ≡ s.h
  cell_w : k.cell_w ≡ s.cell_w
  band_w : k.band_w ≡ s.band_w
  lift : k.draw.lift ≡ s.draw.lift
  turn : k.draw.turn ≡ s.draw.turn
  kind : k.draw.kind ≡ s.draw.kind
  plates : k.plates ≡ s.plates

same_place : (k : Known) (s : Cut) → k.place ≡ s.place → Same k s
same_place k s e = record {
  plate = ap (λ p. p.plate) e;
  w = ap (λ p. p.w) e;
  h = ap (λ p. p.h) e;
  cell_w = ap (λ p. p.cell_w) e;
  band_w = ap (λ p. p.band_w) e;
  lift = ap (λ p. p.draw.lift) e;
  turn = ap (λ p. p.draw.turn) e;
  kind = ap (λ p. p.draw.kind) e;
  plates = ap (λ p. p.plates) e;
}

module _ (b : Problem) (whole : Bool) (m : Level) (j : Known) (t : Cut) (l : Level) (k : Known) (s : Cut) (later : List Level) (rest : List Spot) (here : Here b whole m j t l k s later rest) where
  same : Same k s
  same = same_place k s here.now.place

  r4_a : 1 ≤ k.least_a → ¬ CrossesXAll b.defects k.plate k.least_a k.high_a 0 b.params.height
  r4_a low c = crosses_x_at _ _ _ _ _ _ _ _ _ _ c (here.rules.tr9.at_a (omega arith)) same.plate (omega arith) (omega arith) (omega arith) (omega arith)

  r4_b : k.high_b < Width b k.plate → ¬ CrossesXAll b.defects k.plate k.least_b k.high_b 0 b.params.height
  r4_b low c =
      let inside : s.b < Width b s.plate = below_width b k.plate s.plate k.high_b s.b same.plate low here.now.b.1 in
      crosses_x_at _ _ _ _ _ _ _ _ _ _ c (here.rules.tr9.at_b inside) same.plate (omega arith) (omega arith) (omega arith) (omega arith)

  r4_c : 1 ≤ k.least_c → ¬ CrossesYAll b.defects k.plate k.least_c k.high_c k.high_a k.least_b
  r4_c low c = crosses_y_at _ _ _ _ _ _ _ _ _ _ c (here.rules.tr9.at_c (omega arith)) same.plate (omega arith) (omega arith) (omega arith) (omega arith)

  r4_d : k.high_d < b.params.height → ¬ CrossesYAll b.defects k.plate k.least_d k.high_d k.high_a k.least_b
  r4_d low c = crosses_y_at _ _ _ _ _ _ _ _ _ _ c (here.rules.tr9.at_d (omega arith)) same.plate (omega arith) (omega arith) (omega arith) (omega arith)

  r4_e : k.high_a < k.least_e → ¬ CrossesXAll b.defects k.plate k.least_e k.high_e k.high_c k.least_d
  r4_e low c = crosses_x_at _ _ _ _ _ _ _ _ _ _ c (here.rules.tr9.at_e (omega arith)) same.plate (omega arith) (omega arith) (omega arith) (omega arith)

  r4_end : k.high_e + k.w < k.least_b → ¬ CrossesXAll b.defects k.plate (k.least_e + k.w) (k.high_e + k.w) k.high_c k.least_d
  r4_end low c =
      crosses_x_at _ _ _ _ _ _ _ _ _ _ c (here.rules.tr9.at_end (omega (arith, same.w))) same.plate (omega (arith, same.w)) (omega (arith, same.w)) (omega arith) (omega arith)

-- the line that belongs to the lift
lifted_line : (ds : List Defect) (k : Known) (s : Cut) → Holds k s → Same k s → CrossesNoneY ds s.plate (s.d - s.h) s.e (s.e + s.w) →
    ¬ ((k.h ≤ k.least_d) × CrossesYAll ds k.plate (k.least_d - k.h) (k.high_d - k.h) k.high_e (k.least_e + k.w))
lifted_line ds k s h e line r =
    crosses_y_at _ _ _ _ _ _ _ _ _ _ r.1 line e.plate (omega (arith, e.h, r.0)) (omega (arith, e.h, r.0)) (omega arith) (omega (arith, e.w))

upper_line : (ds : List Defect) (k : Known) (s : Cut) → Holds k s → Same k s → (s.c + s.h < s.d → CrossesNoneY ds s.plate (s.c + s.h) s.e (s.e + s.w)) →
    ¬ ((k.high_c + k.h < k.least_d) × CrossesYAll ds k.plate (k.least_c + k.h) (k.high_c + k.h) k.high_e (k.least_e + k.w))
upper_line ds k s h e line r =
    crosses_y_at _ _ _ _ _ _ _ _ _ _ r.1 (line (omega (arith, e.h, r.0))) e.plate (omega (arith, e.h)) (omega (arith, e.h)) (omega arith) (omega (arith, e.w))

lift_line : (ds : List Defect) (l : Level) (lift : ℕ) (k : Known) (s : Cut) → Holds k s → Same k s → LiftLine ds l lift s → ¬ LiftR4 ds l lift k
lift_line ds Over zero k s h e line r = r
lift_line ds NewPlate zero k s h e line r = upper_line ds k s h e line r
lift_line ds NewStrip zero k s h e line r = upper_line ds k s h e line r
lift_line ds NewBand zero k s h e line r = upper_line ds k s h e line r
lift_line ds NewCell zero k s h e line r = upper_line ds k s h e line r
lift_line ds NewPlate (suc n) k s h e line r = lifted_line ds k s h e line r
lift_line ds NewStrip (suc n) k s h e line r = lifted_line ds k s h e line r
lift_line ds NewBand (suc n) k s h e line r = lifted_line ds k s h e line r
lift_line ds NewCell (suc n) k s h e line r = lifted_line ds k s h e line r
lift_line ds Over (suc n) k s h e line r = lifted_line ds k s h e line r

-- the item meets a defect
low_item : (ds : List Defect) (k : Known) (s : Cut) → Holds k s → Same k s → HitsNone ds s.plate s.e s.c (s.e + s.w) (s.c + s.h) → ¬ HitsAll ds k.plate k.least_e k.high_e k.w k.least_c k.high_c k.h
low_item ds k s h e free r = hits_at _ _ _ _ _ _ _ _ _ _ _ _ _ r free e.plate e.w e.h (omega arith) (omega arith) (omega arith) (omega arith)

top_item : (ds : List Defect) (k : Known) (s : Cut) → Holds k s → Same k s → HitsNone ds s.plate s.e (s.d - s.h) (s.e + s.w) ((s.d - s.h) + s.h) →
    ¬ ((k.h ≤ k.least_d) × HitsAll ds k.plate k.least_e k.high_e k.w (k.least_d - k.h) (k.high_d - k.h) k.h)
top_item ds k s h e free r =
    hits_at _ _ _ _ _ _ _ _ _ _ _ _ _ r.1 free e.plate e.w e.h (omega arith) (omega arith) (omega (arith, e.h, r.0)) (omega (arith, e.h, r.0))

item_hit : (ds : List Defect) (l : Level) (lift : ℕ) (k : Known) (s : Cut) → Holds k s → Same k s →
    HitsNone ds s.plate s.e (bottom l lift s.c s.d s.h) (s.e + s.w) (bottom l lift s.c s.d s.h + s.h) → ¬ ItemR3 ds l lift k
item_hit ds Over lift k s h e free r = top_item ds k s h e free r
item_hit ds NewPlate zero k s h e free r = low_item ds k s h e free r
item_hit ds NewStrip zero k s h e free r = low_item ds k s h e free r
item_hit ds NewBand zero k s h e free r = low_item ds k s h e free r
item_hit ds NewCell zero k s h e free r = low_item ds k s h e free r
item_hit ds _ (suc n) k s h e free r = top_item ds k s h e free r

-- a tight gap is no gap
tight : (waste fl fh tl th f t : ℕ) → Tight waste fl fh tl th → fl ≤ f → f ≤ fh → tl ≤ t → t ≤ th → Gap waste f t → ⊥
tight waste fl fh tl th f t x a b c d g = omega arith

ends_empty : (f : List Level → Bool) (ys : List Level) → f [] ≡ true → ys ≡ [] → f ys ≡ true
ends_empty f ys e p = subst (λ v. f v ≡ true) (sym p) e

last_strip_leads : (whole : Bool) (xs ys : List Level) → Leads whole xs ys → IsTrue (is_last_strip whole xs) → IsTrue (is_last_strip true ys)
last_strip_leads whole [] ys le e = ends_empty (is_last_strip true) ys refl (le e)
last_strip_leads whole (x ∷ xs) [] le e = elim le [ ]
last_strip_leads whole (NewPlate ∷ xs) (y ∷ ys) le e = subst (λ v. is_last_strip true (v ∷ ys) ≡ true) le.0 refl
last_strip_leads whole (NewStrip ∷ xs) (y ∷ ys) le e = absurd (cc)
last_strip_leads whole (NewBand ∷ xs) (y ∷ ys) le e = subst (λ v. is_last_strip true (v ∷ ys) ≡ true) le.0 (last_strip_leads whole xs ys le.1 e)
last_strip_leads whole (NewCell ∷ xs) (y ∷ ys) le e = subst (λ v. is_last_strip true (v ∷ ys) ≡ true) le.0 (last_strip_leads whole xs ys le.1 e)
last_strip_leads whole (Over ∷ xs) (y ∷ ys) le e = subst (λ v. is_last_strip true (v ∷ ys) ≡ true) le.0 (last_strip_leads whole xs ys le.1 e)

last_band_leads : (whole : Bool) (xs ys : List Level) → Leads whole xs ys → IsTrue (is_last_band whole xs) → IsTrue (is_last_band true ys)
last_band_leads whole [] ys le e = ends_empty (is_last_band true) ys refl (le e)
last_band_leads whole (x ∷ xs) [] le e = elim le [ ]
last_band_leads whole (NewPlate ∷ xs) (y ∷ ys) le e = subst (λ v. is_last_band true (v ∷ ys) ≡ true) le.0 refl
last_band_leads whole (NewStrip ∷ xs) (y ∷ ys) le e = subst (λ v. is_last_band true (v ∷ ys) ≡ true) le.0 refl
last_band_leads whole (NewBand ∷ xs) (y ∷ ys) le e = absurd (cc)
last_band_leads whole (NewCell ∷ xs) (y ∷ ys) le e = subst (λ v. is_last_band true (v ∷ ys) ≡ true) le.0 (last_band_leads whole xs ys le.1 e)
last_band_leads whole (Over ∷ xs) (y ∷ ys) le e = subst (λ v. is_last_band true (v ∷ ys) ≡ true) le.0 (last_band_leads whole xs ys le.1 e)

last_cell_leads : (whole : Bool) (xs ys : List Level) → Leads whole xs ys → IsTrue (is_last_cell whole xs) → IsTrue (is_last_cell true ys)
last_cell_leads whole [] ys le e = ends_empty (is_last_cell true) ys refl (le e)
last_cell_leads whole (x ∷ xs) [] le e = elim le [ ]
last_cell_leads whole (NewPlate ∷ xs) (y ∷ ys) le e = subst (λ v. is_last_cell true (v ∷ ys) ≡ true) le.0 refl
last_cell_leads whole (NewStrip ∷ xs) (y ∷ ys) le e = subst (λ v. is_last_cell true (v ∷ ys) ≡ true) le.0 refl
last_cell_leads whole (NewBand ∷ xs) (y ∷ ys) le e = subst (λ v. is_last_cell true (v ∷ ys) ≡ true) le.0 refl
last_cell_leads whole (NewCell ∷ xs) (y ∷ ys) le e = absurd (cc)
last_cell_leads whole (Over ∷ xs) (y ∷ ys) le e = subst (λ v. is_last_cell true (v ∷ ys) ≡ true) le.0 (last_cell_leads whole xs ys le.1 e)

last_in_cell_leads : (whole : Bool) (xs ys : List Level) → Leads whole xs ys → IsTrue (is_last_in_cell whole xs) → IsTrue (is_last_in_cell true ys)
last_in_cell_leads whole [] ys le e = ends_empty (is_last_in_cell true) ys refl (le e)
last_in_cell_leads whole (x ∷ xs) [] le e = elim le [ ]
last_in_cell_leads whole (Over ∷ xs) (y ∷ ys) le e = absurd (cc)
last_in_cell_leads whole (NewPlate ∷ xs) (y ∷ ys) le e = subst (λ v. is_last_in_cell true (v ∷ ys) ≡ true) le.0 refl
last_in_cell_leads whole (NewStrip ∷ xs) (y ∷ ys) le e = subst (λ v. is_last_in_cell true (v ∷ ys) ≡ true) le.0 refl
last_in_cell_leads whole (NewBand ∷ xs) (y ∷ ys) le e = subst (λ v. is_last_in_cell true (v ∷ ys) ≡ true) le.0 refl
last_in_cell_leads whole (NewCell ∷ xs) (y ∷ ys) le e = subst (λ v. is_last_in_cell true (v ∷ ys) ≡ true) le.0 refl

-- the gap behind the last strip of a plate
behind_strip : (b : Problem) (whole : Bool) (m : Level) (j : Known) (t : Cut) (l : Level) (k : Known) (s : Cut) (later : List Level) (rest : List Spot) →
    Here b whole m j t l k s later rest → (IsTrue (is_last_strip true (levels rest)) → Gap b.params.waste s.b (Width b s.plate)) →
    IsTrue (is_last_strip whole later) × Tight b.params.waste k.least_b k.high_b (Width b k.plate) (Width b k.plate) → ⊥
behind_strip b whole m j t l k s later rest here gap x =
    let e : Width b k.plate ≡ Width b s.plate = ap (Width b) (same_place k s here.now.place).plate in
    tight _ _ _ _ _ s.b (Width b s.plate) x.1 (omega arith) (omega arith) (omega (arith, e)) (omega (arith, e)) (gap (last_strip_leads whole later _ here.leads x.0))

strip_r2 : (b : Problem) (whole : Bool) (m : Level) (j : Known) (t : Cut) (l : Level) (k : Known) (s : Cut) (later : List Level) (rest : List Spot) →
    Here b whole m j t l k s later rest → StripR2 b whole l j k later → ⊥
strip_r2 b whole m j t NewPlate k s later rest here r =
    elim r [
      | inl x ↦ tight _ _ _ _ _ 0 s.a x (omega arith) (omega arith) (omega arith) (omega arith) here.rules.tr4.0
      | inr x ↦ behind_strip b whole m j t NewPlate k s later rest here here.rules.tr4.4 x
    ]
strip_r2 b whole m j t NewStrip k s later rest here r =
    elim r [
      | inl x ↦ tight _ _ _ _ _ t.b s.a x (omega arith) (omega arith) (omega arith) (omega arith) here.rules.tr4.0
      | inr x ↦ behind_strip b whole m j t NewStrip k s later rest here here.rules.tr4.4 x
    ]
strip_r2 b whole m j t _ k s later rest here r = r

band_r2 : (b : Problem) (whole : Bool) (m : Level) (j : Known) (t : Cut) (l : Level) (k : Known) (s : Cut) (later : List Level) (rest : List Spot) →
    Here b whole m j t l k s later rest → BandR2 b.params whole l j k later → ⊥
band_r2 b whole m j t NewPlate k s later rest here r =
    elim r [
      | inl x ↦ tight _ _ _ _ _ 0 s.c x (omega arith) (omega arith) (omega arith) (omega arith) here.rules.tr5.0
      | inr x ↦ tight _ _ _ _ _ s.d _ x.1 (omega arith) (omega arith) (omega arith) (omega arith) (here.rules.tr5.3 (last_band_leads whole later _ here.leads x.0))
    ]
band_r2 b whole m j t NewStrip k s later rest here r =
    elim r [
      | inl x ↦ tight _ _ _ _ _ 0 s.c x (omega arith) (omega arith) (omega arith) (omega arith) here.rules.tr5.0
      | inr x ↦ tight _ _ _ _ _ s.d _ x.1 (omega arith) (omega arith) (omega arith) (omega arith) (here.rules.tr5.3 (last_band_leads whole later _ here.leads x.0))
    ]
band_r2 b whole m j t NewBand k s later rest here r =
    elim r [
      | inl x ↦ tight _ _ _ _ _ t.d s.c x (omega arith) (omega arith) (omega arith) (omega arith) here.rules.tr5.0
      | inr x ↦ tight _ _ _ _ _ s.d _ x.1 (omega arith) (omega arith) (omega arith) (omega arith) (here.rules.tr5.3 (last_band_leads whole later _ here.leads x.0))
    ]
band_r2 b whole m j t _ k s later rest here r = r

-- the gap behind a cell
behind_cell : (b : Problem) (whole : Bool) (m : Level) (j : Known) (t : Cut) (l : Level) (k : Known) (s : Cut) (later : List Level) (rest : List Spot) →
    Here b whole m j t l k s later rest → (IsTrue (is_last_cell true (levels rest)) → Gap b.params.waste (s.e + s.cell_w) s.b) →
    IsTrue (is_last_cell whole later) × Tight b.params.waste (k.least_e + k.cell_w) (k.high_e + k.cell_w) k.least_b k.high_b → ⊥
behind_cell b whole m j t l k s later rest here gap x =
    let e : Same k s = same_place k s here.now.place in
    tight _ _ _ _ _ (s.e + s.cell_w) s.b x.1 (omega (arith, e.cell_w)) (omega (arith, e.cell_w)) (omega arith) (omega arith) (gap (last_cell_leads whole later _ here.leads x.0))

cell_r2 : (b : Problem) (whole : Bool) (m : Level) (j : Known) (t : Cut) (l : Level) (k : Known) (s : Cut) (later : List Level) (rest : List Spot) →
    Here b whole m j t l k s later rest → CellR2 b.params whole l j k later → ⊥
cell_r2 b whole m j t Over k s later rest here r = r
cell_r2 b whole m j t NewCell k s later rest here r =
    elim r [
      | inl x ↦
          let e : Same j t = same_place j t here.before.place in
          tight _ _ _ _ _ (t.e + t.cell_w) s.e x (omega (arith, e.cell_w)) (omega (arith, e.cell_w)) (omega arith) (omega arith) here.rules.tr6.0
      | inr x ↦ behind_cell b whole m j t NewCell k s later rest here here.rules.tr6.1 x
    ]
cell_r2 b whole m j t NewPlate k s later rest here r =
    elim r [
      | inl x ↦ tight _ _ _ _ _ s.a s.e x (omega arith) (omega arith) (omega arith) (omega arith) here.rules.tr6.0
      | inr x ↦ behind_cell b whole m j t NewPlate k s later rest here here.rules.tr6.1 x
    ]
cell_r2 b whole m j t NewStrip k s later rest here r =
    elim r [
      | inl x ↦ tight _ _ _ _ _ s.a s.e x (omega arith) (omega arith) (omega arith) (omega arith) here.rules.tr6.0
      | inr x ↦ behind_cell b whole m j t NewStrip k s later rest here here.rules.tr6.1 x
    ]
cell_r2 b whole m j t NewBand k s later rest here r =
    elim r [
      | inl x ↦ tight _ _ _ _ _ s.a s.e x (omega arith) (omega arith) (omega arith) (omega arith) here.rules.tr6.0
      | inr x ↦ behind_cell b whole m j t NewBand k s later rest here here.rules.tr6.1 x
    ]

-- over two items
top_two : (b : Problem) (whole : Bool) (m : Level) (j : Known) (t : Cut) (k : Known) (s : Cut) (later : List Level) (rest : List Spot) →
    Here b whole m j t Over k s later rest → k.high_c + (j.h + k.h) < k.least_d → ⊥
top_two b whole m j t k s later rest here x =
    let e : Same k s = same_place k s here.now.place in
    let f : Same j t = same_place j t here.before.place in
    omega (arith, here.rules.tr7.4, e.h, f.h)

-- over one item that is not lifted
top_one : (b : Problem) (whole : Bool) (m : Level) (j : Known) (t : Cut) (l : Level) (k : Known) (s : Cut) (later : List Level) (rest : List Spot) →
    Here b whole m j t l k s later rest → (IsTrue (is_last_in_cell true (levels rest)) → AloneFits b.params 0 s) →
    IsTrue (is_last_in_cell whole later) × Tight b.params.waste (k.least_c + k.h) (k.high_c + k.h) k.least_d k.high_d → ⊥
top_one b whole m j t l k s later rest here fits x =
    let e : Same k s = same_place k s here.now.place in
    tight b.params.waste _ _ _ _ (s.c + s.h) s.d x.1 (omega (arith, e.h)) (omega (arith, e.h)) (omega arith) (omega arith)
    (elim (fits (last_in_cell_leads whole later _ here.leads x.0)) [ inl y ↦ inl y | inr y ↦ inr y.0 ])

top_r2 : (b : Problem) (whole : Bool) (m : Level) (j : Known) (t : Cut) (l : Level) (lift : ℕ) (k : Known) (s : Cut) (later : List Level) (rest : List Spot) →
    Here b whole m j t l k s later rest → lift ≡ s.draw.lift → TopR2 b.params whole m l lift j k later → ⊥
top_r2 b whole Over j t Over lift k s later rest here e r = r
top_r2 b whole NewPlate j t Over lift k s later rest here e r = top_two b whole NewPlate j t k s later rest here r.1
top_r2 b whole NewStrip j t Over lift k s later rest here e r = top_two b whole NewStrip j t k s later rest here r.1
top_r2 b whole NewBand j t Over lift k s later rest here e r = top_two b whole NewBand j t k s later rest here r.1
top_r2 b whole NewCell j t Over lift k s later rest here e r = top_two b whole NewCell j t k s later rest here r.1
top_r2 b whole m j t NewPlate zero k s later rest here e r = top_one b whole m j t NewPlate k s later rest here (rw (← e) at here.rules.tr7) r
top_r2 b whole m j t NewStrip zero k s later rest here e r = top_one b whole m j t NewStrip k s later rest here (rw (← e) at here.rules.tr7) r
top_r2 b whole m j t NewBand zero k s later rest here e r = top_one b whole m j t NewBand k s later rest here (rw (← e) at here.rules.tr7) r
top_r2 b whole m j t NewCell zero k s later rest here e r = top_one b whole m j t NewCell k s later rest here (rw (← e) at here.rules.tr7) r
top_r2 b whole m j t _ (suc n) k s later rest here e r = r

over_r6 : (b : Problem) (whole : Bool) (m : Level) (j : Known) (t : Cut) (l : Level) (k : Known) (s : Cut) (later : List Level) (rest : List Spot) →
    Here b whole m j t l k s later rest → OverR6 m l j k → ⊥
over_r6 b whole m j t Over k s later rest here r =
    let e : Same k s = same_place k s here.now.place in
    let f : Same j t = same_place j t here.before.place in
    elim r [
      | inl x ↦ omega (arith, here.rules.tr7.0, e.lift)
      | inr r ↦ elim r [
        | inl x ↦ omega (arith, here.rules.tr7.1, e.w, f.w)
        | inr r ↦ elim r [
          | inl x ↦ omega (arith, here.rules.tr7.1, e.w, f.w)
          | inr r ↦ elim r [ inl x ↦ omega (arith, here.rules.tr7.2, f.lift) | inr x ↦ here.rules.tr7.3 x ]
        ]
      ]
    ]
over_r6 b whole m j t _ k s later rest here r = r

-- each reason but R7, at a step
module _ (b : Problem) (whole : Bool) (m : Level) (j : Known) (t : Cut) (l : Level) (k : Known) (s : Cut) (later : List Level) (rest : List Spot) (here : Here b whole m j t l k s later rest) where
  pub step_r2 : StepR2 b whole m j l k later → ⊥
  step_r2 r =
      elim r [
        | inl x ↦ strip_r2 b whole m j t l k s later rest here x
        | inr r ↦ elim r [
          | inl x ↦ band_r2 b whole m j t l k s later rest here x
          | inr r ↦ elim r [
            | inl x ↦ cell_r2 b whole m j t l k s later rest here x
            | inr x ↦ top_r2 b whole m j t l k.draw.lift k s later rest here (ap (λ p. p.draw.lift) here.now.place) x
          ]
        ]
      ]

  pub step_r3 : ¬ StepR3 b.defects m j l k later
  step_r3 r = item_hit b.defects l s.draw.lift k s here.now (same_place k s here.now.place) here.rules.tr8 (subst (λ n. ItemR3 b.defects l n k) (ap (λ p. p.draw.lift) here.now.place) r)

  pub step_r4 : ¬ StepR4 b m j l k later
  step_r4 r =
      elim r [
        | inl x ↦ r4_a b whole m j t l k s later rest here x.0 x.1
        | inr r ↦ elim r [
          | inl x ↦ r4_b b whole m j t l k s later rest here x.0 x.1
          | inr r ↦ elim r [
            | inl x ↦ r4_c b whole m j t l k s later rest here x.0 x.1
            | inr r ↦ elim r [
              | inl x ↦ r4_d b whole m j t l k s later rest here x.0 x.1
              | inr r ↦ elim r [
                | inl x ↦ r4_e b whole m j t l k s later rest here x.0 x.1
                | inr r ↦ elim r [
                  | inl x ↦ r4_end b whole m j t l k s later rest here x.0 x.1
                  | inr x ↦ lift_line b.defects l s.draw.lift k s here.now (same_place k s here.now.place) here.rules.tr9.at_lift (subst (λ n. LiftR4 b.defects l n k) (ap (λ p. p.draw.lift) here.now.place) x)
                ]
              ]
            ]
          ]
        ]
      ]

  pub step_r5 : ¬ StepR5 b.params m j l k later
  step_r5 r = omega (arith, (same_place k s here.now.place).band_w)

  none_some : (x y : Option Item) → x ≡ y → IsNone x → IsSome y → ⊥
  none_some None None e a b = absurd (cc)
  none_some None (Some i) e a b = absurd (cc)
  none_some (Some i) y e a b = absurd (cc)

  pub step_r6 : StepR6 b.params m j l k later → ⊥
  step_r6 r =
      let e : Same k s = same_place k s here.now.place in
      elim r [
        | inl x ↦ omega (arith, here.rules.tr1, e.plates)
        | inr r ↦ elim r [
          | inl x ↦ omega (arith, here.rules.tr1, e.plates)
          | inr r ↦ elim r [
            | inl x ↦ omega (arith, here.rules.tr1, e.kind)
            | inr r ↦ elim r [
              | inl x ↦ none_some k.item s.item (ap (λ p. p.item) here.now.place) x here.rules.tr2
              | inr r ↦ elim r [
                | inl x ↦ omega (arith, here.rules.tr3.2 (omega (arith, e.w, e.h, x.0)), e.turn, x.1)
                | inr r ↦ elim r [
                  | inl x ↦ over_r6 b whole m j t l k s later rest here x
                  | inr x ↦ omega (arith, here.sound.wide (omega (arith, e.lift, x.0)), e.w, x.1)
                ]
              ]
            ]
          ]
        ]
      ]
