-- The central law: each cut of a decided step lies between its least value and its high end.
use Rattle.std.proofs.Common.{◌≡◌, ℕ, ◌+◌, ◌≤◌, ◌&&◌, List, [], ◌∷◌, Bool, true, false, cond, max, refl, arith, map, sym, ap, eqb-true, subst}
use Rattle.glass_base.specs.Plates.{Width}
use Rattle.glass_base.specs.Problem.{Problem}
use Rattle.cut_model.specs.declared.steps.Step.{Step}
use Rattle.plan_trace.specs.declared.level.Level.{Level}
use Rattle.plan_trace.specs.declared.level.Level.TheVariants.{NewPlate, NewStrip, NewBand, NewCell, Over}
use Rattle.plan_trace.specs.Marks.{Draw, Place, Spot, spot, spots, Cut, cut, no_cut, marks, attach, draw_of, place_of, begins}
use Rattle.plan_trace.specs.TraceRules.{Rules, EachStep, Meets, Inherits, TR4, TR5, TR6}
use Rattle.plan_trace.proofs.Inside.{Sound, meets_sound}
use Rattle.plan_box.specs.Ranges.{Span, Ranges, StepIn, IsWithin, InBox}
use Rattle.plan_box.specs.Decisions.{is_single, is_drawn, draw_at, decided}
use Rattle.plan_box.specs.Leasts.{Known, Fixed, fixed, begin_band, begin_strip, cell_known, band_known, strip_known, next_known, no_known, known_so_far, settled, settle_at, settle, known, Holds, HoldAll}

module _ (b : Problem) (p : Place) (r : Ranges) (s : Step) (is_in : StepIn s r) (right : s.e + p.cell_w ≤ s.b) (top : s.c + p.cell_h ≤ s.d) (within : s.b ≤ Width b p.plate) where
  cell_holds : (k : Known) (from : ℕ) → (k.least_a ≤ s.a) × (s.a ≤ k.high_a) → (k.least_b ≤ s.b) × (s.b ≤ k.high_b) → (k.least_c ≤ s.c) × (s.c ≤ k.high_c) → (k.least_d ≤ s.d) × (s.d ≤ k.high_d) → from ≤ s.e →
      Holds (cell_known b p k from r) (cut p s)
  cell_holds k from in_a in_b in_c in_d left =
      record { place = refl; a = in_a; b = omega arith; c = in_c; d = omega arith; e = omega arith }

  band_holds : (k : Known) (from : ℕ) → (k.least_a ≤ s.a) × (s.a ≤ k.high_a) → (k.least_b ≤ s.b) × (s.b ≤ k.high_b) → from ≤ s.c → s.c + b.params.min2 ≤ s.d → s.a ≤ s.e →
      Holds (band_known b p k from r) (cut p s)
  band_holds k from in_a in_b below high left =
      cell_holds (begin_band b k (max r.c.low from) r) _ in_a in_b (omega arith) (omega arith) (omega arith)

  strip_holds : (k : Known) (from : ℕ) → from ≤ s.a → s.a + b.params.min1 ≤ s.b → s.c + b.params.min2 ≤ s.d → s.a ≤ s.e →
      Holds (strip_known b p k from r) (cut p s)
  strip_holds k from before wide high left =
      band_holds (begin_strip b p k (max r.a.low from) r) _ (omega arith) (omega arith) (omega arith) high left

  -- one step
  step_holds : (l : Level) (k : Known) (t : Cut) (later : List Spot) →
      Sound b l t (cut p s) → TR4 b l t (cut p s) later → TR5 b.params l t (cut p s) later → TR6 b.params l t (cut p s) later → Holds k t →
      Holds (next_known b l p k r) (cut p s)
  step_holds NewPlate k t later ok tr4 tr5 tr6 h = strip_holds k _ (omega arith) (omega arith) (omega arith) (omega arith)
  step_holds NewStrip k t later ok tr4 tr5 tr6 h = strip_holds k _ (omega arith) (omega arith) (omega arith) (omega arith)
  step_holds NewBand k t later ok tr4 tr5 tr6 h = band_holds k _ (omega arith) (omega arith) (omega arith) (omega arith) (omega arith)
  step_holds NewCell k t later ok tr4 tr5 tr6 h = cell_holds k _ (omega arith) (omega arith) (omega arith) (omega arith) (omega (arith, ap (λ q. q.cell_w) h.place))
  step_holds Over k t later ok tr4 tr5 tr6 h =
      record { place = refl; a = omega arith; b = omega arith; c = omega arith; d = omega arith; e = omega arith }

pub single_of : (n : ℕ) (x : Span) → IsWithin n x → is_single x ≡ true → n ≡ x.low
single_of n x w e = let f : x.low ≡ x.high = eqb-true _ _ e in omega arith

pub both : (b c : Bool) → (b && c) ≡ true → (b ≡ true) × (c ≡ true)
both true true e = (refl, refl)
both true false e = (refl, e)
both false c e = absurd (cc)

-- the step of a trace draws what its decided ranges say
pub same_draw : (s : Step) (r : Ranges) → StepIn s r → is_drawn r ≡ true → draw_at r ≡ draw_of s
same_draw s r w e =
    let e1 : (is_single r.stack ≡ true) × ((is_single r.turn && (is_single r.kind && is_single r.lift)) ≡ true) = both _ _ e in
    let e2 : (is_single r.turn ≡ true) × ((is_single r.kind && is_single r.lift) ≡ true) = both _ _ e1.1 in
    let e3 : (is_single r.kind ≡ true) × (is_single r.lift ≡ true) = both _ _ e2.1 in
    let p1 : r.stack.low ≡ s.stack = sym (single_of s.stack r.stack w.stack e1.0) in
    let p2 : r.turn.low ≡ s.turn = sym (single_of s.turn r.turn w.turn e2.0) in
    let p3 : r.kind.low ≡ s.kind = sym (single_of s.kind r.kind w.kind e3.0) in
    let p4 : r.lift.low ≡ s.lift = sym (single_of s.lift r.lift w.lift e3.1) in
    λ i. record { stack = p1 i; turn = p2 i; kind = p3 i; lift = p4 i }

module _ (b : Problem) (before : List Draw) (k : Known) (t : Cut) (x : Ranges) (rs : List Ranges) (s : Step) (ss : List Step) where
  abbrev HoldFrom : List Draw → Type 0
  HoldFrom ds =
      HoldAll (known_so_far b k (marks b before t.place ds) (x ∷ rs)) (attach (marks b before t.place (map draw_of (s ∷ ss))) (s ∷ ss))

  one_more : StepIn s x → HoldFrom (draw_of s ∷ decided rs) → (drawn : Bool) → is_drawn x ≡ drawn → HoldFrom (cond drawn (draw_at x ∷ decided rs) [])
  one_more is_in h false e = tt
  one_more is_in h true e = subst (λ d. HoldFrom (d ∷ decided rs)) (sym (same_draw s x is_in e)) h

so_far_holds : (b : Problem) (before : List Draw) (m : Level) (k : Known) (t : Cut) (rs : List Ranges) (ss : List Step) →
    InBox ss rs →
    EachStep (Rules b) m t (attach (marks b before t.place (map draw_of ss)) ss) →
    EachStep (λ _ t l s _. Sound b l t s) m t (attach (marks b before t.place (map draw_of ss)) ss) →
    Holds k t →
    HoldAll (known_so_far b k (marks b before t.place (decided rs)) rs) (attach (marks b before t.place (map draw_of ss)) ss)
so_far_holds b before m k t [] ss is_in r ok h = tt
so_far_holds b before m k t (x ∷ rs) [] is_in r ok h = elim is_in [ ]
so_far_holds b before m k t (x ∷ rs) (s ∷ ss) is_in r ok h =
    let p : Place = place_of b before t.place (draw_of s) in
    let n : Known = next_known b (begins before s.kind) p k x in
    let now : Holds n (cut p s) = step_holds b p x s is_in.0 ok.0.right ok.0.top ok.0.within (begins before s.kind) k t _ ok.0 r.0.tr4 r.0.tr5 r.0.tr6 h in
    one_more b before k t x rs s ss is_in.0
    (refl, now, so_far_holds b (draw_of s ∷ before) (begins before s.kind) n (cut p s) rs ss is_in.1 r.1 ok.1 now)
    (is_drawn x) refl

settled_holds : (l : Level) (k n : Known) (s t : Cut) → Inherits l s t → Holds k s → Holds n t → Holds (settled l k n) s
settled_holds NewPlate k n s t i h g = h
settled_holds NewStrip k n s t i h g = h
settled_holds NewBand k n s t i h g = record { place = h.place; a = h.a; b = omega arith; c = h.c; d = h.d; e = h.e }
settled_holds NewCell k n s t i h g = record { place = h.place; a = h.a; b = omega arith; c = h.c; d = omega arith; e = h.e }
settled_holds Over k n s t i h g = record { place = h.place; a = h.a; b = omega arith; c = h.c; d = omega arith; e = h.e }

settle_one : (b : Problem) (l : Level) (k : Known) (s : Cut) (ks : List Fixed) (ss : List Spot) →
    Holds k s → HoldAll ks ss → EachStep (λ _ t l s _. Sound b l t s) l s ss → Holds (settle_at k ks) s
settle_one b l k s [] ss h g ok = h
settle_one b l k s (fixed x n ∷ ks) [] h g ok = elim g [ ]
settle_one b l k s (fixed x n ∷ ks) (spot y t ∷ ss) h g ok =
    settled_holds x k n s t (rw g.0 ok.0.inherits) h g.1

settle_holds : (b : Problem) (m : Level) (t : Cut) (ks : List Fixed) (ss : List Spot) →
    HoldAll ks ss → EachStep (λ _ t l s _. Sound b l t s) m t ss → HoldAll (settle ks) ss
settle_holds b m t [] ss h ok = tt
settle_holds b m t (fixed l k ∷ ks) [] h ok = elim h [ ]
settle_holds b m t (fixed l k ∷ ks) (spot y s ∷ ss) h ok =
    let later : HoldAll (settle ks) ss = settle_holds b y s ks ss h.2 ok.1 in
    (h.0, settle_one b y k s (settle ks) ss h.1 later ok.1, later)

pub no_box : Holds no_known no_cut
no_box = record { place = refl; a = omega arith; b = omega arith; c = omega arith; d = omega arith; e = omega arith }

-- each cut of each decided step of a trace in the box lies between its least value and its high end
pub known_holds : (b : Problem) (rs : List Ranges) (ss : List Step) → InBox ss rs → Meets b ss → HoldAll (known b rs) (spots b ss)
known_holds b rs ss is_in m =
    let ok : EachStep (λ _ t l s _. Sound b l t s) NewPlate no_cut (spots b ss) = meets_sound b ss m in
    settle_holds b NewPlate no_cut _ _ (so_far_holds b [] NewPlate no_known no_cut rs ss is_in m ok no_box) ok
