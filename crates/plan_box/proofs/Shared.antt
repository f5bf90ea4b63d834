-- A box is shared out to its halves, which are boxes of its frame; the root holds every trace that meets the rules.
use Rattle.std.proofs.Common.{◌≡◌, ℕ, zero, suc, ◌<◌, ◌≤◌, ◌==◌, inl, inr, List, [], ◌∷◌, Bool, true, false, cond, refl, ap, ◌∙◌, subst, arith, map, length, replicate, All, IsTrue, IsSome}
use Rattle.std.specs.Prelude.{slice_get, option_and_then}
use Rattle.std.proofs.lemmas.Bool.{cases_lt}
use Rattle.std.proofs.lemmas.Bool.Decides.{nat_tests}
use Rattle.std.proofs.lemmas.List.{get_or_past, length-replicate}
use Rattle.std.proofs.lemmas.List.Elements.{All-cons, All-head, All-replicate, All-tail}
use Rattle.glass_base.specs.Problem.{Problem, item_at, stack_at}
use Rattle.cut_model.specs.declared.steps.Step.{Step}
use Rattle.plan_trace.specs.Claims.{IsComplete}
use Rattle.plan_trace.specs.declared.level.Level.{Level}
use Rattle.plan_trace.specs.declared.level.Level.TheVariants.{NewPlate}
use Rattle.plan_trace.specs.Marks.{Draw, draw_of, drawn, begins, marks, attach, place_of, Spot, Cut, cut, no_cut}
use Rattle.plan_trace.specs.TraceRules.{Rules, EachStep}
use Rattle.plan_trace.proofs.Inside.{Sound, meets_sound}
use Rattle.plan_box.specs.declared.frame.Frame.{Frame}
use Rattle.plan_box.specs.declared.var.Var.{Var}
use Rattle.plan_box.specs.Ranges.{Span, Ranges, StepIn, InBox, IsBox, AreInFrame, PlainBox, span_of, with_span, full_ranges, root_of}
use Rattle.plan_box.specs.Frames.{frame_of}
use Rattle.plan_box.specs.Decisions.{is_single, is_drawn, draw_at, opens, is_discrete, is_free_from, is_free}
use Rattle.plan_box.specs.Halves.{lower_half, upper_half, half_at, child_of, IsShared}
use Rattle.plan_box.proofs.Halves.{in_one_half, not_in_both, IsProper, of_lower_half, of_upper_half}
use Rattle.glass_base.proofs.PlateLemmas.{width_most}

-- a test behind another one
pub kept : (c x : Bool) → IsTrue (cond c x false) → IsTrue x
kept true x h = h
kept false x h = absurd (cc h)

-- what is not single and passes a test
not_single : (one x : Bool) → IsTrue (cond one false x) → one ≡ false
not_single false x h = refl
not_single true x h = absurd (cc h)

-- a free variable is one of a step that there is
pub free_inside : (before : List Draw) (rs : List Ranges) (step : ℕ) (v : Var) → IsTrue (is_free_from before rs step v) → step < length rs
free_inside before [] step v free = absurd (cc free)
free_inside before (r ∷ rs) zero v free = omega arith
free_inside before (r ∷ rs) (suc step) v free =
    omega (arith, free_inside (draw_at r ∷ before) rs step v (kept (is_drawn r) (is_free_from (draw_at r ∷ before) rs step v) free))

-- the ranges of the step, or none
abbrev pub HoldsAt : (Ranges → Type 0) → List Ranges → ℕ → Type 0
HoldsAt P [] step = Unit {0}
HoldsAt P (r ∷ rs) zero = P r
HoldsAt P (r ∷ rs) (suc step) = HoldsAt P rs step

-- the range of a free variable has more than one number
pub free_wide : (f : Frame) (before : List Draw) (rs : List Ranges) (step : ℕ) (v : Var) → All (AreInFrame f) rs → IsTrue (is_free_from before rs step v) → HoldsAt (λ r. (span_of v r).low < (span_of v r).high) rs step
free_wide f before [] step v all free = tt
free_wide f before (r ∷ rs) zero v all free =
    let ok = (All-head (AreInFrame f) r rs all) v in
    let other : (is_single (span_of v r)) ≡ false = not_single (is_single (span_of v r)) (cond (is_drawn r) (opens (begins before r.kind.low) v) (is_discrete v)) free in
    differ (span_of v r).low (span_of v r).high ok.0 other
  where
    differ : (low high : ℕ) → low ≤ high → (low == high) ≡ false → low < high
    differ low high le e = grind (arith, nat_tests)
free_wide f before (r ∷ rs) (suc step) v all free =
    free_wide f (draw_at r ∷ before) rs step v (All-tail (AreInFrame f) r rs all) (kept (is_drawn r) (is_free_from (draw_at r ∷ before) rs step v) free)

proper_from : (rs : List Ranges) (step : ℕ) (v : Var) → HoldsAt (λ r. (span_of v r).low < (span_of v r).high) rs step → IsProper rs step v
proper_from [] step v h = tt
proper_from (r ∷ rs) zero v h = omega (arith, h)
proper_from (r ∷ rs) (suc step) v h = proper_from rs step v h

-- a trace is in a box exactly where it is in one of the halves at a free variable, and in no more than one
pub shared : (x : PlainBox) → IsBox x → (step : ℕ) (v : Var) → IsTrue (is_free x.ranges step v) → (ss : List Step) → IsShared ss x.ranges step v
shared x box step v free ss = record {
  in_one = (
    in_one_half ss x.ranges step v,
    λ h. elim h [
      | inl w ↦ of_lower_half ss x.ranges step v (proper_from x.ranges step v (free_wide x.frame [] x.ranges step v box.in_frame free)) w
      | inr w ↦ of_upper_half ss x.ranges step v w
    ],
  );
  not_in_both = λ h. not_in_both ss x.ranges step v (free_inside [] x.ranges step v free) h.0 h.1;
}

-- a fact of each variable
each : (P : Var → Type 0) → P Var.Stack → P Var.Turn → P Var.Kind → P Var.Lift → P Var.A → P Var.B → P Var.C → P Var.D → P Var.E → (v : Var) → P v
each P stack turn kind lift a b c d e Var.Stack = stack
each P stack turn kind lift a b c d e Var.Turn = turn
each P stack turn kind lift a b c d e Var.Kind = kind
each P stack turn kind lift a b c d e Var.Lift = lift
each P stack turn kind lift a b c d e Var.A = a
each P stack turn kind lift a b c d e Var.B = b
each P stack turn kind lift a b c d e Var.C = c
each P stack turn kind lift a b c d e Var.D = d
each P stack turn kind lift a b c d e Var.E = e

-- a range of one variable that lies in the old one
abbrev pub Within : Span → Span → Type 0
Within x y = (x.low ≤ x.high) × (x.high ≤ y.high)

pub one_in_frame : (f : Frame) (r : Ranges) (v : Var) (x : Span) → AreInFrame f r → Within x (span_of v r) → AreInFrame f (with_span v x r)
one_in_frame f r Var.Stack x h w = each (λ u. ((span_of u (with_span Var.Stack x r)).low ≤ (span_of u (with_span Var.Stack x r)).high) × ((span_of u (with_span Var.Stack x r)).high ≤ (span_of u (full_ranges f)).high)) (w.0, omega (arith, w.1, h Var.Stack)) (h Var.Turn) (h Var.Kind) (h Var.Lift) (h Var.A) (h Var.B) (h Var.C) (h Var.D) (h Var.E)
one_in_frame f r Var.Turn x h w = each (λ u. ((span_of u (with_span Var.Turn x r)).low ≤ (span_of u (with_span Var.Turn x r)).high) × ((span_of u (with_span Var.Turn x r)).high ≤ (span_of u (full_ranges f)).high)) (h Var.Stack) (w.0, omega (arith, w.1, h Var.Turn)) (h Var.Kind) (h Var.Lift) (h Var.A) (h Var.B) (h Var.C) (h Var.D) (h Var.E)
one_in_frame f r Var.Kind x h w = each (λ u. ((span_of u (with_span Var.Kind x r)).low ≤ (span_of u (with_span Var.Kind x r)).high) × ((span_of u (with_span Var.Kind x r)).high ≤ (span_of u (full_ranges f)).high)) (h Var.Stack) (h Var.Turn) (w.0, omega (arith, w.1, h Var.Kind)) (h Var.Lift) (h Var.A) (h Var.B) (h Var.C) (h Var.D) (h Var.E)
one_in_frame f r Var.Lift x h w = each (λ u. ((span_of u (with_span Var.Lift x r)).low ≤ (span_of u (with_span Var.Lift x r)).high) × ((span_of u (with_span Var.Lift x r)).high ≤ (span_of u (full_ranges f)).high)) (h Var.Stack) (h Var.Turn) (h Var.Kind) (w.0, omega (arith, w.1, h Var.Lift)) (h Var.A) (h Var.B) (h Var.C) (h Var.D) (h Var.E)
one_in_frame f r Var.A x h w = each (λ u. ((span_of u (with_span Var.A x r)).low ≤ (span_of u (with_span Var.A x r)).high) × ((span_of u (with_span Var.A x r)).high ≤ (span_of u (full_ranges f)).high)) (h Var.Stack) (h Var.Turn) (h Var.Kind) (h Var.Lift) (w.0, omega (arith, w.1, h Var.A)) (h Var.B) (h Var.C) (h Var.D) (h Var.E)
one_in_frame f r Var.B x h w = each (λ u. ((span_of u (with_span Var.B x r)).low ≤ (span_of u (with_span Var.B x r)).high) × ((span_of u (with_span Var.B x r)).high ≤ (span_of u (full_ranges f)).high)) (h Var.Stack) (h Var.Turn) (h Var.Kind) (h Var.Lift) (h Var.A) (w.0, omega (arith, w.1, h Var.B)) (h Var.C) (h Var.D) (h Var.E)
one_in_frame f r Var.C x h w = each (λ u. ((span_of u (with_span Var.C x r)).low ≤ (span_of u (with_span Var.C x r)).high) × ((span_of u (with_span Var.C x r)).high ≤ (span_of u (full_ranges f)).high)) (h Var.Stack) (h Var.Turn) (h Var.Kind) (h Var.Lift) (h Var.A) (h Var.B) (w.0, omega (arith, w.1, h Var.C)) (h Var.D) (h Var.E)
one_in_frame f r Var.D x h w = each (λ u. ((span_of u (with_span Var.D x r)).low ≤ (span_of u (with_span Var.D x r)).high) × ((span_of u (with_span Var.D x r)).high ≤ (span_of u (full_ranges f)).high)) (h Var.Stack) (h Var.Turn) (h Var.Kind) (h Var.Lift) (h Var.A) (h Var.B) (h Var.C) (w.0, omega (arith, w.1, h Var.D)) (h Var.E)
one_in_frame f r Var.E x h w = each (λ u. ((span_of u (with_span Var.E x r)).low ≤ (span_of u (with_span Var.E x r)).high) × ((span_of u (with_span Var.E x r)).high ≤ (span_of u (full_ranges f)).high)) (h Var.Stack) (h Var.Turn) (h Var.Kind) (h Var.Lift) (h Var.A) (h Var.B) (h Var.C) (h Var.D) (w.0, omega (arith, w.1, h Var.E))

-- a half of a box has ranges for the same steps
pub half_count : (half : Span → Span) (rs : List Ranges) (step : ℕ) (v : Var) → length (half_at half rs step v) ≡ length rs
half_count half [] step v = refl
half_count half (r ∷ rs) zero v = refl
half_count half (r ∷ rs) (suc step) v = ap suc (half_count half rs step v)

pub half_in_frame : (f : Frame) (half : Span → Span) → ((x : Span) → x.low < x.high → Within (half x) x) → (rs : List Ranges) (step : ℕ) (v : Var) → All (AreInFrame f) rs → HoldsAt (λ r. (span_of v r).low < (span_of v r).high) rs step →
    All (AreInFrame f) (half_at half rs step v)
half_in_frame f half less [] step v all wide = all
half_in_frame f half less (r ∷ rs) zero v all wide =
    All-cons (AreInFrame f) (with_span v (half (span_of v r)) r) rs (one_in_frame f r v (half (span_of v r)) (All-head (AreInFrame f) r rs all) (less (span_of v r) wide)) (All-tail (AreInFrame f) r rs all)
half_in_frame f half less (r ∷ rs) (suc step) v all wide =
    All-cons (AreInFrame f) r (half_at half rs step v) (All-head (AreInFrame f) r rs all) (half_in_frame f half less rs step v (All-tail (AreInFrame f) r rs all) wide)

pub lower_within : (x : Span) → x.low < x.high → Within (lower_half x) x
lower_within x h = (omega (arith, h), omega (arith, h))

pub upper_within : (x : Span) → x.low < x.high → Within (upper_half x) x
upper_within x h = (omega (arith, h), omega (arith, h))

half_is_box : (half : Span → Span) → ((x : Span) → x.low < x.high → Within (half x) x) → (x : PlainBox) → IsBox x → (step : ℕ) (v : Var) (id : ℕ) → IsTrue (is_free x.ranges step v) → IsBox (child_of half x step v id)
half_is_box half less x box step v id free = record {
  each_step = half_count half x.ranges step v ∙ box.each_step;
  in_frame = half_in_frame x.frame half less x.ranges step v box.in_frame (free_wide x.frame [] x.ranges step v box.in_frame free);
}

-- both halves of a box are boxes
pub lower_is_box : (x : PlainBox) → IsBox x → (step : ℕ) (v : Var) (id : ℕ) → IsTrue (is_free x.ranges step v) → IsBox (child_of lower_half x step v id)
lower_is_box = half_is_box lower_half lower_within

pub upper_is_box : (x : PlainBox) → IsBox x → (step : ℕ) (v : Var) (id : ℕ) → IsTrue (is_free x.ranges step v) → IsBox (child_of upper_half x step v id)
upper_is_box = half_is_box upper_half upper_within

pub full_in_frame : (f : Frame) → AreInFrame f (full_ranges f)
full_in_frame f =
    each (λ u. ((span_of u (full_ranges f)).low ≤ (span_of u (full_ranges f)).high) × ((span_of u (full_ranges f)).high ≤ (span_of u (full_ranges f)).high)) (omega arith, omega arith) (omega arith, omega arith) (omega arith, omega arith) (omega arith, omega arith) (omega arith, omega arith) (omega arith, omega arith) (omega arith, omega arith) (omega arith, omega arith) (omega arith, omega arith)

-- a box with all ranges full is a box
pub root_is_box : (f : Frame) (id : ℕ) → IsBox (root_of f id)
root_is_box f id = record {
  each_step = length-replicate f.items (full_ranges f);
  in_frame = All-replicate (AreInFrame f) f.items (full_ranges f) (full_in_frame f);
}

-- a stack that has an item is one of the stacks
stack_inside : (b : Problem) (stack place : ℕ) → IsSome (item_at b stack place) → stack < length b.stacks
stack_inside b stack place some =
    elim (cases_lt stack (length b.stacks)) [
      | inl there ↦ there
      | inr past ↦ let none : stack_at b stack ≡ [] = get_or_past b.stacks stack [] past in absurd (nothing (stack_at b stack) none some)
    ]
  where
    nothing : (places : List ℕ) → places ≡ [] → ¬ IsSome (option_and_then (λ position. slice_get b.items position) (slice_get places place))
    nothing [] e h = cc
    nothing (x ∷ places) e h = cc

step_full : (b : Problem) (l : Level) (m : Level) (t s : Cut) (n : Step) (before : List Draw) (later : List Spot) → s ≡ cut (place_of b before t.place (draw_of n)) n → Rules b m t l s later → Sound b l t s → StepIn n (full_ranges (frame_of b))
step_full b l m t s n before later e r ok =
    let q : s.place ≡ place_of b before t.place (draw_of n) = ap (λ x. x.place) e in
    let sa : s.a ≡ n.a = ap (λ x. x.a) e in
    let sb : s.b ≡ n.b = ap (λ x. x.b) e in
    let sc : s.c ≡ n.c = ap (λ x. x.c) e in
    let sd : s.d ≡ n.d = ap (λ x. x.d) e in
    let se : s.e ≡ n.e = ap (λ x. x.e) e in
    let draw : s.draw ≡ draw_of n = ap (λ x. x.draw) q in
    let inside : n.stack < length b.stacks = stack_inside b n.stack (drawn before n.stack) (subst IsSome (ap (λ x. x.item) q) r.tr2) in
    record {
      stack = (omega arith, omega (arith, inside));
      turn = (omega arith, omega (arith, r.tr3.0, ap (λ x. x.turn) draw));
      kind = (omega arith, omega (arith, r.tr1.2, ap (λ x. x.kind) draw));
      lift = (omega arith, omega (arith, r.tr3.1, ap (λ x. x.lift) draw));
      a = (omega arith, omega (arith, sa, ok.ends, ok.within, width_most b s.plate));
      b = (omega arith, omega (arith, sb, ok.within, width_most b s.plate));
      c = (omega arith, omega (arith, sc, ok.ends, ok.high));
      d = (omega arith, omega (arith, sd, ok.high));
      e = (omega arith, omega (arith, se, ok.right, ok.within, width_most b s.plate));
    }

steps_full : (b : Problem) (before : List Draw) (m : Level) (t : Cut) (ss : List Step) → EachStep (Rules b) m t (attach (marks b before t.place (map draw_of ss)) ss) →
    EachStep (λ _ t l s _. Sound b l t s) m t (attach (marks b before t.place (map draw_of ss)) ss) → InBox ss (replicate (length ss) (full_ranges (frame_of b)))
steps_full b before m t [] r ok = tt
steps_full b before m t (s ∷ ss) r ok =
    let here : Cut = cut (place_of b before t.place (draw_of s)) s in
    (step_full b (begins before s.kind) m t here s before _ refl r.0 ok.0, steps_full b (draw_of s ∷ before) (begins before s.kind) here ss r.1 ok.1)

-- the root holds each trace that meets the rules and has a step for each item
pub root_holds : (b : Problem) (id : ℕ) (ss : List Step) → IsComplete b ss → InBox ss (root_of (frame_of b) id).ranges
root_holds b id ss whole =
    subst (λ n. InBox ss (replicate n (full_ranges (frame_of b)))) whole.each_item
    (steps_full b [] NewPlate no_cut ss whole.meets (meets_sound b ss whole.meets))
