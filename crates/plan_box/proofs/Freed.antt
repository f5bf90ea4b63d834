-- What a free variable is: the tests that find it.
use Rattle.std.proofs.Common.{◌≡◌, ◌∙◌, sym, ℕ, zero, suc, ◌+◌, ◌-◌, ◌/◌, ◌<◌, ◌≤◌, List, [], ◌∷◌, length, slice_index_or, Bool, true, false, cond, IsTrue, refl, ap, arith}
use Rattle.plan_trace.specs.declared.level.Level.{Level}
use Rattle.plan_trace.specs.Marks.{level_of, Draw, begins}
use Rattle.plan_box.specs.declared.var.Var.{Var}
use Rattle.plan_box.specs.Decisions.{is_single, is_drawn, draw_at, decided, level_at, opens, is_discrete, is_free_from, is_free}
use Rattle.plan_box.specs.Halves.{half_at, lower_half, upper_half, child_of}
use Rattle.plan_box.specs.Ranges.{Span, Ranges, PlainBox, IsBox, span_of, with_span}
use Rattle.plan_box.proofs.Shared.{free_inside, free_wide, kept, HoldsAt}

-- a free variable is one of a decided step or of the first undecided one
pub free_reached : (before : List Draw) (rs : List Ranges) (step : ℕ) (v : Var) → IsTrue (is_free_from before rs step v) → step ≤ length (decided rs)
free_reached before [] step v free = absurd (cc free)
free_reached before (r ∷ rs) zero v free = omega arith
free_reached before (r ∷ rs) (suc step) v free =
    one_more (is_drawn r) free (free_reached (draw_at r ∷ before) rs step v (kept (is_drawn r) (is_free_from (draw_at r ∷ before) rs step v) free))
  where
    one_more : (drawn : Bool) → IsTrue (cond drawn (is_free_from (draw_at r ∷ before) rs step v) false) → step ≤ length (decided rs) → suc step ≤ length (cond drawn (draw_at r ∷ decided rs) [])
    one_more true h le = omega (arith, le)
    one_more false h le = absurd (cc h)

-- a half by its ends
pub same_half : (half : Span → Span) (x : Span) (rs : List Ranges) (step : ℕ) (v : Var) (d : Ranges) → step < length rs → x ≡ half (span_of v (slice_index_or rs step d)) → half_at (λ _. x) rs step v ≡ half_at half rs step v
same_half half x [] step v d lt e = refl
same_half half x (r ∷ rs) zero v d lt e = ap (λ y. with_span v y r ∷ rs) e
same_half half x (r ∷ rs) (suc step) v d lt e = ap (λ l. r ∷ l) (same_half half x rs step v d (omega (arith, lt)) e)

wide_at : (rs : List Ranges) (step : ℕ) (v : Var) (d : Ranges) → step < length rs → HoldsAt (λ r. (span_of v r).low < (span_of v r).high) rs step → (span_of v (slice_index_or rs step d)).low < (span_of v (slice_index_or rs step d)).high
wide_at [] step v d lt h = absurd (omega (arith, lt))
wide_at (r ∷ rs) zero v d lt h = h
wide_at (r ∷ rs) (suc step) v d lt h = wide_at rs step v d (omega (arith, lt)) h

-- what a free variable of a box is
pub record IsOpen (x : PlainBox) (step : ℕ) (v : Var) : Type 0 where
  pub reached : step ≤ length (decided x.ranges)
  pub inside : step < x.frame.items
  pub wide : (d : Ranges) → (span_of v (slice_index_or x.ranges step d)).low < (span_of v (slice_index_or x.ranges step d)).high

pub free_open : (x : PlainBox) → IsBox x → (step : ℕ) (v : Var) → IsTrue (is_free x.ranges step v) → IsOpen x step v
free_open x box step v free = record {
  reached = free_reached [] x.ranges step v free;
  inside = omega (arith, free_inside [] x.ranges step v free, box.each_step);
  wide = λ d. wide_at x.ranges step v d (free_inside [] x.ranges step v free) (free_wide x.frame [] x.ranges step v box.in_frame free);
}

-- the lower half of a range, by its ends
pub lower_is : (y : Span) (low high : ℕ) → low ≡ y.low → high ≡ y.high → record { low = low; high = low + (high - low) / 2 } ≡ lower_half y
lower_is y low high p q = rw (p, q) refl

pub upper_is : (y : Span) (low high : ℕ) → low ≡ y.low → high ≡ y.high → record { low = low + (high - low) / 2 + 1; high = high } ≡ upper_half y
upper_is y low high p q = rw (p, q) refl

-- a child by the ends of its half
pub child_is : (half : Span → Span) (x : Span) (box : PlainBox) (step : ℕ) (v : Var) (id : ℕ) (d : Ranges) → IsTrue (is_free box.ranges step v) → x ≡ half (span_of v (slice_index_or box.ranges step d)) →
    child_of (λ _. x) box step v id ≡ child_of half box step v id
child_is half x box step v id d free e =
    ap (λ (l : List Ranges). record { id = id; frame = box.frame; ranges = l }) (same_half half x box.ranges step v d (free_inside [] box.ranges step v free) e)

-- the level of a step that some steps come before
abbrev level_behind : List Draw → ℕ → ℕ → Level
level_behind before zero kind = begins before kind
level_behind before (suc step) kind = level_of kind

behind_more : (d : Draw) (before : List Draw) (step kind : ℕ) → level_behind (d ∷ before) step kind ≡ level_of kind
behind_more d before zero kind = refl
behind_more d before (suc step) kind = refl

behind_none : (step kind : ℕ) → level_behind [] step kind ≡ level_at step kind
behind_none zero kind = refl
behind_none (suc step) kind = refl

drawn_here : (drawn : Bool) (n : ℕ) (ds : List Draw) (d : Draw) → n < length (cond drawn (d ∷ ds) []) → drawn ≡ true
drawn_here true n ds d lt = refl
drawn_here false n ds d lt = absurd (omega (arith, lt))

-- at a decided step a variable is free where it is opened and has more than one number
decided_free : (before : List Draw) (rs : List Ranges) (step : ℕ) (v : Var) (d : Ranges) → step < length (decided rs) →
    is_free_from before rs step v ≡ cond (is_single (span_of v (slice_index_or rs step d))) false (opens (level_behind before step (slice_index_or rs step d).kind.low) v)
decided_free before [] step v d lt = absurd (omega (arith, lt))
decided_free before (r ∷ rs) zero v d lt =
    ap (λ yes. cond (is_single (span_of v r)) false (cond yes (opens (begins before r.kind.low) v) (is_discrete v))) (drawn_here (is_drawn r) 0 (decided rs) (draw_at r) lt)
decided_free before (r ∷ rs) (suc step) v d lt =
    let yes : is_drawn r ≡ true = drawn_here (is_drawn r) (suc step) (decided rs) (draw_at r) lt in
    let fewer : step < length (decided rs) = omega (arith, rw yes at lt) in
    let here : Ranges = slice_index_or rs step d in
    ap (λ y. cond y (is_free_from (draw_at r ∷ before) rs step v) false) yes
    ∙ decided_free (draw_at r ∷ before) rs step v d fewer
    ∙ ap (λ l. cond (is_single (span_of v here)) false (opens l v)) (behind_more (draw_at r) before step here.kind.low)

not_drawn : (drawn : Bool) (ds : List Draw) (d : Draw) → length (cond drawn (d ∷ ds) []) ≡ 0 → drawn ≡ false
not_drawn false ds d e = refl
not_drawn true ds d e = absurd (omega (arith, e))

-- at the first undecided step a variable is free where it is discrete and has more than one number
next_free : (before : List Draw) (rs : List Ranges) (step : ℕ) (v : Var) (d : Ranges) → step < length rs → step ≡ length (decided rs) →
    is_free_from before rs step v ≡ cond (is_single (span_of v (slice_index_or rs step d))) false (is_discrete v)
next_free before [] step v d lt e = absurd (omega (arith, lt))
next_free before (r ∷ rs) zero v d lt e =
    ap (λ yes. cond (is_single (span_of v r)) false (cond yes (opens (begins before r.kind.low) v) (is_discrete v))) (not_drawn (is_drawn r) (decided rs) (draw_at r) (sym e))
next_free before (r ∷ rs) (suc step) v d lt e =
    let yes : is_drawn r ≡ true = drawn_here (is_drawn r) step (decided rs) (draw_at r) (omega (arith, e)) in
    ap (λ y. cond y (is_free_from (draw_at r ∷ before) rs step v) false) yes
    ∙ next_free (draw_at r ∷ before) rs step v d (omega (arith, lt)) (omega (arith, rw yes at e))

-- behind the first undecided step, and where there is no step, nothing is free
not_free : (free : Bool) → ¬ IsTrue free → free ≡ false
not_free true h = absurd (h refl)
not_free false h = refl

pub later_free : (rs : List Ranges) (step : ℕ) (v : Var) → length (decided rs) < step → is_free rs step v ≡ false
later_free rs step v lt = not_free (is_free rs step v) (λ free. omega (arith, lt, free_reached [] rs step v free))

pub past_free : (rs : List Ranges) (step : ℕ) (v : Var) → length rs ≤ step → is_free rs step v ≡ false
past_free rs step v le = not_free (is_free rs step v) (λ free. omega (arith, le, free_inside [] rs step v free))

pub decided_is : (rs : List Ranges) (step : ℕ) (v : Var) (d : Ranges) → step < length (decided rs) →
    is_free rs step v ≡ cond (is_single (span_of v (slice_index_or rs step d))) false (opens (level_at step (slice_index_or rs step d).kind.low) v)
decided_is rs step v d lt =
    let here : Ranges = slice_index_or rs step d in
    decided_free [] rs step v d lt ∙ ap (λ l. cond (is_single (span_of v here)) false (opens l v)) (behind_none step here.kind.low)

pub next_is : (rs : List Ranges) (step : ℕ) (v : Var) (d : Ranges) → step < length rs → step ≡ length (decided rs) →
    is_free rs step v ≡ cond (is_single (span_of v (slice_index_or rs step d))) false (is_discrete v)
next_is rs step v d lt e = next_free [] rs step v d lt e
