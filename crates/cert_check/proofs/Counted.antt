-- How many items of the stacks are drawn, step by step.
use Rattle.std.proofs.Common.{◌≡◌, ℕ, suc, ◌+◌, ◌<◌, ◌≤◌, ◌==◌, Bool, true, false, cond, List, [], ◌∷◌, length, take, get_or, refl, ap, sym, ◌∙◌, subst, arith, eqb-true, tests, All}
use Rattle.std.proofs.Math.ListN.{set, length-set}
use Rattle.std.proofs.lemmas.Grind.{get_or-set_at}
use Rattle.std.proofs.lemmas.List.{get_or-set_other, length-take-le}
use Rattle.std.proofs.lemmas.List.Elements.{All-get_or, All-weaker}
use Rattle.plan_trace.specs.Marks.{Draw, drawn}
use Rattle.plan_box.specs.Decisions.{draw_at}
use Rattle.plan_box.specs.declared.packed.Packed.{Packed}
use Rattle.plan_box.specs.Packed.{unpacked}
use Rattle.plan_box.specs.Follows.{draws_before, draws_of}
use Rattle.plan_box.specs.Within.{AreRangesWithin}
use Rattle.plan_box.proofs.Children.{no_ranges}
use Rattle.plan_box.proofs.Draws.{draws_more}
use Rattle.cert_check.specs.inner.Taken.{HaveDrawn}

-- no more are drawn than there are steps
drawn_few : (draws : List Draw) (stack : ℕ) → drawn draws stack ≤ length draws
drawn_few [] stack = omega arith
drawn_few (d ∷ draws) stack = elim (d.stack == stack) as (λ yes. cond yes (suc (drawn draws stack)) (drawn draws stack) ≤ length (d ∷ draws)) [ true ↦ omega (arith, drawn_few draws stack) | false ↦ omega (arith, drawn_few draws stack) ]

draws_count : (ranges : List Packed) (done : List Draw) → length (draws_before ranges done) ≡ length ranges + length done
draws_count [] done = omega arith
draws_count (r ∷ ranges) done = omega (arith, draws_count ranges (draw_at (unpacked r) ∷ done))

not_same : (m n : ℕ) → (m == n) ≡ false → m ≡ n → ⊥
not_same m n e f = grind (arith, tests, e, f)

-- the counts with another one for a stack
one_set : (old : List ℕ) (s t n : ℕ) → s < length old → get_or (set old s n) t 0 ≡ cond (s == t) n (get_or old t 0)
one_set old s t n lt = by (s == t) refl
  where
    by : (same : Bool) → (s == t) ≡ same → get_or (set old s n) t 0 ≡ cond same n (get_or old t 0)
    by true e = get_or-set_at old s t n 0 (sym (eqb-true s t e)) lt
    by false e = get_or-set_other old s t n 0 (λ here. absurd (not_same s t e (sym here)))

-- the stack that a step draws from
abbrev pub stack_in : List Packed → ℕ → ℕ
stack_in ranges i = (unpacked (get_or ranges i no_ranges)).stack.low

-- no more are drawn from a stack than there are steps before
pub taken_few : (ranges : List Packed) (i stack : ℕ) → i ≤ length ranges → drawn (draws_of (take i ranges)) stack ≤ i
taken_few ranges i stack le = omega (arith, drawn_few (draws_of (take i ranges)) stack, draws_count (take i ranges) [], length-take-le i ranges le)

-- what is read of the stack of a step
pub count_at : (ranges : List Packed) (i : ℕ) (counts : List ℕ) → i < length ranges → HaveDrawn ranges (draws_of (take i ranges)) counts → get_or counts (stack_in ranges i) 0 ≡ drawn (draws_of (take i ranges)) (stack_in ranges i)
count_at ranges i counts lt h = All-get_or (λ r. get_or counts (unpacked r).stack.low 0 ≡ drawn (draws_of (take i ranges)) (unpacked r).stack.low) ranges i no_ranges lt h.each

-- the counts with one more step
pub counts_more : (ranges : List Packed) (i : ℕ) (old : List ℕ) → i < length ranges → All (λ x. AreRangesWithin (unpacked x)) ranges → HaveDrawn ranges (draws_of (take i ranges)) old →
    HaveDrawn ranges (draws_of (take (i + 1) ranges)) (set old (stack_in ranges i) (get_or old (stack_in ranges i) 0 + 1))
counts_more ranges i old lt within h =
    let s = stack_in ranges i in
    let draws : List Draw = draws_of (take i ranges) in
    let n = get_or old s 0 + 1 in
    let count : n ≡ suc (drawn draws s) = omega (arith, count_at ranges i old lt h) in
    let small : s < length old = omega (arith, h.many, (All-get_or (λ x. AreRangesWithin (unpacked x)) ranges i no_ranges lt within).stack) in
    subst (λ (ds : List Draw). HaveDrawn ranges ds (set old s n)) (sym (draws_more ranges i no_ranges lt)) (record {
      many = length-set old s n ∙ h.many;
      each =
          All-weaker (λ r. get_or old (unpacked r).stack.low 0 ≡ drawn draws (unpacked r).stack.low) (λ r. get_or (set old s n) (unpacked r).stack.low 0 ≡ drawn (draw_at (unpacked (get_or ranges i no_ranges)) ∷ draws) (unpacked r).stack.low)
          (λ r e. one_set old s (unpacked r).stack.low n small ∙ either draws s (unpacked r).stack.low n (get_or old (unpacked r).stack.low 0) count e (s == (unpacked r).stack.low) refl) ranges h.each;
    })
  where
    either : (draws : List Draw) (s t n m : ℕ) → n ≡ suc (drawn draws s) → m ≡ drawn draws t → (same : Bool) → (s == t) ≡ same → cond same n m ≡ cond same (suc (drawn draws t)) (drawn draws t)
    either draws s t n m count e true here = count ∙ ap (λ (q : ℕ). suc (drawn draws q)) (eqb-true s t here)
    either draws s t n m count e false here = e
