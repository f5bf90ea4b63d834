use Rattle.std.proofs.Common.{◌≡◌, ℕ, List, get_or, slice_index_or, map, length, sym, ap, ◌∙◌, arith, ◌<◌, cond, false}
use Rattle.std.proofs.lemmas.List.{length-map}
use Rattle.std.proofs.lemmas.Option.{slice_get-get_or}
use Rattle.plan_box.specs.Packed.{unpacked}
use Rattle.plan_box.specs.Ranges.{Ranges, span_of}
use Rattle.plan_box.specs.declared.packed.Packed.{Packed}
use Rattle.plan_box.specs.Decisions.{is_single, is_discrete, level_at, opens}
use Rattle.plan_box.proofs.Children.{no_ranges}
use Rattle.plan_box.proofs.Freed.{decided_is, later_free, next_is, past_free}
use Rattle.cert_check.proofs.Turns.{read_at}
use Rattle.cert_check.proofs.free.is_free_by.Goals as goal

pub returns-then-at-ranges : goal.returns-then-at-ranges
returns-then-at-ranges c = sym (past_free (map unpacked c.args.ranges.now) c.args.step c.args.var (omega (arith, length-map c.args.ranges.now unpacked, c.if-at-ranges.true)))

pub returns-then-at-decided_steps : goal.returns-then-at-decided_steps
returns-then-at-decided_steps c = sym (later_free (map unpacked c.args.ranges.now) c.args.step c.args.var (omega (arith, c.requires, c.if-at-decided_steps.true)))

-- the ranges that are read at a step
here_is : (xs : List Packed) (step : ℕ) → step < length xs → slice_index_or (map unpacked xs) step (unpacked no_ranges) ≡ unpacked (get_or xs step no_ranges)
here_is xs step lt = read_at xs step (get_or xs step no_ranges) (unpacked no_ranges) (slice_get-get_or xs step no_ranges lt)

pub returns-then-at-decided_steps-2 : goal.returns-then-at-decided_steps-2
returns-then-at-decided_steps-2 c =
    let xs = c.args.ranges.now in
    let lt : c.args.step < length xs = omega (arith, c.if-at-ranges.false) in
    rw (c.is_wide.ensures, c.range-ends.ensures.low, c.range-ends.ensures.high, c.is_discrete.ensures)
    (sym (next_is (map unpacked xs) c.args.step c.args.var (unpacked no_ranges) (omega (arith, lt, length-map xs unpacked)) (omega (arith, c.requires, c.if-at-decided_steps-2.true))
    ∙ ap (λ (r : Ranges). cond (is_single (span_of c.args.var r)) false (is_discrete c.args.var)) (here_is xs c.args.step lt)))

pub returns : goal.returns
returns c =
    let xs = c.args.ranges.now in
    let lt : c.args.step < length xs = omega (arith, c.if-at-ranges.false) in
    rw (c.is_wide-2.ensures, c.range-ends.ensures.low, c.range-ends.ensures.high, c.is_opened.ensures, c.range-kind.ensures.low)
    (sym (decided_is (map unpacked xs) c.args.step c.args.var (unpacked no_ranges) (omega (arith, c.requires, c.if-at-decided_steps.false, c.if-at-decided_steps-2.false))
    ∙ ap (λ (r : Ranges). cond (is_single (span_of c.args.var r)) false (opens (level_at c.args.step r.kind.low) c.args.var)) (here_is xs c.args.step lt)))
