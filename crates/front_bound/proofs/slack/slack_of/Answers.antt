use Rattle.std.proofs.Common.{◌≤◌, sym, subst, arith}
use Rattle.front_table.specs.Ends.{Ended, Falls}
use Rattle.front_bound.specs.inner.Placed.{NoneGoesOn, IsSlack}
use Rattle.front_table.proofs.HeldLists.{least_first}
use Rattle.front_bound.proofs.PlacedRows.{can_leave, can_hold}
use Rattle.front_bound.proofs.slack.slack_of.Goals as goal

pub near-requires : goal.near-requires
near-requires c = subst Falls (sym c.ends_of.ensures) (c.requires.stretch.falls c.args.row c.requires.row)

pub returns-then-wide-limits-clause-none : goal.returns-then-wide-limits-clause-none
unfolding NoneGoesOn
returns-then-wide-limits-clause-none c = λ to d w right low own can. omega (arith, least_first c.args.label.now.across w own.0.1, c.if-wide-limits.true, c.from-wide.ensures, can.end.near)

pub returns-then-end-stretch-clause-none : goal.returns-then-end-stretch-clause-none
unfolding NoneGoesOn
returns-then-end-stretch-clause-none c = λ to d w right low own can. omega (arith, least_first c.args.label.now.right right own.1, c.if-end-stretch.true, c.from-end.ensures, can.end.reaches)

pub returns-in_default-clause-none : goal.returns-in_default-clause-none
unfolding NoneGoesOn
returns-in_default-clause-none c = λ to d w right low own can.
    let far = c.in_default.ensures.none can.area can.end.far (subst (λ l. Ended l can.area can.end.far) (sym c.ends_of.ensures) can.here) in
    omega (arith, far, least_first c.args.label.now.across w own.0.1, least_first c.args.label.now.right right own.1, c.from-wide.ensures, c.from-end.ensures, c.min-within.ensures, can.end.near, can.end.reaches)

pub returns-then-whole-area-clause-none : goal.returns-then-whole-area-clause-none
unfolding NoneGoesOn
returns-then-whole-area-clause-none c = λ to d w right low own can.
    let least : c.in-Some.area ≤ can.area =
    c.in-Some.ensures.least can.area can.end.far (subst (λ l. Ended l can.area can.end.far) (sym c.ends_of.ensures) can.here)
    (omega (arith, least_first c.args.label.now.across w own.0.1, least_first c.args.label.now.right right own.1, c.from-wide.ensures, c.from-end.ensures, c.min-within.ensures, can.end.near, can.end.reaches)) in
    omega (arith, least, can_hold c.args.stretch.now c.args.row to d w right low c.args.label.now.along.least c.requires.stretch.bound (least_first c.args.label.now.along low own.0.0) can, c.glass_above-whole.ensures, c.if-whole-area.true)

pub returns-clause-slack : goal.returns-clause-slack
unfolding IsSlack
returns-clause-slack c = λ to d w right low own can.
    let least : c.in-Some.area ≤ can.area =
    c.in-Some.ensures.least can.area can.end.far (subst (λ l. Ended l can.area can.end.far) (sym c.ends_of.ensures) can.here)
    (omega (arith, least_first c.args.label.now.across w own.0.1, least_first c.args.label.now.right right own.1, c.from-wide.ensures, c.from-end.ensures, c.min-within.ensures, can.end.near, can.end.reaches)) in
    omega (arith, can_leave c.args.stretch.now c.args.row to d w right low c.in-Some.area c.args.label.now.along.least c.requires.stretch.bound (least_first c.args.label.now.along low own.0.0) can least, c.glass_above-whole.ensures)
