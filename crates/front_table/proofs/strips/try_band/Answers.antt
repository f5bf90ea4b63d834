use Rattle.std.proofs.Common.{◌+◌, ◌*◌, ◌<◌, ap, arith}
use Rattle.front_table.specs.Tails.{tail_at, unit_in}
use Rattle.front_table.specs.Tries.{Tried}
use Rattle.front_table.proofs.HeldLists.{least_first}
use Rattle.front_table.proofs.strips.try_band.Goals as goal

pub returns-in_default-clause-tried : goal.returns-in_default-clause-tried
unfolding Tried
returns-in_default-clause-tried c = λ x d w to_go own next sum narrow tails near. absurd (omega (arith, c.in_default.ensures.none x d own.0 next.0, sum))

pub returns-then-shared-limits-clause-tried : goal.returns-then-shared-limits-clause-tried
unfolding Tried
returns-then-shared-limits-clause-tried c = λ x d w to_go own next sum narrow tails near.
    absurd (omega (arith, least_first c.meet-shared.result w (c.meet-shared.ensures w own.1 next.1), c.if-shared-limits.true, narrow))

pub returns-then-from-limits-clause-tried : goal.returns-then-from-limits-clause-tried
unfolding Tried
returns-then-from-limits-clause-tried c = λ x d w to_go own next sum narrow tails near.
    absurd (omega (arith, least_first c.meet-shared.result w (c.meet-shared.ensures w own.1 next.1), c.if-from-limits.true, c.from.ensures, near))

pub returns-then-tail-limits-clause-tried : goal.returns-then-tail-limits-clause-tried
unfolding Tried
returns-then-tail-limits-clause-tried c = λ x d w to_go own next sum narrow tails near.
    let wide = least_first c.meet-shared.result w (c.meet-shared.ensures w own.1 next.1) in
    let high = least_first c.in-Some.sum (x + d) (c.in-Some.ensures.sums x d own.0 next.0) in
    let k = c.units_in.result in
    let fits : c.args.search.now.limits.height < x + d + (k + 1) * unit_in c.args.search.now.limits.height =
    omega (arith, high, sum, c.units_in.ensures.most, c.saturating_sub-left.ensures, ap (λ n. (k + 1) * n) c.unit_of.ensures) in
    absurd (omega (arith, tails k fits, c.tail_in-tail.ensures, ap (λ l. tail_at l k) c.tails_of-tails.ensures, c.if-tail-limits.true, c.from-2.ensures, wide, near))

pub returns-clause-tried : goal.returns-clause-tried
unfolding Tried
returns-clause-tried c = λ x d w to_go own next sum narrow tails near.
    c.in_ok-offer.ensures.held (x + d) w (c.in-Some.ensures.sums x d own.0 next.0, c.meet-shared.ensures w own.1 next.1)
