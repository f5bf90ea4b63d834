use Rattle.std.proofs.Common.{◌+◌, arith}
use Rattle.front_table.specs.Pools.{Joined}
use Rattle.front_table.proofs.HeldLists.{least_first}
use Rattle.front_table.proofs.PoolRows.{spreads_same}
use Rattle.front_table.proofs.pools.join.Goals as goal

pub returns-in_default-clause-spreads : goal.returns-in_default-clause-spreads
returns-in_default-clause-spreads c = spreads_same (c.args.next.now.to + 1) c.args.pool.now

pub returns-in_default-clause-joined : goal.returns-in_default-clause-joined
unfolding Joined
returns-in_default-clause-joined c = λ x w y own next sum most. absurd (omega (arith, c.in_default.ensures.none x w own.0 next.0, sum))

pub returns-then-shared-within-clause-spreads : goal.returns-then-shared-within-clause-spreads
returns-then-shared-within-clause-spreads c = spreads_same (c.args.next.now.to + 1) c.args.pool.now

pub returns-then-shared-within-clause-joined : goal.returns-then-shared-within-clause-joined
unfolding Joined
returns-then-shared-within-clause-joined c = λ x w y own next sum most.
    absurd (omega (arith, least_first c.meet-shared.result y (c.meet-shared.ensures y own.1 next.1), c.if-shared-within.true, most))

pub returns-clause-joined : goal.returns-clause-joined
unfolding Joined
returns-clause-joined c = λ x w y own next sum most.
    c.in_ok-offer.ensures.held (x + w) y (c.in-Some.ensures.sums x w own.0 next.0, c.meet-shared.ensures y own.1 next.1)
