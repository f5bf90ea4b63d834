use Rattle.std.proofs.Common.{◌+◌, ◌*◌, ◌<◌, ◌≤◌, inl, inr, refl, ap, arith}
use Rattle.front_table.specs.Tails.{tail_at, unit_in}
use Rattle.front_bound.specs.inner.Placed.{BandJoined}
use Rattle.front_table.proofs.CellRuns.{gap_within}
use Rattle.front_table.proofs.HeldLists.{least_first}
use Rattle.front_bound.proofs.placed_bands.join_band.Goals as goal

pub returns-in_default-clause-joined : goal.returns-in_default-clause-joined
unfolding BandJoined
returns-in_default-clause-joined c = λ d w right low next own band can gap. absurd (omega (arith, c.in_default.ensures.none low d own.0.0 band.0.0, can.top))

pub returns-then-above-limits-clause-joined : goal.returns-then-above-limits-clause-joined
unfolding BandJoined
returns-then-above-limits-clause-joined c = λ d w right low next own band can gap.
    let end = c.closed.ensures.gaps (low + d) (low + d) (c.in-Some.ensures.sums low d own.0.0 band.0.0) (inl refl) in
    absurd (omega (arith, least_first c.meet-above.result (low + d) (c.meet-above.ensures (low + d) end (inr (omega (arith, c.above.ensures, c.from.ensures, band.2)))), c.if-above-limits.true, can.top))

pub returns-then-shared-limits-clause-joined : goal.returns-then-shared-limits-clause-joined
unfolding BandJoined
returns-then-shared-limits-clause-joined c = λ d w right low next own band can gap.
    absurd (omega (arith, least_first c.meet-shared.result w (c.meet-shared.ensures w own.0.1 band.0.1), c.if-shared-limits.true, can.narrow))

pub returns-then-wide-limits-clause-joined : goal.returns-then-wide-limits-clause-joined
unfolding BandJoined
returns-then-wide-limits-clause-joined c = λ d w right low next own band can gap.
    absurd (omega (arith, least_first c.meet-shared.result w (c.meet-shared.ensures w own.0.1 band.0.1), c.if-wide-limits.true, c.from-wide.ensures, can.near))

pub returns-then-end-stretch-clause-joined : goal.returns-then-end-stretch-clause-joined
unfolding BandJoined
returns-then-end-stretch-clause-joined c = λ d w right low next own band can gap.
    absurd (omega (arith, c.if-end-stretch.true, c.from-end.ensures, least_first c.meet-right.result right (c.meet-right.ensures right own.1 band.1), can.reaches))

pub returns-then-tail-within-clause-joined : goal.returns-then-tail-within-clause-joined
unfolding BandJoined
returns-then-tail-within-clause-joined c = λ d w right low next own band can gap.
    let wide = least_first c.meet-shared.result w (c.meet-shared.ensures w own.0.1 band.0.1) in
    let beside = least_first c.meet-right.result right (c.meet-right.ensures right own.1 band.1) in
    let end = c.closed.ensures.gaps (low + d) (low + d) (c.in-Some.ensures.sums low d own.0.0 band.0.0) (inl refl) in
    let up : c.meet-above.result.least ≤ low + d = least_first c.meet-above.result (low + d) (c.meet-above.ensures (low + d) end (inr (omega (arith, c.above.ensures, c.from.ensures, band.2)))) in
    let k = c.units_in.result in
    let fits : c.args.stretch.now.limits.height < low + d + (k + 1) * unit_in c.args.stretch.now.limits.height =
    omega (arith, up, c.if-above-limits.false, c.units_in.ensures.most, ap (λ n. (k + 1) * n) c.unit_of.ensures) in
    absurd (omega (arith, can.tails k fits, c.tail_in-tail.ensures, ap (λ l. tail_at l k) c.tails_of-tails.ensures, c.if-tail-within.true, can.near, can.reaches, wide, c.from-wide.ensures, c.from-end.ensures, c.min-within.ensures, beside, c.if-wide-limits.false, c.if-end-stretch.false))

pub returns-clause-joined : goal.returns-clause-joined
unfolding BandJoined
returns-clause-joined c = λ d w right low next own band can gap.
    let end = c.closed.ensures.gaps (low + d) next (c.in-Some.ensures.sums low d own.0.0 band.0.0) gap in
    let further : low + d ≤ next = gap_within c.args.stretch.now.site.waste (low + d) next gap in
    c.in_ok-offer.ensures.stands next w right 0
    ((c.meet-above.ensures next end (inr (omega (arith, c.above.ensures, c.from.ensures, band.2, further))), c.meet-shared.ensures w own.0.1 band.0.1), c.meet-right.ensures right own.1 band.1, omega arith)
