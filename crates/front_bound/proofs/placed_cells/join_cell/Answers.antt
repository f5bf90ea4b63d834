use Rattle.std.proofs.Common.{◌+◌, ◌≤◌, sym, subst, arith}
use Rattle.front_bound.specs.inner.Clear.{Covered}
use Rattle.front_bound.specs.inner.Placed.{CellJoined}
use Rattle.front_table.proofs.CellRuns.{gap_within}
use Rattle.front_table.proofs.HeldLists.{least_first}
use Rattle.front_bound.proofs.placed_cells.join_cell.Goals as goal

pub returns-in_default-clause-joined : goal.returns-in_default-clause-joined
unfolding CellJoined
returns-in_default-clause-joined c = λ x w y left top bottom next own fits can gap. absurd (omega (arith, c.in_default.ensures.none x w own.0.0 fits.0, can.wide))

pub returns-then-shared-site-clause-joined : goal.returns-then-shared-site-clause-joined
unfolding CellJoined
returns-then-shared-site-clause-joined c = λ x w y left top bottom next own fits can gap.
    absurd (omega (arith, least_first c.meet-shared.result y (c.meet-shared.ensures y own.0.1 fits.1), c.if-shared-site.true, can.high))

pub returns-then-top-site-clause-joined : goal.returns-then-top-site-clause-joined
unfolding CellJoined
returns-then-top-site-clause-joined c = λ x w y left top bottom next own fits can gap.
    absurd (omega (arith, least_first c.meet-shared.result y (c.meet-shared.ensures y own.0.1 fits.1), c.saturating_add-top.ensures, c.if-top-site.true, can.tall, can.within))

pub returns-then-is_wasteful-clause-joined : goal.returns-then-is_wasteful-clause-joined
unfolding CellJoined
returns-then-is_wasteful-clause-joined c = λ x w y left top bottom next own fits can gap.
    absurd (c.is_wasteful.ensures c.if-is_wasteful.true (x + w) y (least_first c.in-Some.sum (x + w) (c.in-Some.ensures.sums x w own.0.0 fits.0)) (least_first c.meet-shared.result y (c.meet-shared.ensures y own.0.1 fits.1)) can.lean)

pub returns-in_default-plus-clause-joined : goal.returns-in_default-plus-clause-joined
unfolding CellJoined
returns-in_default-plus-clause-joined c = λ x w y left top bottom next own fits can gap. absurd (omega (arith, c.in_default-plus.ensures.none left w own.1 fits.0, can.room))

pub returns-clause-joined : goal.returns-clause-joined
unfolding CellJoined
returns-clause-joined c = λ x w y left top bottom next own fits can gap.
    let thin = least_first c.args.cell.now.label.along w fits.0 in
    let further : left + w ≤ next = gap_within c.args.stretch.now.site.waste (left + w) next gap in
    c.in_ok-join_places.ensures.held (x + w) y left bottom top next
    ((c.in-Some.ensures.sums x w own.0.0 fits.0, c.meet-shared.ensures y own.0.1 fits.1), c.closed.ensures.gaps (left + w) next (c.in-Some-plus.ensures.sums left w own.1 fits.0) gap, own.2)
    (subst (λ l. Covered l left bottom) (sym c.as_slice.ensures.value)
    (c.in_ok-least_places.ensures left bottom (least_first c.args.label.now.right left own.1) can.above (record { room = omega (arith, thin, can.room); height = omega (arith, can.below, can.within); clear = can.clear })))
    (omega (arith, thin, further)) can.below
