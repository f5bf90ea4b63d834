use Rattle.std.proofs.Common.{inr, arith}
use Rattle.front_bound.proofs.placed_cells.join_place.Goals as goal

pub returns-clause-held : goal.returns-clause-held
returns-clause-held c = λ x y left low top next stands beside end above sum.
    c.in_ok-offer.ensures.stands x y next top (stands.0, c.meet.ensures next stands.1 (inr (omega (arith, c.above.ensures, c.from.ensures, c.from-2.ensures, beside, end))), omega (arith, c.max.ensures, c.saturating_add.ensures, stands.2, above, sum))
