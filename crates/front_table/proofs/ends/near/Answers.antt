use Rattle.std.proofs.Common.{inl, inr, arith}
use Rattle.std.proofs.lemmas.Bool.{cases_lt}
use Rattle.front_table.proofs.Staircases.{place_of, falls_at}
use Rattle.front_table.proofs.ends.near.Goals as goal

pub returns-then-low-ends-clause-least : goal.returns-then-low-ends-clause-least
returns-then-low-ends-clause-least c = λ area to_go ended within.
    let p = place_of c.args.ends.now area to_go ended in
    elim (cases_lt p.at c.first_within-low.result) [
      | inl before ↦ absurd (omega (arith, c.first_within-low.ensures p.at before, p.low, within))
      | inr behind ↦ omega (arith, (falls_at c.args.ends.now c.first_within-low.result p.at c.requires behind p.within).0, p.less, c.area_in.ensures)
    ]

pub returns-else-low-ends-clause-none : goal.returns-else-low-ends-clause-none
returns-else-low-ends-clause-none c = λ area to_go ended.
    let p = place_of c.args.ends.now area to_go ended in
    omega (arith, c.first_within-low.ensures p.at (omega (arith, p.within, c.if-low-ends.false)), p.low)
