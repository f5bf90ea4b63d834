use Rattle.std.proofs.Common.{arith}
use Rattle.front_table.proofs.labels.FrontLabel.covers.Goals as goal

pub returns : goal.returns
returns c = λ yes x y right up stands.
    ((c.covers.ensures c.if-not-covers.false x stands.0.0, c.covers-2.ensures c.if-not-covers-2.false y stands.0.1), c.covers-3.ensures yes right stands.1, omega (arith, c.if-self-other.false, stands.2))
