use Rattle.std.proofs.Common.{rules}
use Rattle.front_table.proofs.lattice.leads.Goals as goal

pub returns : goal.returns
returns c = λ yes. (search rules, λ y has. (c.has.ensures.0 cc, c.covers.ensures yes y has))
