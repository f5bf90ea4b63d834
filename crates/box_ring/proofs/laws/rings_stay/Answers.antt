use Rattle.box_ring.proofs.Rows.{stays_none, stays_twice, ring_same}
use Rattle.box_ring.proofs.laws.rings_stay.Goals as goal

pub returns-clause-none : goal.returns-clause-none
returns-clause-none c = stays_none

pub returns-clause-twice : goal.returns-clause-twice
returns-clause-twice c = stays_twice

pub returns-clause-ring : goal.returns-clause-ring
returns-clause-ring c = ring_same
