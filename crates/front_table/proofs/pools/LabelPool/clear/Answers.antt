use Rattle.front_table.proofs.pools.LabelPool.clear.Goals as goal

pub invariant_of-self : goal.invariant_of-self
invariant_of-self c = λ n out. c.clear_rows.ensures.empty n
