use Rattle.std.proofs.Common.{◌≡◌, inl, [], subst}
use Rattle.front_table.specs.Pools.{row_at}
use Rattle.front_table.proofs.pools.LabelPool.low.Goals as goal

pub returns : goal.returns
returns c = λ n lt. subst (λ rows. row_at rows n ≡ []) c.self.view_is (c.self.invariant n (inl lt))
