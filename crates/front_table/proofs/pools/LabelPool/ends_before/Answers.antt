use Rattle.std.proofs.Common.{◌≡◌, inr, [], subst, arith}
use Rattle.std.proofs.lemmas.Bool.Decides.{nat_tests}
use Rattle.front_table.specs.Pools.{row_at}
use Rattle.front_table.proofs.pools.LabelPool.ends_before.Goals as goal

pub returns : goal.returns
returns c = λ before n le. subst (λ rows. row_at rows n ≡ []) c.self.view_is (c.self.invariant n (inr (grind (arith, nat_tests, before, le))))
