use Rattle.std.proofs.Common.{take, All, Contains}
use Rattle.stack_order.specs.Breaches.{numbers_cut}
use Rattle.stack_order.proofs.breaches.first_missing.Given as goal

abbrev pub invariant-loop-item : goal.invariant-loop-item
invariant-loop-item l = All (λ item. Contains (numbers_cut l.cuts) item.id) (take l.item-index l.items)
