use Rattle.std.proofs.Common.{take}
use Rattle.cut_model.specs.Order.{KeepsStacks}
use Rattle.stack_order.specs.Breaches.{items_of}
use Rattle.stack_order.proofs.breaches.first_late.Given as goal

abbrev pub invariant-loop-place : goal.invariant-loop-place
invariant-loop-place l = KeepsStacks (items_of (take l.place l.cuts))
