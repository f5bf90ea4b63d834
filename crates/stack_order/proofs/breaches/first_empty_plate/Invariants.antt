use Rattle.std.proofs.Common.{take, All}
use Rattle.stack_order.specs.Breaches.{HasItem}
use Rattle.stack_order.proofs.breaches.first_empty_plate.Given as goal

abbrev pub invariant-loop-plate : goal.invariant-loop-plate
invariant-loop-plate l = All (HasItem l.cuts) (take l.plate-index l.plates)
