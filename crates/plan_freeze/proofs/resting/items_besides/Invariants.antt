use Rattle.std.proofs.Common.{◌≡◌, take}
use Rattle.plan_freeze.specs.Rests.{items_besides}
use Rattle.plan_freeze.proofs.resting.items_besides.Given as goal

abbrev pub invariant-loop-item : goal.invariant-loop-item
invariant-loop-item l = l.left.items ≡ items_besides l.numbers (take l.item-index l.items)
