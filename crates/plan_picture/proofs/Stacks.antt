-- The stack of an item.
use Rattle.std.proofs.Common.{◌≡◌, ◌==◌, ℕ, List, Option, Some, position, option_and_then, ap, sym, ◌∙◌}
use Rattle.glass_base.specs.declared.item.Item.{Item}
use Rattle.glass_base.specs.Problem.{Problem}
use Rattle.glass_base.specs.Stacks.{stack_numbers, stack_of}
use Rattle.cut_model.specs.Order.{item_with}
use Rattle.plan_picture.specs.Pictures.{stack_numbered}

-- where the stack of an item that the batch has stands among the stacks' numbers
pub stack_found : (b : Problem) (number : ℕ) (stacks : List ℕ) (item : Item) (place : Option ℕ) → stacks ≡ stack_numbers b.items → item_with b.items number ≡ Some item → place ≡ position (λ other. other == item.stack) stacks → place ≡ stack_numbered b number
stack_found b number stacks item place same found is =
    is ∙ ap (position (λ (other : ℕ). other == item.stack)) same ∙ sym (ap (option_and_then (stack_of b.items)) found)
