-- Fronts: how many items of each stack are taken.
use Rattle.std.specs.Prelude.{◌≡◌, ℕ, suc, ◌==◌, cond, Option, None}
use Rattle.glass_base.specs.declared.item.Item.{Item}
use Rattle.glass_base.specs.Problem.{Problem, item_at}

-- the items taken of each stack, by the stack's number
abbrev pub Front : Type 0
Front = ℕ → ℕ

-- no item is taken
abbrev pub no_item : Front
no_item stack = 0

-- one more item of this stack is taken
abbrev pub next : Front → ℕ → Front
next f stack other = cond (stack == other) (suc (f other)) (f other)

-- the item that comes next off a stack
abbrev pub next_item : Problem → Front → ℕ → Option Item
next_item b f stack = item_at b stack (f stack)

-- every item is taken
abbrev pub IsFull : Problem → Front → Type 0
IsFull b f = (stack : ℕ) → next_item b f stack ≡ None
