-- The instance that a start gives: first the items are drawn, one behind the other, then the defects.
use Rattle.std.specs.Prelude.{ℕ, ◌+◌, ◌*◌, ◌/◌, List, map}
use Rattle.std.specs.List.{range_with_len}
use Rattle.glass_base.specs.Problem.{Problem, IsMadeOf}
use Rattle.glass_base.specs.Sizes.{AreUsual}
use Rattle.glass_base.specs.Widths.{same_widths}
use Rattle.glass_base.specs.declared.item.Item.{Item}
use Rattle.glass_base.specs.declared.item.Defect.{Defect}
use Rattle.glass_gen.specs.Draws.{drawn, state_after}

-- the item of this number that three draws from a state on give, in one of so many stacks
unfoldable pub item_from : ℕ → ℕ → ℕ → Item
item_from x stacks number = record {
  id = number;
  length = 200 + drawn x 1 1300;
  width = 150 + drawn x 2 850;
  stack = drawn x 3 stacks;
  sequence = number;
}

-- the defect that five draws from a state on give
unfoldable pub defect_from : ℕ → Defect
defect_from x = record {
  plate = drawn x 1 10;
  x0 = drawn x 2 5900;
  y0 = drawn x 3 3100;
  x1 = drawn x 2 5900 + 5 + drawn x 4 20;
  y1 = drawn x 3 3100 + 5 + drawn x 5 20;
}

-- the first `n` items from a state on
abbrev pub items_drawn : ℕ → ℕ → ℕ → List Item
items_drawn x stacks n = map (λ k. item_from (state_after x (3 * k)) stacks k) (range_with_len 0 n)

-- the first `n` defects from a state on
abbrev pub defects_drawn : ℕ → ℕ → List Defect
defects_drawn x n = map (λ k. defect_from (state_after x (5 * k))) (range_with_len 0 n)

-- the instance of so many items and defects, on plates of the usual parameters
pub record IsDrawn (b : Problem) (start items defects : ℕ) : Type 0 where
  pub usual : AreUsual b.params
  pub made : IsMadeOf b b.params (items_drawn start (1 + items / 20) items) (defects_drawn (state_after start (3 * items)) defects) (same_widths b.params)
