-- The trace of a plan: one step for each item, in the order in which the items are cut.
use Rattle.std.specs.Prelude.{ℕ, zero, suc, ◌+◌, ◌==◌, List, [], ◌∷◌, ◌++◌, cond, Option, unwrap_or, option_and_then}
use Rattle.std.specs.Option.{option_map_or}
use Rattle.glass_base.specs.declared.item.Item.{Item}
use Rattle.glass_base.specs.Problem.{Problem}
use Rattle.glass_base.specs.Stacks.{stack_of}
use Rattle.cut_model.specs.declared.family.Sort.{Sort}
use Rattle.cut_model.specs.declared.steps.Step.{Step}
use Rattle.cut_model.specs.Order.{item_with}
use Rattle.cut_model.specs.Sized.{on_plates}
use Rattle.cut_model.specs.Tree.{Forest, nothing, piece}

-- where the pieces of a list lie: the sides a and b of their strip, c and d of their band, the left side e of their cell,
-- and the width of the piece that they are cut from
pub record Sides : Type 0 where
  pub width : ℕ
  pub a : ℕ
  pub b : ℕ
  pub c : ℕ
  pub d : ℕ
  pub e : ℕ

-- the sides of a piece that a cut of this level makes at this place. Outer pieces count as their own inner pieces, so an item
-- that is a whole strip is a whole band and a whole cell too
abbrev pub enter : ℕ → Sides → ℕ → ℕ → Sides
enter zero r at size = record r { width = size; a = 0; b = size; e = 0 }
enter (suc zero) r at size = record r { width = size; a = at; b = at + size; e = at }
enter (suc (suc zero)) r at size = record r { c = at; d = at + size }
enter (suc (suc (suc zero))) r at size = record r { width = size; e = at }
enter _ r at size = r

-- where the pieces begin that a cut of this level makes within these sides
abbrev pub first_place : ℕ → Sides → ℕ
first_place (suc zero) r = r.a
first_place (suc (suc zero)) r = r.c
first_place (suc (suc (suc zero))) r = r.e
first_place _ r = r.c

-- 0 where the item's length lies along x, else 1
abbrev pub turn_in : Sides → Item → ℕ
turn_in r item = cond (r.width == item.length) 0 1

-- the step of an item that lies within these sides
abbrev pub step_of : Problem → Sides → ℕ → ℕ → ℕ → Step
step_of b r kind lift number =
    let item : Option Item = item_with b.items number in
    record {
      stack = unwrap_or (option_and_then (stack_of b.items) item) 0;
      turn = option_map_or (turn_in r) item 0;
      kind = kind;
      lift = lift;
      a = r.a;
      b = r.b;
      c = r.c;
      d = r.d;
      e = r.e;
    }

-- the kind of the next item in a list whose pieces are made by a cut of this level: where an item was cut from the list it
-- differs from that item at this level, else from an item before the list
abbrev pub next_kind : List Step → ℕ → ℕ → ℕ
next_kind [] kind level = kind
next_kind (_ ∷ _) kind level = level

-- 1 behind a waste that a 4-cut makes, which then lies under the item
abbrev pub lift_behind : ℕ → Sort → ℕ
lift_behind (suc (suc (suc (suc zero)))) Sort.Waste = 1
lift_behind _ _ = 0

-- the steps of the items of neighbouring pieces that cuts of this level make, from this place on; the first has this kind
abbrev pub steps_in : Problem → ℕ → Sides → ℕ → ℕ → ℕ → Forest → List Step
steps_in b level r at kind lift nothing = []
steps_in b level r at kind lift (piece size (Sort.Item number) inner later) =
    step_of b (enter level r at size) kind lift number ∷ steps_in b level r (at + size) level 0 later
steps_in b level r at kind lift (piece size Sort.Branch inner later) =
    let sides : Sides = enter level r at size in
    let here : List Step = steps_in b (suc level) sides (first_place (suc level) sides) kind 0 inner in
    here ++ steps_in b level r (at + size) (next_kind here kind level) 0 later
steps_in b level r at kind lift (piece size sort inner later) =
    steps_in b level r (at + size) kind (lift_behind level sort) later

-- the sides around all plates
abbrev pub outside : Problem → Sides
outside b = record { width = 0; a = 0; b = 0; c = 0; d = b.params.height; e = 0 }

-- the steps of a plan
abbrev pub trace_of : Problem → Forest → List Step
trace_of b plan = steps_in b 0 (outside b) 0 0 0 (on_plates b plan)
