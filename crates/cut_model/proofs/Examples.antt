-- The definitions on worked plans, computed.
use Rattle.std.proofs.Common.{◌≡◌, ℕ, ◌+◌, List, [], ◌∷◌, refl, Some, None, arith}
use Rattle.std.specs.Prelude.{pos, negsuc, ℤ, Option, replicate}
use Rattle.glass_base.specs.declared.params.Params.{Params}
use Rattle.glass_base.specs.declared.item.Item.{Item}
use Rattle.glass_base.specs.Plates.{Before, Width}
use Rattle.glass_base.specs.Problem.{Problem}
use Rattle.cut_model.specs.declared.plan.Plan.{Plan}
use Rattle.cut_model.specs.declared.plan.Plate.{Plate}
use Rattle.cut_model.specs.declared.plan.Piece1.{Piece1}
use Rattle.cut_model.specs.declared.plan.Piece2.{Piece2}
use Rattle.cut_model.specs.declared.plan.Piece3.{Piece3}
use Rattle.cut_model.specs.declared.plan.Body1.{Body1}
use Rattle.cut_model.specs.declared.plan.Body2.{Body2}
use Rattle.cut_model.specs.declared.plan.Body1.TheVariants as b1
use Rattle.cut_model.specs.declared.plan.Body2.TheVariants as b2
use Rattle.cut_model.specs.declared.plan.Body3.TheVariants as b3
use Rattle.cut_model.specs.declared.plan.Body4.TheVariants as b4
use Rattle.cut_model.specs.declared.family.Row.{Row}
use Rattle.cut_model.specs.declared.steps.Step.{Step}
use Rattle.cut_model.specs.Families.{families, rows_of}
use Rattle.cut_model.specs.Order.{cut_order}
use Rattle.cut_model.specs.Loss.{loss_of}
use Rattle.cut_model.specs.Steps.{length_of}
use Rattle.cut_model.specs.Traces.{trace_of}
use Rattle.cut_model.specs.Tree.{tree}

-- the challenge's parameters
abbrev pub usual : Params
usual = record {
  plates = 100;
  width = 6000;
  height = 3210;
  min1 = 100;
  max1 = 3500;
  min2 = 100;
  waste = 20;
  accepted = record {
    some_plate = omega arith;
    wide = omega arith;
    high = omega arith;
    waste_positive = omega arith;
    waste_min1 = omega arith;
    min1_max1 = omega arith;
    waste_min2 = omega arith;
    min2_height = omega arith;
    few_plates = omega arith;
    width_limit = omega arith;
    height_limit = omega arith;
    max1_limit = omega arith;
  };
}

abbrev pub item : ℕ → ℕ → ℕ → Item
item number length width = record { id = number; length = length; width = width; stack = 0; sequence = number + 1 }

-- items of one stack
abbrev pub batch : List Item → List ℕ → Problem
batch items places = record { params = usual; items = items; defects = []; widths = replicate 100 6000; stacks = places ∷ [] }

-- plates of the challenge, where the items do not matter
abbrev pub stock : Problem
stock = batch [] []

abbrev pub plate : List Piece1 → Plate
plate pieces = record { pieces = record { items = pieces; spare = 0 } }

abbrev pub plan : List Plate → Plan
plan plates = record { plates = record { items = plates; spare = 0 } }

abbrev pub bands_of : List Piece2 → Body1
bands_of pieces = b1.Cut (record { items = pieces; spare = 0 })

abbrev pub cells_of : List Piece3 → Body2
cells_of pieces = b2.Cut (record { items = pieces; spare = 0 })

abbrev row : ℕ → ℕ → ℕ → ℕ → ℕ → ℕ → ℤ → ℕ → Option ℕ → Row
row plate node x y width height kind cut parent = record {
  plate = plate;
  node = node;
  x = x;
  y = y;
  width = width;
  height = height;
  kind = kind;
  cut = cut;
  parent = parent;
}

abbrev step : ℕ → ℕ → ℕ → ℕ → ℕ → ℕ → ℕ → ℕ → ℕ → Step
step stack turn kind lift a b c d e = record {
  stack = stack;
  turn = turn;
  kind = kind;
  lift = lift;
  a = a;
  b = b;
  c = c;
  d = d;
  e = e;
}

-- an item of 500 by 300, turned: a strip of 300 with the item below and a waste above
abbrev pub turned_plan : Plan
turned_plan =
    plan (
    plate (
    record {
      width = 300;
      body = bands_of (record { height = 500; body = b2.Item 0 } ∷ record { height = 2710; body = b2.Waste } ∷ []);
    }
    ∷ record { width = 5700; body = b1.Residual }
    ∷ [])
    ∷ [])

turned_rows : rows_of stock (tree turned_plan) ≡
    row 0 0 0 0 6000 3210 (negsuc 1) 0 None
    ∷ row 0 1 0 0 300 3210 (negsuc 1) 1 (Some 0)
    ∷ row 0 2 0 0 300 500 (pos 0) 2 (Some 1)
    ∷ row 0 3 0 500 300 2710 (negsuc 0) 2 (Some 1)
    ∷ row 0 4 300 0 5700 3210 (negsuc 2) 1 (Some 0)
    ∷ []
unfolding families Width
turned_rows = refl

turned_loss : loss_of stock (tree turned_plan) ≡ 813000
unfolding families Width
turned_loss = refl

turned_trace : trace_of (batch (item 0 500 300 ∷ []) (0 ∷ [])) (tree turned_plan) ≡ step 0 1 0 0 0 300 0 500 0 ∷ []
unfolding Width
turned_trace = refl

-- an item of 50 by 50 in a cell of a strip of 100 and a band of 100
abbrev small_plan : Plan
small_plan =
    plan (
    plate (
    record {
      width = 100;
      body = bands_of (
          record {
            height = 100;
            body = cells_of (
                record {
                  width = 50;
                  body = b3.Two (record { height = 50; body = b4.Item 0 }) (record { height = 50; body = b4.Waste });
                }
                ∷ record { width = 50; body = b3.Waste }
                ∷ []);
          }
          ∷ record { height = 3110; body = b2.Waste }
          ∷ []);
    }
    ∷ record { width = 5900; body = b1.Residual }
    ∷ [])
    ∷ [])

small_rows : rows_of stock (tree small_plan) ≡
    row 0 0 0 0 6000 3210 (negsuc 1) 0 None
    ∷ row 0 1 0 0 100 3210 (negsuc 1) 1 (Some 0)
    ∷ row 0 2 0 0 100 100 (negsuc 1) 2 (Some 1)
    ∷ row 0 3 0 0 50 100 (negsuc 1) 3 (Some 2)
    ∷ row 0 4 0 0 50 50 (pos 0) 4 (Some 3)
    ∷ row 0 5 0 50 50 50 (negsuc 0) 4 (Some 3)
    ∷ row 0 6 50 0 50 100 (negsuc 0) 3 (Some 2)
    ∷ row 0 7 0 100 100 3110 (negsuc 0) 2 (Some 1)
    ∷ row 0 8 100 0 5900 3210 (negsuc 2) 1 (Some 0)
    ∷ []
unfolding families Width
small_rows = refl

-- the wastes of 2500, 5000 and 311000
small_loss : loss_of stock (tree small_plan) ≡ 318500
unfolding families Width
small_loss = refl

abbrev small_steps : List Step
small_steps = step 0 0 0 0 0 100 0 100 0 ∷ []

small_trace : trace_of (batch (item 0 50 50 ∷ []) (0 ∷ [])) (tree small_plan) ≡ small_steps
unfolding Width
small_trace = refl

small_length : length_of stock small_steps ≡ 100
unfolding Before Width
small_length = refl

-- four items, of which the second and the third stand one over the other
abbrev four_items : List Item
four_items = item 0 500 1000 ∷ item 1 300 400 ∷ item 2 300 600 ∷ item 3 800 2210 ∷ []

abbrev four_plan : Plan
four_plan =
    plan (
    plate (
    record {
      width = 800;
      body = bands_of (
          record {
            height = 1000;
            body = cells_of (
                record { width = 500; body = b3.Item 0 }
                ∷ record {
                  width = 300;
                  body = b3.Two (record { height = 400; body = b4.Item 1 }) (record { height = 600; body = b4.Item 2 });
                }
                ∷ []);
          }
          ∷ record { height = 2210; body = b2.Item 3 }
          ∷ []);
    }
    ∷ record { width = 5200; body = b1.Residual }
    ∷ [])
    ∷ [])

abbrev four_steps : List Step
four_steps =
    step 0 0 0 0 0 800 0 1000 0
    ∷ step 0 0 3 0 0 800 0 1000 500
    ∷ step 0 0 4 0 0 800 0 1000 500
    ∷ step 0 0 2 0 0 800 1000 3210 0
    ∷ []

four_trace : trace_of (batch four_items (0 ∷ 1 ∷ 2 ∷ 3 ∷ [])) (tree four_plan) ≡ four_steps
unfolding Width
four_trace = refl

four_length : length_of stock four_steps ≡ 800
unfolding Before Width
four_length = refl

four_loss : loss_of stock (tree four_plan) ≡ 0
unfolding families Width
four_loss = refl

four_order : cut_order (rows_of stock (tree four_plan)) ≡ 0 ∷ 1 ∷ 2 ∷ 3 ∷ []
unfolding families Width
four_order = refl

-- the second item of a stack cut before the first: the order is 1, 0
abbrev pub crossed_plan : Plan
crossed_plan =
    plan (
    plate (
    record { width = 600; body = b1.Item 1 }
    ∷ record { width = 500; body = b1.Item 0 }
    ∷ record { width = 4900; body = b1.Residual }
    ∷ [])
    ∷ [])

crossed_order : cut_order (rows_of stock (tree crossed_plan)) ≡ 1 ∷ 0 ∷ []
unfolding families Width
crossed_order = refl

-- three items on two plates, which have no remainder
abbrev long_item : ℕ → Piece1
long_item number = record { width = 3000; body = b1.Item number }

abbrev two_plates : Plan
two_plates = plan (plate (long_item 0 ∷ long_item 1 ∷ []) ∷ plate (long_item 2 ∷ record { width = 3000; body = b1.Residual } ∷ []) ∷ [])

two_plates_trace : trace_of (batch (item 0 3000 3210 ∷ item 1 3000 3210 ∷ item 2 3000 3210 ∷ []) (0 ∷ 1 ∷ 2 ∷ [])) (tree two_plates) ≡
    step 0 0 0 0 0 3000 0 3210 0 ∷ step 0 0 1 0 3000 6000 0 3210 3000 ∷ step 0 0 0 0 0 3000 0 3210 0 ∷ []
unfolding Width
two_plates_trace = refl

two_plates_length : length_of stock (trace_of (batch (item 0 3000 3210 ∷ item 1 3000 3210 ∷ item 2 3000 3210 ∷ []) (0 ∷ 1 ∷ 2 ∷ [])) (tree two_plates)) ≡ 9000
unfolding Before Width
two_plates_length = refl
