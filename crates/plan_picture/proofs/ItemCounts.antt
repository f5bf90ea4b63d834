-- How many items a plan cuts.
use Rattle.std.proofs.Common.{◌≡◌, ℕ, suc, ℤ, ◌+◌, ◌<◌, ◌≤◌, ◌^◌, true, List, [], ◌∷◌, ◌++◌, length, Option, Some, None, ◌∙◌, ap, arith}
use Rattle.std.specs.List.{cons_option}
use Rattle.std.proofs.Math.ListN.{length-append, length-map}
use Rattle.std.proofs.lemmas.List.Elements.{filter_map-append}
use Rattle.glass_base.specs.Problem.{Problem}
use Rattle.cut_model.specs.declared.family.Family.{Family}
use Rattle.cut_model.specs.declared.family.Row.{Row}
use Rattle.cut_model.specs.declared.family.Sort.{Sort}
use Rattle.cut_model.specs.Families.{families_of, first_plate, rows_of}
use Rattle.cut_model.specs.Order.{cut_order, item_named}
use Rattle.cut_model.specs.Sized.{on_plates}
use Rattle.cut_model.specs.Tree.{Forest, count, type_number}
use Rattle.cut_model.proofs.Numbers.{length-families}
use Rattle.cut_model.proofs.OnPlates.{count-on_plates}
use Rattle.plan_picture.specs.inner.Surveys.{HasCounted, items_of}
use Rattle.glass_base.specs.declared.limits.TheConstants.{MOST_ROWS}

named : (sort : Sort) (row : Row) → row.kind ≡ type_number sort → length (cut_order (row ∷ [])) ≡ items_of sort
named (Sort.Item number) row is = ap (λ (kind : ℤ). length (cut_order (record row { kind = kind } ∷ []))) is
named Sort.Waste row is = ap (λ (kind : ℤ). length (cut_order (record row { kind = kind } ∷ []))) is
named Sort.Branch row is = ap (λ (kind : ℤ). length (cut_order (record row { kind = kind } ∷ []))) is
named Sort.Residual row is = ap (λ (kind : ℤ). length (cut_order (record row { kind = kind } ∷ []))) is

-- one more row was counted
pub counted_more : (before old now : ℕ) (rows : List Row) (row : Row) (sort : Sort) → row.kind ≡ type_number sort → (old + items_of sort < 2 ^ 64 → now ≡ old + items_of sort) →
    HasCounted before old rows → HasCounted before now (rows ++ row ∷ [])
counted_more before old now rows row sort is more h =
    let all : length (cut_order (rows ++ row ∷ [])) ≡ length (cut_order rows) + items_of sort =
    ap length (filter_map-append (λ (r : Row). item_named r.kind) rows (row ∷ [])) ∙ length-append (cut_order rows) (cut_order (row ∷ [])) ∙ ap (λ (n : ℕ). length (cut_order rows) + n) (named sort row is) in
    record {
      counted = λ small.
          let old_is : old ≡ before + length (cut_order rows) = h.counted (omega (arith, all)) in
          omega (arith, all, old_is, more (omega (arith, all, old_is)));
    }

-- an element more, or none
one_short : {A : Type 0} (o : Option A) (xs : List A) → length (cons_option o xs) ≤ suc (length xs)
one_short None xs = omega arith
one_short (Some x) xs = omega arith

order_short : (rows : List Row) → length (cut_order rows) ≤ length rows
order_short [] = omega arith
order_short (row ∷ rows) = omega (arith, order_short rows, one_short (item_named row.kind) (cut_order rows))

-- a plan that fits cuts fewer items than a number of 64 bits can tell
few_cut : (b : Problem) (plan : Forest) → count plan ≤ MOST_ROWS → length (cut_order (rows_of b plan)) < 2 ^ 64
few_cut b plan few =
    omega (arith, order_short (rows_of b plan), length-map (families_of b plan) (λ (f : Family). f.row), length-families (first_plate b) true 0 (on_plates b plan), count-on_plates b plan)

pub all_counted : (b : Problem) (plan : Forest) (now : ℕ) → count plan ≤ MOST_ROWS → HasCounted 0 now (rows_of b plan) → now ≡ length (cut_order (rows_of b plan))
all_counted b plan now few h = omega (arith, h.counted (omega (arith, few_cut b plan few)))
