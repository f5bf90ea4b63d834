-- The trace of a lawful plan has a step for each item and meets the rules.
use Rattle.std.proofs.Common.{◌≡◌, ◌≢◌, ℕ, List, [], ◌++◌, length, map, refl, sym, ap, ◌∙◌, subst, append-nil, arith, true, None, AllPairs}
use Rattle.std.proofs.lemmas.List.{length-map}
use Rattle.glass_base.specs.declared.item.Item.{Item}
use Rattle.glass_base.specs.Items.{DifferentIds}
use Rattle.glass_base.proofs.Found.{Distinct}
use Rattle.glass_base.proofs.Pairs.{pairs_map}
use Rattle.cut_model.specs.Families.{rows_of}
use Rattle.cut_model.specs.Lawful.{CutsEachOnce}
use Rattle.cut_model.specs.Order.{cut_order}
use Rattle.cut_model.specs.Traces.{outside}
use Rattle.cut_model.specs.Sized.{on_plates}
use Rattle.cut_model.specs.Tree.{Forest}
use Rattle.cut_model.proofs.Cutting.{items_in, rows_cut, sized_cut}
use Rattle.cut_model.proofs.OnPlates.{neighbour_count-on_plates}
use Rattle.plan_trace.specs.Claims.{LawfulMeets}
use Rattle.plan_trace.specs.Marks.{NewPlate, no_cut}
use Rattle.plan_trace.specs.inner.Shape.{ArePlates}
use Rattle.plan_trace.proofs.Counts.{plates_hollow, steps_counted}
use Rattle.plan_trace.proofs.Placing.{Due}
use Rattle.plan_trace.proofs.Plates.{plates_meet}
use Rattle.plan_trace.proofs.Serving.{all_due}
use Rattle.plan_trace.proofs.PlanShapes.{plates_of_shape}
use Rattle.plan_trace.proofs.Served.{length_within}
use Rattle.plan_trace.proofs.Used.{area_p, each_used}
use Rattle.plan_trace.proofs.UsedPlates.{plate_count}

-- where each item of the batch is cut once there are as many numbers as items
pub order_counted : (items : List Item) (order : List ℕ) → AllPairs DifferentIds items → CutsEachOnce items order → length order ≡ length items
order_counted items order apart h =
    let distinct : Distinct (map (λ (item : Item). item.id) items) = pairs_map (λ a c. a ≢ c) (λ (item : Item). item.id) items apart in
    omega (
      arith,
      length_within order (map (λ (item : Item). item.id) items) h.once h.known,
      length_within (map (λ (item : Item). item.id) items) order distinct h.all,
      length-map items (λ (item : Item). item.id),
    )

-- the trace of a lawful plan is complete
pub lawful_meets : LawfulMeets
lawful_meets b rules plan lawful =
    let plates : Forest = on_plates b plan in
    let shape : ArePlates plates = plates_of_shape b 0 plan lawful.shape in
    let order : List ℕ = cut_order (rows_of b plan) in
    let order_is : order ≡ items_in plan = rows_cut b plan in
    let due : Due b [] (items_in plan ++ []) = subst (Due b []) (order_is ∙ sym (append-nil (items_in plan))) (all_due b rules order lawful.order.each_once lawful.order.stacks) in
    record {
      each_item = steps_counted b 0 (outside b) 0 0 0 plates (plates_hollow plates shape) ∙ ap length (sized_cut b 0 plan) ∙ ap length (sym order_is)
          ∙ order_counted b.items order rules.ids lawful.order.each_once;
      meets = plates_meet b 0 None true true 0 plan shape
          (each_used (rows_of b plan) 0 None 0 0 0 b.params.height true true 0 plates shape (λ k le none. none) lawful.order.each_plate)
          (omega (arith, lawful.order.few_plates, plate_count (area_p 0 None 0 0 0 b.params.height true) true 0 plates refl, neighbour_count-on_plates b plan))
          lawful.cuts 0 [] NewPlate no_cut [] refl due;
    }
