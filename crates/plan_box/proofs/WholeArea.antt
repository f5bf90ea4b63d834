-- A trace with a step per item draws each item once, so its steps have the area of all items.
use Rattle.std.proofs.Common.{◌≡◌, ℕ, zero, suc, ◌+◌, ◌*◌, List, [], ◌∷◌, Some, length, refl, arith, mul_comm, ap, sym, ◌∙◌, subst}
use Rattle.std.specs.List.{sum_by}
use Rattle.std.proofs.lemmas.List.Sums.{sum_by-cons}
use Rattle.glass_base.specs.declared.item.Item.{Item}
use Rattle.glass_base.specs.Items.{area_of}
use Rattle.glass_base.specs.Problem.{Problem, IsProblem}
use Rattle.cut_model.specs.declared.steps.Step.{Step}
use Rattle.cut_model.specs.Lawful.{CutsEachOnce}
use Rattle.loss_area.proofs.Served.{area_with, order_area}
use Rattle.plan_trace.specs.Canonical.{item_id}
use Rattle.plan_trace.specs.declared.level.Level.{Level}
use Rattle.plan_trace.specs.declared.level.Level.TheVariants.{NewPlate}
use Rattle.plan_trace.specs.Marks.{Place, Spot, spot, spots, Cut, no_cut, item_width, item_height}
use Rattle.plan_trace.specs.TraceRules.{EachStep, Meets}
use Rattle.plan_trace.proofs.CutOrder.{numbers_of, canonical_order}
use Rattle.plan_trace.proofs.Inside.{Sound, meets_sound, sizes_of}
use Rattle.plan_trace.proofs.Items.{HasItem, IsItemOf, items_all}
use Rattle.plan_trace.proofs.Served.{canonical_each_once}
use Rattle.plan_box.proofs.Packing.{area_at}

-- an item has its area in both turns
own_area : (turn : ℕ) (item : Item) → item_width turn (Some item) * item_height turn (Some item) ≡ item.length * item.width
own_area zero item = refl
own_area (suc turn) item = mul_comm item.width item.length

-- the area of a step's item
item_area : (b : Problem) (s : Place) (item : Item) → IsItemOf b s item → s.w * s.h ≡ area_with b.items (item_id s.item)
item_area b s item h =
    let here : s.w * s.h ≡ item.length * item.width = rw (h.w, h.h) (own_area s.draw.turn item) in
    let found : area_with b.items item.id ≡ item.length * item.width = rw h.found refl in
    let named : item_id s.item ≡ item.id = ap item_id h.is in
    here ∙ sym found ∙ ap (area_with b.items) (sym named)

one_more : (last before own rest all now : ℕ) → last ≡ now + rest → now ≡ before + own → all ≡ own + rest → last ≡ before + all
one_more last before own rest all now a b c = omega arith

-- the areas of the steps, together
steps_area : (b : Problem) (m : Level) (t : Cut) (later : List Spot) → EachStep (λ _ _ _ s _. HasItem b s.place) m t later → EachStep (λ _ t l s _. Sound b l t s) m t later →
    area_at t later ≡ t.area + sum_by (area_with b.items) (numbers_of later)
steps_area b m t [] h ok = omega arith
steps_area b m t (spot l s ∷ later) h ok =
    one_more _ _ _ _ _ _ (steps_area b l s later h.1 ok.1) (ok.0.follows.area ∙ ap (λ n. t.area + n) (item_area b s.place h.0.0 h.0.1))
    (sum_by-cons (area_with b.items) (item_id s.item) (numbers_of later))

-- the steps of a trace with a step per item have the area of all items
pub whole_area : (b : Problem) → IsProblem b → (ss : List Step) → Meets b ss → length ss ≡ length b.items → area_at no_cut (spots b ss) ≡ area_of b.items
whole_area b rules ss m many =
    let order : CutsEachOnce b.items (numbers_of (spots b ss)) = subst (CutsEachOnce b.items) (canonical_order b ss m) (canonical_each_once b rules ss m many) in
    omega (
      arith,
      steps_area b NewPlate no_cut (spots b ss) (items_all b rules [] NewPlate no_cut ss (sizes_of b NewPlate no_cut (spots b ss) m)) (meets_sound b ss m),
      order_area b.items (numbers_of (spots b ss)) rules.ids order,
    )
