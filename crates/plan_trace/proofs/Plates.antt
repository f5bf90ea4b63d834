-- The plates of a plan: their items keep the rules.
use Rattle.std.proofs.Common.{◌≡◌, ℕ, ◌+◌, ◌≤◌, ◌&&◌, inl, List, [], ◌∷◌, ◌++◌, refl, sym, subst, append_assoc, arith, Bool, true, false, Option, Some, All}
use Rattle.glass_base.specs.Plates.{Width}
use Rattle.glass_base.specs.Problem.{Problem}
use Rattle.cut_model.specs.declared.family.Sort.{Sort}
use Rattle.cut_model.specs.declared.steps.Step.{Step}
use Rattle.cut_model.specs.Families.{families}
use Rattle.cut_model.specs.Rules.{KeepsCutRules}
use Rattle.cut_model.specs.Sized.{sized}
use Rattle.cut_model.specs.Tree.{Forest, nothing, piece, is_nothing, count, neighbour_count}
use Rattle.cut_model.specs.Traces.{next_kind, outside, steps_in}
use Rattle.cut_model.proofs.Cutting.{items_in}
use Rattle.loss_area.proofs.Areas.{hold_of}
use Rattle.cut_model.proofs.TracesTold.{next_same}
use Rattle.plan_trace.specs.Marks.{Level, NewPlate, begins, Draw, Cut}
use Rattle.plan_trace.specs.inner.Shape.{ArePlates}
use Rattle.plan_trace.proofs.Ahead.{next_some}
use Rattle.plan_trace.proofs.Placing.{Meeting, Due, Now}
use Rattle.plan_trace.proofs.Strips.{plate_sides, strips_meet}
use Rattle.plan_trace.proofs.Used.{EachUsed, area_p}
use Rattle.plan_trace.proofs.Counts.{some_steps, strips_hollow}

begun_plate : (before : List Draw) → begins before 0 ≡ NewPlate
begun_plate [] = refl
begun_plate (x ∷ before) = refl

-- the plates of a plan, from this number on, are cut as the rules ask
pub plates_meet : (b : Problem) (plate : ℕ) (parent : Option ℕ) (last first : Bool) (node : ℕ) (plan : Forest) → ArePlates (sized b plate plan) → EachUsed (sized b plate plan) → plate + neighbour_count plan ≤ b.params.plates →
    All (KeepsCutRules b) (families (area_p plate parent 0 0 0 b.params.height last) first node (sized b plate plan)) →
    (at : ℕ) (before : List Draw) (m : Level) (t : Cut) (numbers : List ℕ) → t.plates ≡ plate → Due b before (items_in plan ++ numbers) →
    Meeting b before m t (steps_in b 0 (outside b) at 0 0 (sized b plate plan))
plates_meet b plate parent last first node nothing shape used few keeps at before m t numbers is due = tt
plates_meet b plate parent last first node (piece size (Sort.Item number) inner plan) shape used few keeps at before m t numbers is due = absurd shape.0
plates_meet b plate parent last first node (piece size Sort.Waste inner plan) shape used few keeps at before m t numbers is due = absurd shape.0
plates_meet b plate parent last first node (piece size Sort.Residual inner plan) shape used few keeps at before m t numbers is due = absurd shape.0
plates_meet b plate parent last first node (piece size Sort.Branch inner plan) shape used few keeps at before m t numbers is due =
    let wide : ℕ = Width b plate in
    let later : Forest = sized b (plate + 1) plan in
    let h = hold_of (KeepsCutRules b) (area_p plate parent 0 0 0 b.params.height last) first node wide Sort.Branch inner later keeps in
    let here : List Step = steps_in b 1 (plate_sides b plate) 0 0 0 inner in
    let after : List Step = steps_in b 0 (outside b) (at + wide) (next_kind here 0 0) 0 later in
    let some : here ≡ [] → ⊥ = some_steps b 1 (plate_sides b plate) 0 0 0 inner (strips_hollow inner shape.0) used.0 in
    strips_meet b plate (omega (arith, few)) 1 (Some node) 0 wide (last && is_nothing later) true (node + 1) inner refl shape.0 h.below
    (omega (arith, h.here.l1.1)) (λ lt. absurd (omega (arith, lt)))
    0 before m t (items_in plan ++ numbers) after 0 0 (omega arith)
    (record {
      begun = begun_plate before;
      follows = (is, inl refl, inl refl, inl refl);
      due = subst (Due b before) (append_assoc (items_in inner) (items_in plan) numbers) due;
    })
    (λ next m' s right top done.
    let behind = subst (λ n. Now b n plate wide right 0 top wide next s (items_in plan ++ numbers)) (next_some here 0 1 some) done in
    subst (λ n. Meeting b next m' s (steps_in b 0 (outside b) (at + wide) n 0 later)) (sym (next_same here 0))
    (plates_meet b (plate + 1) parent last false (node + 1 + count inner) plan shape.1 used.1 (omega (arith, few)) h.after (at + wide) next m' s numbers behind.follows.0 behind.due))
