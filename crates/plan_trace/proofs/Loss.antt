-- The trace of a lawful plan is no longer than the plan's loss allows: what is lost beside its gaps is behind its last strip.
use Rattle.std.proofs.Common.{◌≡◌, ℕ, zero, suc, ◌+◌, ◌-◌, ◌*◌, ◌≤◌, List, [], ◌∷◌, ◌++◌, length, refl, sym, ap, ◌∙◌, subst, append_assoc, append-nil, arith, Bool, true, false, Option, Some, None, All, mul-le-mul_left}
use Rattle.std.specs.Option.{option_map_or}
use Rattle.std.proofs.lemmas.List.Elements.{All-weaker}
use Rattle.glass_base.specs.Plates.{Before, Width}
use Rattle.glass_base.specs.Problem.{Problem}
use Rattle.glass_base.proofs.PlateLemmas.{before-next}
use Rattle.cut_model.specs.declared.family.Row.{Row}
use Rattle.cut_model.specs.declared.family.Sort.{Sort}
use Rattle.cut_model.specs.declared.steps.Step.{Step}
use Rattle.cut_model.specs.Families.{families, inside, rows_of}
use Rattle.cut_model.specs.Lawful.{IsLawful}
use Rattle.cut_model.specs.Loss.{residual_width}
use Rattle.cut_model.specs.Rules.{KeepsCutRules}
use Rattle.cut_model.specs.Shape.{IsPlanShaped, IsShaped}
use Rattle.cut_model.specs.Sized.{on_plates, sized}
use Rattle.cut_model.specs.Steps.{last_right, length_of, plates_begun}
use Rattle.cut_model.specs.Traces.{Sides, enter, first_place, lift_behind, next_kind, outside, step_of, steps_in, trace_of}
use Rattle.cut_model.specs.Tree.{Forest, nothing, piece, count, total_size, neighbour_count}
use Rattle.loss_area.proofs.Areas.{family_at, hold_of, residual_in, rows_after, rows_at, rows_nothing, rows_piece}
use Rattle.loss_area.proofs.Balance.{balance}
use Rattle.loss_area.proofs.Plates.{KeepsPlace, ends_there, no_residual, none_before_last, plate_residual, residual_later}
use Rattle.cut_model.proofs.TracesTold.{next_same}
use Rattle.plan_trace.specs.Claims.{LawfulLoses}
use Rattle.cut_model.proofs.Cutting.{items_in, sized_cut}
use Rattle.cut_model.proofs.OnPlates.{neighbour_count-on_plates}
use Rattle.plan_trace.specs.inner.Shape.{IsPlate, ArePlates}
use Rattle.plan_trace.proofs.Ahead.{next_least, steps_inside}
use Rattle.plan_trace.proofs.Cells.{area_x}
use Rattle.plan_trace.proofs.Counts.{plates_hollow, some_steps, steps_counted, strips_hollow}
use Rattle.plan_trace.proofs.Lawful.{lawful_meets}
use Rattle.plan_trace.proofs.PlanShapes.{plates_of_shape}
use Rattle.plan_trace.proofs.RoundTrip.{plate_sized}
use Rattle.plan_trace.proofs.Strips.{plate_sides}
use Rattle.plan_trace.proofs.Used.{EachUsed, area_p, each_used}

-- no step of these lists begins a plate
none_begun : (b : Problem) (level : ℕ) (r : Sides) (at kind lift : ℕ) (forest : Forest) (follow : List Step) → 1 ≤ level → 1 ≤ kind →
    plates_begun (steps_in b level r at kind lift forest ++ follow) ≡ plates_begun follow
none_begun b level r at kind lift nothing follow l k = refl
none_begun b level r at zero lift (piece size (Sort.Item number) inner later) follow l k = absurd (omega (arith, k))
none_begun b level r at (suc kind) lift (piece size (Sort.Item number) inner later) follow l k = none_begun b level r (at + size) level 0 later follow l l
none_begun b level r at kind lift (piece size Sort.Waste inner later) follow l k = none_begun b level r (at + size) kind (lift_behind level Sort.Waste) later follow l k
none_begun b level r at kind lift (piece size Sort.Residual inner later) follow l k = none_begun b level r (at + size) kind (lift_behind level Sort.Residual) later follow l k
none_begun b level r at kind lift (piece size Sort.Branch inner later) follow l k =
    let around : Sides = enter level r at size in
    let here : List Step = steps_in b (suc level) around (first_place (suc level) around) kind 0 inner in
    let rest : List Step = steps_in b level r (at + size) (next_kind here kind level) 0 later in
    ap plates_begun (append_assoc here rest follow)
    ∙ none_begun b (suc level) around (first_place (suc level) around) kind 0 inner (rest ++ follow) (omega (arith, l)) k
    ∙ none_begun b level r (at + size) (next_kind here kind level) 0 later follow l (next_least here kind level 1 k l)

-- where these lists have a step the first one begins a plate
one_begun : (b : Problem) (level : ℕ) (r : Sides) (at lift : ℕ) (forest : Forest) (follow : List Step) → 1 ≤ level → (steps_in b level r at 0 lift forest ≡ [] → ⊥) →
    plates_begun (steps_in b level r at 0 lift forest ++ follow) ≡ plates_begun follow + 1
one_begun b level r at lift nothing follow l some = absurd (some refl)
one_begun b level r at lift (piece size (Sort.Item number) inner later) follow l some = ap (λ n. n + 1) (none_begun b level r (at + size) level 0 later follow l l)
one_begun b level r at lift (piece size Sort.Waste inner later) follow l some = one_begun b level r (at + size) (lift_behind level Sort.Waste) later follow l some
one_begun b level r at lift (piece size Sort.Residual inner later) follow l some = one_begun b level r (at + size) (lift_behind level Sort.Residual) later follow l some
one_begun b level r at lift (piece size Sort.Branch inner later) follow l some =
    let around : Sides = enter level r at size in
    by (steps_inside b level r at size 0 inner)
    (λ rest. one_begun b (suc level) around (first_place (suc level) around) 0 inner (rest ++ follow) (omega (arith, l)))
    (one_begun b level r (at + size) 0 later follow l) some
  where
    by : (here : List Step) → ((rest : List Step) → (here ≡ [] → ⊥) → plates_begun (here ++ (rest ++ follow)) ≡ plates_begun (rest ++ follow) + 1) →
        ((steps_in b level r (at + size) 0 0 later ≡ [] → ⊥) → plates_begun (steps_in b level r (at + size) 0 0 later ++ follow) ≡ plates_begun follow + 1) →
        (here ++ steps_in b level r (at + size) (next_kind here 0 level) 0 later ≡ [] → ⊥) →
        plates_begun ((here ++ steps_in b level r (at + size) (next_kind here 0 level) 0 later) ++ follow) ≡ plates_begun follow + 1
    by [] first second some = second some
    by (s ∷ here) first second some =
        let rest : List Step = steps_in b level r (at + size) level 0 later in
        ap plates_begun (append_assoc (s ∷ here) rest follow) ∙ first rest (λ none. cc) ∙ ap (λ n. n + 1) (none_begun b level r (at + size) level 0 later follow l l)

-- the steps of used plates begin as many plates
all_begun : (b : Problem) (at : ℕ) (plates : Forest) → ArePlates plates → EachUsed plates → plates_begun (steps_in b 0 (outside b) at 0 0 plates) ≡ neighbour_count plates
all_begun b at nothing shape used = refl
all_begun b at (piece size (Sort.Item number) inner later) shape used = absurd shape.0
all_begun b at (piece size Sort.Waste inner later) shape used = absurd shape.0
all_begun b at (piece size Sort.Residual inner later) shape used = absurd shape.0
all_begun b at (piece size Sort.Branch inner later) shape used =
    let here : List Step = steps_in b 1 (plate_sized b size) 0 0 0 inner in
    let some : here ≡ [] → ⊥ = some_steps b 1 (plate_sized b size) 0 0 0 inner (strips_hollow inner shape.0) used.0 in
    omega (
      arith,
      one_begun b 1 (plate_sized b size) 0 0 inner (steps_in b 0 (outside b) (at + size) (next_kind here 0 0) 0 later) (omega arith) some,
      ap (λ n. plates_begun (steps_in b 0 (outside b) (at + size) n 0 later)) (next_same here 0),
      all_begun b (at + size) later shape.1 used.1,
    )

-- the right side of the last step
last_append : (xs ys : List Step) → (ys ≡ [] → ⊥) → last_right (xs ++ ys) ≡ last_right ys
last_append xs [] some = absurd (some refl)
last_append [] (y ∷ ys) some = refl
last_append (x ∷ []) (y ∷ ys) some = refl
last_append (x ∷ z ∷ xs) (y ∷ ys) some = last_append (z ∷ xs) (y ∷ ys) some

-- all steps have this right side
abbrev AllRight : ℕ → List Step → Type 0
AllRight right [] = Unit {0}
AllRight right (s ∷ later) = (s.b ≡ right) × AllRight right later

right_append : (right : ℕ) (xs ys : List Step) → AllRight right xs → AllRight right ys → AllRight right (xs ++ ys)
right_append right [] ys h k = k
right_append right (x ∷ xs) ys h k = (h.0, right_append right xs ys h.1 k)

right_last : (right : ℕ) (steps : List Step) → AllRight right steps → (steps ≡ [] → ⊥) → last_right steps ≡ right
right_last right [] h some = absurd (some refl)
right_last right (s ∷ []) h some = h.0
right_last right (s ∷ t ∷ later) h some = right_last right (t ∷ later) h.1 (λ none. cc)

-- inside a strip the right side stays
enter_right : (level : ℕ) (r : Sides) (at size : ℕ) → (enter (suc (suc level)) r at size).b ≡ r.b
enter_right zero r at size = refl
enter_right (suc zero) r at size = refl
enter_right (suc (suc level)) r at size = refl

strip_right : (b : Problem) (level : ℕ) (r : Sides) (at kind lift : ℕ) (forest : Forest) → AllRight r.b (steps_in b (suc (suc level)) r at kind lift forest)
strip_right b level r at kind lift nothing = tt
strip_right b level r at kind lift (piece size (Sort.Item number) inner later) =
    (enter_right level r at size, strip_right b level r (at + size) (suc (suc level)) 0 later)
strip_right b level r at kind lift (piece size Sort.Waste inner later) = strip_right b level r (at + size) kind (lift_behind (suc (suc level)) Sort.Waste) later
strip_right b level r at kind lift (piece size Sort.Residual inner later) = strip_right b level r (at + size) kind (lift_behind (suc (suc level)) Sort.Residual) later
strip_right b level r at kind lift (piece size Sort.Branch inner later) =
    let around : Sides = enter (suc (suc level)) r at size in
    let here : List Step = steps_in b (suc (suc (suc level))) around (first_place (suc (suc (suc level))) around) kind 0 inner in
    right_append r.b here (steps_in b (suc (suc level)) r (at + size) (next_kind here kind (suc (suc level))) 0 later)
    (subst (λ n. AllRight n here) (enter_right level r at size) (strip_right b (suc level) around (first_place (suc (suc (suc level))) around) kind 0 inner))
    (strip_right b level r (at + size) (next_kind here kind (suc (suc level))) 0 later)

-- the last step of some strips ends before the residual behind it
abbrev Ends : Problem → ℕ → List Step → List Row → Forest → Type 0
Ends b x steps rows forest = (residual_in rows ≤ total_size forest) × ((steps ≡ [] → ⊥) → last_right steps + residual_in rows ≤ x + total_size forest)

-- behind a step
ends_behind : (b : Problem) (x size : ℕ) (here rest : List Step) (rows after : List Row) (later : Forest) → (here ≡ [] → ⊥) → last_right here ≡ x + size → residual_in rows ≡ residual_in after →
    Ends b (x + size) rest after later → last_right (here ++ rest) + residual_in rows ≤ x + (size + total_size later)
ends_behind b x size here [] rows after later some right same h = omega (arith, ap last_right (append-nil here), right, same, h.0)
ends_behind b x size here (s ∷ rest) rows after later some right same h =
    omega (arith, last_append here (s ∷ rest) (λ none. cc), same, h.1 (λ none. cc))

abbrev width_of : Option Row → ℕ
width_of o = option_map_or (λ row. row.width) o 0

strips_end : (b : Problem) (plate cut : ℕ) (parent : Option ℕ) (x y width height : ℕ) (last first : Bool) (node : ℕ) (forest : Forest) (r : Sides) (kind lift : ℕ) → IsShaped 1 forest →
    All KeepsPlace (families (area_x plate cut parent x y width height last) first node forest) →
    Ends b x (steps_in b 1 r x kind lift forest) (rows_at (area_x plate cut parent x y width height last) first node forest) forest
strips_end b plate cut parent x y width height last first node nothing r kind lift shape places =
    (omega (arith, ap residual_in (rows_nothing (area_x plate cut parent x y width height last) first node nothing refl)), λ some. absurd (some refl))
strips_end b plate cut parent x y width height last first node (piece size (Sort.Item number) inner later) r kind lift shape places =
    let at = area_x plate cut parent x y width height last in
    let h = hold_of KeepsPlace at first node size (Sort.Item number) inner later places in
    let after : List Row = rows_after at node size inner later in
    let rest : Ends b (x + size) (steps_in b 1 r (x + size) 1 0 later) after later = strips_end b plate cut parent (x + size) y width height last false (node + 1 + count inner) later r 1 0 shape.3 h.after in
    let same : residual_in (rows_at at first node (piece size (Sort.Item number) inner later)) ≡ residual_in after =
    ap width_of (residual_later at first node size (Sort.Item number) inner later refl (no_residual (inside (family_at at first node size (Sort.Item number) inner later)) true (node + 1) 2 inner (omega arith) shape.2)) in (
      omega (arith, same, rest.0),
      λ some. ends_behind b x size (step_of b (enter 1 r x size) kind lift number ∷ []) (steps_in b 1 r (x + size) 1 0 later) (rows_at at first node (piece size (Sort.Item number) inner later)) after later (λ none. cc) refl same rest,
    )
strips_end b plate cut parent x y width height last first node (piece size Sort.Waste inner later) r kind lift shape places =
    let at = area_x plate cut parent x y width height last in
    let h = hold_of KeepsPlace at first node size Sort.Waste inner later places in
    let after : List Row = rows_after at node size inner later in
    let rest : Ends b (x + size) (steps_in b 1 r (x + size) kind 0 later) after later = strips_end b plate cut parent (x + size) y width height last false (node + 1 + count inner) later r kind 0 shape.3 h.after in
    let same : residual_in (rows_at at first node (piece size Sort.Waste inner later)) ≡ residual_in after =
    ap width_of (residual_later at first node size Sort.Waste inner later refl (no_residual (inside (family_at at first node size Sort.Waste inner later)) true (node + 1) 2 inner (omega arith) shape.2)) in
    (omega (arith, same, rest.0), λ some. omega (arith, same, rest.1 some))
strips_end b plate cut parent x y width height last first node (piece size Sort.Branch inner later) r kind lift shape places =
    let at = area_x plate cut parent x y width height last in
    let h = hold_of KeepsPlace at first node size Sort.Branch inner later places in
    let after : List Row = rows_after at node size inner later in
    let around : Sides = enter 1 r x size in
    let here : List Step = steps_in b 2 around around.c kind 0 inner in
    let behind : List Step = steps_in b 1 r (x + size) (next_kind here kind 1) 0 later in
    let rest : Ends b (x + size) behind after later = strips_end b plate cut parent (x + size) y width height last false (node + 1 + count inner) later r (next_kind here kind 1) 0 shape.3 h.after in
    let same : residual_in (rows_at at first node (piece size Sort.Branch inner later)) ≡ residual_in after =
    ap width_of (residual_later at first node size Sort.Branch inner later refl (no_residual (inside (family_at at first node size Sort.Branch inner later)) true (node + 1) 2 inner (omega arith) shape.2)) in
    let right : AllRight (x + size) here = strip_right b 0 around around.c kind 0 inner in
    (omega (arith, same, rest.0), with_steps b x size here behind (rows_at at first node (piece size Sort.Branch inner later)) after later right same rest)
  where
    with_steps : (b : Problem) (x size : ℕ) (here behind : List Step) (rows after : List Row) (later : Forest) → AllRight (x + size) here → residual_in rows ≡ residual_in after → Ends b (x + size) behind after later →
        (here ++ behind ≡ [] → ⊥) → last_right (here ++ behind) + residual_in rows ≤ x + (size + total_size later)
    with_steps b x size [] behind rows after later right same rest some = omega (arith, same, rest.1 some)
    with_steps b x size (s ∷ here) behind rows after later right same rest some =
        ends_behind b x size (s ∷ here) behind rows after later (λ none. cc) (right_last (x + size) (s ∷ here) right (λ none. cc)) same rest
strips_end b plate cut parent x y width height last first node (piece size Sort.Residual inner later) r kind lift shape places =
    let at = area_x plate cut parent x y width height last in
    let h = hold_of KeepsPlace at first node size Sort.Residual inner later places in
    let none : later ≡ nothing = ends_there last later h.here.1 in
    let is : residual_in (rows_at at first node (piece size Sort.Residual inner later)) ≡ size = ap residual_in (rows_piece at first node size Sort.Residual inner later) in
    (omega (arith, is), λ some. absurd (some (ap (λ (f : Forest). steps_in b 1 r (x + size) kind 0 f) none)))

-- where an item is cut from a plate there is an item
first_none : (sort : Sort) (inner later : Forest) → IsPlate sort inner → items_in (piece 0 sort inner later) ≡ [] → items_in inner ≡ []
first_none (Sort.Item number) inner later shape none = absurd shape
first_none Sort.Waste inner later shape none = absurd shape
first_none Sort.Residual inner later shape none = absurd shape
first_none Sort.Branch inner later shape none = no_left (items_in inner) (items_in later) none
  where
    no_left : (xs ys : List ℕ) → xs ++ ys ≡ [] → xs ≡ []
    no_left [] ys e = refl
    no_left (x ∷ xs) ys e = cc

-- the last step of the plates from this number on ends before the residual
plates_end : (b : Problem) (plate : ℕ) (parent : Option ℕ) (first : Bool) (node at : ℕ) (plan : Forest) → ArePlates (sized b plate plan) → IsPlanShaped plan → EachUsed (sized b plate plan) → 1 ≤ neighbour_count plan →
    All (KeepsCutRules b) (families (area_p plate parent 0 0 0 b.params.height true) first node (sized b plate plan)) →
    last_right (steps_in b 0 (outside b) at 0 0 (sized b plate plan)) + residual_in (rows_at (area_p plate parent 0 0 0 b.params.height true) first node (sized b plate plan)) ≤ Width b (plate + neighbour_count plan - 1)
plates_end b plate parent first node at nothing shape levels used some keeps = absurd (omega (arith, some))
plates_end b plate parent first node at (piece size (Sort.Item number) inner later) shape levels used some keeps = absurd shape.0
plates_end b plate parent first node at (piece size Sort.Waste inner later) shape levels used some keeps = absurd shape.0
plates_end b plate parent first node at (piece size Sort.Residual inner later) shape levels used some keeps = absurd shape.0
plates_end b plate parent first node at (piece size Sort.Branch inner nothing) shape levels used some keeps =
    let wide : ℕ = Width b plate in
    let area = area_p plate parent 0 0 0 b.params.height true in
    let h = hold_of (KeepsCutRules b) area first node wide Sort.Branch inner nothing keeps in
    let places : All KeepsPlace (families (area_x plate 1 (Some node) 0 0 wide b.params.height true) true (node + 1) inner) = All-weaker (KeepsCutRules b) KeepsPlace (λ f k. k.l6) _ h.below in
    let here : List Step = steps_in b 1 (plate_sides b plate) 0 0 0 inner in
    let cut : here ≡ [] → ⊥ = some_steps b 1 (plate_sides b plate) 0 0 0 inner (strips_hollow inner shape.0) used.0 in
    let same : plate + 1 - 1 ≡ plate = omega arith in
    omega (
      arith,
      h.here.l1.1,
      ap (Width b) same,
      ap last_right (append-nil here),
      plate_residual area first node wide inner nothing levels.2 places,
      ap residual_in (rows_nothing (area_p (plate + 1) parent 0 0 0 b.params.height true) false (node + 1 + count inner) nothing refl),
      (strips_end b plate 1 (Some node) 0 0 wide b.params.height true true (node + 1) inner (plate_sides b plate) 0 0 levels.2 places).1 cut,
    )
plates_end b plate parent first node at (piece size Sort.Branch inner (piece size' sort' inner' later')) shape levels used some keeps =
    let wide : ℕ = Width b plate in
    let area = area_p plate parent 0 0 0 b.params.height true in
    let plan : Forest = piece size' sort' inner' later' in
    let later : Forest = sized b (plate + 1) plan in
    let h = hold_of (KeepsCutRules b) area first node wide Sort.Branch inner later keeps in
    let places : All KeepsPlace (families (area_x plate 1 (Some node) 0 0 wide b.params.height false) true (node + 1) inner) = All-weaker (KeepsCutRules b) KeepsPlace (λ f k. k.l6) _ h.below in
    let here : List Step = steps_in b 1 (plate_sides b plate) 0 0 0 inner in
    let behind : List Step = steps_in b 0 (outside b) (at + wide) (next_kind here 0 0) 0 later in
    let cut : behind ≡ [] → ⊥ = some_steps b 0 (outside b) (at + wide) (next_kind here 0 0) 0 later (plates_hollow later shape.1) (λ none. used.1.0 (first_none sort' inner' (sized b (plate + 1 + 1) later') shape.1.0 none)) in
    let same : plate + (1 + (1 + neighbour_count later')) - 1 ≡ plate + 1 + (1 + neighbour_count later') - 1 = omega arith in
    omega (
      arith,
      ap (Width b) same,
      last_append here behind cut,
      ap (λ n. last_right (steps_in b 0 (outside b) (at + wide) n 0 later)) (next_same here 0),
      plate_residual area first node wide inner later levels.2 places,
      ap width_of (none_before_last (area_x plate 1 (Some node) 0 0 wide b.params.height false) true (node + 1) inner refl levels.2 places),
      plates_end b (plate + 1) parent false (node + 1 + count inner) (at + wide) (piece size' sort' inner' later') shape.1 levels.3 used.1 (omega arith) h.after,
    )

-- what ends on the last plate ends before the end of all plates
last_plate : (b : Problem) (before plates right residual : ℕ) → plates ≡ before + 1 → right + residual ≤ Width b before → (Before b before + right) + residual ≤ Before b plates
last_plate b before plates right residual is le =
    subst (λ n. (Before b before + right) + residual ≤ Before b n) (sym is) (omega (arith, before-next b before, le))

-- a trace and the residual are together no longer than the plates
pub length_end : (b : Problem) → (plan : Forest) → IsLawful b plan → 1 ≤ neighbour_count plan → length_of b (trace_of b plan) + residual_width b plan ≤ Before b (neighbour_count plan)
length_end b plan lawful some =
    let shape : ArePlates (on_plates b plan) = plates_of_shape b 0 plan lawful.shape in
    let used : EachUsed (on_plates b plan) = each_used (rows_of b plan) 0 None 0 0 0 b.params.height true true 0 (on_plates b plan) shape (λ k le none. none) lawful.order.each_plate in
    let begun : plates_begun (trace_of b plan) ≡ neighbour_count plan = all_begun b 0 (on_plates b plan) shape used ∙ neighbour_count-on_plates b plan in
    let last : 0 + neighbour_count plan - 1 ≡ plates_begun (trace_of b plan) - 1 = omega (arith, begun) in
    last_plate b (plates_begun (trace_of b plan) - 1) (neighbour_count plan) (last_right (trace_of b plan)) (residual_width b plan) (omega (arith, begun, some))
    (omega (arith, ap (Width b) last, plates_end b 0 None true 0 0 plan shape lawful.shape used some lawful.cuts))

-- a plan that cuts an item has a plate
some_plate : (plan : Forest) → (items_in plan ≡ [] → ⊥) → 1 ≤ neighbour_count plan
some_plate nothing some = absurd (some refl)
some_plate (piece size sort inner later) some = omega arith

-- the trace of a lawful plan loses no more than the plan
pub lawful_loses : LawfulLoses
lawful_loses b rules plan lawful =
    let complete = lawful_meets b rules plan lawful in
    let shape : ArePlates (on_plates b plan) = plates_of_shape b 0 plan lawful.shape in
    let cut : items_in plan ≡ [] → ⊥ = λ none.
    omega (arith, rules.some, complete.each_item, steps_counted b 0 (outside b) 0 0 0 (on_plates b plan) (plates_hollow (on_plates b plan) shape), ap length (sized_cut b 0 plan ∙ none)) in
    let end = length_end b plan lawful (some_plate plan cut) in
    let high : b.params.height * (length_of b (trace_of b plan) + residual_width b plan) ≤ b.params.height * Before b (neighbour_count plan) = mul-le-mul_left b.params.height end in
    omega (arith, balance b plan rules lawful, high)
