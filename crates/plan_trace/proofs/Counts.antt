-- The trace of a plan has a step for each item that the plan cuts.
use Rattle.std.proofs.Common.{◌≡◌, ℕ, suc, ◌+◌, List, [], ◌∷◌, ◌++◌, length, refl, sym, ap, ◌∙◌, subst, arith, length-append}
use Rattle.glass_base.specs.Problem.{Problem}
use Rattle.cut_model.specs.declared.family.Sort.{Sort}
use Rattle.cut_model.specs.declared.steps.Step.{Step}
use Rattle.cut_model.specs.Tree.{Forest, nothing, piece}
use Rattle.cut_model.specs.Traces.{Sides, enter, first_place, lift_behind, next_kind, steps_in}
use Rattle.cut_model.proofs.Cutting.{items_in}
use Rattle.plan_trace.specs.inner.Shape.{Each, IsPart, AreLeaves, AreCells, AreBands, AreStrips, ArePlates}

-- a piece that is not cut has nothing inside
abbrev pub IsHollow : Sort → Forest → Type 0
IsHollow (Sort.Item _) inner = inner ≡ nothing
IsHollow Sort.Waste inner = inner ≡ nothing
IsHollow Sort.Residual inner = inner ≡ nothing
IsHollow Sort.Branch inner = Unit {0}

abbrev pub AreHollow : Forest → Type 0
AreHollow nothing = Unit {0}
AreHollow (piece size sort inner later) = IsHollow sort inner × AreHollow inner × AreHollow later

nothing_hollow : (inner : Forest) → inner ≡ nothing → AreHollow inner
nothing_hollow inner is = subst AreHollow (sym is) tt

parts_hollow : (Inside : Forest → Type 0) → ((inner : Forest) → Inside inner → AreHollow inner) → (forest : Forest) → Each (IsPart Inside) forest → AreHollow forest
parts_hollow Inside inside nothing shape = tt
parts_hollow Inside inside (piece size (Sort.Item number) inner later) shape = (shape.0, nothing_hollow inner shape.0, parts_hollow Inside inside later shape.1)
parts_hollow Inside inside (piece size Sort.Waste inner later) shape = (shape.0, nothing_hollow inner shape.0, parts_hollow Inside inside later shape.1)
parts_hollow Inside inside (piece size Sort.Branch inner later) shape = (tt, inside inner shape.0, parts_hollow Inside inside later shape.1)
parts_hollow Inside inside (piece size Sort.Residual inner later) shape = absurd shape.0

leaves_hollow : (forest : Forest) → AreLeaves forest → AreHollow forest
leaves_hollow nothing shape = tt
leaves_hollow (piece low s i nothing) shape = absurd shape
leaves_hollow (piece low s i (piece high t j nothing)) shape = parts_hollow (λ _. ⊥) (λ _ never. absurd never) (piece low s i (piece high t j nothing)) (shape.0, (shape.1, tt))
leaves_hollow (piece low s i (piece high t j (piece n u k l))) shape = absurd shape

cells_hollow : (forest : Forest) → AreCells forest → AreHollow forest
cells_hollow = parts_hollow AreLeaves leaves_hollow

bands_hollow : (forest : Forest) → AreBands forest → AreHollow forest
bands_hollow = parts_hollow AreCells cells_hollow

pub strips_hollow : (forest : Forest) → AreStrips forest → AreHollow forest
strips_hollow nothing shape = tt
strips_hollow (piece size (Sort.Item number) inner later) shape = (shape.0, nothing_hollow inner shape.0, strips_hollow later shape.1)
strips_hollow (piece size Sort.Waste inner later) shape = (shape.0, nothing_hollow inner shape.0, strips_hollow later shape.1)
strips_hollow (piece size Sort.Residual inner later) shape = (shape.0, nothing_hollow inner shape.0, strips_hollow later shape.1)
strips_hollow (piece size Sort.Branch inner later) shape = (tt, bands_hollow inner shape.0, strips_hollow later shape.1)

pub plates_hollow : (forest : Forest) → ArePlates forest → AreHollow forest
plates_hollow nothing shape = tt
plates_hollow (piece size (Sort.Item number) inner later) shape = absurd shape.0
plates_hollow (piece size Sort.Waste inner later) shape = absurd shape.0
plates_hollow (piece size Sort.Residual inner later) shape = absurd shape.0
plates_hollow (piece size Sort.Branch inner later) shape = (tt, strips_hollow inner shape.0, plates_hollow later shape.1)

-- neighbours have a step for each item
pub steps_counted : (b : Problem) (level : ℕ) (r : Sides) (at kind lift : ℕ) (forest : Forest) → AreHollow forest → length (steps_in b level r at kind lift forest) ≡ length (items_in forest)
steps_counted b level r at kind lift nothing shape = refl
steps_counted b level r at kind lift (piece size (Sort.Item number) inner later) shape =
    omega (arith, steps_counted b level r (at + size) level 0 later shape.2, ap (λ (f : Forest). length (items_in f ++ items_in later)) shape.0)
steps_counted b level r at kind lift (piece size Sort.Waste inner later) shape =
    steps_counted b level r (at + size) kind (lift_behind level Sort.Waste) later shape.2 ∙ ap (λ (f : Forest). length (items_in f ++ items_in later)) (sym shape.0)
steps_counted b level r at kind lift (piece size Sort.Residual inner later) shape =
    steps_counted b level r (at + size) kind (lift_behind level Sort.Residual) later shape.2 ∙ ap (λ (f : Forest). length (items_in f ++ items_in later)) (sym shape.0)
steps_counted b level r at kind lift (piece size Sort.Branch inner later) shape =
    let around : Sides = enter level r at size in
    let here : List Step = steps_in b (suc level) around (first_place (suc level) around) kind 0 inner in
    omega (
      arith,
      length-append here (steps_in b level r (at + size) (next_kind here kind level) 0 later),
      length-append (items_in inner) (items_in later),
      steps_counted b (suc level) around (first_place (suc level) around) kind 0 inner shape.1,
      steps_counted b level r (at + size) (next_kind here kind level) 0 later shape.2,
    )

none_by_length : {X : Type 0} (xs : List X) → length xs ≡ 0 → xs ≡ []
none_by_length [] h = refl
none_by_length (x ∷ xs) h = absurd (omega (arith, h))

-- where there is an item there is a step
pub some_steps : (b : Problem) (level : ℕ) (r : Sides) (at kind lift : ℕ) (forest : Forest) → AreHollow forest → (items_in forest ≡ [] → ⊥) → steps_in b level r at kind lift forest ≡ [] → ⊥
some_steps b level r at kind lift forest shape some none =
    some (none_by_length (items_in forest) (sym (steps_counted b level r at kind lift forest shape) ∙ ap length none))
