-- A walk over a plan tells the steps of its trace.
use Rattle.std.proofs.Common.{◌≡◌, ℕ, zero, suc, ◌+◌, ◌≤◌, ◌&&◌, min, List, [], ◌∷◌, ◌++◌, refl, sym, ap, ◌∙◌, subst, zero-add, arith, Bool, true, false, Option, Some, None}
use Rattle.glass_base.specs.declared.item.Item.{Item}
use Rattle.glass_base.specs.Plates.{Width}
use Rattle.glass_base.specs.Problem.{Problem}
use Rattle.glass_base.specs.Stacks.{stack_numbers}
use Rattle.cut_model.specs.declared.family.Area.{Area}
use Rattle.cut_model.specs.declared.family.Family.{Family}
use Rattle.cut_model.specs.declared.family.Row.{Row}
use Rattle.cut_model.specs.declared.family.Sort.{Sort}
use Rattle.cut_model.specs.declared.plan.Plan.{Plan}
use Rattle.cut_model.specs.declared.steps.Step.{Step}
use Rattle.cut_model.specs.Families.{families, families_of, row_at}
use Rattle.cut_model.specs.Shape.{IsPlanShaped}
use Rattle.cut_model.specs.Sized.{sized}
use Rattle.cut_model.specs.Traces.{Sides, next_kind, outside, step_of, steps_in, trace_of}
use Rattle.cut_model.specs.Tree.{Forest, nothing, piece, is_nothing, count, tree}
use Rattle.cut_model.proofs.Shapes.{tree_shaped}
use Rattle.loss_area.proofs.Areas.{families_after, families_below}
use Rattle.cut_model.proofs.TracesTold.{next_append, next_same}
use Rattle.plan_trace.specs.declared.here.Here.{Here}
use Rattle.plan_trace.specs.inner.Shape.{Each, IsLeaf, AreLeaves, AreCells, AreBands, AreStrips, ArePlates}
use Rattle.plan_trace.specs.inner.Tellings.{place_at, place_behind, place_told, step_at, steps_told}
use Rattle.plan_trace.proofs.Ahead.{next_at_most}
use Rattle.plan_trace.proofs.Cells.{area_x, area_y, band_sides, cell_sides}
use Rattle.plan_trace.proofs.Strips.{plate_sides}
use Rattle.plan_trace.proofs.Bands.{strip_sides}
use Rattle.plan_trace.proofs.PlanShapes.{plates_of_shape}
use Rattle.plan_trace.proofs.Tellings.{place_append, steps_append}
use Rattle.plan_trace.proofs.Used.{area_p}

-- the sides of a place that a list of this level keeps
abbrev KeepsSides : ℕ → Here → Sides → Type 0
KeepsSides zero here r = Unit {0}
KeepsSides (suc zero) here r = Unit {0}
KeepsSides (suc (suc zero)) here r = (here.a ≡ r.a) × (here.b ≡ r.b)
KeepsSides (suc (suc (suc zero))) here r = (here.a ≡ r.a) × (here.b ≡ r.b) × (here.c ≡ r.c) × (here.d ≡ r.d)
KeepsSides (suc (suc (suc (suc _)))) here r = (here.a ≡ r.a) × (here.b ≡ r.b) × (here.c ≡ r.c) × (here.d ≡ r.d) × (here.e ≡ r.e)

-- these families of a list of this level tell these steps
record Told (b : Problem) (level : ℕ) (here : Here) (fs : List Family) (steps : List Step) (kind : ℕ) (r : Sides) : Type 0 where
  steps_is : steps_told b.items (stack_numbers b.items) here fs ≡ steps
  kind_is : min (place_told here fs).kind level ≡ next_kind steps kind level
  sides : KeepsSides level (place_told here fs) r

told_nothing : (b : Problem) (level : ℕ) (here : Here) (kind : ℕ) (r : Sides) (at : Area) (first : Bool) (node : ℕ) → min here.kind level ≡ kind → KeepsSides level here r → Told b level here (families at first node nothing) [] kind r
unfolding families
told_nothing b level here kind r at first node kind_is sides = record { steps_is = refl; kind_is = kind_is; sides = sides }

-- a place has these sides
record Enters (there : Here) (r : Sides) (width : ℕ) : Type 0 where
  a_is : there.a ≡ r.a
  b_is : there.b ≡ r.b
  c_is : there.c ≡ r.c
  d_is : there.d ≡ r.d
  e_is : there.e ≡ r.e
  width_is : width ≡ r.width

-- so is the step of an item there
step_is : (b : Problem) (there : Here) (r : Sides) (width kind lift number : ℕ) → Enters there r width → there.kind ≡ kind → there.lift ≡ lift → step_at b.items (stack_numbers b.items) there width number ≡ step_of b r kind lift number
step_is b there r width kind lift number x kind_is lift_is = rw (x.a_is, x.b_is, x.c_is, x.d_is, x.e_is, x.width_is, kind_is, lift_is) refl

-- an item, with nothing inside, before others
told_item : (b : Problem) (level : ℕ) (here : Here) (at : Area) (first : Bool) (node size number : ℕ) (inner later : Forest) (r around : Sides) (kind lift : ℕ) (rest : List Step) → inner ≡ nothing →
    let row : Row = row_at at node size (Sort.Item number) in
    Enters (place_at here row) around row.width → (place_at here row).kind ≡ kind → (place_at here row).lift ≡ lift →
    Told b level (place_behind (place_at here row) (Sort.Item number)) (families_after at node size inner later) rest level r →
    Told b level here (families at first node (piece size (Sort.Item number) inner later)) (step_of b around kind lift number ∷ rest) kind r
unfolding families
told_item b level here at first node size number (piece n s i l) later r around kind lift rest none x kind_is lift_is behind_it = cc
told_item b level here at first node size number nothing later r around kind lift rest none x kind_is lift_is behind_it =
    let row : Row = row_at at node size (Sort.Item number) in
    let there : Here = place_at here row in
    record {
      steps_is = ap (λ (s : Step). s ∷ steps_told b.items (stack_numbers b.items) (place_behind there (Sort.Item number)) (families_after at node size nothing later)) (step_is b there around row.width kind lift number x kind_is lift_is)
          ∙ ap (λ (ss : List Step). step_of b around kind lift number ∷ ss) behind_it.steps_is;
      kind_is = behind_it.kind_is ∙ next_same rest level;
      sides = behind_it.sides;
    }

-- a waste or a residual before others
told_waste : (b : Problem) (level : ℕ) (here : Here) (at : Area) (first : Bool) (node size : ℕ) (inner later : Forest) (r : Sides) (kind : ℕ) (rest : List Step) → inner ≡ nothing →
    Told b level (place_behind (place_at here (row_at at node size Sort.Waste)) Sort.Waste) (families_after at node size inner later) rest kind r →
    Told b level here (families at first node (piece size Sort.Waste inner later)) rest kind r
unfolding families
told_waste b level here at first node size (piece n s i l) later r kind rest none behind_it = cc
told_waste b level here at first node size nothing later r kind rest none behind_it = record { steps_is = behind_it.steps_is; kind_is = behind_it.kind_is; sides = behind_it.sides }

told_residual : (b : Problem) (level : ℕ) (here : Here) (at : Area) (first : Bool) (node size : ℕ) (inner later : Forest) (r : Sides) (kind : ℕ) (rest : List Step) → inner ≡ nothing →
    Told b level (place_behind (place_at here (row_at at node size Sort.Residual)) Sort.Residual) (families_after at node size inner later) rest kind r →
    Told b level here (families at first node (piece size Sort.Residual inner later)) rest kind r
unfolding families
told_residual b level here at first node size (piece n s i l) later r kind rest none behind_it = cc
told_residual b level here at first node size nothing later r kind rest none behind_it = record { steps_is = behind_it.steps_is; kind_is = behind_it.kind_is; sides = behind_it.sides }

-- a piece that is cut, with those inside it, before others
told_branch : (b : Problem) (level : ℕ) (here : Here) (at : Area) (first : Bool) (node size : ℕ) (inner later : Forest) (r around : Sides) (kind : ℕ) (inside_it rest : List Step) →
    let there : Here = place_behind (place_at here (row_at at node size Sort.Branch)) Sort.Branch in
    let below : List Family = families_below at first node size Sort.Branch inner later in
    Told b (suc level) there below inside_it kind around →
    Told b level (place_told there below) (families_after at node size inner later) rest (next_kind inside_it kind level) r →
    Told b level here (families at first node (piece size Sort.Branch inner later)) (inside_it ++ rest) kind r
unfolding families
told_branch b level here at first node size inner later r around kind inside_it rest x behind_it =
    let there : Here = place_behind (place_at here (row_at at node size Sort.Branch)) Sort.Branch in
    let below : List Family = families_below at first node size Sort.Branch inner later in
    let after : List Family = families_after at node size inner later in
    let place_is : place_told there (below ++ after) ≡ place_told (place_told there below) after = place_append there below after in
    record {
      steps_is = steps_append b.items (stack_numbers b.items) there below after
          ∙ ap (λ (ss : List Step). ss ++ steps_told b.items (stack_numbers b.items) (place_told there below) after) x.steps_is
          ∙ ap (λ (ss : List Step). inside_it ++ ss) behind_it.steps_is;
      kind_is = ap (λ (h : Here). min h.kind level) place_is ∙ behind_it.kind_is ∙ sym (next_append inside_it rest kind level);
      sides = subst (λ (h : Here). KeepsSides level h r) (sym place_is) behind_it.sides;
    }

-- the kind behind the pieces inside a piece
kind_outside : (steps : List Step) (kind level last : ℕ) → min last (suc level) ≡ next_kind steps kind (suc level) → kind ≤ level → min last level ≡ next_kind steps kind level
kind_outside [] kind level last is le = omega (arith, is, le)
kind_outside (s ∷ steps) kind level last is le = omega (arith, is)

-- the leaves of a cell
leaves_told : (b : Problem) (plate : ℕ) (parent : Option ℕ) (x y width height : ℕ) (last first : Bool) (node at : ℕ) (forest : Forest) (r : Sides) (here : Here) (kind lift : ℕ) → Each IsLeaf forest →
    width ≡ r.width → min here.kind 4 ≡ kind → here.lift ≡ lift → KeepsSides 4 here r →
    Told b 4 here (families (area_y plate 4 parent x y width height last) first node forest) (steps_in b 4 r at kind lift forest) kind r
leaves_told b plate parent x y width height last first node at nothing r here kind lift shape width_is kind_is lift_is sides =
    told_nothing b 4 here kind r (area_y plate 4 parent x y width height last) first node kind_is sides
leaves_told b plate parent x y width height last first node at (piece size (Sort.Item number) inner later) r here kind lift shape width_is kind_is lift_is sides =
    let area : Area = area_y plate 4 parent x y width height last in
    told_item b 4 here area first node size number inner later r r kind lift (steps_in b 4 r (at + size) 4 0 later) shape.0
    (record { a_is = sides.0; b_is = sides.1; c_is = sides.2; d_is = sides.3; e_is = sides.4; width_is = width_is }) kind_is lift_is
    (leaves_told b plate parent x (y + size) width height last false (node + 1 + count inner) (at + size) later r (place_behind (place_at here (row_at area node size (Sort.Item number))) (Sort.Item number)) 4 0 shape.1 width_is refl refl sides)
leaves_told b plate parent x y width height last first node at (piece size Sort.Waste inner later) r here kind lift shape width_is kind_is lift_is sides =
    let area : Area = area_y plate 4 parent x y width height last in
    told_waste b 4 here area first node size inner later r kind (steps_in b 4 r (at + size) kind 1 later) shape.0
    (leaves_told b plate parent x (y + size) width height last false (node + 1 + count inner) (at + size) later r (place_behind (place_at here (row_at area node size Sort.Waste)) Sort.Waste) kind 1 shape.1 width_is (omega (arith, kind_is)) refl sides)
leaves_told b plate parent x y width height last first node at (piece size Sort.Branch inner later) r here kind lift shape width_is kind_is lift_is sides = absurd shape.0
leaves_told b plate parent x y width height last first node at (piece size Sort.Residual inner later) r here kind lift shape width_is kind_is lift_is sides = absurd shape.0

each_leaf : (forest : Forest) → AreLeaves forest → Each IsLeaf forest
each_leaf nothing shape = tt
each_leaf (piece low s i nothing) shape = absurd shape
each_leaf (piece low s i (piece high t j nothing)) shape = (shape.0, (shape.1, tt))
each_leaf (piece low s i (piece high t j (piece n u k l))) shape = absurd shape

-- the cells of a band
cells_told : (b : Problem) (left wide low tall : ℕ) (plate : ℕ) (parent : Option ℕ) (at width : ℕ) (last first : Bool) (node : ℕ) (forest : Forest) (here : Here) (kind : ℕ) → AreCells forest → kind ≤ 3 →
    min here.kind 3 ≡ kind → KeepsSides 3 here (band_sides left wide low tall) →
    Told b 3 here (families (area_x plate 3 parent at low width tall last) first node forest) (steps_in b 3 (band_sides left wide low tall) at kind 0 forest) kind (band_sides left wide low tall)
cells_told b left wide low tall plate parent at width last first node nothing here kind shape le kind_is sides =
    told_nothing b 3 here kind (band_sides left wide low tall) (area_x plate 3 parent at low width tall last) first node kind_is sides
cells_told b left wide low tall plate parent at width last first node (piece size (Sort.Item number) inner later) here kind shape le kind_is sides =
    let area : Area = area_x plate 3 parent at low width tall last in
    let r : Sides = band_sides left wide low tall in
    told_item b 3 here area first node size number inner later r (cell_sides left wide low tall at size) kind 0 (steps_in b 3 r (at + size) 3 0 later) shape.0
    (record { a_is = sides.0; b_is = sides.1; c_is = sides.2; d_is = sides.3; e_is = refl; width_is = refl }) kind_is refl
    (cells_told b left wide low tall plate parent (at + size) width last false (node + 1 + count inner) later (place_behind (place_at here (row_at area node size (Sort.Item number))) (Sort.Item number)) 3 shape.1 (omega arith) refl sides)
cells_told b left wide low tall plate parent at width last first node (piece size Sort.Waste inner later) here kind shape le kind_is sides =
    let area : Area = area_x plate 3 parent at low width tall last in
    let r : Sides = band_sides left wide low tall in
    told_waste b 3 here area first node size inner later r kind (steps_in b 3 r (at + size) kind 0 later) shape.0
    (cells_told b left wide low tall plate parent (at + size) width last false (node + 1 + count inner) later (place_behind (place_at here (row_at area node size Sort.Waste)) Sort.Waste) kind shape.1 le (omega (arith, kind_is)) sides)
cells_told b left wide low tall plate parent at width last first node (piece size Sort.Branch inner later) here kind shape le kind_is sides =
    let area : Area = area_x plate 3 parent at low width tall last in
    let r : Sides = band_sides left wide low tall in
    let around : Sides = cell_sides left wide low tall at size in
    let there : Here = place_behind (place_at here (row_at area node size Sort.Branch)) Sort.Branch in
    let inside_it : List Step = steps_in b 4 around low kind 0 inner in
    let below : List Family = families_below area first node size Sort.Branch inner later in
    let x : Told b 4 there below inside_it kind around =
    leaves_told b plate (Some node) at low size tall (last && is_nothing later) true (node + 1) low inner around there kind 0 (each_leaf inner shape.0) refl (omega (arith, kind_is, le)) refl (sides.0, sides.1, sides.2, sides.3, refl) in
    told_branch b 3 here area first node size inner later r around kind inside_it (steps_in b 3 r (at + size) (next_kind inside_it kind 3) 0 later) x
    (cells_told b left wide low tall plate parent (at + size) width last false (node + 1 + count inner) later (place_told there below) (next_kind inside_it kind 3) shape.1 (next_at_most inside_it kind 3 3 le (omega arith))
    (kind_outside inside_it kind 3 (place_told there below).kind x.kind_is le) (x.sides.0, x.sides.1, x.sides.2, x.sides.3))
cells_told b left wide low tall plate parent at width last first node (piece size Sort.Residual inner later) here kind shape le kind_is sides = absurd shape.0

-- the bands of a strip
bands_told : (b : Problem) (left wide : ℕ) (plate : ℕ) (parent : Option ℕ) (at height : ℕ) (last first : Bool) (node : ℕ) (forest : Forest) (here : Here) (kind : ℕ) → AreBands forest → kind ≤ 2 →
    min here.kind 2 ≡ kind → KeepsSides 2 here (strip_sides b left wide) →
    Told b 2 here (families (area_y plate 2 parent left at wide height last) first node forest) (steps_in b 2 (strip_sides b left wide) at kind 0 forest) kind (strip_sides b left wide)
bands_told b left wide plate parent at height last first node nothing here kind shape le kind_is sides =
    told_nothing b 2 here kind (strip_sides b left wide) (area_y plate 2 parent left at wide height last) first node kind_is sides
bands_told b left wide plate parent at height last first node (piece size (Sort.Item number) inner later) here kind shape le kind_is sides =
    let area : Area = area_y plate 2 parent left at wide height last in
    let r : Sides = strip_sides b left wide in
    told_item b 2 here area first node size number inner later r (band_sides left wide at size) kind 0 (steps_in b 2 r (at + size) 2 0 later) shape.0
    (record { a_is = sides.0; b_is = sides.1; c_is = refl; d_is = refl; e_is = refl; width_is = refl }) kind_is refl
    (bands_told b left wide plate parent (at + size) height last false (node + 1 + count inner) later (place_behind (place_at here (row_at area node size (Sort.Item number))) (Sort.Item number)) 2 shape.1 (omega arith) refl sides)
bands_told b left wide plate parent at height last first node (piece size Sort.Waste inner later) here kind shape le kind_is sides =
    let area : Area = area_y plate 2 parent left at wide height last in
    let r : Sides = strip_sides b left wide in
    told_waste b 2 here area first node size inner later r kind (steps_in b 2 r (at + size) kind 0 later) shape.0
    (bands_told b left wide plate parent (at + size) height last false (node + 1 + count inner) later (place_behind (place_at here (row_at area node size Sort.Waste)) Sort.Waste) kind shape.1 le (omega (arith, kind_is)) sides)
bands_told b left wide plate parent at height last first node (piece size Sort.Branch inner later) here kind shape le kind_is sides =
    let area : Area = area_y plate 2 parent left at wide height last in
    let r : Sides = strip_sides b left wide in
    let around : Sides = band_sides left wide at size in
    let there : Here = place_behind (place_at here (row_at area node size Sort.Branch)) Sort.Branch in
    let inside_it : List Step = steps_in b 3 around left kind 0 inner in
    let below : List Family = families_below area first node size Sort.Branch inner later in
    let x : Told b 3 there below inside_it kind around =
    cells_told b left wide at size plate (Some node) left wide (last && is_nothing later) true (node + 1) inner there kind shape.0 (omega (arith, le)) (omega (arith, kind_is, le)) (sides.0, sides.1, refl, refl) in
    told_branch b 2 here area first node size inner later r around kind inside_it (steps_in b 2 r (at + size) (next_kind inside_it kind 2) 0 later) x
    (bands_told b left wide plate parent (at + size) height last false (node + 1 + count inner) later (place_told there below) (next_kind inside_it kind 2) shape.1 (next_at_most inside_it kind 2 2 le (omega arith))
    (kind_outside inside_it kind 2 (place_told there below).kind x.kind_is le) (x.sides.0, x.sides.1))
bands_told b left wide plate parent at height last first node (piece size Sort.Residual inner later) here kind shape le kind_is sides = absurd shape.0

-- the strips of a plate
strips_told : (b : Problem) (plate : ℕ) (parent : Option ℕ) (at width : ℕ) (last first : Bool) (node : ℕ) (forest : Forest) (here : Here) (kind : ℕ) → AreStrips forest → kind ≤ 1 → min here.kind 1 ≡ kind →
    Told b 1 here (families (area_x plate 1 parent at 0 width b.params.height last) first node forest) (steps_in b 1 (plate_sides b plate) at kind 0 forest) kind (plate_sides b plate)
strips_told b plate parent at width last first node nothing here kind shape le kind_is =
    told_nothing b 1 here kind (plate_sides b plate) (area_x plate 1 parent at 0 width b.params.height last) first node kind_is tt
strips_told b plate parent at width last first node (piece size (Sort.Item number) inner later) here kind shape le kind_is =
    let area : Area = area_x plate 1 parent at 0 width b.params.height last in
    let r : Sides = plate_sides b plate in
    told_item b 1 here area first node size number inner later r (strip_sides b at size) kind 0 (steps_in b 1 r (at + size) 1 0 later) shape.0
    (record { a_is = refl; b_is = refl; c_is = refl; d_is = zero-add b.params.height; e_is = refl; width_is = refl }) kind_is refl
    (strips_told b plate parent (at + size) width last false (node + 1 + count inner) later (place_behind (place_at here (row_at area node size (Sort.Item number))) (Sort.Item number)) 1 shape.1 (omega arith) refl)
strips_told b plate parent at width last first node (piece size Sort.Waste inner later) here kind shape le kind_is =
    let area : Area = area_x plate 1 parent at 0 width b.params.height last in
    let r : Sides = plate_sides b plate in
    told_waste b 1 here area first node size inner later r kind (steps_in b 1 r (at + size) kind 0 later) shape.0
    (strips_told b plate parent (at + size) width last false (node + 1 + count inner) later (place_behind (place_at here (row_at area node size Sort.Waste)) Sort.Waste) kind shape.1 le (omega (arith, kind_is)))
strips_told b plate parent at width last first node (piece size Sort.Residual inner later) here kind shape le kind_is =
    let area : Area = area_x plate 1 parent at 0 width b.params.height last in
    let r : Sides = plate_sides b plate in
    told_residual b 1 here area first node size inner later r kind (steps_in b 1 r (at + size) kind 0 later) shape.0
    (strips_told b plate parent (at + size) width last false (node + 1 + count inner) later (place_behind (place_at here (row_at area node size Sort.Residual)) Sort.Residual) kind shape.1 le (omega (arith, kind_is)))
strips_told b plate parent at width last first node (piece size Sort.Branch inner later) here kind shape le kind_is =
    let area : Area = area_x plate 1 parent at 0 width b.params.height last in
    let r : Sides = plate_sides b plate in
    let around : Sides = strip_sides b at size in
    let there : Here = place_behind (place_at here (row_at area node size Sort.Branch)) Sort.Branch in
    let inside_it : List Step = steps_in b 2 around 0 kind 0 inner in
    let below : List Family = families_below area first node size Sort.Branch inner later in
    let x : Told b 2 there below inside_it kind around =
    bands_told b at size plate (Some node) 0 b.params.height (last && is_nothing later) true (node + 1) inner there kind shape.0 (omega (arith, le)) (omega (arith, kind_is, le)) (refl, refl) in
    told_branch b 1 here area first node size inner later r around kind inside_it (steps_in b 1 r (at + size) (next_kind inside_it kind 1) 0 later) x
    (strips_told b plate parent (at + size) width last false (node + 1 + count inner) later (place_told there below) (next_kind inside_it kind 1) shape.1 (next_at_most inside_it kind 1 1 le (omega arith))
    (kind_outside inside_it kind 1 (place_told there below).kind x.kind_is le))

-- the plates of a plan, from this number on
plates_told : (b : Problem) (plate : ℕ) (parent : Option ℕ) (last first : Bool) (node at : ℕ) (plan : Forest) (here : Here) (kind : ℕ) → ArePlates (sized b plate plan) → kind ≡ 0 →
    Told b 0 here (families (area_p plate parent 0 0 0 b.params.height last) first node (sized b plate plan)) (steps_in b 0 (outside b) at kind 0 (sized b plate plan)) kind (outside b)
plates_told b plate parent last first node at nothing here kind shape is =
    told_nothing b 0 here kind (outside b) (area_p plate parent 0 0 0 b.params.height last) first node (omega (arith, is)) tt
plates_told b plate parent last first node at (piece size (Sort.Item number) inner plan) here kind shape is = absurd shape.0
plates_told b plate parent last first node at (piece size Sort.Waste inner plan) here kind shape is = absurd shape.0
plates_told b plate parent last first node at (piece size Sort.Residual inner plan) here kind shape is = absurd shape.0
plates_told b plate parent last first node at (piece size Sort.Branch inner plan) here kind shape is =
    let wide : ℕ = Width b plate in
    let later : Forest = sized b (plate + 1) plan in
    let area : Area = area_p plate parent 0 0 0 b.params.height last in
    let there : Here = place_behind (place_at here (row_at area node wide Sort.Branch)) Sort.Branch in
    let inside_it : List Step = steps_in b 1 (plate_sides b plate) 0 kind 0 inner in
    let below : List Family = families_below area first node wide Sort.Branch inner later in
    let x : Told b 1 there below inside_it kind (plate_sides b plate) =
    strips_told b plate (Some node) 0 wide (last && is_nothing later) true (node + 1) inner there kind shape.0 (omega (arith, is)) (omega (arith, is)) in
    told_branch b 0 here area first node wide inner later (outside b) (plate_sides b plate) kind inside_it (steps_in b 0 (outside b) (at + wide) (next_kind inside_it kind 0) 0 later) x
    (plates_told b (plate + 1) parent last false (node + 1 + count inner) (at + wide) plan (place_told there below) (next_kind inside_it kind 0) shape.1 (omega (arith, next_at_most inside_it kind 0 0 (omega (arith, is)) (omega arith))))

-- the place before the first plate
abbrev pub start : Here
start = record { kind = 0; lift = 0; a = 0; b = 0; c = 0; d = 0; e = 0 }

-- the walk over a plan tells its trace
pub plan_told : (b : Problem) (plan : Forest) → IsPlanShaped plan → steps_told b.items (stack_numbers b.items) start (families_of b plan) ≡ trace_of b plan
plan_told b plan shape = (plates_told b 0 None true true 0 0 plan start 0 (plates_of_shape b 0 plan shape) refl).steps_is

-- what a walk that was told nothing before tells
pub trace_told : (b : Problem) (plan : Plan) (items : List Item) (stacks : List ℕ) (before told : List Step) → items ≡ b.items → stacks ≡ stack_numbers b.items → before ≡ [] →
    told ≡ before ++ steps_told items stacks start (families_of b (tree plan)) → told ≡ trace_of b (tree plan)
trace_told b plan items stacks before told items_is stacks_is none is =
    is
    ∙ ap (λ (xs : List Step). xs ++ steps_told items stacks start (families_of b (tree plan))) none
    ∙ ap (λ (xs : List Item). steps_told xs stacks start (families_of b (tree plan))) items_is
    ∙ ap (λ (ns : List ℕ). steps_told b.items ns start (families_of b (tree plan))) stacks_is
    ∙ plan_told b (tree plan) (tree_shaped plan)
