-- A plan on its plates has the pieces of the plan.
use Rattle.std.proofs.Common.{◌≡◌, ℕ, ◌+◌, ◌<◌, ◌≤◌, ◌==◌, List, [], ◌∷◌, length, drop, get_or, refl, sym, ap, ◌∙◌, arith}
use Rattle.glass_base.specs.Plates.{Width}
use Rattle.glass_base.specs.Problem.{Problem, IsProblem}
use Rattle.glass_base.proofs.PlateLemmas.{width_within}
use Rattle.cut_model.specs.Fits.{InRange}
use Rattle.cut_model.specs.Sized.{sized, on_plates}
use Rattle.cut_model.specs.Tree.{Forest, nothing, piece, is_nothing, count, neighbour_count, plates_of, strips}
use Rattle.cut_model.specs.declared.family.Sort.{Sort}
use Rattle.cut_model.specs.declared.plan.Plate.{Plate}
use Rattle.cut_model.proofs.Neighbours.{next, none_left, is_last}

pub count-sized : (b : Problem) (plate : ℕ) (plan : Forest) → count (sized b plate plan) ≡ count plan
count-sized b plate nothing = refl
count-sized b plate (piece size sort inner later) = ap (λ n. 1 + count inner + n) (count-sized b (plate + 1) later)

pub count-on_plates : (b : Problem) (plan : Forest) → count (on_plates b plan) ≡ count plan
count-on_plates b plan = count-sized b 0 plan

pub neighbour_count-sized : (b : Problem) (plate : ℕ) (plan : Forest) → neighbour_count (sized b plate plan) ≡ neighbour_count plan
neighbour_count-sized b plate nothing = refl
neighbour_count-sized b plate (piece size sort inner later) = ap (λ n. 1 + n) (neighbour_count-sized b (plate + 1) later)

pub neighbour_count-on_plates : (b : Problem) (plan : Forest) → neighbour_count (on_plates b plan) ≡ neighbour_count plan
neighbour_count-on_plates b plan = neighbour_count-sized b 0 plan

-- plates of an instance are in range
pub sized_in_range : (b : Problem) (plate : ℕ) (plan : Forest) → IsProblem b → InRange plan → InRange (sized b plate plan)
sized_in_range b plate nothing rules h = tt
sized_in_range b plate (piece size sort inner later) rules h =
    ((width_within b plate rules).1, h.1, h.2, h.3, sized_in_range b (plate + 1) later rules h.4)

-- the plates from an index on: the one there, with its width, and those behind it
pub next_plate : (b : Problem) (plates : List Plate) (i : ℕ) (p d : Plate) → i < length plates → p ≡ get_or plates i d →
    sized b i (plates_of (drop i plates)) ≡ piece (Width b i) Sort.Branch (strips p.pieces.items) (sized b (i + 1) (plates_of (drop (i + 1) plates)))
next_plate b plates i p d lt is = ap (sized b i) (next _ _ _ plates i p d lt is)

-- no plate is left behind the last index
pub no_plate_left : (b : Problem) (plates : List Plate) (i : ℕ) → length plates ≤ i → sized b i (plates_of (drop i plates)) ≡ nothing
no_plate_left b plates i le = ap (sized b i) (none_left _ _ _ plates i le)

pub nothing-sized : (b : Problem) (plate : ℕ) (plan : Forest) → is_nothing (sized b plate plan) ≡ is_nothing plan
nothing-sized b plate nothing = refl
nothing-sized b plate (piece size sort inner later) = refl

-- a plate is the last one where the next index is the length
pub is_last_plate : (b : Problem) (plates : List Plate) (i : ℕ) → i ≤ length plates → (i == length plates) ≡ is_nothing (sized b i (plates_of (drop i plates)))
is_last_plate b plates i le = is_last _ _ _ plates i le ∙ sym (nothing-sized b i (plates_of (drop i plates)))

-- there are no more plates than pieces
pub few_plates : (plates : List Plate) → length plates ≤ count (plates_of plates)
few_plates [] = omega arith
few_plates (p ∷ ps) = omega (arith, few_plates ps)
