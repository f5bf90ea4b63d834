-- Neighbours that are taken apart and put together.
use Rattle.std.proofs.Common.{◌≡◌, ℕ, zero, suc, ◌+◌, ◌<◌, ◌≤◌, List, [], ◌∷◌, ◌++◌, take, drop, refl, ap, arith}
use Rattle.cut_model.specs.declared.family.Sort.{Sort}
use Rattle.cut_model.specs.Fits.{Fits, InRange}
use Rattle.cut_model.specs.Shape.{IsShaped}
use Rattle.cut_model.specs.Tree.{Forest, nothing, piece, neighbours, count, neighbour_count}
use Rattle.plan_freeze.specs.Frozen.{first_plates, joined, later_plates}

-- lists one behind the other
pub neighbours-append : {A : Type 0} (size : A → ℕ) (sort : A → Sort) (inner : A → Forest) (xs ys : List A) →
    neighbours size sort inner (xs ++ ys) ≡ joined (neighbours size sort inner xs) (neighbours size sort inner ys)
neighbours-append size sort inner [] ys = refl
neighbours-append size sort inner (x ∷ xs) ys = ap (piece (size x) (sort x) (inner x)) (neighbours-append size sort inner xs ys)

pub joined_nothing : (plan : Forest) → joined plan nothing ≡ plan
joined_nothing nothing = refl
joined_nothing (piece size sort inner later) = ap (piece size sort inner) (joined_nothing later)

-- the first of a list, and those behind them
pub first_taken : {A : Type 0} (size : A → ℕ) (sort : A → Sort) (inner : A → Forest) (k : ℕ) (xs : List A) →
    neighbours size sort inner (take k xs) ≡ first_plates k (neighbours size sort inner xs)
first_taken size sort inner zero xs = refl
first_taken size sort inner (suc k) [] = refl
first_taken size sort inner (suc k) (x ∷ xs) = ap (piece (size x) (sort x) (inner x)) (first_taken size sort inner k xs)

pub later_dropped : {A : Type 0} (size : A → ℕ) (sort : A → Sort) (inner : A → Forest) (k : ℕ) (xs : List A) →
    neighbours size sort inner (drop k xs) ≡ later_plates k (neighbours size sort inner xs)
later_dropped size sort inner zero xs = refl
later_dropped size sort inner (suc k) [] = refl
later_dropped size sort inner (suc k) (x ∷ xs) = later_dropped size sort inner k xs

-- a plan is its first plates and those behind them
pub parted : (k : ℕ) (plan : Forest) → joined (first_plates k plan) (later_plates k plan) ≡ plan
parted zero plan = refl
parted (suc k) nothing = refl
parted (suc k) (piece size sort inner later) = ap (piece size sort inner) (parted k later)

pub first_count : (k : ℕ) (plan : Forest) → k ≤ neighbour_count plan → neighbour_count (first_plates k plan) ≡ k
first_count zero plan le = refl
first_count (suc k) nothing le = absurd (omega (arith, le))
first_count (suc k) (piece size sort inner later) le = omega (arith, first_count k later (omega (arith, le)))

pub later_count : (k : ℕ) (plan : Forest) → k ≤ neighbour_count plan → neighbour_count (later_plates k plan) + k ≡ neighbour_count plan
later_count zero plan le = omega arith
later_count (suc k) nothing le = absurd (omega (arith, le))
later_count (suc k) (piece size sort inner later) le = omega (arith, later_count k later (omega (arith, le)))

pub first_of_joined : (k : ℕ) (plan tail : Forest) → neighbour_count plan ≡ k → first_plates k (joined plan tail) ≡ plan
first_of_joined zero nothing tail is = refl
first_of_joined zero (piece size sort inner later) tail is = absurd (omega (arith, is))
first_of_joined (suc k) nothing tail is = absurd (omega (arith, is))
first_of_joined (suc k) (piece size sort inner later) tail is = ap (piece size sort inner) (first_of_joined k later tail (omega (arith, is)))

pub later_of_joined : (k : ℕ) (plan tail : Forest) → neighbour_count plan ≡ k → later_plates k (joined plan tail) ≡ tail
later_of_joined zero nothing tail is = refl
later_of_joined zero (piece size sort inner later) tail is = absurd (omega (arith, is))
later_of_joined (suc k) nothing tail is = absurd (omega (arith, is))
later_of_joined (suc k) (piece size sort inner later) tail is = later_of_joined k later tail (omega (arith, is))

-- both parts of a plan have its shape
pub shaped_apart : (plan tail : Forest) → IsShaped 0 (joined plan tail) → IsShaped 0 plan × IsShaped 0 tail
shaped_apart nothing tail h = (tt, h)
shaped_apart (piece size sort inner later) tail h =
    let rest = shaped_apart later tail h.3 in
    ((h.0, h.1, h.2, rest.0), rest.1)

pub shaped_together : (plan tail : Forest) → IsShaped 0 plan → IsShaped 0 tail → IsShaped 0 (joined plan tail)
shaped_together nothing tail h k = k
shaped_together (piece size sort inner later) tail h k = (h.0, h.1, h.2, shaped_together later tail h.3 k)

-- plates behind others, that have a plate, are not nothing
pub some_behind : (k : ℕ) (plan : Forest) → k < neighbour_count plan → 1 ≤ neighbour_count (later_plates k plan)
some_behind k plan lt = omega (arith, later_count k plan (omega (arith, lt)), lt)

-- what fits has plates that fit
later_in_range : (k : ℕ) (plan : Forest) → InRange plan → InRange (later_plates k plan)
later_in_range zero plan h = h
later_in_range (suc k) nothing h = tt
later_in_range (suc k) (piece size sort inner later) h = later_in_range k later h.4

later_rows : (k : ℕ) (plan : Forest) → count (later_plates k plan) ≤ count plan
later_rows zero plan = omega arith
later_rows (suc k) nothing = omega arith
later_rows (suc k) (piece size sort inner later) = omega (arith, later_rows k later)

pub later_fits : (k : ℕ) (plan : Forest) → Fits plan → Fits (later_plates k plan)
later_fits k plan h = record { in_range = later_in_range k plan h.in_range; few = omega (arith, later_rows k plan, h.few) }

first_in_range : (k : ℕ) (plan tail : Forest) → InRange plan → InRange tail → InRange (joined (first_plates k plan) tail)
first_in_range zero plan tail h g = g
first_in_range (suc k) nothing tail h g = g
first_in_range (suc k) (piece size sort inner later) tail h g = (h.0, h.1, h.2, h.3, first_in_range k later tail h.4 g)

pub first_rows : (k : ℕ) (plan tail : Forest) → count (joined (first_plates k plan) tail) ≤ count plan + count tail
first_rows zero plan tail = omega arith
first_rows (suc k) nothing tail = omega arith
first_rows (suc k) (piece size sort inner later) tail = omega (arith, first_rows k later tail)

-- first plates of a plan that fits, with plates behind them that fit, fit where both plans have no more than half of the rows
pub joined_fits : (k : ℕ) (plan tail : Forest) → Fits plan → Fits tail → count plan ≤ 1000000000 → count tail ≤ 1000000000 → Fits (joined (first_plates k plan) tail)
joined_fits k plan tail h g few some = record {
  in_range = first_in_range k plan tail h.in_range g.in_range;
  few = omega (arith, first_rows k plan tail, few, some);
}
