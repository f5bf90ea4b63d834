-- The laws of plates that are cut already.
use Rattle.std.specs.Prelude.{◌≡◌, ◌+◌, ◌<◌, ◌≤◌, ◌↔◌, ℕ}
use Rattle.glass_base.specs.Problem.{Problem, IsProblem}
use Rattle.cut_model.specs.Lawful.{IsLawful}
use Rattle.cut_model.specs.Loss.{loss_of}
use Rattle.cut_model.specs.Tree.{Forest, neighbour_count}
use Rattle.plan_freeze.specs.Frozen.{BeginsWith, first_plates, joined, later_plates}
use Rattle.plan_freeze.specs.Rests.{IsRest, frozen_loss}

-- the first plates of a lawful plan, which has more of them, are cut already, and this instance is left
pub record IsFrozen (b : Problem) (plan : Forest) (k : ℕ) (rest : Problem) : Type 0 where
  pub problem : IsProblem b
  pub lawful : IsLawful b plan
  pub fewer : k < neighbour_count plan
  pub rest_is : IsRest b plan k rest

-- a plan that begins with these plates is lawful exactly where its other plates are a lawful plan of the instance that is left
abbrev pub RestIsPlanned : Type 0
RestIsPlanned =
    (b : Problem) (plan : Forest) (k : ℕ) (rest : Problem) → IsFrozen b plan k rest → (other : Forest) → BeginsWith k plan other →
    IsLawful b other ↔ IsLawful rest (later_plates k other)

-- where it is lawful, it loses what these plates lose and what its other plates lose
abbrev pub RestLoses : Type 0
RestLoses =
    (b : Problem) (plan : Forest) (k : ℕ) (rest : Problem) → IsFrozen b plan k rest → (other : Forest) → BeginsWith k plan other → IsLawful b other →
    loss_of b other ≡ frozen_loss b plan k + loss_of rest (later_plates k other)

-- the first plates of a plan with others behind them
abbrev pub WholeIsFound : Type 0
WholeIsFound =
    (plan tail : Forest) (k : ℕ) → k ≤ neighbour_count plan →
    BeginsWith k plan (joined (first_plates k plan) tail) × (later_plates k (joined (first_plates k plan) tail) ≡ tail)

-- what is left behind the first plates of a plan, and of one that begins with them, is one instance
abbrev pub RestIsOne : Type 0
RestIsOne =
    (b : Problem) (plan other : Forest) (k : ℕ) (rest left : Problem) → IsFrozen b plan k rest → BeginsWith k plan other → IsRest b other k left → left ≡ rest

-- what is left behind the first plates of a plan is left behind those of every plan that begins with them and has more, and they lose the same there
abbrev pub RestIsSame : Type 0
RestIsSame =
    (b : Problem) (plan other : Forest) (k : ℕ) (rest : Problem) → IsFrozen b plan k rest → BeginsWith k plan other → k < neighbour_count other →
    IsRest b other k rest × (frozen_loss b other k ≡ frozen_loss b plan k)
