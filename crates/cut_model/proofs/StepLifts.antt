-- The lift of an item's step: 1 where the row before the item's is a waste of the same cell.
use Rattle.std.proofs.Common.{◌≡◌, ◌↔◌, ℕ, negsuc, zero, suc, ◌+◌, ◌≤◌, List, refl, sym, ap, ◌∙◌, arith, Option}
use Rattle.std.specs.Prelude.{Contains}
use Rattle.cut_model.specs.declared.family.Row.{Row}
use Rattle.cut_model.specs.declared.family.Sort.{Sort}
use Rattle.cut_model.specs.ItemSteps.{LiesOnWaste}
use Rattle.cut_model.specs.Traces.{lift_behind}
use Rattle.cut_model.proofs.StepRows.{AreKnown}

-- the row before this number is a waste that a 4-cut makes of this parent
pub record IsOnWaste (all : List Row) (node : ℕ) (parent : Option ℕ) : Type 0 where
  pub low : Row
  pub known : Contains all low
  pub before : low.node + 1 ≡ node
  pub beside : low.parent ≡ parent
  pub leaf : low.cut ≡ 4
  pub waste : low.kind ≡ negsuc 0

-- the lift of what comes next says so
pub record IsLift (all : List Row) (node : ℕ) (parent : Option ℕ) (lift : ℕ) : Type 0 where
  pub small : lift ≤ 1
  pub lies : (lift ≡ 1) ↔ IsOnWaste all node parent

-- 0 where it is not so
no_lift : (all : List Row) (node : ℕ) (parent : Option ℕ) → (IsOnWaste all node parent → ⊥) → IsLift all node parent 0
no_lift all node parent not = record { small = omega arith; lies = (λ e. absurd (omega (arith, e)), λ h. absurd (not h)) }

-- behind a row that is no waste
pub lift_no_waste : (all : List Row) (row : Row) (node : ℕ) (parent : Option ℕ) → AreKnown all → Contains all row → row.node + 1 ≡ node → (row.kind ≡ negsuc 0 → ⊥) → IsLift all node parent 0
lift_no_waste all row node parent numbers known before other =
    no_lift all node parent (λ (h : IsOnWaste all node parent). other (ap (λ (r : Row). r.kind) (numbers.same row h.low known h.known (omega (arith, before, h.before))) ∙ h.waste))

-- behind the pieces inside a piece
pub lift_no_leaf : (all : List Row) (row : Row) (node : ℕ) → AreKnown all → Contains all row → row.cut ≤ 3 → IsLift all node row.parent 0
lift_no_leaf all row node numbers known le =
    no_lift all node row.parent (λ (h : IsOnWaste all node row.parent). omega (arith, numbers.level row h.low known h.known (sym h.beside), h.leaf, le))

-- behind a waste
pub lift_waste : (all : List Row) (level : ℕ) (row : Row) (node : ℕ) → AreKnown all → Contains all row → row.node + 1 ≡ node → row.kind ≡ negsuc 0 → row.cut ≡ level → level ≤ 4 →
    IsLift all node row.parent (lift_behind level Sort.Waste)
lift_waste all level row node numbers known before waste cut le = by level cut le
  where
    other : (row.cut ≡ 4 → ⊥) → IsLift all node row.parent 0
    other not =
        no_lift all node row.parent (λ (h : IsOnWaste all node row.parent). not (ap (λ (r : Row). r.cut) (numbers.same row h.low known h.known (omega (arith, before, h.before))) ∙ h.leaf))

    by : (n : ℕ) → row.cut ≡ n → n ≤ 4 → IsLift all node row.parent (lift_behind n Sort.Waste)
    by zero cut le = other (λ e. omega (arith, e, cut))
    by (suc zero) cut le = other (λ e. omega (arith, e, cut))
    by (suc (suc zero)) cut le = other (λ e. omega (arith, e, cut))
    by (suc (suc (suc zero))) cut le = other (λ e. omega (arith, e, cut))
    by (suc (suc (suc (suc zero)))) cut le =
        let itself : IsOnWaste all node row.parent = record { low = row; known = known; before = before; beside = refl; leaf = cut; waste = waste } in
        record { small = omega arith; lies = (λ _. itself, λ _. refl) }
    by (suc (suc (suc (suc (suc n))))) cut le = absurd (omega (arith, le))

-- the lift of an item's step
pub lift_told : (all : List Row) (row : Row) (lift : ℕ) → IsLift all row.node row.parent lift → (lift ≤ 1) × ((lift ≡ 1) ↔ LiesOnWaste all row)
lift_told all row lift h = (h.small, (λ e. on (h.lies.0 e), λ k. h.lies.1 (off k)))
  where
    on : IsOnWaste all row.node row.parent → LiesOnWaste all row
    on k = record { low = k.low; known = k.known; before = k.before; beside = k.beside; leaf = k.leaf; waste = k.waste }

    off : LiesOnWaste all row → IsOnWaste all row.node row.parent
    off k = record { low = k.low; known = k.known; before = k.before; beside = k.beside; leaf = k.leaf; waste = k.waste }
