-- The laws of plates that are cut already.
use Rattle.std.proofs.Common.{◌≡◌, ℕ, ◌+◌, ◌<◌, ◌≤◌, ◌↔◌, List, refl, sym, ap, subst, ◌∙◌, arith}
use Rattle.glass_base.specs.Items.{area_of}
use Rattle.glass_base.specs.Problem.{Problem, IsProblem}
use Rattle.cut_model.specs.declared.family.Sort.{Sort}
use Rattle.cut_model.specs.Lawful.{IsLawful}
use Rattle.cut_model.specs.Loss.{loss_of, waste_of}
use Rattle.cut_model.specs.Order.{cut_order}
use Rattle.cut_model.specs.Tree.{Forest, nothing, piece, neighbour_count}
use Rattle.plan_freeze.specs.Claims.{IsFrozen, RestIsPlanned, RestLoses, WholeIsFound}
use Rattle.plan_freeze.specs.Frozen.{BeginsWith, first_plates, joined, later_plates}
use Rattle.plan_freeze.specs.Rests.{IsRest, frozen_loss, items_among, items_besides, numbers_frozen}
use Rattle.plan_freeze.proofs.Forests.{first_count, first_of_joined, joined_nothing, later_of_joined, parted, some_behind}
use Rattle.plan_freeze.proofs.LossesLeft.{first_loss, losses_joined, plates_joined}
use Rattle.plan_freeze.proofs.RowsShifted.{whole_plates}
use Rattle.plan_freeze.proofs.SomeLeft.{first_kept}
use Rattle.plan_freeze.proofs.Wholes.{IsBehind, first_alone, first_rows, lawful_left, lawful_whole, none_is_unlawful}

-- the instance that is left, by the first plates alone
pub behind_first : (b rest : Problem) (plan : Forest) (size : ℕ) (sort : Sort) (inner more : Forest) → IsRest b (joined plan (piece size sort inner more)) (neighbour_count plan) rest → IsBehind b rest plan
behind_first b rest plan size sort inner more h =
    let same : numbers_frozen b (joined plan (piece size sort inner more)) (neighbour_count plan) ≡ cut_order (first_rows b plan) = ap cut_order (first_kept b plan size sort inner more) in
    record {
      items_are = h.items_are ∙ ap (λ (numbers : List ℕ). items_besides numbers b.items) same;
      defects_are = h.defects_are;
      widths_are = h.widths_are;
      params_are = h.params_are;
    }

-- what is known of the first plates of a lawful plan, and of the instance that is left behind them
record IsCut (b rest : Problem) (first old : Forest) : Type 0 where
  problem : IsProblem b
  lawful : IsLawful b (joined first old)
  some : 1 ≤ neighbour_count old
  rest_is : IsRest b (joined first old) (neighbour_count first) rest

few_first : (b : Problem) (first old : Forest) → IsLawful b (joined first old) → neighbour_count first ≤ b.params.plates
few_first b first old lawful = omega (arith, lawful.order.few_plates, whole_plates b (joined first old), plates_joined first old)

planned : (b rest : Problem) (first old tail : Forest) → IsCut b rest first old → IsLawful b (joined first tail) ↔ IsLawful rest tail
planned b rest first nothing tail cut = absurd (omega (arith, cut.some))
planned b rest first (piece s t i m) nothing cut =
    let behind : IsBehind b rest first = behind_first b rest first s t i m cut.rest_is in (
      λ lawful. absurd (first_alone b rest first s t i m cut.rest_is.rules behind (subst (IsLawful b) (joined_nothing first) lawful)),
      λ lawful. absurd (none_is_unlawful rest cut.rest_is.rules lawful),
    )
planned b rest first (piece s t i m) (piece size sort inner more) cut =
    let behind : IsBehind b rest first = behind_first b rest first s t i m cut.rest_is in (
      lawful_left b rest first size sort inner more behind,
      lawful_whole b rest first s t i m size sort inner more behind (few_first b first (piece s t i m) cut.lawful) cut.lawful,
    )

-- what the first plates lose
loses : (b rest : Problem) (first old : Forest) → IsCut b rest first old → waste_of (first_rows b first) ≡ frozen_loss b (joined first old) (neighbour_count first)
loses b rest first nothing cut = absurd (omega (arith, cut.some))
loses b rest first (piece s t i m) cut =
    let behind : IsBehind b rest first = behind_first b rest first s t i m cut.rest_is in
    let same : numbers_frozen b (joined first (piece s t i m)) (neighbour_count first) ≡ cut_order (first_rows b first) = ap cut_order (first_kept b first s t i m) in
    omega (
      arith,
      first_loss b rest first s t i m cut.problem behind cut.lawful,
      ap (λ (numbers : List ℕ). area_of (items_among numbers b.items)) same,
    )

loses_both : (b rest : Problem) (first old tail : Forest) → IsCut b rest first old → IsLawful b (joined first tail) →
    loss_of b (joined first tail) ≡ frozen_loss b (joined first old) (neighbour_count first) + loss_of rest tail
loses_both b rest first nothing tail cut lawful = absurd (omega (arith, cut.some))
loses_both b rest first (piece s t i m) nothing cut lawful =
    absurd (first_alone b rest first s t i m cut.rest_is.rules (behind_first b rest first s t i m cut.rest_is) (subst (IsLawful b) (joined_nothing first) lawful))
loses_both b rest first (piece s t i m) (piece size sort inner more) cut lawful =
    omega (
      arith,
      losses_joined b rest first size sort inner more (behind_first b rest first s t i m cut.rest_is),
      loses b rest first (piece s t i m) cut,
    )

-- the first plates of a plan and those behind them
is_cut : (b : Problem) (plan : Forest) (k : ℕ) (rest : Problem) → IsFrozen b plan k rest → IsCut b rest (first_plates k plan) (later_plates k plan)
is_cut b plan k rest h =
    let whole : joined (first_plates k plan) (later_plates k plan) ≡ plan = parted k plan in
    let many : neighbour_count (first_plates k plan) ≡ k = first_count k plan (omega (arith, h.fewer)) in
    record {
      problem = h.problem;
      lawful = subst (IsLawful b) (sym whole) h.lawful;
      some = some_behind k plan h.fewer;
      rest_is = rw (whole, many) h.rest_is;
    }

-- a plan that begins with them
begins_whole : (plan other : Forest) (k : ℕ) → BeginsWith k plan other → joined (first_plates k plan) (later_plates k other) ≡ other
begins_whole plan other k begins = ap (λ (first : Forest). joined first (later_plates k other)) (sym begins) ∙ parted k other

pub rest_is_planned : RestIsPlanned
rest_is_planned b plan k rest h other begins =
    subst (λ (q : Forest). IsLawful b q ↔ IsLawful rest (later_plates k other)) (begins_whole plan other k begins)
    (planned b rest (first_plates k plan) (later_plates k plan) (later_plates k other) (is_cut b plan k rest h))

pub rest_loses : RestLoses
rest_loses b plan k rest h other begins lawful =
    let whole : joined (first_plates k plan) (later_plates k plan) ≡ plan = parted k plan in
    let many : neighbour_count (first_plates k plan) ≡ k = first_count k plan (omega (arith, h.fewer)) in
    let mine : joined (first_plates k plan) (later_plates k other) ≡ other = begins_whole plan other k begins in
    ap (loss_of b) (sym mine)
    ∙ loses_both b rest (first_plates k plan) (later_plates k plan) (later_plates k other) (is_cut b plan k rest h) (subst (IsLawful b) (sym mine) lawful)
    ∙ ap (λ (q : Forest). frozen_loss b q (neighbour_count (first_plates k plan)) + loss_of rest (later_plates k other)) whole
    ∙ ap (λ (m : ℕ). frozen_loss b plan m + loss_of rest (later_plates k other)) many

pub whole_is_found : WholeIsFound
whole_is_found plan tail k le =
    let many : neighbour_count (first_plates k plan) ≡ k = first_count k plan le in
    (first_of_joined k (first_plates k plan) tail many, later_of_joined k (first_plates k plan) tail many)

-- the plates behind the first ones are a lawful plan of what is left
pub tail_lawful : (b : Problem) (plan : Forest) (k : ℕ) (rest : Problem) → IsProblem b → IsLawful b plan → k < neighbour_count plan → IsRest b plan k rest → IsLawful rest (later_plates k plan)
tail_lawful b plan k rest rules lawful fewer is =
    (rest_is_planned b plan k rest (record { problem = rules; lawful = lawful; fewer = fewer; rest_is = is }) plan refl).0 lawful
