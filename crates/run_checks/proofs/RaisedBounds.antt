-- The bound behind the first plates of a plan, with what these plates lose.
use Rattle.std.proofs.Common.{◌≡◌, ℕ, ◌<◌, ◌≤◌, ◌+◌, ◌*◌, ◌^◌, arith, refl, sym, subst, Option, Some, None}
use Rattle.std.specs.Prelude.{IfSome, option_map}
use Rattle.std.proofs.Math.Nat.{mul-le-mul_left, mul-le-mul_right}
use Rattle.glass_base.specs.Plates.{Before}
use Rattle.glass_base.specs.Problem.{Problem, IsProblem}
use Rattle.glass_base.proofs.PlateLemmas.{before_within}
use Rattle.cut_model.specs.Lawful.{IsLawful as IsLawfulPlan}
use Rattle.cut_model.specs.Loss.{loss_of as plan_loss}
use Rattle.cut_model.specs.Tree.{Forest, neighbour_count}
use Rattle.loss_area.proofs.Balance.{balance}
use Rattle.plan_freeze.specs.Claims.{IsFrozen}
use Rattle.plan_freeze.specs.Frozen.{BeginsWith, later_plates}
use Rattle.plan_freeze.specs.Rests.{IsRest, frozen_loss}
use Rattle.plan_freeze.proofs.CallsLeft.{plates_within}
use Rattle.plan_freeze.proofs.FrozenLaw.{rest_is_planned, rest_loses, tail_lawful}
use Rattle.cert_log.specs.declared.certificate.Certificate.{Certificate}
use Rattle.cert_log.specs.Good.{Reaches}
use Rattle.cert_log.proofs.Covers.{bounds_each_plan}
use Rattle.run_checks.specs.FrozenChecks.{loss_behind}
use Rattle.run_checks.specs.inner.Checked.{IsRightBehind}
use Rattle.glass_base.specs.declared.limits.TheConstants.{MOST_SIDE}

-- a lawful plan loses no more than all plates have
pub loss_small : (b : Problem) (plan : Forest) → IsProblem b → IsLawfulPlan b plan → plan_loss b plan ≤ 400000000000
loss_small b plan problem lawful =
    let n : ℕ = neighbour_count plan in
    let within : Before b n ≤ 20000000 = omega (arith, before_within b n problem, plates_within b plan lawful, b.params.accepted.few_plates) in
    let glass : b.params.height * Before b n ≤ b.params.height * 20000000 = mul-le-mul_left b.params.height within in
    let high : b.params.height * 20000000 ≤ MOST_SIDE * 20000000 = mul-le-mul_right 20000000 b.params.accepted.height_limit in
    omega (arith, balance b plan problem lawful, glass, high)

-- with what the first plates lose, the loss and the bound stay small
raises : (more n least most : ℕ) → n ≤ least → more + least ≤ most → most ≤ 400000000000 → more + n < 2 ^ 64
raises more n least most le all few = omega (arith, le, all, few)

pub raises_some : (more least most : ℕ) (o : Option ℕ) → Reaches o least → more + least ≤ most → most ≤ 400000000000 → IfSome o (λ n. more + n < 2 ^ 64)
raises_some more least most None reaches all few = tt
raises_some more least most (Some n) reaches all few = raises more n least most reaches all few

-- so the bound stays small of a certificate that is right for what is left
pub right_raises : (b : Problem) (plan : Forest) (k : ℕ) (c : Certificate) → IsProblem b → IsLawfulPlan b plan → k < neighbour_count plan → IsRightBehind b plan k c → IfSome c.bound (λ n. frozen_loss b plan k + n < 2 ^ 64)
right_raises b plan k c rules lawful fewer right =
    let rest : Problem = right.0 in
    let tail : Forest = later_plates k plan in
    let is : IsRest b plan k rest = right.1 in
    let left : IsLawfulPlan rest tail = tail_lawful b plan k rest rules lawful fewer is in
    let loses : plan_loss b plan ≡ frozen_loss b plan k + plan_loss rest tail = rest_loses b plan k rest (record { problem = rules; lawful = lawful; fewer = fewer; rest_is = is }) plan refl lawful in
    raises_some (frozen_loss b plan k) (plan_loss rest tail) (plan_loss b plan) c.bound (bounds_each_plan rest 0 (loss_behind rest k plan) c is.rules right.2 tail left)
    (omega (arith, loses)) (loss_small b plan rules lawful)

reaches_raised : (more n : ℕ) (o : Option ℕ) → Reaches o n → Reaches (option_map (λ m. more + m) o) (more + n)
reaches_raised more n None reaches = reaches
reaches_raised more n (Some m) reaches = omega (arith, reaches)

-- a lawful plan that begins with these plates loses at least what they lose and a bound on what is left
pub bounds_behind : (b : Problem) (plan : Forest) (k : ℕ) (rest : Problem) (bound : Option ℕ) → IsFrozen b plan k rest → ((tail : Forest) → IsLawfulPlan rest tail → Reaches bound (plan_loss rest tail)) →
    (other : Forest) → BeginsWith k plan other → IsLawfulPlan b other → Reaches (option_map (λ n. frozen_loss b plan k + n) bound) (plan_loss b other)
bounds_behind b plan k rest bound frozen bounds other begins lawful =
    let more : ℕ = frozen_loss b plan k in
    let left : IsLawfulPlan rest (later_plates k other) = (rest_is_planned b plan k rest frozen other begins).0 lawful in
    subst (λ (n : ℕ). Reaches (option_map (λ m. more + m) bound) n) (sym (rest_loses b plan k rest frozen other begins lawful))
    (reaches_raised more (plan_loss rest (later_plates k other)) bound (bounds (later_plates k other) left))
