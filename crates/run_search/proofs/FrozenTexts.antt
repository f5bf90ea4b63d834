-- What `freeze` stores is right for what is left behind the first plates of the whole plan.
use Rattle.std.proofs.Common.{◌≡◌, ℕ, ◌<◌, ◌≤◌, sym, ap, subst, ◌∙◌, arith, Option, Some}
use Rattle.glass_base.specs.Problem.{Problem, IsProblem}
use Rattle.cut_model.specs.Lawful.{IsLawful}
use Rattle.cut_model.specs.Loss.{loss_of}
use Rattle.cut_model.specs.Tree.{Forest, nothing, piece, neighbour_count}
use Rattle.plan_csv.specs.Solutions.{solution_text}
use Rattle.plan_freeze.specs.Claims.{IsFrozen}
use Rattle.plan_freeze.specs.Frozen.{BeginsWith, first_plates, joined, later_plates}
use Rattle.plan_freeze.specs.Rests.{IsRest, frozen_loss}
use Rattle.plan_freeze.proofs.Forests.{first_count}
use Rattle.plan_freeze.proofs.FrozenLaw.{rest_is_planned, whole_is_found}
use Rattle.plan_freeze.proofs.LossesLeft.{plates_joined}
use Rattle.plan_freeze.proofs.SameRests.{rest_is_same}
use Rattle.plan_freeze.proofs.Wholes.{none_is_unlawful}
use Rattle.cert_log.specs.declared.certificate.Certificate.{Certificate}
use Rattle.cert_log.specs.Good.{IsGood}
use Rattle.cert_log.specs.Texts.{cert_text}
use Rattle.run_checks.specs.Checks.{root_ranges}
use Rattle.run_checks.specs.FrozenChecks.{IsAcceptedBehind, loss_behind}
use Rattle.run_checks.specs.Said.{SayBoth}

-- a lawful plan has a plate
some_plate : (rest : Problem) (tail : Forest) → IsProblem rest → IsLawful rest tail → 1 ≤ neighbour_count tail
some_plate rest nothing rules lawful = absurd (none_is_unlawful rest rules lawful)
some_plate rest (piece size sort inner later) rules lawful = omega arith

-- a plan of what is left behind the first plates of another one, and a certificate that is right for it
module _ (b : Problem) (plan : Forest) (k : ℕ) (rest : Problem) (tail : Forest) (c : Certificate) (frozen : IsFrozen b plan k rest) (lawful : IsLawful rest tail) where
  abbrev whole : Forest
  whole = joined (first_plates k plan) tail

  begins : BeginsWith k plan whole × (later_plates k whole ≡ tail)
  begins = whole_is_found plan tail k (omega (arith, frozen.fewer))

  more_plates : k < neighbour_count whole
  more_plates = omega (arith, plates_joined (first_plates k plan) tail, first_count k plan (omega (arith, frozen.fewer)), some_plate rest tail frozen.rest_is.rules lawful)

  -- behind the first plates of the whole plan the same is left, and they lose the same
  left_by_whole : IsRest b whole k rest × (frozen_loss b whole k ≡ frozen_loss b plan k)
  left_by_whole = rest_is_same b plan whole k rest frozen begins.0 more_plates

  pub same_loss : frozen_loss b whole k ≡ frozen_loss b plan k
  same_loss = left_by_whole.1

  -- so where the texts say both, they are right
  pub right_behind : c.loss ≡ Some (loss_of rest tail) → IsGood rest (root_ranges rest) c.loss c → SayBoth b (Some (solution_text b whole)) (cert_text c) (Some whole) c →
      IsAcceptedBehind b k (solution_text b whole) (cert_text c) whole rest c
  right_behind loss good said =
      let own : c.loss ≡ loss_behind rest k whole = loss ∙ ap (λ (t : Forest). Some (loss_of rest t)) (sym begins.1) in
      record {
        said = said;
        lawful = (rest_is_planned b plan k rest frozen whole begins.0).1 (subst (IsLawful rest) (sym begins.1) lawful);
        fewer = more_plates;
        rest_is = left_by_whole.0;
        good = subst (λ (o : Option ℕ). IsGood rest (root_ranges rest) o c) own good;
      }
