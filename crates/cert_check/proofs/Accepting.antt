-- A right certificate fails no check, but that its floor is shown.
use Rattle.std.proofs.Common.{◌≡◌, ℕ, inl, inr, List, Option}
use Rattle.glass_base.specs.Problem.{Problem}
use Rattle.plan_box.specs.Ranges.{Ranges}
use Rattle.cert_log.specs.declared.certificate.Certificate.{Certificate}
use Rattle.cert_log.specs.declared.certificate.Node.{Node}
use Rattle.cert_log.specs.declared.history.Cause.{Cause}
use Rattle.cert_log.specs.Good.{IsGood}
use Rattle.cert_log.specs.Visits.{Visit}
use Rattle.cert_check.specs.declared.verdict.Why.{Why}
use Rattle.cert_check.specs.Faults.{FailsToClose, FirstFails, IsFirstFault, IsFloorFault, NodeFails, SaysWrong}

not_of_cause : (b : Problem) (floor : ℕ) (loss : Option ℕ) (rs : List Ranges) (cause : Cause) (said found : ℕ) → FailsToClose b floor loss rs cause (Why.WrongFloor said found) → ⊥
not_of_cause b floor loss rs (Cause.Reason r) said found fails = let e = fails.1.2 in cc e
not_of_cause b floor loss rs Cause.Bound said found fails = let e = fails.1 in cc e
not_of_cause b floor loss rs Cause.Floor said found fails = let e = fails.1 in cc e
not_of_cause b floor loss rs Cause.Unsaid said found fails = let e = fails.1.1 in cc e

not_of_node : (b : Problem) (floor : ℕ) (loss : Option ℕ) (rs : List Ranges) (n : Node) (said found : ℕ) → NodeFails b floor loss rs n (Why.WrongFloor said found) → ⊥
not_of_node b floor loss rs (Node.Split step v) said found fails = let e = fails.1 in cc e
not_of_node b floor loss rs (Node.Closed cause) said found fails = not_of_cause b floor loss rs cause said found fails
not_of_node b floor loss rs Node.Left said found fails = fails

-- only the check of the floor says that it was not shown
of_floor : (b : Problem) (loss : Option ℕ) (c : Certificate) (xs : List Visit) (line said found : ℕ) → FirstFails b loss c xs line (Why.WrongFloor said found) → IsFloorFault b c line (Why.WrongFloor said found)
of_floor b loss c xs line said found (inl f) = absurd (let e = f.2 in cc e)
of_floor b loss c xs line said found (inr (inl f)) = absurd (let x = f.1 in not_of_node b c.floor loss x.here.ranges x.here.node said found x.fails)
of_floor b loss c xs line said found (inr (inr (inl f))) = absurd (let e = f.4 in cc e)
of_floor b loss c xs line said found (inr (inr (inr (inl f)))) = absurd (let e = f.5 in cc e)
of_floor b loss c xs line said found (inr (inr (inr (inr f)))) = f.4

-- what a right certificate fails is the check of its floor
pub only_floor : (b : Problem) (rs : List Ranges) (loss : Option ℕ) (c : Certificate) (line : ℕ) (why : Why) → IsGood b rs loss c → IsFirstFault b rs loss c line why → SaysWrong b rs loss c why → IsFloorFault b c line why
only_floor b rs loss c line (Why.WrongLoss said found) good first wrong = absurd (wrong good)
only_floor b rs loss c line (Why.Split step v) good first wrong = absurd (wrong good)
only_floor b rs loss c line (Why.NotClosed bound to_beat) good first wrong = absurd (wrong good)
only_floor b rs loss c line (Why.WrongCause said found) good first wrong = absurd (wrong good)
only_floor b rs loss c line (Why.WrongOpen said found) good first wrong = absurd (wrong good)
only_floor b rs loss c line (Why.WrongBound said found) good first wrong = absurd (wrong good)
only_floor b rs loss c line (Why.WrongFloor said found) good first wrong = of_floor b loss c _ line said found first.fails
