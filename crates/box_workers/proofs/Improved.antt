-- The plan with which a search begins, and its best one.
use Rattle.std.proofs.Common.{ℕ, ◌<◌, ◌≤◌, Option, Some, None, IfSome, arith}
use Rattle.glass_base.specs.Problem.{Problem}
use Rattle.cut_model.specs.declared.steps.Trace.{Trace}
use Rattle.plan_trace.specs.Claims.{IsComplete}
use Rattle.cert_log.specs.Lawful.{IsBest, no_loss}
use Rattle.best_board.specs.Settles.{IsNoWorse}
use Rattle.box_workers.specs.Runs.{IsFirst, first_loss}
use Rattle.box_workers.specs.Watched.{steps_of}

-- where a search begins with a plan, it has a best one, which loses no more
pub no_worse : (b : Problem) (first : Option Trace) (best : ℕ) (plan : Option Trace) → IsBest b best plan → best ≤ first_loss b first → IfSome first (λ _. first_loss b first < no_loss) → IsNoWorse b (steps_of first) (steps_of plan)
no_worse b None best plan is least small = tt
no_worse b (Some t) best None is least small = absurd (omega (arith, is, least, small))
no_worse b (Some t) best (Some u) is least small = omega (arith, is.2, least)

-- and the plan with which it begins is complete
pub first_complete : (b : Problem) (first : Option Trace) → IsFirst b first → IfSome (steps_of first) (IsComplete b)
first_complete b None is = tt
first_complete b (Some t) is = is
