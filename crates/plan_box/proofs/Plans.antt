-- What holds of the traces in a box holds of the lawful plans in it, since their traces meet the rules.
use Rattle.std.proofs.Common.{ℕ, ◌≤◌, List, arith}
use Rattle.glass_base.specs.Problem.{Problem, IsProblem}
use Rattle.cut_model.specs.Lawful.{IsLawful}
use Rattle.cut_model.specs.Loss.{loss_of}
use Rattle.cut_model.specs.Traces.{trace_of}
use Rattle.cut_model.specs.Tree.{Forest}
use Rattle.plan_trace.proofs.Lawful.{lawful_meets}
use Rattle.plan_trace.proofs.Loss.{lawful_loses}
use Rattle.plan_box.specs.Bounds.{bound}
use Rattle.plan_box.specs.Plans.{HoldsPlan}
use Rattle.plan_box.specs.Ranges.{Ranges, root_of}
use Rattle.plan_box.specs.Frames.{frame_of}
use Rattle.plan_box.specs.Reasons.{IsRefuted}
use Rattle.plan_box.proofs.Cover.{bound_sound, reason_sound}
use Rattle.plan_box.proofs.Shared.{root_holds}

module _ (b : Problem) (rules : IsProblem b) (plan : Forest) (lawful : IsLawful b plan) where
  -- the root holds every lawful plan
  pub root_holds_plan : (id : ℕ) → HoldsPlan b (root_of (frame_of b) id).ranges plan
  root_holds_plan id = root_holds b id (trace_of b plan) (lawful_meets b rules plan lawful)

  -- a refuted box holds no lawful plan
  pub refuted_holds_none : (rs : List Ranges) → IsRefuted b rs → ¬ HoldsPlan b rs plan
  refuted_holds_none rs refuted holds =
      reason_sound b rules b.params.accepted.high rs (trace_of b plan) holds (lawful_meets b rules plan lawful) refuted.0 refuted.1

  -- the bound is at most the loss of each lawful plan in the box
  pub bound_of_plan : (rs : List Ranges) → HoldsPlan b rs plan → bound b rs ≤ loss_of b plan
  bound_of_plan rs holds =
      omega (
        arith,
        bound_sound b rules b.params.accepted.high rs (trace_of b plan) holds (lawful_meets b rules plan lawful),
        lawful_loses b rules plan lawful,
      )
