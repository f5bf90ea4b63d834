-- Plans that were found one after another, each of which loses less than those before it.
use Rattle.std.specs.Prelude.{◌≡◌, ℕ, ◌<◌, List, [], ◌∷◌, All, AllPairs, map, Option, Some, None}
use Rattle.glass_base.specs.Problem.{Problem}
use Rattle.cut_model.specs.declared.steps.Step.{Step}
use Rattle.plan_trace.specs.Claims.{IsComplete}
use Rattle.cert_log.specs.Lawful.{trace_loss}
use Rattle.best_board.specs.declared.entry.Entry.{Entry}

-- a plan that was found, by the steps of its trace, with its loss in mm²
pub record Found : Type 0 where
  pub loss : ℕ
  pub steps : List Step

-- the plan of an entry
abbrev pub found : Entry → Found
found e = record { loss = e.loss; steps = e.trace.steps.items }

abbrev pub found_in : List Entry → List Found
found_in entries = map found entries

-- the plan of these steps, with the loss that they have
abbrev pub with_loss : Problem → List Step → Found
with_loss b steps = record { loss = trace_loss b steps; steps = steps }

-- the trace has a step for each item, meets the rules and has this loss
pub record IsImprovement (b : Problem) (f : Found) : Type 0 where
  pub complete : IsComplete b f.steps
  pub loss_is : f.loss ≡ trace_loss b f.steps

-- plans of the instance, each of which loses less than those before it
pub record AreImprovements (b : Problem) (fs : List Found) : Type 0 where
  pub each : All (IsImprovement b) fs
  pub falling : AllPairs (λ (earlier : Found) (later : Found). later.loss < earlier.loss) fs

-- the loss of the last plan, if there is one
abbrev pub last_loss : List Found → Option ℕ
last_loss [] = None
last_loss (f ∷ []) = Some f.loss
last_loss (f ∷ g ∷ fs) = last_loss (g ∷ fs)
