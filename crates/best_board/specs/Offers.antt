-- What becomes of a trace that is offered.
use Rattle.std.specs.Prelude.{◌≡◌, ◌<◌, ◌≤◌, List, [], ◌∷◌, ◌++◌, IfSome, Some}
use Rattle.cut_model.specs.declared.steps.Step.{Step}
use Rattle.plan_trace.specs.Claims.{IsComplete}
use Rattle.cert_log.specs.Lawful.{trace_loss}
use Rattle.best_board.specs.declared.entry.Offered.{Offered}
use Rattle.best_board.specs.Improvements.{last_loss, with_loss}
use Rattle.best_board.specs.Kept.{Kept, kept}

-- the answer to a trace of these steps, and what is kept behind it: it is broken, or the last plan loses no more, or it is entered
abbrev pub Offers : List Step → Kept → Kept → Offered → Type 0
Offers steps old new Offered.Broken = (¬ IsComplete old.instance steps) × (new ≡ old)
Offers steps old new (Offered.Late loss) =
    IsComplete old.instance steps × (last_loss old.found ≡ Some loss) × (loss ≤ trace_loss old.instance steps) × (new ≡ old)
Offers steps old new Offered.Entered =
    IsComplete old.instance steps × IfSome (last_loss old.found) (λ loss. trace_loss old.instance steps < loss)
    × (new ≡ kept old.instance (old.found ++ with_loss old.instance steps ∷ []))
