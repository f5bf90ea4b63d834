-- The improvements of a search.
use Rattle.std.specs.Prelude.{◌≡◌, List, Option, option_map}
use Rattle.glass_base.specs.Problem.{Problem}
use Rattle.cut_model.specs.declared.steps.Step.{Step}
use Rattle.cut_model.specs.declared.steps.Trace.{Trace}
use Rattle.best_board.specs.Improvements.{AreImprovements, Found, last_loss}
use Rattle.best_board.specs.Settles.{Settles}
use Rattle.cert_log.specs.declared.history.History.{History}
use Rattle.cert_log.specs.Lawful.{loss_of}

-- the steps of a plan, if there is one
abbrev pub steps_of : Option Trace → Option (List Step)
steps_of plan = option_map (λ (t : Trace). t.steps.items) plan

-- these are the improvements of a search from this first plan on, whose history is this one
pub record AreOfSearch (b : Problem) (first : Option (List Step)) (h : History) (list : List Found) : Type 0 where
  -- each loses less than those before it, and the last one as much as the best plan; where there is no plan, there are none
  pub improvements : AreImprovements b list
  pub last : last_loss list ≡ loss_of h.best
  -- they begin with the first plan and end with the best one; in between stand those of these that lie between
  pub board : List Found
  pub settles : Settles b first (steps_of h.plan) board list
