-- What a hand holds.
use Rattle.std.specs.Prelude.{◌≡◌, ℕ, ◌⊎◌, [], ◌∷◌, ◌++◌, length, Option, Some, None}
use Rattle.glass_base.specs.Problem.{Problem}
use Rattle.cut_model.specs.declared.steps.Trace.{Trace}
use Rattle.box_bound.specs.Leastings.{IsOf}
use Rattle.cert_log.specs.declared.history.Note.{Note}
use Rattle.cert_log.specs.Lawful.{no_loss}
use Rattle.box_workers.specs.declared.hand.Hand.{Hand}

-- a hand with no notes and no plan
pub record IsFresh (b : Problem) (k : Hand) : Type 0 where
  pub log : k.log.items ≡ []
  pub plan : k.plan ≡ None
  pub loss : k.loss ≡ no_loss
  pub scratch : length k.scratch.steps.items ≡ length b.items
  pub leasts : IsOf b k.leasts

-- the same worker with the same notes, plan and loss
pub record IsLike (old new : Hand) : Type 0 where
  pub worker : new.worker ≡ old.worker
  pub log : new.log.items ≡ old.log.items
  pub plan : new.plan ≡ old.plan
  pub loss : new.loss ≡ old.loss

-- there is a trace, and it has so many steps
abbrev pub Serves : ℕ → Option Trace → Type 0
Serves items None = ⊥
Serves items (Some t) = length t.steps.items ≡ items

-- the plan's trace or the spare one can be the next scratch
abbrev pub CanKeep : Problem → Option Trace → Option Trace → Type 0
CanKeep b plan spare = Serves (length b.items) plan ⊎ Serves (length b.items) spare

-- the scratch is the plan, and has this loss
pub record IsKept (b : Problem) (loss : ℕ) (old new : Hand) : Type 0 where
  pub plan : new.plan ≡ Some old.scratch
  pub loss_is : new.loss ≡ loss
  pub scratch : length new.scratch.steps.items ≡ length b.items
  pub worker : new.worker ≡ old.worker
  pub log : new.log ≡ old.log
  pub left : new.left ≡ old.left
  pub spares : new.spares ≡ old.spares

-- a note was written, and nothing else was done
pub record IsNoted (n : Note) (old new : Hand) : Type 0 where
  pub log : new.log.items ≡ old.log.items ++ n ∷ []
  pub worker : new.worker ≡ old.worker
  pub left : new.left ≡ old.left
  pub plan : new.plan ≡ old.plan
  pub loss : new.loss ≡ old.loss
  pub scratch : new.scratch ≡ old.scratch
  pub leasts : new.leasts ≡ old.leasts
