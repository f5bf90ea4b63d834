-- What is decided of a box once its ticket is drawn.
use Rattle.std.specs.Prelude.{◌≡◌, ℕ, ◌<◌, ◌≤◌, List, min}
use Rattle.glass_base.specs.Problem.{Problem}
use Rattle.plan_box.specs.Ranges.{Ranges, PlainBox, IsBox}
use Rattle.cert_log.specs.declared.history.Act.{Act}
use Rattle.cert_log.specs.declared.history.Cause.{Cause}
use Rattle.cert_log.specs.Lawful.{no_loss}
use Rattle.shared_best.specs.declared.view.View.{View}
use Rattle.shared_best.specs.Seats.{Words, Seated}
use Rattle.shared_best.specs.Words.{looked, IsWhole}
use Rattle.box_workers.specs.declared.hand.Hand.{Hand}
use Rattle.box_workers.specs.Handling.{IsProbed, told, IsPlanAfter, IsAct}

-- the probe of a box, and what comes of it
pub record Improves (b : Problem) (rs : List Ranges) (probed : ℕ) (v w : View) (old new : Hand) : Type 0 where
  pub is_probed : IsProbed b rs probed
  pub seat : w ≡ told old.loss probed v
  pub loss : new.loss ≡ min old.loss probed
  pub plan : IsPlanAfter b rs old.loss probed old.plan new.plan

-- a box that is not refuted is closed by its bound, or for the floor, where there is one, if that reaches this loss
abbrev pub ClosesBy : ℕ → ℕ → ℕ → Cause → Type 0
ClosesBy bound floor loss (Cause.Reason r) = ⊥
ClosesBy bound floor loss Cause.Bound = loss ≤ bound
ClosesBy bound floor loss Cause.Floor = (0 < floor) × (loss ≤ floor) × (loss < no_loss)
ClosesBy bound floor loss Cause.Unsaid = ⊥

-- what was decided of a box, after this was seen and this was probed, and what came of the probe
pub record Decides (b : Problem) (w : Words) (x : PlainBox) (s t : Seated) (old new : Hand) (seen probed : ℕ) (act : Act) : Type 0 where
  pub valid : IsBox x
  pub before : seen ≤ s.view.seen
  pub announced : seen ≤ s.view.announced
  pub first : seen ≤ w.first
  pub whole : IsWhole s.view → seen ≡ min w.first s.view.announced
  pub improves : Improves b x.ranges probed (looked s.view seen) t.view old new
  pub is_act : IsAct b w.floor x.ranges seen new.loss act
  pub worker : new.worker ≡ old.worker
  pub log : new.log ≡ old.log
  pub left : new.left ≡ old.left
  pub spares : new.spares ≡ old.spares
