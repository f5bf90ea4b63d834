-- A search, from its start boxes to its history.
use Rattle.std.specs.Prelude.{◌≡◌, ℕ, ◌+◌, ◌≤◌, List, min, sum_by, Option}
use Rattle.glass_base.specs.Problem.{Problem}
use Rattle.cut_model.specs.declared.steps.Trace.{Trace}
use Rattle.plan_box.specs.Ranges.{PlainBox}
use Rattle.cert_log.specs.declared.history.History.{History}
use Rattle.cert_log.specs.declared.history.Left.{Left}
use Rattle.cert_log.specs.Lawful.{IsBest, no_loss}
use Rattle.shared_best.specs.Seats.{Words, Seated}
use Rattle.box_workers.specs.declared.hand.Hand.{Hand}
use Rattle.box_workers.specs.Runs.{first_loss}
use Rattle.box_workers.specs.inner.Rounds.{HasEnded}
use Rattle.box_workers.specs.inner.Teamwork.{HasBegun, HaveBounds}

-- several workers have worked, or none, and then the caller until it ended
pub record HasSearched (b : Problem) (w : Words) (starts : ℕ) (boxes : List PlainBox) (workers : ℕ) (s t : Seated) (old new : Hand) (waiting : List PlainBox) : Type 0 where
  pub seat : Seated
  pub hand : Hand
  pub before : List PlainBox
  pub begun : HasBegun b w starts boxes workers s seat old hand before
  pub ended : HasEnded b w starts before seat t hand new waiting

-- a history has this floor, the notes of a hand, the boxes that it left open and those that wait, and the better of its plan and the first one
pub record Finishes (b : Problem) (n floor : ℕ) (k : Hand) (waiting : List PlainBox) (first : Option Trace) (h : History) : Type 0 where
  pub starts : h.starts ≡ n
  pub log : h.log ≡ k.log
  pub weighs : (weight : PlainBox → ℕ) → sum_by (λ (l : Left). weight l.bx) h.left.items ≡ sum_by (λ (l : Left). weight l.bx) k.left.items + sum_by weight waiting
  pub bounds : HaveBounds b h.left.items
  pub plan : IsBest b h.best h.plan
  pub best : h.best ≡ min (first_loss b first) k.loss
  pub small : first_loss b first ≤ no_loss
  pub floor_is : h.floor ≡ floor
