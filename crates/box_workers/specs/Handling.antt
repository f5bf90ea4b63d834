-- What the handling of one box does.
use Rattle.std.specs.Prelude.{◌≡◌, ℕ, ◌<◌, ◌≤◌, ◌⊎◌, List, [], ◌∷◌, ◌++◌, min, cond, nat_lt, IsTrue, Option, Some}
use Rattle.glass_base.specs.Problem.{Problem}
use Rattle.cut_model.specs.declared.steps.Trace.{Trace}
use Rattle.plan_trace.specs.Claims.{IsComplete}
use Rattle.plan_trace.specs.TraceRules.{Meets}
use Rattle.plan_box.specs.Bounds.{bound}
use Rattle.plan_box.specs.Decisions.{all_decided, is_free}
use Rattle.plan_box.specs.Leasts.{known, least_steps}
use Rattle.plan_box.specs.Ranges.{Ranges, PlainBox, IsBox}
use Rattle.plan_box.specs.Reasons.{IsRefuted, IsFirstReason}
use Rattle.cert_log.specs.declared.history.Act.{Act}
use Rattle.cert_log.specs.declared.history.Cause.{Cause}
use Rattle.cert_log.specs.Lawful.{no_loss, trace_loss}
use Rattle.cert_log.specs.Events.{Event, note_of, made_by}
use Rattle.shared_best.specs.declared.view.View.{View}
use Rattle.shared_best.specs.Seats.{Words, Seated}
use Rattle.shared_best.specs.Words.{looked, lowered, drawn, times, IsWhole}
use Rattle.box_workers.specs.declared.hand.Hand.{Hand}
use Rattle.box_workers.specs.declared.handling.Done.{Done}

-- nothing was done: all but the room in the log and the least values is as it was
pub record IsIdle (old new : Hand) : Type 0 where
  pub worker : new.worker ≡ old.worker
  pub log : new.log.items ≡ old.log.items
  pub left : new.left ≡ old.left
  pub plan : new.plan ≡ old.plan
  pub loss : new.loss ≡ old.loss
  pub scratch : new.scratch ≡ old.scratch

-- the box is not refuted, and its probe finds a plan
pub record Probes (b : Problem) (rs : List Ranges) : Type 0 where
  pub not_refuted : ¬ IsRefuted b rs
  pub decided : IsTrue (all_decided rs)
  pub meets : Meets b (least_steps (known b rs))

-- the probed loss of a box: the loss of the plan that its probe finds, or none
abbrev pub IsProbed : Problem → List Ranges → ℕ → Type 0
IsProbed b rs loss = (Probes b rs × (loss ≡ trace_loss b (least_steps (known b rs)))) ⊎ ((¬ Probes b rs) × (loss ≡ no_loss))

-- the draw of the ticket, and the look at the best loss
pub record IsLook (w : Words) (v : View) (e : Event) : Type 0 where
  pub fresh : (x : ℕ) → 0 < times x v.tickets → x < e.ticket
  pub in_budget : e.ticket < w.budget
  pub seen : e.seen ≤ v.seen
  pub announced : e.seen ≤ v.announced
  pub first : e.seen ≤ w.first
  pub whole : IsWhole v → e.seen ≡ min w.first v.announced

-- a probed loss below the hand's is announced, and nothing else
abbrev pub told : ℕ → ℕ → View → View
told loss probed v = cond (nat_lt probed loss) (lowered v probed) v

-- the plan of a probed loss below the hand's is kept; else the hand's plan stays
abbrev pub IsPlanAfter : Problem → List Ranges → ℕ → ℕ → Option Trace → Option Trace → Type 0
IsPlanAfter b rs loss probed old new =
    ((probed < loss) × ((t : Trace) × (new ≡ Some t) × (t.steps.items ≡ least_steps (known b rs)) × IsComplete b t.steps.items))
    ⊎ ((loss ≤ probed) × (new ≡ old))

-- what was done rightly with a box, where this loss was seen, and the hand had this loss after the probe, by this floor, if there is one
abbrev pub IsAct : Problem → ℕ → List Ranges → ℕ → ℕ → Act → Type 0
IsAct b floor rs seen loss (Act.Closed (Cause.Reason r) threshold) = (threshold ≡ seen) × IsFirstReason b rs r
IsAct b floor rs seen loss (Act.Closed Cause.Bound threshold) = (threshold ≡ min seen loss) × (¬ IsRefuted b rs) × (threshold ≤ bound b rs)
IsAct b floor rs seen loss (Act.Closed Cause.Floor threshold) = (threshold ≡ min seen loss) × (¬ IsRefuted b rs) × (0 < floor) × (threshold ≤ floor) × (threshold < no_loss)
IsAct b floor rs seen loss (Act.Closed Cause.Unsaid threshold) = ⊥
IsAct b floor rs seen loss (Act.Split step v) = (¬ IsRefuted b rs) × (bound b rs < min seen loss) × IsTrue (is_free rs step v)

-- one box was handled
pub record Handles (b : Problem) (w : Words) (x : PlainBox) (s t : Seated) (old new : Hand) (e : Event) : Type 0 where
  pub box : e.box ≡ x
  pub valid : IsBox x
  pub look : IsLook w s.view e
  pub probed : IsProbed b x.ranges e.probed
  pub seat : t.view ≡ told old.loss e.probed (looked (drawn s.view e.ticket) e.seen)
  pub act : IsAct b w.floor x.ranges e.seen new.loss e.act
  pub log : new.log.items ≡ old.log.items ++ note_of e ∷ []
  pub loss : new.loss ≡ min old.loss e.probed
  pub plan : IsPlanAfter b x.ranges old.loss e.probed old.plan new.plan
  pub worker : new.worker ≡ old.worker
  pub left : new.left ≡ old.left

-- the budget was spent: a ticket was drawn, and nothing else was done
pub record Spends (w : Words) (s t : Seated) (old new : Hand) : Type 0 where
  pub ticket : ℕ
  pub fresh : (x : ℕ) → 0 < times x s.view.tickets → x < ticket
  pub spent : w.budget ≤ ticket
  pub seat : t.view ≡ drawn s.view ticket
  pub idle : IsIdle old new

-- what is given back of a box that was handled: its halves, where it was split
abbrev pub Gives : ℕ → Event → Done → Type 0
Gives starts e Done.Closed = made_by starts e ≡ []
Gives starts e (Done.Split lower upper) = made_by starts e ≡ lower ∷ upper ∷ []
Gives starts e (Done.Spent x) = ⊥

-- the answer of the handling of a box: it was handled, or the budget was spent
abbrev pub Answers : Problem → Words → ℕ → PlainBox → Seated → Seated → Hand → Hand → Done → Type 0
Answers b w starts x s t old new (Done.Spent y) = (y ≡ x) × Spends w s t old new
Answers b w starts x s t old new d = (e : Event) × Handles b w x s t old new e × Gives starts e d
