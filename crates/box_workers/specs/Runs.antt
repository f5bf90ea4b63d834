-- What the seat of a search shows of the boxes that were handled.
use Rattle.std.specs.Prelude.{◌≡◌, ℕ, ◌+◌, ◌<◌, ◌≤◌, List, [], ◌∷◌, ◌++◌, map, min, sum_by, All, AllPairs, Contains, Option, Some, None}
use Rattle.glass_base.specs.Problem.{Problem}
use Rattle.cut_model.specs.declared.steps.Trace.{Trace}
use Rattle.plan_trace.specs.Claims.{IsComplete}
use Rattle.plan_box.specs.Bounds.{bound}
use Rattle.plan_box.specs.Frames.{frame_of}
use Rattle.plan_box.specs.Ranges.{Ranges, PlainBox, IsBox}
use Rattle.cert_log.specs.declared.history.Act.{Act}
use Rattle.cert_log.specs.declared.history.History.{History}
use Rattle.cert_log.specs.Levels.{level}
use Rattle.cert_log.specs.Lawful.{Course, no_loss, trace_loss}
use Rattle.cert_log.specs.Events.{Event, note_of, tickets_of}
use Rattle.shared_best.specs.declared.view.View.{View}
use Rattle.shared_best.specs.Seats.{Words}
use Rattle.box_workers.specs.Handling.{IsProbed, IsAct}

-- the loss of a first trace, or none
abbrev pub first_loss : Problem → Option Trace → ℕ
first_loss b None = no_loss
first_loss b (Some t) = trace_loss b t.steps.items

-- a first trace has a step for each item, and meets the rules
abbrev pub IsFirst : Problem → Option Trace → Type 0
IsFirst b None = Unit {0}
IsFirst b (Some t) = IsComplete b t.steps.items

-- what a search was asked
abbrev pub course_of : List PlainBox → Words → Course
course_of boxes w = record { boxes = boxes; first = w.first; budget = w.budget; floor = w.floor }

-- the least of this loss and the probed losses of the boxes that were handled
abbrev pub least_loss : ℕ → List Event → ℕ
least_loss loss [] = loss
least_loss loss (e ∷ es) = least_loss (min loss e.probed) es

-- a threshold is at most what was seen, and the bound of a box that was split is below that
abbrev pub Within : Problem → List Ranges → ℕ → Act → Type 0
Within b rs seen (Act.Closed cause threshold) = threshold ≤ seen
Within b rs seen (Act.Split step v) = bound b rs < seen

-- a box was handled by a worker whose loss was this one before
pub record IsHandled (b : Problem) (w : Words) (loss : ℕ) (e : Event) : Type 0 where
  pub frame : e.box.frame ≡ frame_of b
  pub valid : IsBox e.box
  pub probed : IsProbed b e.box.ranges e.probed
  pub in_budget : e.ticket < w.budget
  pub act : IsAct b w.floor e.box.ranges e.seen (min loss e.probed) e.act

-- these boxes were handled in this order by a worker whose loss was this one before
abbrev pub AreHandled : Problem → Words → ℕ → List Event → Type 0
AreHandled b w loss [] = Unit {0}
AreHandled b w loss (e ∷ es) = IsHandled b w loss e × AreHandled b w (min loss e.probed) es

-- each look saw exactly the least of this loss and the probed losses of the boxes before
abbrev pub AreSeen : ℕ → List Event → Type 0
AreSeen loss [] = Unit {0}
AreSeen loss (e ∷ es) = (e.seen ≡ loss) × AreSeen (min loss e.probed) es

-- a threshold is this loss, and the bound of a box that was split is below it
abbrev pub Reached : Problem → List Ranges → ℕ → Act → Type 0
Reached b rs loss (Act.Closed cause threshold) = threshold ≡ loss
Reached b rs loss (Act.Split step v) = bound b rs < loss

-- each box was closed or split by the least of this loss and the probed losses up to its own
abbrev pub AreReached : Problem → ℕ → List Event → Type 0
AreReached b loss [] = Unit {0}
AreReached b loss (e ∷ es) = Reached b e.box.ranges (min loss e.probed) e.act × AreReached b (min loss e.probed) es

-- what one worker alone did, in order: it saw the best loss exactly, and its tickets rise; no one else drew or looked
pub record IsAlone (b : Problem) (w : Words) (v : View) (events : List Event) (spent : List ℕ) : Type 0 where
  pub handled : AreHandled b w no_loss events
  pub seen : AreSeen w.first events
  pub reached : AreReached b w.first events
  pub rising : AllPairs (λ (d : Event) (e : Event). d.ticket < e.ticket) events
  pub tickets : v.tickets ≡ tickets_of events ++ spent
  pub looks : v.looks ≡ map (λ (e : Event). (e.ticket, e.seen)) events

-- what the seat shows of a search by so many workers
pub record Shows (b : Problem) (w : Words) (boxes : List PlainBox) (workers : ℕ) (v : View) (h : History) : Type 0 where
  -- the boxes that were handled, in the order of the notes: each is a box of a level, and was probed
  pub events : List Event
  pub log : h.log.items ≡ map note_of events
  pub placed : (e : Event) → Contains events e → (n : ℕ) × Contains (level h.starts h.log.items boxes n) e.box
  pub valid : (e : Event) → Contains events e → IsBox e.box
  pub probed : (e : Event) → Contains events e → IsProbed b e.box.ranges e.probed
  -- the tickets that were drawn are those of the notes, below the budget, and those that were drawn in vain
  pub spent : List ℕ
  pub beyond : All (λ t. w.budget ≤ t) spent
  pub tickets : (weight : ℕ → ℕ) → sum_by weight v.tickets ≡ sum_by weight (tickets_of events) + sum_by weight spent
  pub in_budget : (e : Event) → Contains events e → e.ticket < w.budget
  -- there was a look for each note, and no other
  pub looks : (weight : ℕ × ℕ → ℕ) → sum_by weight v.looks ≡ sum_by (λ (e : Event). weight (e.ticket, e.seen)) events
  pub within : (e : Event) → Contains events e → Within b e.box.ranges e.seen e.act
  -- the least probed loss was announced, and the best loss at last is the least of it and the first one
  pub announced : v.announced ≡ least_loss no_loss events
  pub best : h.best ≡ min w.first (least_loss no_loss events)
  pub alone : workers ≡ 1 → IsAlone b w v events spent
