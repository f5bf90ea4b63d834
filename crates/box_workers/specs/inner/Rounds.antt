-- What one worker does, box after box.
use Rattle.std.specs.Prelude.{◌≡◌, ℕ, ◌+◌, ◌<◌, ◌≤◌, ◌⊎◌, List, [], ◌∷◌, ◌++◌, length, sum_by, All}
use Rattle.glass_base.specs.Problem.{Problem}
use Rattle.plan_box.specs.Frames.{frame_of}
use Rattle.plan_box.specs.Ranges.{PlainBox}
use Rattle.box_bound.specs.Leastings.{IsOf}
use Rattle.cert_log.specs.Lawful.{times}
use Rattle.cert_log.specs.Events.{Event, made_by, all_boxes, tickets_of}
use Rattle.box_ring.specs.Arms.{ArmState, put, taken}
use Rattle.shared_best.specs.Seats.{Words, Seated}
use Rattle.shared_best.specs.Words.{drawn}
use Rattle.box_workers.specs.declared.hand.Hand.{Hand}
use Rattle.box_workers.specs.Handling.{Handles, IsIdle}
use Rattle.box_workers.specs.Works.{Worked, left_open}
use Rattle.box_workers.specs.inner.Hands.{IsLike}

-- the tickets rise, so that there are few of them
abbrev pub AreFew : ℕ → List Event → Type 0
AreFew budget es = (es ≡ []) ⊎ ((x : ℕ) × (0 < times x (tickets_of es)) × (length es ≤ x + 1) × (x < budget))

-- the ticket that was drawn in vain, where the budget was spent; else no box waits
abbrev pub IsSpent : ℕ → List PlainBox → List ℕ → Type 0
IsSpent budget waiting spent = ((spent ≡ []) × (waiting ≡ [])) ⊎ ((ticket : ℕ) × (spent ≡ ticket ∷ []) × (budget ≤ ticket))

-- a worker over a list of boxes so far: what it did, and what waits
pub record HasRun (b : Problem) (w : Words) (starts : ℕ) (boxes : List PlainBox) (s t : Seated) (old new : Hand) (waiting : List PlainBox) (es : List Event) (spent : List ℕ) : Type 0 where
  pub worked : Worked b w s t old new es spent
  pub left : new.left.items ≡ old.left.items
  pub few : AreFew w.budget es
  pub scratch : length new.scratch.steps.items ≡ length b.items
  pub leasts : IsOf b new.leasts
  pub weighs : (weight : PlainBox → ℕ) → sum_by weight boxes + sum_by (λ (e : Event). sum_by weight (made_by starts e)) es ≡ sum_by weight (all_boxes es waiting)
  pub frames : All (λ (x : PlainBox). x.frame ≡ frame_of b) waiting

-- a box was handled, and its halves wait
pub record Turns (b : Problem) (w : Words) (starts : ℕ) (x : PlainBox) (s t : Seated) (old new : Hand) (before after : List PlainBox) : Type 0 where
  pub event : Event
  pub handles : Handles b w x s t old new event
  pub waits : (weight : PlainBox → ℕ) → sum_by weight after ≡ sum_by weight before + sum_by weight (made_by starts event)

-- a worker over a list of boxes has ended
pub record HasEnded (b : Problem) (w : Words) (starts : ℕ) (boxes : List PlainBox) (s t : Seated) (old new : Hand) (waiting : List PlainBox) : Type 0 where
  pub events : List Event
  pub spent : List ℕ
  pub run : HasRun b w starts boxes s t old new waiting events spent
  pub is_spent : IsSpent w.budget waiting spent

-- a box was left open with its bound, and nothing else was done
pub record Leaves (b : Problem) (x : PlainBox) (old new : Hand) : Type 0 where
  pub like : IsLike old new
  pub left : new.left.items ≡ old.left.items ++ left_open b (x ∷ [])

-- a ticket was drawn in vain, and the box that it was drawn for was left open
pub record Stops (b : Problem) (w : Words) (x : PlainBox) (s t : Seated) (old new : Hand) : Type 0 where
  pub ticket : ℕ
  pub spent : w.budget ≤ ticket
  pub seat : t.view ≡ drawn s.view ticket
  pub leaves : Leaves b x old new

-- memory ran out: nothing was done with a box, or it was handled
abbrev pub BreaksOff : Problem → Words → PlainBox → Seated → Seated → Hand → Hand → Type 0
BreaksOff b w x s t old new = ((t ≡ s) × IsIdle old new) ⊎ ((e : Event) × Handles b w x s t old new e)

-- of the boxes at hand an arm put those that are at hand no more, and it took these
pub record Moves (before after : List PlainBox) (took : List PlainBox) (old new : ArmState) : Type 0 where
  pub puts : (weight : PlainBox → ℕ) → put weight new + sum_by weight after ≡ put weight old + sum_by weight before
  pub takes : (weight : PlainBox → ℕ) → taken weight new ≡ taken weight old + sum_by weight took

-- so far a worker handled these boxes: their halves are what its arm put and what is at hand; the boxes are what its arm took
pub record Midway (starts : ℕ) (old new : ArmState) (es : List Event) (at_hand : List PlainBox) : Type 0 where
  pub puts : (weight : PlainBox → ℕ) → put weight new + sum_by weight at_hand ≡ put weight old + sum_by (λ (e : Event). sum_by weight (made_by starts e)) es
  pub takes : (weight : PlainBox → ℕ) → taken weight new ≡ taken weight old + sum_by (λ (e : Event). weight e.box) es
