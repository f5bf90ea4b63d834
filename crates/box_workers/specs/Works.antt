-- What one worker did, and what it shows of it.
use Rattle.std.specs.Prelude.{◌≡◌, ℕ, ◌+◌, ◌<◌, ◌≤◌, ◌⊎◌, List, [], ◌∷◌, ◌++◌, length, map, min, sum_by, AllPairs, Contains, Option, Some}
use Rattle.glass_base.specs.Problem.{Problem}
use Rattle.cut_model.specs.declared.steps.Trace.{Trace}
use Rattle.plan_box.specs.Bounds.{bound}
use Rattle.plan_box.specs.Ranges.{PlainBox}
use Rattle.cert_log.specs.declared.history.Left.{Left}
use Rattle.cert_log.specs.Lawful.{IsBest}
use Rattle.cert_log.specs.Events.{Event, note_of, made_by, all_boxes, tickets_of}
use Rattle.box_ring.specs.Arms.{ArmState, put, taken}
use Rattle.shared_best.specs.declared.view.View.{View}
use Rattle.shared_best.specs.Seats.{Words, Seated, IsSeatOf}
use Rattle.shared_best.specs.Words.{IsWhole}
use Rattle.box_workers.specs.declared.hand.Hand.{Hand}
use Rattle.box_workers.specs.declared.working.Rest.{Rest}
use Rattle.box_workers.specs.Runs.{least_loss, AreHandled, AreSeen, AreReached}

-- there is a plan, a complete trace of this loss
abbrev pub HasPlan : Problem → ℕ → Option Trace → Type 0
HasPlan b loss plan = (t : Trace) × (plan ≡ Some t) × IsBest b loss (Some t)

-- the hand's loss was lowered, with its plan, and announced; or all stayed as it was
abbrev pub IsBetter : Problem → View → View → Hand → Hand → Type 0
IsBetter b v u old new =
    ((new.loss < old.loss) × HasPlan b new.loss new.plan × (u.announced ≡ min v.announced new.loss))
    ⊎ ((new.loss ≡ old.loss) × (new.plan ≡ old.plan) × (u.announced ≡ v.announced))

-- what was seen with a box is at most the first value and what the seat had seen or announced before, and no less than what it has seen at last
pub record IsBetween (w : Words) (v u : View) (e : Event) : Type 0 where
  pub first : e.seen ≤ w.first
  pub seen : e.seen ≤ v.seen
  pub announced : e.seen ≤ v.announced
  pub later : u.seen ≤ e.seen

-- a worker handled these boxes, one after the other, and then drew these tickets in vain
pub record Worked (b : Problem) (w : Words) (s t : Seated) (old new : Hand) (es : List Event) (spent : List ℕ) : Type 0 where
  pub seat : IsSeatOf w t
  -- the tickets that it drew stand behind the earlier ones, and rise; there was a look for each box, and no other
  pub tickets : t.view.tickets ≡ s.view.tickets ++ (tickets_of es ++ spent)
  pub rising : AllPairs (λ (d : Event) (e : Event). d.ticket < e.ticket) es
  pub allowance : t.view.allowance + (length es + length spent) ≡ s.view.allowance
  pub looks : t.view.looks ≡ s.view.looks ++ map (λ (e : Event). (e.ticket, e.seen)) es
  pub seen : t.view.seen ≤ s.view.seen
  pub between : (e : Event) → Contains es e → IsBetween w s.view t.view e
  -- each box has its note, and was closed or split rightly
  pub log : new.log.items ≡ old.log.items ++ map note_of es
  pub handled : AreHandled b w old.loss es
  pub worker : new.worker ≡ old.worker
  -- the best loss that was probed is kept, with its plan, and announced
  pub loss : new.loss ≡ least_loss old.loss es
  pub better : IsBetter b s.view t.view old new
  -- with a whole seat, the least of all losses so far decides
  pub exact : IsWhole s.view → min w.first s.view.announced ≤ old.loss → AreSeen (min w.first s.view.announced) es × AreReached b (min w.first s.view.announced) es

-- these boxes, each with its bound
abbrev pub left_open : Problem → List PlainBox → List Left
left_open b xs = map (λ (x : PlainBox). record { bx = x; bound = bound b x.ranges }) xs

-- what an arm put are the halves of these boxes; what it took are the boxes, and those that were left
pub record Traffic (starts : ℕ) (old new : ArmState) (es : List Event) (left : List PlainBox) : Type 0 where
  pub puts : (weight : PlainBox → ℕ) → put weight new ≡ put weight old + sum_by (λ (e : Event). sum_by weight (made_by starts e)) es
  pub takes : (weight : PlainBox → ℕ) → taken weight new ≡ taken weight old + sum_by weight (all_boxes es left)

-- a ticket reached the budget, and the box that it was drawn for is left
abbrev pub IsInVain : ℕ → List ℕ → List PlainBox → Type 0
IsInVain budget spent left = (ticket : ℕ) × (x : PlainBox) × (spent ≡ ticket ∷ []) × (left ≡ x ∷ []) × (budget ≤ ticket)

-- why a worker rests: it found no box so many times in a row; or its last ticket reached the budget, and the box that it was drawn for is left
abbrev pub RestsFor : ℕ → List ℕ → List PlainBox → ℕ → Rest → Type 0
RestsFor budget spent left misses Rest.Idle = (spent ≡ []) × (left ≡ []) × (100000 ≤ misses)
RestsFor budget spent left misses Rest.Spent = IsInVain budget spent left

-- all that a worker did until memory ran out: it may have drawn a ticket in vain, and left open the box that it was drawn for
pub record BrokeOff (b : Problem) (w : Words) (s t : Seated) (old new : Hand) : Type 0 where
  pub events : List Event
  pub spent : List ℕ
  pub left : List PlainBox
  pub worked : Worked b w s t old new events spent
  pub left_is : new.left.items ≡ old.left.items ++ left_open b left
  pub in_vain : ((spent ≡ []) × (left ≡ [])) ⊎ IsInVain w.budget spent left

-- all that a worker did until it rested
pub record Works (b : Problem) (w : Words) (starts : ℕ) (s t : Seated) (old new : Hand) (before after : ArmState) (rest : Rest) : Type 0 where
  pub events : List Event
  pub spent : List ℕ
  pub left : List PlainBox
  pub worked : Worked b w s t old new events spent
  pub left_is : new.left.items ≡ old.left.items ++ left_open b left
  pub traffic : Traffic starts before after events left
  pub rests : RestsFor w.budget spent left after.misses rest
