-- What several workers did, put together into one seat and one hand.
use Rattle.std.specs.Prelude.{◌≡◌, ℕ, ◌+◌, ◌<◌, ◌≤◌, ◌⊎◌, List, [], ◌++◌, map, min, reverse, sum_by, All, Contains}
use Rattle.std.specs.List.{range_with_len}
use Rattle.glass_base.specs.Problem.{Problem}
use Rattle.plan_box.specs.Bounds.{bound}
use Rattle.plan_box.specs.Ranges.{PlainBox}
use Rattle.cert_log.specs.declared.history.Left.{Left}
use Rattle.cert_log.specs.Lawful.{no_loss, IsBest}
use Rattle.cert_log.specs.Events.{Event, note_of, made_by, all_boxes, tickets_of}
use Rattle.box_ring.specs.Arms.{put, taken}
use Rattle.shared_best.specs.declared.view.View.{View}
use Rattle.shared_best.specs.Seats.{Words, Seated}
use Rattle.shared_best.specs.Words.{share}
use Rattle.box_workers.specs.declared.hand.Hand.{Hand}
use Rattle.box_workers.specs.declared.member.Member.{Member}
use Rattle.box_workers.specs.Histories.{left_boxes}
use Rattle.box_workers.specs.Runs.{least_loss, IsHandled}
use Rattle.box_workers.specs.inner.Members.{EachDone, IsNew, arms_of, numbers_of, share_of}

-- a box was handled rightly: what was seen with it is at least `lowest`, and the loss that its worker had then is at least `best`
pub record Stands (b : Problem) (w : Words) (lowest best : ℕ) (e : Event) : Type 0 where
  pub loss : ℕ
  pub handled : IsHandled b w loss e
  pub first : e.seen ≤ w.first
  pub seen : lowest ≤ e.seen
  pub least : best ≤ min loss e.probed

-- each box that was left open has its bound
abbrev pub HaveBounds : Problem → List Left → Type 0
HaveBounds b lefts = All (λ (l : Left). l.bound ≡ bound b l.bx.ranges) lefts

-- the seat and the hand hold all that was done with these boxes, and of these tickets that were drawn in vain
pub record IsTeamwork (b : Problem) (w : Words) (v : View) (k : Hand) (es : List Event) (spent : List ℕ) : Type 0 where
  -- the tickets that were drawn; there was a look for each box, and no other
  pub tickets : (weight : ℕ → ℕ) → sum_by weight v.tickets ≡ sum_by weight (tickets_of es) + sum_by weight spent
  pub looks : (weight : ℕ × ℕ → ℕ) → sum_by weight v.looks ≡ sum_by (λ (e : Event). weight (e.ticket, e.seen)) es
  pub beyond : All (λ t. w.budget ≤ t) spent
  -- each box has its note, and was closed or split rightly
  pub log : k.log.items ≡ map note_of es
  pub each : (e : Event) → Contains es e → Stands b w v.seen k.loss e
  -- the best loss that was probed is kept, with its plan, and announced
  pub loss : k.loss ≡ least_loss no_loss es
  pub announced : v.announced ≡ k.loss
  pub plan : IsBest b k.loss k.plan
  -- a box was left open only where a ticket was drawn in vain
  pub bounds : HaveBounds b k.left.items
  pub emptied : spent ≡ [] → k.left.items ≡ []

-- what one hand holds was put to what another holds: its notes, the boxes that it left open, and its plan, where that is better
pub record Joins (other old new : Hand) : Type 0 where
  pub log : new.log.items ≡ old.log.items ++ other.log.items
  pub left : new.left.items ≡ old.left.items ++ reverse other.left.items
  pub plan : ((other.loss < old.loss) × (new.loss ≡ other.loss) × (new.plan ≡ other.plan)) ⊎ ((old.loss ≤ other.loss) × (new.loss ≡ old.loss) × (new.plan ≡ old.plan))
  pub worker : new.worker ≡ old.worker
  pub scratch : new.scratch ≡ old.scratch
  pub leasts : new.leasts ≡ old.leasts

-- all that these workers did is put together into a seat, which was `first` before, and a hand
pub record Collects (b : Problem) (w : Words) (starts : ℕ) (olds news : List Member) (first s : Seated) (k : Hand) : Type 0 where
  pub events : List Event
  pub spent : List ℕ
  pub teamwork : IsTeamwork b w s.view k events spent
  -- what their arms put are the halves of these boxes; what they took are the boxes, and those that were left open
  pub puts : (weight : PlainBox → ℕ) → sum_by (put weight) (arms_of news) ≡ sum_by (put weight) (arms_of olds) + sum_by (λ (e : Event). sum_by weight (made_by starts e)) events
  pub takes : (weight : PlainBox → ℕ) → sum_by (taken weight) (arms_of news) ≡ sum_by (taken weight) (arms_of olds) + sum_by weight (all_boxes events (left_boxes k.left.items))
  pub share_is : share s.view ≡ share first.view + share_of olds

-- a stage of a search over start boxes: so much was done, so much is left open, and these boxes wait
pub record IsStage (b : Problem) (w : Words) (starts : ℕ) (boxes : List PlainBox) (v : View) (k : Hand) (es : List Event) (spent : List ℕ) (waiting : List PlainBox) : Type 0 where
  pub teamwork : IsTeamwork b w v k es spent
  pub weighs : (weight : PlainBox → ℕ) → sum_by weight boxes + sum_by (λ (e : Event). sum_by weight (made_by starts e)) es ≡ sum_by weight (all_boxes es (left_boxes k.left.items)) + sum_by weight waiting

-- so many workers, numbered from 0 on, have worked, each with a seat and a hand of its own; all that they did is put together into this seat and this hand
pub record IsTeam (b : Problem) (w : Words) (starts workers : ℕ) (s : Seated) (k : Hand) : Type 0 where
  pub olds : List Member
  pub news : List Member
  pub numbers : numbers_of olds ≡ reverse (range_with_len 0 workers)
  pub new : All (IsNew b) olds
  pub done : EachDone b w starts olds news
  pub first : Seated
  pub collected : Collects b w starts olds news first s k

-- several workers have worked, and the caller's turn is next; or it is to be the only one, and nothing was done
pub record HasBegun (b : Problem) (w : Words) (starts : ℕ) (boxes : List PlainBox) (workers : ℕ) (s t : Seated) (old new : Hand) (waiting : List PlainBox) : Type 0 where
  pub events : List Event
  pub spent : List ℕ
  pub stage : IsStage b w starts boxes t.view new events spent waiting
  pub share_is : share t.view ≡ share s.view
  pub allowance : w.budget < t.view.allowance
  pub one : workers ≡ 1 → (events ≡ []) × (spent ≡ []) × (t ≡ s) × (new ≡ old) × (waiting ≡ reverse boxes)
  pub team : 2 ≤ workers → IsTeam b w starts workers t new
