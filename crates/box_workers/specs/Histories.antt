-- From what workers did to a lawful history, whatever their number.
use Rattle.std.specs.Prelude.{◌≡◌, ℕ, ◌+◌, ◌<◌, ◌≤◌, List, [], length, map, sum_by, All, Contains}
use Rattle.glass_base.specs.Problem.{Problem}
use Rattle.plan_box.specs.Bounds.{bound}
use Rattle.plan_box.specs.Frames.{frame_of}
use Rattle.plan_box.specs.Ranges.{PlainBox, IsBox}
use Rattle.cert_log.specs.declared.history.Left.{Left}
use Rattle.cert_log.specs.declared.history.History.{History}
use Rattle.cert_log.specs.Good.{IsFloor}
use Rattle.cert_log.specs.Levels.{level}
use Rattle.cert_log.specs.Lawful.{Course, numbered, times, once_below, Handled, IsBest, IsLawful}
use Rattle.cert_log.specs.Events.{Event, note_of, made_by, all_boxes, tickets_of, SplitsFree}

-- the boxes that were left open
abbrev pub left_boxes : List Left → List PlainBox
left_boxes lefts = map (λ (l : Left). l.bx) lefts

-- a box was handled rightly, where this is the best loss at last
pub record IsRight (b : Problem) (c : Course) (best : ℕ) (e : Event) : Type 0 where
  pub valid : IsBox e.box
  pub free : SplitsFree e.box.ranges e.act
  pub in_budget : e.ticket < c.budget
  pub right : Handled b c.floor c.first best e.box.ranges e.act

-- what all workers did together: each box with its note, and the tickets that were drawn in vain
pub record IsAccount (b : Problem) (c : Course) (h : History) (es : List Event) (spent : List ℕ) : Type 0 where
  pub of_instance : All (λ (x : PlainBox). x.frame ≡ frame_of b) c.boxes
  pub starts : h.starts ≡ length c.boxes
  pub ids : numbered 0 c.boxes
  pub log : h.log.items ≡ map note_of es
  pub right : (e : Event) → Contains es e → IsRight b c h.best e
  -- the tickets drawn are the numbers below their count, each once
  pub tickets : (x : ℕ) → times x (tickets_of es) + times x spent ≡ once_below x (length es + length spent)
  pub beyond : All (λ t. c.budget ≤ t) spent
  pub emptied : spent ≡ [] → h.left.items ≡ []
  -- what was handled and what is left is what there was and what was made
  pub weighs : (weight : PlainBox → ℕ) → sum_by weight c.boxes + sum_by (λ (e : Event). sum_by weight (made_by h.starts e)) es ≡ sum_by weight (all_boxes es (left_boxes h.left.items))
  pub bounds : All (λ (l : Left). l.bound ≡ bound b l.bx.ranges) h.left.items
  pub plan : IsBest b h.best h.plan
  pub best : h.best ≤ c.first
  -- no lawful plan loses less than the floor
  pub floor_is : h.floor ≡ c.floor
  pub least_is : IsFloor b c.floor

-- the history is lawful, and each box that was handled is a box of a level
pub record IsHistory (b : Problem) (c : Course) (h : History) (es : List Event) : Type 0 where
  pub lawful : IsLawful b c h
  pub placed : (e : Event) → Contains es e → (n : ℕ) × Contains (level h.starts h.log.items c.boxes n) e.box

-- what workers did together is a lawful history
abbrev pub AccountsAreLawful : Type 0
AccountsAreLawful = (b : Problem) (c : Course) (h : History) (es : List Event) (spent : List ℕ) → IsAccount b c h es spent → IsHistory b c h es
