-- Which histories a search may leave.
use Rattle.std.specs.Prelude.{◌≡◌, ◌≢◌, ℕ, suc, ◌^◌, ◌+◌, ◌-◌, ◌*◌, ◌<◌, ◌≤◌, ◌==◌, nat_lt, List, [], ◌∷◌, ◌++◌, length, map, sum_by, count_by, cond, Option, Some, None, IsTrue, Contains, All}
use Rattle.glass_base.specs.Items.{area_of}
use Rattle.glass_base.specs.Problem.{Problem}
use Rattle.cut_model.specs.declared.steps.Step.{Step}
use Rattle.cut_model.specs.declared.steps.Trace.{Trace}
use Rattle.cut_model.specs.Steps.{length_of}
use Rattle.plan_trace.specs.Claims.{IsComplete}
use Rattle.plan_box.specs.Frames.{frame_of}
use Rattle.plan_box.specs.Ranges.{Ranges, PlainBox}
use Rattle.plan_box.specs.Decisions.{is_free}
use Rattle.plan_box.specs.Bounds.{bound}
use Rattle.plan_box.specs.Reasons.{IsRefuted, IsFirstReason}
use Rattle.cert_log.specs.declared.history.Cause.{Cause}
use Rattle.cert_log.specs.declared.history.Act.{Act}
use Rattle.cert_log.specs.declared.history.Note.{Note}
use Rattle.cert_log.specs.declared.history.Left.{Left}
use Rattle.cert_log.specs.declared.history.History.{History}
use Rattle.cert_log.specs.Good.{IsFloor, Reaches}
use Rattle.cert_log.specs.Levels.{level, levels_upto}

-- what a search was asked: its start boxes, the loss in mm² that it is to beat from the first, how many boxes it may handle, and the floor that no
-- lawful plan is below, 0 where it knows none
pub record Course : Type 0 where
  pub boxes : List PlainBox
  pub first : ℕ
  pub budget : ℕ
  pub floor : ℕ

-- stands for no plan where a loss is a number
abbrev pub no_loss : ℕ
no_loss = 2 ^ 64 - 1

-- the loss for which a number stands: none from `no_loss` on
abbrev pub loss_of : ℕ → Option ℕ
loss_of n = cond (nat_lt n no_loss) (Some n) None

-- how often a number stands in a list
abbrev pub times : ℕ → List ℕ → ℕ
times x xs = count_by (λ y. y == x) xs

-- once for a number below `n`, else never
abbrev pub once_below : ℕ → ℕ → ℕ
once_below x n = cond (nat_lt x n) 1 0

-- the numbers from this one on, as many as there are boxes
abbrev pub numbered : ℕ → List PlainBox → Type 0
numbered n [] = Unit {0}
numbered n (x ∷ xs) = (x.id ≡ n) × numbered (n + 1) xs

-- the identities of the boxes that were handled, and of those that were left open
abbrev pub ids_of : History → List ℕ
ids_of h = map (λ n. n.id) h.log.items ++ map (λ l. l.bx.id) h.left.items

-- the boxes of a level of the history
abbrev pub level_of : Course → History → ℕ → List PlainBox
level_of s h n = level h.starts h.log.items s.boxes n

-- a box was closed rightly: for the first reason that applies, or, where none does, by its bound, or by the floor, where there is one
abbrev pub ClosedFor : Problem → ℕ → ℕ → List Ranges → Cause → Type 0
ClosedFor b floor threshold rs Cause.Unsaid = ⊥
ClosedFor b floor threshold rs Cause.Floor = (0 < floor) × Reaches (loss_of threshold) floor
ClosedFor b floor threshold rs (Cause.Reason r) = IsFirstReason b rs r
ClosedFor b floor threshold rs Cause.Bound = ¬ IsRefuted b rs × Reaches (loss_of threshold) (bound b rs)

-- a box was handled rightly, where `first` was to be beaten at first and `best` at last
abbrev pub Handled : Problem → ℕ → ℕ → ℕ → List Ranges → Act → Type 0
Handled b floor first best rs (Act.Split step v) = ¬ IsRefuted b rs × (bound b rs < first) × IsTrue (is_free rs step v)
Handled b floor first best rs (Act.Closed cause threshold) = ClosedFor b floor threshold rs cause × (best ≤ threshold) × (threshold ≤ first)

-- the loss of a trace of these steps, in mm²: what its length has beside the items
abbrev pub trace_loss : Problem → List Step → ℕ
trace_loss b steps = b.params.height * length_of b steps - area_of b.items

-- `best` is the loss of the plan that is kept, and none where none is
abbrev pub IsBest : Problem → ℕ → Option Trace → Type 0
IsBest b best None = best ≡ no_loss
IsBest b best (Some t) = (best ≢ no_loss) × IsComplete b t.steps.items × (best ≡ trace_loss b t.steps.items)

-- what holds of the notes and the left boxes, whatever their order
pub record IsLawful (b : Problem) (s : Course) (h : History) : Type 0 where
  -- the start boxes are boxes of the instance, and are numbered; each ticket below the number of notes was drawn once
  pub of_instance : All (λ x. x.frame ≡ frame_of b) s.boxes
  pub starts_are : h.starts ≡ length s.boxes
  pub start_ids : numbered 0 s.boxes
  pub in_budget : length h.log.items ≤ s.budget
  pub tickets : (x : ℕ) → times x (map (λ n. n.ticket) h.log.items) ≡ once_below x (length h.log.items)
  -- the identities of the notes and of the left boxes are those of all levels, each once; the levels end
  pub depth : ℕ
  pub levels_end : level_of s h (suc depth) ≡ []
  pub same_ids : (weight : ℕ → ℕ) → sum_by weight (ids_of h) ≡ sum_by weight (map (λ x. x.id) (levels_upto h.starts h.log.items s.boxes depth))
  pub each_once : (x : ℕ) → times x (ids_of h) ≤ 1
  -- the box of each note was handled rightly
  pub handled : (n : ℕ) (x : PlainBox) (m : Note) → Contains (level_of s h n) x → Contains h.log.items m → m.id ≡ x.id → Handled b h.floor s.first h.best x.ranges m.act
  -- each left box is the level's box of its identity, kept with its bound
  pub left_is : (n : ℕ) (x : PlainBox) (l : Left) → Contains (level_of s h n) x → Contains h.left.items l → l.bx.id ≡ x.id → l.bx ≡ x
  pub bounds : (l : Left) → Contains h.left.items l → l.bound ≡ bound b l.bx.ranges
  -- the best loss is that of the plan
  pub best_is : IsBest b h.best h.plan
  pub best_first : h.best ≤ s.first
  -- no lawful plan loses less than the floor
  pub floor_is : h.floor ≡ s.floor
  pub least_is : IsFloor b h.floor
  -- a box is left open only where the budget is spent
  pub spent : h.left.items ≢ [] → length h.log.items ≡ s.budget

-- the history is lawful for some start boxes, first loss and budget
abbrev pub HasCourse : Problem → History → Type 0
HasCourse b h = (s : Course) × IsLawful b s h
