-- The boxes that were handled, and what was made of them.
use Rattle.std.specs.Prelude.{◌≡◌, ℕ, suc, ◌+◌, ◌≤◌, ◌==◌, cond, List, [], ◌++◌, length, map, sum_by, All, Contains, IsTrue}
use Rattle.plan_box.specs.Ranges.{Ranges, PlainBox, IsBox}
use Rattle.plan_box.specs.Decisions.{is_free}
use Rattle.cert_log.specs.declared.history.Act.{Act}
use Rattle.cert_log.specs.declared.history.Note.{Note}
use Rattle.cert_log.specs.Levels.{made_of, level, levels_upto}
use Rattle.cert_log.specs.Lawful.{numbered, times}

-- a box that was handled: its ticket, the best loss that was seen then and the loss that was probed, both in mm², and what was done with it
pub record Event : Type 0 where
  pub box : PlainBox
  pub ticket : ℕ
  pub seen : ℕ
  pub probed : ℕ
  pub act : Act

-- the note that tells of it
abbrev pub note_of : Event → Note
note_of e = record { id = e.box.id; ticket = e.ticket; act = e.act }

-- what was made of the box
abbrev pub made_by : ℕ → Event → List PlainBox
made_by starts e = made_of starts e.ticket e.act e.box

-- the boxes that were handled, and those that are left
abbrev pub all_boxes : List Event → List PlainBox → List PlainBox
all_boxes es left = map (λ (e : Event). e.box) es ++ left

-- the tickets of the boxes that were handled
abbrev pub tickets_of : List Event → List ℕ
tickets_of es = map (λ (e : Event). e.ticket) es

-- a box was split at a free variable
abbrev pub SplitsFree : List Ranges → Act → Type 0
SplitsFree rs (Act.Split step v) = IsTrue (is_free rs step v)
SplitsFree rs (Act.Closed cause threshold) = Unit {0}

-- what was handled and what is left is what there was at the start and what was made
pub record AreKept (starts : ℕ) (boxes : List PlainBox) (es : List Event) (left : List PlainBox) : Type 0 where
  pub starts_are : starts ≡ length boxes
  pub start_ids : numbered 0 boxes
  pub tickets : (x : ℕ) → times x (tickets_of es) ≤ 1
  pub valid : All (λ (e : Event). IsBox e.box × SplitsFree e.box.ranges e.act) es
  pub weighs : (h : PlainBox → ℕ) → sum_by h boxes + sum_by (λ (e : Event). sum_by h (made_by starts e)) es ≡ sum_by h (all_boxes es left)

-- they are the boxes of all levels, each once
pub record AreOfLevels (starts : ℕ) (boxes : List PlainBox) (es : List Event) (left : List PlainBox) : Type 0 where
  pub depth : ℕ
  pub levels_end : level starts (map note_of es) boxes (suc depth) ≡ []
  pub weighs : (h : PlainBox → ℕ) → sum_by h (all_boxes es left) ≡ sum_by h (levels_upto starts (map note_of es) boxes depth)
  pub once : (x : ℕ) → sum_by (λ (y : PlainBox). cond (y.id == x) 1 0) (all_boxes es left) ≤ 1
  pub among : (n : ℕ) (x : PlainBox) → Contains (level starts (map note_of es) boxes n) x → Contains (all_boxes es left) x
  pub placed : (x : PlainBox) → Contains (all_boxes es left) x → (n : ℕ) × Contains (level starts (map note_of es) boxes n) x

-- what was handled and what is left are the boxes of all levels, where each start box and each half that was made is one of them
abbrev pub BoxesAreOfLevels : Type 0
BoxesAreOfLevels = (starts : ℕ) (boxes : List PlainBox) (es : List Event) (left : List PlainBox) → AreKept starts boxes es left → AreOfLevels starts boxes es left
