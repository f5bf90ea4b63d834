-- What each kind of step tells the seat that makes it.
use Rattle.std.specs.Prelude.{◌≡◌, ℕ, ◌<◌, ◌≤◌, true, min}
use Rattle.atomic_table.specs.Table.{Me, Step}
use Rattle.shared_best.specs.declared.view.View.{View}
use Rattle.shared_best.specs.Words.{all_draws, times, share, IsWhole, looked, lowered, drawn, Settles}

-- what a seat has: its view, and the slots that it holds, of which there are none
abbrev pub Holding : Type 0
Holding = Me ℕ View

-- a look found r: no more than the seat saw before, than it announced and than the first value, and exactly the least of them where it is whole
pub record Looks (v : View) (r : ℕ) (w : View) : Type 0 where
  pub is : w ≡ looked v r
  pub seen : r ≤ v.seen
  pub announced : r ≤ v.announced
  pub first : v.live ≡ true → r ≤ v.first
  pub whole : v.live ≡ true → IsWhole v → r ≡ min v.first v.announced

-- a draw gave r, which is above each ticket that the seat drew before
pub record Draws (v : View) (r : ℕ) (w : View) : Type 0 where
  pub is : w ≡ drawn v r
  pub above : (x : ℕ) → 0 < times x v.tickets → x < r

-- the best loss was looked at
abbrev pub look_then : Step ℕ → Holding → ℕ → Holding → Type 0
look_then s before found after = Looks before.0 found after.0 × (after.1 ≡ before.1)

-- a loss was announced, which is the operand of the step
abbrev pub lower_then : Step ℕ → Holding → ℕ → Holding → Type 0
lower_then s before found after = (after.0 ≡ lowered before.0 s.first) × (after.1 ≡ before.1)

-- a ticket was drawn
abbrev pub draw_then : Step ℕ → Holding → ℕ → Holding → Type 0
draw_then s before found after = Draws before.0 found after.0 × (after.1 ≡ before.1)

-- nothing changed for the seat, its share is no more than all draws, and what holds of whole seats holds of it where it is whole
abbrev pub settle_then : Step ℕ → Holding → ℕ → Holding → Type 0
settle_then s before found after =
    (after ≡ before) × (share before.0 ≤ all_draws) × (before.0.live ≡ true → IsWhole before.0 → Settles before.0)
