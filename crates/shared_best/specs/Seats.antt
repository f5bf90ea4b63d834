-- The two words and a seat as contracts see them.
use Rattle.std.specs.Prelude.{◌≡◌, ℕ}
use Rattle.atomic_table.specs.Seated.{TableId}
use Rattle.shared_best.specs.declared.view.View.{View}

-- the two words: which they are, the first value of the best loss, how many tickets are to be used, and the floor that is told with them
pub record Words : Type 0 where
  pub table : TableId
  pub first : ℕ
  pub budget : ℕ
  pub floor : ℕ

-- a seat: which words it is of, and what it knows
pub record Seated : Type 0 where
  pub table : TableId
  pub view : View

-- the seat is one of these two words, and knows their first value
abbrev pub IsSeatOf : Words → Seated → Type 0
IsSeatOf w s = (s.table ≡ w.table) × (s.view.first ≡ w.first)
