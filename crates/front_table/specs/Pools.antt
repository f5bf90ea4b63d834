-- Labels by the row of the front that they lead to.
use Rattle.std.specs.Prelude.{◌≡◌, ℕ, ◌+◌, ◌<◌, ◌≤◌, ◌⊎◌, List, [], length, Contains, slice_index_or}
use Rattle.front_table.specs.declared.labels.FrontLabel.{FrontLabel}
use Rattle.front_table.specs.declared.moves.Move.{Move}
use Rattle.front_table.specs.Sets.{Fits, Held, HeldTo}

-- the labels that lead to a row
abbrev pub row_at : List (List FrontLabel) → ℕ → List FrontLabel
row_at rows n = slice_index_or rows n []

-- one of the labels that lead to a row stands for these sizes
abbrev pub HeldAt : List (List FrontLabel) → ℕ → ℕ → ℕ → Type 0
HeldAt rows n x y = Held (row_at rows n) x y

-- rows before one, and those behind another, have no labels
abbrev pub IsSpan : ℕ → ℕ → List (List FrontLabel) → Type 0
IsSpan low last rows = (n : ℕ) → (n < low) ⊎ (last < n) → row_at rows n ≡ []

-- what the labels of each row stood for they still do, and from this row on nothing has changed
pub record Spreads (g : ℕ) (old new : List (List FrontLabel)) : Type 0 where
  pub len : length new ≡ length old
  pub same : (n : ℕ) → g ≤ n → row_at new n ≡ row_at old n
  pub kept : (n x y right up : ℕ) → HeldTo (row_at old n) x y right up → HeldTo (row_at new n) x y right up

-- what a label stands for goes on by a move, as far as the sizes stay within these
unfoldable pub Joined : ℕ → ℕ → List (List FrontLabel) → FrontLabel → Move → Type 0
Joined along across rows label m = (x w y : ℕ) → Fits label x y → Fits m.label w y → x + w ≤ along → y ≤ across → HeldAt rows m.to (x + w) y

-- what is held at a row goes on by each of the moves
unfoldable pub GoesOn : ℕ → ℕ → List (List FrontLabel) → ℕ → List Move → Type 0
GoesOn along across rows n moves =
    (x y : ℕ) → HeldAt rows n x y → (m : Move) → Contains moves m → (w : ℕ) → Fits m.label w y → x + w ≤ along → y ≤ across → HeldAt rows m.to (x + w) y
