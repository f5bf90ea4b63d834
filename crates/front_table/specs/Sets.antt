-- Sets of sizes, as the rule of least waste makes them, and labels, which are pairs of such sets.
use Rattle.std.specs.Prelude.{◌≡◌, ℕ, ◌+◌, ◌≤◌, ◌⊎◌, List, Contains}
use Rattle.front_table.specs.declared.sets.SizeSet.{SizeSet}
use Rattle.front_table.specs.declared.labels.FrontLabel.{FrontLabel}

-- the least size, and all that are at least `more` greater
abbrev pub Has : SizeSet → ℕ → Type 0
Has s x = (x ≡ s.least) ⊎ (s.least + s.more ≤ x)

-- a label stands for a size along which pieces are added and one across, which they share
abbrev pub Fits : FrontLabel → ℕ → ℕ → Type 0
Fits l x y = Has l.along x × Has l.across y

-- one of the labels stands for these sizes
unfoldable pub Held : List FrontLabel → ℕ → ℕ → Type 0
Held labels x y = (l : FrontLabel) × Contains labels l × Fits l x y

-- the same, of pieces behind which, around defects, the next one can begin at `right`, and which reach up to `up` at the most
abbrev pub Stands : FrontLabel → ℕ → ℕ → ℕ → ℕ → Type 0
Stands l x y right up = Fits l x y × Has l.right right × (l.up ≤ up)

unfoldable pub HeldTo : List FrontLabel → ℕ → ℕ → ℕ → ℕ → Type 0
HeldTo labels x y right up = (l : FrontLabel) × Contains labels l × Stands l x y right up

-- what the old labels stand for the new ones do
unfoldable pub Keeps : List FrontLabel → List FrontLabel → Type 0
Keeps old new = (x y right up : ℕ) → HeldTo old x y right up → HeldTo new x y right up
