-- What a step of a trace says of the row of its item, told by the rows alone.
use Rattle.std.specs.Prelude.{◌≡◌, ◌≢◌, ◌↔◌, ◌⊎◌, ℕ, negsuc, ◌+◌, ◌<◌, ◌≤◌, List, [], ◌∷◌, filter, Option, Some, None, IfSome, Contains}
use Rattle.glass_base.specs.declared.item.Item.{Item}
use Rattle.glass_base.specs.Problem.{Problem}
use Rattle.glass_base.specs.Stacks.{stack_of}
use Rattle.cut_model.specs.declared.family.Row.{Row}
use Rattle.cut_model.specs.declared.steps.Step.{Step}
use Rattle.cut_model.specs.Families.{rows_of}
use Rattle.cut_model.specs.Order.{item_named, item_with}
use Rattle.cut_model.specs.Parents.{is_item_kind}
use Rattle.cut_model.specs.Shape.{IsPlanShaped}
use Rattle.cut_model.specs.Traces.{trace_of}
use Rattle.cut_model.specs.Tree.{Forest}

-- a row lies in itself, and in what the piece lies in that it is cut from
pub data LiesIn (rows : List Row) : Row → Row → Type 0 where
  itself : (row : Row) → LiesIn rows row row
  deeper : (row outer piece : Row) → Contains rows outer → row.parent ≡ Some outer.node → LiesIn rows outer piece → LiesIn rows row piece

-- the piece in which a row lies that a cut of this level made; a row that a cut of an outer level made is its own inner pieces
pub record IsPieceOf (rows : List Row) (level : ℕ) (row piece : Row) : Type 0 where
  pub around : LiesIn rows row piece
  pub made : (piece.cut ≡ level) ⊎ ((piece ≡ row) × (row.cut < level))

-- two rows lie in one piece of this level
pub record SharePiece (rows : List Row) (level : ℕ) (row other : Row) : Type 0 where
  pub piece : Row
  pub of_row : IsPieceOf rows level row piece
  pub of_other : IsPieceOf rows level other piece

-- they lie in two
pub record PartAt (rows : List Row) (level : ℕ) (row other : Row) : Type 0 where
  pub piece : Row
  pub next : Row
  pub of_row : IsPieceOf rows level row piece
  pub of_other : IsPieceOf rows level other next
  pub two : piece.node ≢ next.node

-- the kind of an item's step: 0 for the first item, else the outermost level at which its piece is not that of the item before
abbrev pub HasKind : List Row → Option Row → Row → ℕ → Type 0
HasKind rows None row kind = kind ≡ 0
HasKind rows (Some before) row kind = PartAt rows kind before row × ((level : ℕ) → level < kind → SharePiece rows level before row)

-- the row under an item in its cell is a waste: the row before it, cut from the same piece by a 4-cut
pub record LiesOnWaste (rows : List Row) (row : Row) : Type 0 where
  pub low : Row
  pub known : Contains rows low
  pub before : low.node + 1 ≡ row.node
  pub beside : low.parent ≡ row.parent
  pub leaf : low.cut ≡ 4
  pub waste : low.kind ≡ negsuc 0

-- the step of an item: its stack; 0 where its length lies along x, else 1; its kind; whether waste lies under it; the sides of
-- its strip, its band and its cell
pub record IsStepOf (b : Problem) (rows : List Row) (before : Option Row) (row : Row) (s : Step) : Type 0 where
  pub stack : (item : Item) (number : ℕ) → item_named row.kind ≡ Some number → item_with b.items number ≡ Some item → IfSome (stack_of b.items item) (λ stack. s.stack ≡ stack)
  pub turn : (item : Item) (number : ℕ) → item_named row.kind ≡ Some number → item_with b.items number ≡ Some item → (s.turn ≤ 1) × ((s.turn ≡ 0) ↔ (row.width ≡ item.length))
  pub kind : HasKind rows before row s.kind
  pub lift : (s.lift ≤ 1) × ((s.lift ≡ 1) ↔ LiesOnWaste rows row)
  pub strip : (piece : Row) × IsPieceOf rows 1 row piece × (s.a ≡ piece.x) × (s.b ≡ piece.x + piece.width)
  pub band : (piece : Row) × IsPieceOf rows 2 row piece × (s.c ≡ piece.y) × (s.d ≡ piece.y + piece.height)
  pub cell : (piece : Row) × IsPieceOf rows 3 row piece × (s.e ≡ piece.x)

-- a step for each of these rows of items, in their order; each row but the first has the one before it
abbrev pub AreStepsOf : Problem → List Row → Option Row → List Row → List Step → Type 0
AreStepsOf b rows before [] [] = Unit {0}
AreStepsOf b rows before (row ∷ later) (s ∷ steps) = IsStepOf b rows before row s × AreStepsOf b rows (Some row) later steps
AreStepsOf b rows before [] (_ ∷ _) = ⊥
AreStepsOf b rows before (_ ∷ _) [] = ⊥

-- the rows of the items that are cut
abbrev pub item_rows : List Row → List Row
item_rows rows = filter (λ row. is_item_kind row.kind) rows

-- the trace of a plan has the steps of its items' rows
abbrev pub TracesTellOfRows : Type 0
TracesTellOfRows = (b : Problem) → (plan : Forest) → IsPlanShaped plan → AreStepsOf b (rows_of b plan) None (item_rows (rows_of b plan)) (trace_of b plan)
