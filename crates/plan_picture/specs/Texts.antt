-- What the lines of text in a picture may say.
use Rattle.std.specs.Prelude.{◌≡◌, ℕ, ◌+◌, ◌*◌, ◌/◌, ◌||◌, ◌==◌, not, max, List, [], ◌∷◌, map, Contains, Bool, true, false, Option, Some, None}
use Rattle.glass_base.specs.declared.item.Item.{Item}
use Rattle.glass_base.specs.Items.{area_of}
use Rattle.glass_base.specs.Plates.{Width}
use Rattle.glass_base.specs.Problem.{Problem}
use Rattle.cut_model.specs.declared.family.Row.{Row}
use Rattle.cut_model.specs.declared.family.Sort.{Sort}
use Rattle.cut_model.specs.Order.{item_with}
use Rattle.cut_model.specs.Tree.{sort_named}
use Rattle.plan_picture.specs.declared.mark.Words.{Words}
use Rattle.plan_picture.specs.declared.mark.Words.TheVariants as words
use Rattle.cut_model.specs.declared.broken.Verdict.{Verdict}
use Rattle.cut_model.specs.declared.broken.Verdict.TheVariants as verdict

-- a loss in thousandths of the glass that is used, loss and items, rounded
abbrev pub thousandths : ℕ → ℕ → ℕ
thousandths loss area = let glass : ℕ = max (loss + area) 1 in (loss * 1000 + glass / 2) / glass

-- what the legend says of a plan: its loss, or its first breach and what this means
abbrev pub verdict_words : Problem → Verdict → List Words
verdict_words b (verdict.Lawful loss) = words.Loss loss (thousandths loss (area_of b.items)) ∷ []
verdict_words b (verdict.Broken broken) = words.Unlawful broken ∷ words.Reason broken.rule ∷ []

-- lines of text that stand in no group; in one they would be mirrored
abbrev pub outside : List Words → List (Option ℕ × Words)
outside said = map (λ words. (None, words)) said

-- whether these words say what was found of a plan
abbrev pub is_of_verdict : Words → Bool
is_of_verdict (words.Loss _ _) = true
is_of_verdict (words.Unlawful _) = true
is_of_verdict (words.Reason _) = true
is_of_verdict _ = false

-- whether these words count plates and items
abbrev pub is_count : Words → Bool
is_count (words.Counts _ _) = true
is_count _ = false

-- whether these words stand above a plate
abbrev pub is_heading : Words → Bool
is_heading (words.Plate _ _ _) = true
is_heading _ = false

-- what stands above a plate: its number and its sides
abbrev pub heading : Problem → ℕ → Words
heading b plate = words.Plate plate (Width b plate) b.params.height

-- whether a piece is turned: its sides are not the length and the width of its item. One whose item the batch does not have is not
abbrev pub is_turned_from : Row → Option Item → Bool
is_turned_from row None = false
is_turned_from row (Some item) = not (row.width == item.length) || not (row.height == item.width)

-- a piece is this item, turned or not
pub record IsItem (b : Problem) (row : Row) (number : ℕ) (turned : Bool) : Type 0 where
  pub sort : sort_named row.kind ≡ Sort.Item number
  pub turned_is : turned ≡ is_turned_from row (item_with b.items number)

-- a piece has these sides
abbrev pub HasSides : Row → ℕ → ℕ → Type 0
HasSides row width height = (row.width ≡ width) × (row.height ≡ height)

-- words that stand in a piece are true of it
abbrev pub IsTrueOf : Problem → Row → Words → Type 0
IsTrueOf b row (words.Number number turned) = IsItem b row number turned
IsTrueOf b row (words.Sides width height) = HasSides row width height
IsTrueOf b row (words.Item number turned width height) = IsItem b row number turned × HasSides row width height
IsTrueOf b row words.Residual = sort_named row.kind ≡ Sort.Residual
IsTrueOf b row _ = ⊥

-- words are those of a piece, true of one of these rows, or others
abbrev pub AreOf : Problem → List Row → Words → Type 0
AreOf b rows (words.Plate _ _ _) = Unit {0}
AreOf b rows (words.Loss _ _) = Unit {0}
AreOf b rows (words.Unlawful _) = Unit {0}
AreOf b rows (words.Reason _) = Unit {0}
AreOf b rows (words.Counts _ _) = Unit {0}
AreOf b rows (words.Key _) = Unit {0}
AreOf b rows said = (row : Row) × Contains rows row × IsTrueOf b row said
