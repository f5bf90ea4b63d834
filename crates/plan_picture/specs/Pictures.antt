-- The picture of a plan.
use Rattle.std.specs.Prelude.{◌≡◌, ℕ, ◌+◌, ◌/◌, ◌<◌, ◌≤◌, ◌&&◌, ◌==◌, min, nat_lt, filter, List, [], ◌∷◌, length, map, All, Contains, Bool, false, if◌then◌else◌, Option, Some, None, option_and_then, option_to_list, slice_get}
use Rattle.std.specs.List.{flat_map}
use Rattle.glass_base.specs.declared.item.Defect.{Defect}
use Rattle.glass_base.specs.Plates.{Width}
use Rattle.glass_base.specs.Problem.{Problem}
use Rattle.glass_base.specs.Stacks.{stack_of}
use Rattle.cut_model.specs.declared.broken.Broken.{Broken}
use Rattle.cut_model.specs.declared.broken.Rule.{Rule}
use Rattle.cut_model.specs.declared.family.Row.{Row}
use Rattle.cut_model.specs.declared.family.Sort.{Sort}
use Rattle.cut_model.specs.Families.{rows_of}
use Rattle.cut_model.specs.Order.{cut_order, item_with}
use Rattle.cut_model.specs.Tree.{Forest, neighbour_count, sort_named}
use Rattle.plan_picture.specs.declared.mark.PictureSize.{PictureSize}
use Rattle.plan_picture.specs.declared.mark.PieceLook.{PieceLook}
use Rattle.plan_picture.specs.declared.mark.PieceLook.TheVariants as look
use Rattle.plan_picture.specs.declared.mark.Mark.{Mark}
use Rattle.plan_picture.specs.declared.mark.Words.{Words}
use Rattle.plan_picture.specs.declared.mark.Words.TheVariants as words
use Rattle.cut_model.specs.declared.broken.Verdict.{Verdict}
use Rattle.cut_model.specs.declared.broken.Verdict.TheVariants as verdict
use Rattle.plan_picture.specs.Marks.{picture_text}
use Rattle.plan_picture.specs.Texts.{AreOf, heading, is_count, is_heading, is_of_verdict, outside, verdict_words}
use Rattle.plan_picture.specs.Told.{Drawn, Group, told}

-- the stack of the item that has this number
abbrev pub stack_numbered : Problem → ℕ → Option ℕ
stack_numbered b number = option_and_then (stack_of b.items) (item_with b.items number)

-- what a piece of this sort looks like
abbrev pub look_of : Problem → Sort → PieceLook
look_of b (Sort.Item number) = look.Item number (stack_numbered b number)
look_of b Sort.Waste = look.Waste
look_of b Sort.Branch = look.Branch
look_of b Sort.Residual = look.Residual

-- a row on its plate, looking as its type says
abbrev pub drawn : Problem → Row → Drawn
drawn b row = record { plate = Some row.plate; row = row; how = look_of b (sort_named row.kind) }

-- whether it is this plate
abbrev pub is_plate : Option ℕ → ℕ → Bool
is_plate None number = false
is_plate (Some plate) number = plate == number

-- the plates of rows, each where it begins
abbrev pub plates_from : Option ℕ → List Row → List ℕ
plates_from plate [] = []
plates_from plate (row ∷ later) = if is_plate plate row.plate then plates_from plate later else row.plate ∷ plates_from (Some row.plate) later

abbrev pub plates_in : List Row → List ℕ
plates_in rows = plates_from None rows

-- the part of a defect that lies on a plate with these sides, if there is one
abbrev pub part_on : ℕ → ℕ → Defect → List Defect
part_on width height d =
    if nat_lt d.x0 width && nat_lt d.y0 height then record d { x1 = min d.x1 width; y1 = min d.y1 height } ∷ [] else []

-- the defects of a plate, as far as they lie on it
abbrev pub defects_on : Problem → ℕ → List Defect
defects_on b plate = flat_map (part_on (Width b plate) b.params.height) (filter (λ (d : Defect). d.plate == plate) b.defects)

-- the breach of a piece that was found, if it is one: a missing item and a plate too many are no piece's
abbrev pub breach_by : Rule → Broken → Option Broken
breach_by Rule.L9Missing broken = None
breach_by Rule.L9Plates broken = None
breach_by _ broken = Some broken

abbrev pub breach_of : Verdict → Option Broken
breach_of (verdict.Lawful loss) = None
breach_of (verdict.Broken broken) = breach_by broken.rule broken

-- whether a row is the piece that breaks a rule
abbrev pub is_breach : Option Broken → Row → Bool
is_breach None row = false
is_breach (Some broken) row = (broken.plate == row.plate) && (broken.node == row.node)

-- the defect by which it does, if it is by one: the second number of the breach says which
abbrev pub struck_in : Problem → Rule → ℕ → List Defect
struck_in b Rule.L7 place = option_to_list (slice_get b.defects place)
struck_in b Rule.L8 place = option_to_list (slice_get b.defects place)
struck_in b _ place = []

abbrev pub struck_by : Problem → Option Broken → List Defect
struck_by b None = []
struck_by b (Some broken) = struck_in b broken.rule broken.right

-- the middle of a defect
abbrev pub middle : Defect → ℕ × ℕ
middle d = (d.x0 / 2 + d.x1 / 2, d.y0 / 2 + d.y1 / 2)

-- the plate with the higher number stands below the other one, and they share nothing
abbrev pub StandApart : Problem → List Group → Type 0
StandApart b groups = (g h : Group) → Contains groups g → Contains groups h → g.number < h.number → g.y + b.params.height ≤ h.y

-- the text is that of elements which draw the plan, and what was found of it
pub record IsPicture (b : Problem) (plan : Forest) (found : Verdict) (text : List ℕ) : Type 0 where
  pub frame : PictureSize
  pub marks : List Mark
  pub text_is : text ≡ picture_text frame marks
  -- each row of the plan once, in their order, in the group of its plate
  pub pieces : (told marks).pieces ≡ map (drawn b) (rows_of b plan)
  -- a group for each plate, one below the other, and each is ended
  pub plates : map (λ (g : Group). g.number) (told marks).groups ≡ plates_in (rows_of b plan)
  pub apart : StandApart b (told marks).groups
  pub ended : (told marks).plate ≡ None
  -- on each plate its defects, as far as they lie on it
  pub defects : (told marks).defects ≡ flat_map (λ plate. map (λ d. (Some plate, d)) (defects_on b plate)) (plates_in (rows_of b plan))
  -- the outline of the piece that breaks a rule, and a ring around the middle of the defect by which it does
  pub outlines : (told marks).outlines ≡ map (λ (r : Row). (Some r.plate, r)) (filter (is_breach (breach_of found)) (rows_of b plan))
  pub rings : (told marks).rings ≡ flat_map (λ (r : Row). map (λ d. (Some r.plate, middle d)) (struck_by b (breach_of found))) (filter (is_breach (breach_of found)) (rows_of b plan))
  -- texts stand in no group
  pub said : List Words
  pub texts : (told marks).texts ≡ outside said
  -- the loss of the plan or its first breach, how many plates and items there are, the sides of each plate, and what else is said of pieces is true of one
  pub verdict : filter is_of_verdict said ≡ verdict_words b found
  pub counts : filter is_count said ≡ words.Counts (neighbour_count plan) (length (cut_order (rows_of b plan))) ∷ []
  pub headings : filter is_heading said ≡ map (heading b) (plates_in (rows_of b plan))
  pub of_pieces : All (AreOf b (rows_of b plan)) said
