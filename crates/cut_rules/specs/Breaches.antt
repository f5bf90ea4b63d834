-- Which rule on cuts a plan breaks first, and where.
use Rattle.std.specs.Prelude.{◌≡◌, ℕ, ◌+◌, List, [], ◌∷◌, Bool, false, min, nat_lt, if◌then◌else◌, position, Option, Some, None, All}
use Rattle.glass_base.specs.declared.item.Defect.{Defect}
use Rattle.glass_base.specs.Defects.{hits, crosses_x, crosses_y}
use Rattle.glass_base.specs.Problem.{Problem}
use Rattle.cut_model.specs.declared.broken.Rule.{Rule}
use Rattle.cut_model.specs.declared.broken.Broken.{Broken}
use Rattle.cut_model.specs.declared.family.Along.{Along}
use Rattle.cut_model.specs.declared.family.Family.{Family}
use Rattle.cut_model.specs.declared.family.Row.{Row}
use Rattle.cut_model.specs.declared.family.Sort.{Sort}
use Rattle.cut_model.specs.Families.{turned, side_along}
use Rattle.cut_model.specs.Firsts.{IsFirstWithout}
use Rattle.cut_model.specs.Rules.{AddsUp, HasItsSides, IsBroad, IsStrip, IsBand, IsInPlace, AvoidsDefects, CutsClear}
use Rattle.cut_rules.specs.declared.cut_rule.CutRule.{CutRule}

-- a rule on cuts, among all rules of a lawful plan
abbrev pub rule_of : CutRule → Rule
rule_of CutRule.L1 = Rule.L1
rule_of CutRule.L2 = Rule.L2
rule_of CutRule.L3 = Rule.L3
rule_of CutRule.L4 = Rule.L4
rule_of CutRule.L5 = Rule.L5
rule_of CutRule.L6 = Rule.L6
rule_of CutRule.L7 = Rule.L7
rule_of CutRule.L8 = Rule.L8

-- a piece keeps a rule on cuts
abbrev pub KeepsCutRule : Problem → CutRule → Family → Type 0
KeepsCutRule b CutRule.L1 f = AddsUp f f.sort
KeepsCutRule b CutRule.L2 f = HasItsSides b.items f f.sort
KeepsCutRule b CutRule.L3 f = IsBroad b.params f f.sort
KeepsCutRule b CutRule.L4 f = IsStrip b.params f f.sort
KeepsCutRule b CutRule.L5 f = IsBand b.params f f.sort
KeepsCutRule b CutRule.L6 f = IsInPlace f f.sort
KeepsCutRule b CutRule.L7 f = AvoidsDefects b.defects f f.sort
KeepsCutRule b CutRule.L8 f = CutsClear b.defects f

-- these rules, in the order in which they are judged
abbrev pub cut_rules : List CutRule
cut_rules = CutRule.L1 ∷ CutRule.L2 ∷ CutRule.L3 ∷ CutRule.L4 ∷ CutRule.L5 ∷ CutRule.L6 ∷ CutRule.L7 ∷ CutRule.L8 ∷ []

-- the side that the least waste is asked of: the smaller one of a waste, the width of the residual
abbrev pub least_side : Row → Sort → Option ℕ
least_side row Sort.Waste = Some (min row.width row.height)
least_side row Sort.Residual = Some row.width
least_side row Sort.Branch = None
least_side row (Sort.Item _) = None

-- the inside of the row meets the inside of the defect
abbrev pub meets : Row → Defect → Bool
meets row d = hits row.plate row.x row.y (row.x + row.width) (row.y + row.height) d

-- the border to the neighbour before the row runs through the inside of the defect
abbrev pub crosses : Along → Row → Defect → Bool
crosses Along.Plates row d = false
crosses Along.X row d = crosses_x row.plate row.x row.y (row.y + row.height) d
crosses Along.Y row d = crosses_y row.plate row.y row.x (row.x + row.width) d

-- where this border lies
abbrev pub border : Along → Row → ℕ
border Along.Plates row = row.x
border Along.X row = row.x
border Along.Y row = row.y

-- the two numbers that disagree where a piece breaks a rule
abbrev pub Shows : Problem → CutRule → Family → ℕ → ℕ → Type 0
-- the sum of the children, and the size that they are to add up to
Shows b CutRule.L1 f left right = (left ≡ f.children.total) × (right ≡ side_along (turned f.along) f.row)
-- the piece's width and height
Shows b CutRule.L2 f left right = (left ≡ f.row.width) × (right ≡ f.row.height)
-- the side that is too small, and the least waste
Shows b CutRule.L3 f left right = (least_side f.row f.sort ≡ Some left) × (right ≡ b.params.waste)
-- the width, and the least or the greatest width of a strip
Shows b CutRule.L4 f left right = (left ≡ f.row.width) × (right ≡ (if nat_lt f.row.width b.params.min1 then b.params.min1 else b.params.max1))
-- the height, and the least height of a band
Shows b CutRule.L5 f left right = (left ≡ f.row.height) × (right ≡ b.params.min2)
-- the level of the cut that makes the piece
Shows b CutRule.L6 f left right = (left ≡ f.row.cut) × (right ≡ 0)
-- the item's number, and the position of the first defect that it meets
Shows b CutRule.L7 f left right = (f.sort ≡ Sort.Item left) × (position (meets f.row) b.defects ≡ Some right)
-- where the border lies, and the position of the first defect that it runs through
Shows b CutRule.L8 f left right = (left ≡ border f.along f.row) × (position (crosses f.along f.row) b.defects ≡ Some right)

-- the breach of a rule by a piece: the rule, the piece's plate and node, and the two numbers
pub record Names (b : Problem) (rule : CutRule) (f : Family) (broken : Broken) : Type 0 where
  pub rule_is : broken.rule ≡ rule_of rule
  pub plate : broken.plate ≡ f.row.plate
  pub node : broken.node ≡ f.row.node
  pub shows : Shows b rule f broken.left broken.right

-- the breach of this rule by the first piece that breaks it
pub record IsFirstBreach (b : Problem) (rule : CutRule) (fs : List Family) (broken : Broken) : Type 0 where
  pub piece : Family
  pub first : IsFirstWithout (KeepsCutRule b rule) fs piece
  pub names : Names b rule piece broken

-- the first of these rules that some piece breaks, and its breach by the first piece that breaks it
pub record IsBreachOf (b : Problem) (fs : List Family) (rules : List CutRule) (broken : Broken) : Type 0 where
  pub rule : CutRule
  pub first : IsFirstWithout (λ r. All (KeepsCutRule b r) fs) rules rule
  pub place : IsFirstBreach b rule fs broken

-- of the rules on cuts
abbrev pub IsBreach : Problem → List Family → Broken → Type 0
IsBreach b fs broken = IsBreachOf b fs cut_rules broken
