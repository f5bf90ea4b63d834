-- What the lines of text in a picture say.
use Rattle.std.specs.Prelude.{ℕ, ◌/◌, ◌%◌, List, ◌++◌, Bool, true, false, codes}
use Rattle.std.specs.Fmt.{decimal}
use Rattle.cut_model.specs.declared.broken.Rule.{Rule}
use Rattle.cut_model.specs.Words.{breach_text}
use Rattle.plan_picture.specs.declared.mark.Key.{Key}
use Rattle.plan_picture.specs.declared.mark.Words.{Words}
use Rattle.plan_picture.specs.declared.mark.Words.TheVariants as words

-- what it means to break a rule
abbrev pub reason_text : Rule → List ℕ
reason_text Rule.L1 = codes "the pieces do not add up to the piece that is cut"
reason_text Rule.L2 = codes "the piece has not the sides of its item"
reason_text Rule.L3 = codes "a waste or the residual is too small"
reason_text Rule.L4 = codes "the strip is too narrow or too wide"
reason_text Rule.L5 = codes "the band is too low"
reason_text Rule.L6 = codes "a cell is cut that holds no item, or the residual is out of place"
reason_text Rule.L7 = codes "the item meets a defect"
reason_text Rule.L8 = codes "the cut before the piece runs through a defect"
reason_text Rule.L9Unknown = codes "the batch does not have the item"
reason_text Rule.L9Twice = codes "the item is cut twice"
reason_text Rule.L9Missing = codes "an item is not cut"
reason_text Rule.L9EmptyPlate = codes "the plate has no item"
reason_text Rule.L9Plates = codes "too many plates are used"
reason_text Rule.L10 = codes "the item is cut too late for its stack"

-- what a spot or a line of the legend stands for
abbrev pub key_text : Key → List ℕ
key_text Key.Stacks = codes "items, a colour for each stack"
key_text Key.Waste = codes "waste"
key_text Key.Residual = codes "residual"
key_text Key.Defect = codes "defect"
key_text Key.Turned = codes "T turned"
key_text Key.Cuts = codes "cuts 1 to 4"

-- a number of an item, with a letter where it is turned
abbrev pub number_text : ℕ → Bool → List ℕ
number_text number true = decimal number ++ codes " T"
number_text number false = decimal number

abbrev pub sides_text : ℕ → ℕ → List ℕ
sides_text width height = decimal width ++ codes " x " ++ decimal height

-- a share of the glass, in thousandths: a per cent with one decimal
abbrev pub share_text : ℕ → List ℕ
share_text thousandths = decimal (thousandths / 10) ++ codes "." ++ decimal (thousandths % 10) ++ codes " % of the glass used"

-- a text, without what stands around it
abbrev pub words_text : Words → List ℕ
words_text (words.Number number turned) = number_text number turned
words_text (words.Sides width height) = sides_text width height
words_text (words.Item number turned width height) =
    codes "<tspan class=\"number\">" ++ number_text number turned ++ codes "</tspan>&#160; " ++ sides_text width height
words_text words.Residual = codes "residual"
words_text (words.Plate number width height) = codes "plate " ++ decimal number ++ codes ": " ++ sides_text width height ++ codes " mm"
words_text (words.Loss area thousandths) =
    codes "loss " ++ decimal area ++ codes " mm&#178;, " ++ share_text thousandths
words_text (words.Unlawful broken) = breach_text broken
words_text (words.Reason rule) = reason_text rule
words_text (words.Counts plates items) = codes "plates " ++ decimal plates ++ codes ", items " ++ decimal items
words_text (words.Key key) = key_text key

-- the class by which a text is set
abbrev pub class_text : Words → List ℕ
class_text (words.Number _ _) = codes "number"
class_text words.Residual = codes "number"
class_text (words.Sides _ _) = codes "sides"
class_text (words.Item _ _ _ _) = codes "sides"
class_text (words.Plate _ _ _) = codes "heading"
class_text (words.Loss _ _) = codes "heading"
class_text (words.Unlawful _) = codes "breach"
class_text (words.Reason _) = codes "key"
class_text (words.Counts _ _) = codes "key"
class_text (words.Key _) = codes "key"
