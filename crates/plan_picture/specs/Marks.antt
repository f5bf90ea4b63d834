-- The SVG text of each element of a picture.
use Rattle.std.specs.Prelude.{ℕ, ◌-◌, ◌%◌, List, ◌++◌, Bool, true, false, Option, Some, None, codes}
use Rattle.std.specs.Fmt.{decimal}
use Rattle.std.specs.List.{flat_map}
use Rattle.glass_base.specs.declared.item.Defect.{Defect}
use Rattle.cut_model.specs.declared.family.Row.{Row}
use Rattle.plan_picture.specs.declared.mark.Fill.{Fill}
use Rattle.plan_picture.specs.declared.mark.Fill.TheVariants as fill
use Rattle.plan_picture.specs.declared.mark.PictureSize.{PictureSize}
use Rattle.plan_picture.specs.declared.mark.PlacedText.{PlacedText}
use Rattle.plan_picture.specs.declared.mark.Line.{Line}
use Rattle.plan_picture.specs.declared.mark.PieceLook.{PieceLook}
use Rattle.plan_picture.specs.declared.mark.PieceLook.TheVariants as look
use Rattle.plan_picture.specs.declared.mark.Mark.{Mark}
use Rattle.plan_picture.specs.declared.mark.Mark.TheVariants as mark
use Rattle.plan_picture.specs.declared.writing.TheConstants.{STYLE}
use Rattle.plan_picture.specs.Words.{class_text, sides_text, words_text}

-- the beginning: its view box is in mm, and `STYLE` is the style sheet's text
abbrev pub head_text : PictureSize → List ℕ
head_text f =
    codes "<svg xmlns=\"http://www.w3.org/2000/svg\" role=\"img\" viewBox=\"0 0 " ++ decimal f.width ++ codes " " ++ decimal f.height
    ++ codes "\" font-size=\"" ++ decimal f.size ++ codes "\">\n<title>Cutting plan</title>\n<style>\n@page{margin:0;size:1200px "
    ++ decimal f.page ++ codes "px}\n" ++ STYLE.now

-- the group of a plate, whose y axis points up from its lower left corner
abbrev pub plate_text : ℕ → ℕ → ℕ → List ℕ
plate_text number x y =
    codes "<g id=\"plate" ++ decimal number ++ codes "\" transform=\"translate(" ++ decimal x ++ codes " " ++ decimal y
    ++ codes ") scale(1 -1)\">\n"

-- the place and the sides of a rectangle
abbrev pub place_text : ℕ → ℕ → ℕ → ℕ → List ℕ
place_text x y width height =
    codes " x=\"" ++ decimal x ++ codes "\" y=\"" ++ decimal y ++ codes "\" width=\"" ++ decimal width ++ codes "\" height=\""
    ++ decimal height ++ codes "\""

-- the name of a piece
abbrev pub name_text : PieceLook → List ℕ
name_text (look.Item number _) = codes "item " ++ decimal number
name_text look.Waste = codes "waste"
name_text look.Branch = codes "branch"
name_text look.Residual = codes "residual"

-- the colour of a stack: there are seven
abbrev pub stack_class : ℕ → List ℕ
stack_class stack = codes "item s" ++ decimal (stack % 7)

abbrev pub item_class : Option ℕ → List ℕ
item_class None = codes "item"
item_class (Some stack) = stack_class stack

-- the class by which a piece is filled
abbrev pub look_class : PieceLook → List ℕ
look_class (look.Item _ stack) = item_class stack
look_class look.Waste = codes "waste"
look_class look.Branch = codes "branch"
look_class look.Residual = codes "residual"

-- what a browser shows where the pointer rests on a piece
abbrev pub title_text : Row → PieceLook → List ℕ
title_text row how =
    codes "<title>" ++ name_text how ++ codes ", " ++ sides_text row.width row.height ++ codes ", node " ++ decimal row.node
    ++ codes "</title>"

-- the class of a row: how it is filled, and the level of the cut that makes it
abbrev pub row_class : Row → PieceLook → List ℕ
row_class row how = codes " class=\"" ++ look_class how ++ codes " cut" ++ decimal row.cut ++ codes "\""

-- the rectangle of a row
abbrev pub rect_text : Row → PieceLook → List ℕ
rect_text row how = codes "<rect" ++ row_class row how ++ place_text row.x row.y row.width row.height ++ codes "/>"

abbrev pub piece_text : Row → PieceLook → List ℕ
piece_text row how = codes "<g>" ++ title_text row how ++ rect_text row how ++ codes "</g>\n"

abbrev pub cut_text : Line → List ℕ
cut_text l =
    codes "<line class=\"cut" ++ decimal l.level ++ codes "\" x1=\"" ++ decimal l.x1 ++ codes "\" y1=\"" ++ decimal l.y1
    ++ codes "\" x2=\"" ++ decimal l.x2 ++ codes "\" y2=\"" ++ decimal l.y2 ++ codes "\"/>\n"

abbrev pub defect_text : Defect → List ℕ
defect_text d = codes "<rect class=\"defect\"" ++ place_text d.x0 d.y0 (d.x1 - d.x0) (d.y1 - d.y0) ++ codes "/>\n"

abbrev pub outline_text : Row → List ℕ
outline_text row = codes "<rect class=\"broken\"" ++ place_text row.x row.y row.width row.height ++ codes "/>\n"

abbrev pub ring_text : ℕ → ℕ → List ℕ
ring_text x y = codes "<circle class=\"ring\" cx=\"" ++ decimal x ++ codes "\" cy=\"" ++ decimal y ++ codes "\" r=\"1em\"/>\n"

-- the class by which a spot of the legend is filled
abbrev pub fill_class : Fill → List ℕ
fill_class (fill.Stack stack) = stack_class stack
fill_class fill.Waste = codes "waste"
fill_class fill.Residual = codes "residual"
fill_class fill.Defect = codes "defect"

abbrev pub sample_text : ℕ → ℕ → Fill → List ℕ
sample_text x y how =
    codes "<circle class=\"" ++ fill_class how ++ codes "\" cx=\"" ++ decimal x ++ codes "\" cy=\"" ++ decimal y ++ codes "\" r=\".45em\"/>\n"

-- where a text stands: it reads to the right, or upwards
abbrev pub spot_text : Bool → ℕ → ℕ → List ℕ
spot_text false x y = codes " x=\"" ++ decimal x ++ codes "\" y=\"" ++ decimal y ++ codes "\""
spot_text true x y = codes " transform=\"translate(" ++ decimal x ++ codes " " ++ decimal y ++ codes ") rotate(-90)\""

abbrev pub label_text : PlacedText → List ℕ
label_text l =
    codes "<text class=\"" ++ class_text l.words ++ codes "\"" ++ spot_text l.upright l.x l.y ++ codes " font-size=\"" ++ decimal l.size
    ++ codes "\">" ++ words_text l.words ++ codes "</text>\n"

-- the text of an element
abbrev pub mark_text : Mark → List ℕ
mark_text (mark.Plate number x y) = plate_text number x y
mark_text (mark.Piece row how) = piece_text row how
mark_text (mark.Cut line) = cut_text line
mark_text (mark.Defect defect) = defect_text defect
mark_text (mark.Outline row) = outline_text row
mark_text (mark.Ring x y) = ring_text x y
mark_text mark.PlateEnd = codes "</g>\n"
mark_text (mark.Sample x y how) = sample_text x y how
mark_text (mark.Label label) = label_text label

-- the text of a picture
abbrev pub picture_text : PictureSize → List Mark → List ℕ
picture_text frame marks = head_text frame ++ flat_map mark_text marks ++ codes "</svg>\n"
