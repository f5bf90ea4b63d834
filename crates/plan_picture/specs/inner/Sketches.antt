-- The elements of a picture, as far as it is drawn.
use Rattle.std.specs.Prelude.{◌≡◌, ℕ, ◌*◌, List, [], ◌∷◌, ◌++◌, map, filter, All, if◌then◌else◌, Option, Some, None}
use Rattle.std.specs.List.{flat_map}
use Rattle.glass_base.specs.Problem.{Problem}
use Rattle.cut_model.specs.declared.broken.Broken.{Broken}
use Rattle.cut_model.specs.declared.family.Row.{Row}
use Rattle.plan_picture.specs.declared.canvas.Canvas.{Canvas}
use Rattle.plan_picture.specs.declared.layout.Layout.{Layout}
use Rattle.plan_picture.specs.declared.mark.PieceLook.{PieceLook}
use Rattle.plan_picture.specs.declared.mark.Mark.TheVariants as mark
use Rattle.plan_picture.specs.declared.mark.Words.{Words}
use Rattle.plan_picture.specs.Pictures.{defects_on, drawn, is_breach, is_plate, middle, plates_in, struck_by}
use Rattle.plan_picture.specs.Texts.{AreOf, IsTrueOf, heading, is_count, is_heading, is_of_verdict, outside}
use Rattle.plan_picture.specs.Told.{Group, Told, tell, told}
use Rattle.plan_picture.specs.inner.Adding.{with_defects, with_outlines, with_texts, words_in}
use Rattle.plan_picture.specs.inner.Layouts.{IsPlaced, bottom_at}

-- what the elements so far tell, the plate whose group is open, and what is noted of its pieces: lines of text, and the rows that are to be outlined
pub record Sketch : Type 0 where
  pub tells : Told
  pub plate : Option ℕ
  pub words : List Words
  pub outlined : List Row

abbrev pub sketch : Canvas → Sketch
sketch c = record { tells = told c.marks.items; plate = c.plate; words = words_in c.over.labels.items; outlined = c.over.outlined.items }

-- what is told once the group of this plate is ended, and what was noted is drawn
abbrev pub ended : Problem → Option Broken → Sketch → ℕ → Told
ended b breach s plate =
    with_texts (tell (with_defects (with_outlines s.tells (struck_by b breach) s.outlined) (defects_on b plate)) mark.PlateEnd) s.words

-- what is told once the group that is open is ended, if one is
abbrev pub closed_at : Problem → Option Broken → Sketch → Option ℕ → Told
closed_at b breach s None = s.tells
closed_at b breach s (Some plate) = ended b breach s plate

abbrev pub closed : Problem → Option Broken → Sketch → Told
closed b breach s = closed_at b breach s s.plate

-- the sketch behind the beginning of a plate's group, where nothing is noted but what stands above the plate
abbrev pub opened : Problem → Layout → Told → ℕ → Sketch
opened b layout t plate = record {
  tells = tell t (mark.Plate plate (layout.size * 2) (bottom_at layout.size layout.lines layout.height plate));
  plate = Some plate;
  words = heading b plate ∷ [];
  outlined = [];
}

-- the sketch in which the group of this plate is open
abbrev pub turned_to : Problem → Option Broken → Layout → Sketch → ℕ → Sketch
turned_to b breach layout s plate = if is_plate s.plate plate then s else opened b layout (closed b breach s) plate

-- a row was drawn, and noted what is drawn over it
pub record HasDrawn (b : Problem) (breach : Option Broken) (row : Row) (how : PieceLook) (old new : Sketch) : Type 0 where
  pub more : List Words
  pub are_true : All (IsTrueOf b row) more
  pub after : new ≡ record old {
    tells = tell old.tells (mark.Piece row how);
    words = old.words ++ more;
    outlined = old.outlined ++ filter (is_breach breach) (row ∷ []);
  }

-- these plates and rows are shown, and nothing else is
pub record IsShown (b : Problem) (breach : Option Broken) (layout : Layout) (t : Told) (plates : List ℕ) (rows : List Row) : Type 0 where
  pub group : t.plate ≡ None
  pub pieces : t.pieces ≡ map (drawn b) rows
  pub plates_are : map (λ (g : Group). g.number) t.groups ≡ plates
  pub placed : All (IsPlaced layout.size layout.lines layout.height) t.groups
  pub defects : t.defects ≡ flat_map (λ plate. map (λ d. (Some plate, d)) (defects_on b plate)) plates
  pub outlines : t.outlines ≡ map (λ (r : Row). (Some r.plate, r)) (filter (is_breach breach) rows)
  pub rings : t.rings ≡ flat_map (λ (r : Row). map (λ d. (Some r.plate, middle d)) (struck_by b breach)) (filter (is_breach breach) rows)
  pub said : List Words
  pub texts : t.texts ≡ outside said
  pub verdict : filter is_of_verdict said ≡ []
  pub counts : filter is_count said ≡ []
  pub headings : filter is_heading said ≡ map (heading b) plates
  pub of_pieces : All (AreOf b rows) said

-- the plate of the last row
abbrev pub last_plate : Option ℕ → List Row → Option ℕ
last_plate plate [] = plate
last_plate plate (row ∷ later) = last_plate (Some row.plate) later

-- these rows are shown once the group that is open is ended: that of the last row
pub record HasShown (b : Problem) (breach : Option Broken) (layout : Layout) (s : Sketch) (rows : List Row) : Type 0 where
  pub plate : s.plate ≡ last_plate None rows
  pub group : s.tells.plate ≡ s.plate
  pub shown : IsShown b breach layout (closed b breach s) (plates_in rows) rows
