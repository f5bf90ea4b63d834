-- What is told once more elements of one kind are.
use Rattle.std.specs.Prelude.{◌≡◌, List, [], ◌∷◌, ◌++◌, map, All}
use Rattle.std.specs.List.{flat_map}
use Rattle.glass_base.specs.declared.item.Defect.{Defect}
use Rattle.glass_base.specs.Problem.{Problem}
use Rattle.cut_model.specs.declared.family.Row.{Row}
use Rattle.plan_picture.specs.declared.mark.Key.{Key}
use Rattle.plan_picture.specs.declared.mark.PlacedText.{PlacedText}
use Rattle.plan_picture.specs.declared.mark.Words.{Words}
use Rattle.plan_picture.specs.declared.mark.Words.TheVariants as words
use Rattle.plan_picture.specs.Pictures.{middle}
use Rattle.plan_picture.specs.Texts.{IsTrueOf}
use Rattle.plan_picture.specs.Told.{Told}

-- lines of text
abbrev pub with_texts : Told → List Words → Told
with_texts t said = record t { texts = t.texts ++ map (λ w. (t.plate, w)) said }

-- defects
abbrev pub with_defects : Told → List Defect → Told
with_defects t defects = record t { defects = t.defects ++ map (λ d. (t.plate, d)) defects }

-- rings around defects
abbrev pub with_rings : Told → List Defect → Told
with_rings t struck = record t { rings = t.rings ++ map (λ d. (t.plate, middle d)) struck }

-- outlines of rows, and with each of them the rings around these defects
abbrev pub with_outlines : Told → List Defect → List Row → Told
with_outlines t struck rows = record t {
  outlines = t.outlines ++ map (λ r. (t.plate, r)) rows;
  rings = t.rings ++ flat_map (λ (r : Row). map (λ d. (t.plate, middle d)) struck) rows;
}

-- what lines of text say
abbrev pub words_in : List PlacedText → List Words
words_in labels = map (λ l. l.words) labels

-- the key of the legend
abbrev pub key_words : List Words
key_words = map (λ key. words.Key key) (Key.Stacks ∷ Key.Waste ∷ Key.Residual ∷ Key.Defect ∷ Key.Turned ∷ Key.Cuts ∷ [])

-- lines of text to which some were added, each of which says what is true of this row
pub record AddsTrue (b : Problem) (row : Row) (old new : List PlacedText) : Type 0 where
  pub more : List Words
  pub after : words_in new ≡ words_in old ++ more
  pub are_true : All (IsTrueOf b row) more
