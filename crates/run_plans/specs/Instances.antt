-- The instance that the texts of a command say: its items are those of the batch; its defects those of a text, if there is one; its
-- parameters those of the parameters file, or the challenge's; the widths of its plates those of the plates file, or the parameters'.
use Rattle.std.specs.Prelude.{◌≡◌, ℕ, List, [], Option, Some, None, Result, Ok, Err}
use Rattle.std.specs.Option.{option_map_or}
use Rattle.glass_base.specs.BadInstance.{RefusesLists}
use Rattle.glass_base.specs.Problem.{Problem, IsMadeOf}
use Rattle.glass_base.specs.Sizes.{AreUsual}
use Rattle.glass_base.specs.Widths.{same_widths}
use Rattle.glass_base.specs.declared.bad_text.BadText.{BadText}
use Rattle.glass_base.specs.declared.instance.BadInstance.{BadInstance}
use Rattle.glass_base.specs.declared.item.Defect.{Defect}
use Rattle.glass_base.specs.declared.item.Item.{Item}
use Rattle.glass_base.specs.declared.params.Params.{Params}
use Rattle.glass_base.specs.declared.role.Role.TheVariants as role
use Rattle.batch_csv.specs.Batches.{items_of}
use Rattle.stock_csv.specs.DefectRows.{defects_of}
use Rattle.stock_csv.specs.PlateRows.{widths_said}
use Rattle.stock_csv.specs.Settings.{ReadAs, RefusesSettings, settings_of}
use Rattle.run_frame.specs.Answers.{Answer, Refused, lists_refusal, text_refusal}
use Rattle.run_frame.specs.Texts.{Texts, text_for, text_or_empty}

abbrev pub items_said : Texts → Result (List Item) BadText
items_said texts = items_of (text_or_empty texts role.Batch)

abbrev pub defects_in : Option (List ℕ) → Result (List Defect) BadText
defects_in text = option_map_or defects_of text (Ok [])

-- the challenge's parameters, or those of a text
abbrev pub AreParams : Option (List ℕ) → Params → Type 0
AreParams None params = AreUsual params
AreParams (Some text) params = ReadAs params (settings_of text)

-- why the text of the parameters is refused
abbrev pub RefusesParams : Option (List ℕ) → BadText → Type 0
RefusesParams None reason = ⊥
RefusesParams (Some text) reason = RefusesSettings reason (settings_of text)

abbrev pub widths_in : Params → Option (List ℕ) → Result (List ℕ) BadText
widths_in params text = option_map_or (widths_said params) text (Ok (same_widths params))

-- the items and defects that the texts say
pub record SayLists (texts : Texts) (flaws : Option (List ℕ)) (items : List Item) (defects : List Defect) : Type 0 where
  pub items_are : items_said texts ≡ Ok items
  pub defects_are : defects_in flaws ≡ Ok defects

-- the lists and the parameters that the texts say
pub record SayStock (texts : Texts) (flaws : Option (List ℕ)) (items : List Item) (defects : List Defect) (params : Params) : Type 0 where
  pub lists : SayLists texts flaws items defects
  pub params_are : AreParams (text_for texts role.Params) params

-- all of which an instance is made
pub record SayAll (texts : Texts) (flaws : Option (List ℕ)) (items : List Item) (defects : List Defect) (params : Params) (widths : List ℕ) : Type 0 where
  pub stock : SayStock texts flaws items defects params
  pub widths_are : widths_in params (text_for texts role.Plates) ≡ Ok widths

-- the instance that the texts say
pub record IsInstanceOf (texts : Texts) (flaws : Option (List ℕ)) (b : Problem) : Type 0 where
  pub said : SayAll texts flaws b.items b.defects b.params b.widths
  pub made : IsMadeOf b b.params b.items b.defects b.widths

-- the answer where the texts say no instance: to the first text that is refused, in the order of this list, or to lists that make none
pub data InstanceRefused (texts : Texts) (flaws : Option (List ℕ)) (answer : Answer) : Type 0 where
  bad_batch : (reason : BadText) → items_said texts ≡ Err reason → Refused (text_refusal role.Batch reason) answer → InstanceRefused texts flaws answer
  bad_defects : (items : List Item) (reason : BadText) → items_said texts ≡ Ok items → defects_in flaws ≡ Err reason →
      Refused (text_refusal role.Defects reason) answer → InstanceRefused texts flaws answer
  bad_params : (items : List Item) (defects : List Defect) (reason : BadText) → SayLists texts flaws items defects → RefusesParams (text_for texts role.Params) reason →
      Refused (text_refusal role.Params reason) answer → InstanceRefused texts flaws answer
  bad_plates : (items : List Item) (defects : List Defect) (params : Params) (reason : BadText) → SayStock texts flaws items defects params →
      widths_in params (text_for texts role.Plates) ≡ Err reason → Refused (text_refusal role.Plates reason) answer → InstanceRefused texts flaws answer
  bad_lists : (items : List Item) (defects : List Defect) (params : Params) (widths : List ℕ) (reason : BadInstance) → SayAll texts flaws items defects params widths →
      RefusesLists reason items defects → Refused (lists_refusal reason) answer → InstanceRefused texts flaws answer
