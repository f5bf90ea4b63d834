-- What is told of a text or of lists that are refused is the answer where the texts say no instance.
use Rattle.std.proofs.Common.{◌≡◌, ℕ, List, Option, Result, Ok, Err}
use Rattle.glass_base.specs.BadInstance.{RefusesLists}
use Rattle.glass_base.specs.declared.bad_text.BadText.{BadText}
use Rattle.glass_base.specs.declared.bad_text.BadText.TheVariants as bad
use Rattle.glass_base.specs.declared.instance.BadInstance.{BadInstance}
use Rattle.glass_base.specs.declared.item.Defect.{Defect}
use Rattle.glass_base.specs.declared.item.Item.{Item}
use Rattle.glass_base.specs.declared.params.Params.{Params}
use Rattle.glass_base.specs.declared.role.Role.{Role}
use Rattle.glass_base.specs.declared.role.Role.TheVariants as role
use Rattle.batch_csv.specs.Batches.{items_of}
use Rattle.csv_table.specs.Readings.{Fails}
use Rattle.run_frame.specs.Answers.{Answer, Refused, lists_refusal, text_refusal}
use Rattle.run_frame.specs.Forms.{OnTold}
use Rattle.run_plans.specs.Instances.{InstanceRefused, RefusesParams, SayAll, SayLists, SayStock, defects_in, items_said, widths_in}
use Rattle.run_plans.specs.Instances.InstanceRefused.{bad_batch, bad_defects, bad_lists, bad_params, bad_plates}
use Rattle.run_frame.specs.Texts.{Texts, text_for, text_or_empty}
use Rattle.run_frame.specs.declared.notices.Stop.{Stop}
use Rattle.run_frame.specs.declared.notices.Stop.TheVariants as stop

-- a reason that is told is the one for which the text is refused
refused_as : {Y : Type 0} (of : Role) (reason : BadText) (said : Result Y BadText) (answer : Answer) → Fails reason said → Refused (text_refusal of reason) answer → said ≡ Err reason
refused_as of bad.Memory said answer fails told = absurd told
refused_as of (bad.Record row fields) said answer fails told = fails
refused_as of (bad.Number row column) said answer fails told = fails
refused_as of (bad.Range row column) said answer fails told = fails
refused_as of (bad.EmptyDefect row) said answer fails told = fails
refused_as of (bad.ZeroWidth row) said answer fails told = fails
refused_as of (bad.Params reason) said answer fails told = fails

pub batch_refused : (texts : Texts) (flaws : Option (List ℕ)) (text : List ℕ) (reason : BadText) (stopped : Stop) → text ≡ text_or_empty texts role.Batch → Fails reason (items_of text) →
    OnTold (Refused (text_refusal role.Batch reason)) stopped → OnTold (InstanceRefused texts flaws) stopped
batch_refused texts flaws text reason stop.Memory is fails told = tt
batch_refused texts flaws text reason (stop.Told notice) is fails told = bad_batch reason (refused_as role.Batch reason _ _ (rw is at fails) told) told

pub defects_refused : (texts : Texts) (flaws : Option (List ℕ)) (items : List Item) (text : Option (List ℕ)) (reason : BadText) (stopped : Stop) → items_said texts ≡ Ok items →
    text ≡ flaws → Fails reason (defects_in text) → OnTold (Refused (text_refusal role.Defects reason)) stopped → OnTold (InstanceRefused texts flaws) stopped
defects_refused texts flaws items text reason stop.Memory said is fails told = tt
defects_refused texts flaws items text reason (stop.Told notice) said is fails told =
    bad_defects items reason said (refused_as role.Defects reason _ _ (rw is at fails) told) told

pub params_refused : (texts : Texts) (flaws : Option (List ℕ)) (items : List Item) (defects : List Defect) (text : Option (List ℕ)) (reason : BadText) (stopped : Stop) →
    SayLists texts flaws items defects → text ≡ text_for texts role.Params → RefusesParams text reason →
    OnTold (Refused (text_refusal role.Params reason)) stopped → OnTold (InstanceRefused texts flaws) stopped
params_refused texts flaws items defects text reason stop.Memory said is refuses told = tt
params_refused texts flaws items defects text reason (stop.Told notice) said is refuses told = bad_params items defects reason said (rw is at refuses) told

pub plates_refused : (texts : Texts) (flaws : Option (List ℕ)) (items : List Item) (defects : List Defect) (params : Params) (text : Option (List ℕ)) (reason : BadText) (stopped : Stop) →
    SayStock texts flaws items defects params → text ≡ text_for texts role.Plates → Fails reason (widths_in params text) →
    OnTold (Refused (text_refusal role.Plates reason)) stopped → OnTold (InstanceRefused texts flaws) stopped
plates_refused texts flaws items defects params text reason stop.Memory said is fails told = tt
plates_refused texts flaws items defects params text reason (stop.Told notice) said is fails told =
    bad_plates items defects params reason said (refused_as role.Plates reason _ _ (rw is at fails) told) told

pub lists_refused : (texts : Texts) (flaws : Option (List ℕ)) (items : List Item) (defects : List Defect) (params : Params) (widths : List ℕ) (reason : BadInstance) (stopped : Stop) →
    SayAll texts flaws items defects params widths → RefusesLists reason items defects → OnTold (Refused (lists_refusal reason)) stopped → OnTold (InstanceRefused texts flaws) stopped
lists_refused texts flaws items defects params widths reason stop.Memory said refuses told = tt
lists_refused texts flaws items defects params widths reason (stop.Told notice) said refuses told = bad_lists items defects params widths reason said refuses told
