-- The rows of the commands: which words each of them has.
use Rattle.std.specs.Prelude.{◌==◌, ◌++◌, ℕ, List, [], ◌∷◌, Bool, codes}
use Rattle.glass_base.specs.declared.role.Role.{Role}
use Rattle.glass_base.specs.declared.role.Role.TheVariants as role
use Rattle.command_line.specs.declared.kinds.Count.TheVariants as count
use Rattle.command_line.specs.declared.kinds.Flag.TheVariants as flag
use Rattle.command_line.specs.declared.kinds.Lead.{Lead}
use Rattle.command_line.specs.declared.kinds.Lead.TheVariants as lead
use Rattle.command_line.specs.declared.kinds.LineOption.{LineOption}
use Rattle.command_line.specs.declared.kinds.LineOption.TheVariants as option
use Rattle.command_line.specs.declared.kinds.Product.{Product}
use Rattle.command_line.specs.declared.kinds.Product.TheVariants as product
use Rattle.command_line.specs.declared.kinds.Verb.{Verb}
use Rattle.command_line.specs.declared.kinds.Verb.TheVariants as verb

-- what the words of a command are: its own word, then a number for each of these, a name for each file that it reads and for each that
-- it stores, in this order, and then options; a dash may stand in the place of a file that it can do without
pub record Pattern : Type 0 where
  pub word : List ℕ
  pub leads : List Lead
  pub reads : List Role
  pub without : List Role
  pub stores : List Product
  pub options : List LineOption

-- the options that name files of other parameters and other plates
abbrev pub sizes : List LineOption
sizes = option.File role.Params ∷ option.File role.Plates ∷ []

-- the options that say how much a search may do
abbrev pub limits : List LineOption
limits = option.Number count.Workers ∷ option.Number count.Budget ∷ option.Number count.Effort ∷ option.Number count.Seconds ∷ []

-- what most commands are: they read a batch and its defects, and options name files of other parameters and other plates
abbrev pub usual : Pattern
usual = record {
  word = [];
  leads = [];
  reads = role.Batch ∷ role.Defects ∷ [];
  without = [];
  stores = [];
  options = sizes;
}

-- what commands store that search for a plan
abbrev pub found : List Product
found = product.Plan ∷ product.Certificate ∷ []

-- what commands are that check a certificate: they can do without a plan, and a search over fronts may show the certificate's floor
abbrev pub check : Pattern
check = record usual { reads = role.Batch ∷ role.Defects ∷ role.Plan ∷ role.Cert ∷ []; without = role.Plan ∷ []; options = sizes ++ option.Number count.Checkers ∷ option.Number count.FrontsLimit ∷ [] }

-- each command by its own word, and by what is not as usual
abbrev pub pattern_of : Verb → Pattern
pattern_of verb.Draft = record usual { word = codes "draft"; reads = role.Batch ∷ []; stores = product.Plan ∷ [] }
pattern_of verb.Plan = record usual { word = codes "plan"; stores = found; options = sizes ++ option.File role.Plan ∷ limits ++ option.Word flag.Watch ∷ option.Word flag.Fronts ∷ [] }
pattern_of verb.Gen = record usual {
  word = codes "gen";
  leads = lead.Start ∷ lead.Items ∷ lead.Defects ∷ [];
  reads = [];
  stores = found;
  options = limits ++ option.Word flag.Fronts ∷ [];
}
pattern_of verb.Judge = record usual { word = codes "judge"; reads = role.Batch ∷ role.Defects ∷ role.Plan ∷ [] }
pattern_of verb.Verify = record check { word = codes "verify"; options = sizes ++ option.Number count.Frozen ∷ option.Number count.Checkers ∷ option.Number count.FrontsLimit ∷ [] }
pattern_of verb.Convert = record check { word = codes "convert"; stores = product.Certificate ∷ [] }
pattern_of verb.Resume = record check { word = codes "resume"; stores = found; options = sizes ++ limits ++ option.Number count.FrontsLimit ∷ option.Word flag.Fronts ∷ [] }
pattern_of verb.Freeze = record usual { word = codes "freeze"; leads = lead.Frozen ∷ []; reads = role.Batch ∷ role.Defects ∷ role.Plan ∷ []; stores = found; options = sizes ++ limits ++ option.Word flag.Fronts ∷ [] }
pattern_of verb.Sheet = record usual { word = codes "sheet"; reads = role.Batch ∷ role.Defects ∷ role.Plan ∷ []; stores = product.Sheet ∷ [] }
pattern_of verb.Replay = record usual { word = codes "replay"; reads = role.Batch ∷ role.Defects ∷ role.Sheet ∷ [] }

-- the one command of the program that draws, which has no word of its own
abbrev pub picture : Pattern
picture = record usual { reads = role.Batch ∷ role.Defects ∷ role.Plan ∷ []; stores = product.Picture ∷ [] }

-- the commands of `glass`
abbrev pub verbs : List Verb
verbs = verb.Draft ∷ verb.Plan ∷ verb.Gen ∷ verb.Judge ∷ verb.Verify ∷ verb.Convert ∷ verb.Resume ∷ verb.Freeze ∷ verb.Sheet ∷ verb.Replay ∷ []

-- the order in which the files of a command line are fetched and read
abbrev pub fetch_order : List Role
fetch_order = role.Batch ∷ role.Defects ∷ role.Params ∷ role.Plates ∷ role.Plan ∷ role.Cert ∷ role.Sheet ∷ []

-- the numbers before the names by their order
abbrev pub lead_place : Lead → ℕ
lead_place lead.Start = 0
lead_place lead.Items = 1
lead_place lead.Defects = 2
lead_place lead.Frozen = 3

abbrev pub is_lead : Lead → Lead → Bool
is_lead of other = lead_place of == lead_place other

-- what can be stored, by its order
abbrev pub product_place : Product → ℕ
product_place product.Plan = 0
product_place product.Certificate = 1
product_place product.Sheet = 2
product_place product.Picture = 3

abbrev pub is_product : Product → Product → Bool
is_product of other = product_place of == product_place other
