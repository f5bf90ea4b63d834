use Rattle.std.proofs.Common.{ap, ◌∙◌}
use Rattle.cut_model.specs.Tree.{tree}
use Rattle.cut_sheet.specs.Texts.{sheet_text}
use Rattle.cut_sheet.proofs.Cuttables.{lawful_cuttable}
use Rattle.command_line.specs.declared.kinds.Product.TheVariants as product
use Rattle.run_plans.specs.Sheets.{instructions_line}
use Rattle.run_plans.proofs.Sheeted.{sheeted_is}
use Rattle.run_plans.proofs.sheeting.store_sheet.Goals as goal

pub sheet_of-requires-clause-cuttable : goal.sheet_of-requires-clause-cuttable
sheet_of-requires-clause-cuttable c = lawful_cuttable c.args.instance.now (tree c.args.plan.now) c.params-params.ensures.rules c.requires.lawful

pub returns : goal.returns
returns c =
    λ names. rw c.in_ok-one_output.ensures
    (sheeted_is (names product.Sheet) c.in_ok-bytes.bytes.items _ c.in_ok-sheet.sheet.items _ (c.in_ok-bytes.ensures ∙ ap sheet_text c.as_slice-2.ensures)
    (c.in_ok-lines.ensures ∙ ap instructions_line c.as_slice.ensures) c.in_ok-sheet.ensures.sheet)
