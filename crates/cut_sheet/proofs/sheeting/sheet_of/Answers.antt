use Rattle.std.proofs.Common.{◌≡◌, ◌+◌, ◌++◌, ◌<◌, ◌≤◌, ℕ, List, [], length, drop, subst, sym, ap, ◌∙◌, arith, All, append-nil}
use Rattle.std.specs.Prelude.{Ok}
use Rattle.cut_model.specs.declared.family.Sort.{Sort}
use Rattle.cut_model.specs.declared.plan.Plate.{Plate}
use Rattle.cut_model.specs.Tree.{Forest, neighbour_count, plates_of, strips, tree}
use Rattle.cut_model.proofs.Neighbours.{neighbour_count-neighbours, none_left}
use Rattle.cut_model.proofs.Shapes.{tree_shaped}
use Rattle.cut_sheet.specs.declared.instr.Instr.{Instr}
use Rattle.cut_sheet.specs.Replays.{replayed}
use Rattle.cut_sheet.specs.Sheets.{pieces_of, plates_sheet, sheet_in}
use Rattle.cut_sheet.specs.Texts.{IsWritable}
use Rattle.cut_sheet.proofs.Making.{sheet_made}
use Rattle.cut_sheet.proofs.Writables.{plates_writable}
use Rattle.cut_sheet.proofs.sheeting.sheet_of.Goals as goal
use Rattle.glass_base.specs.declared.limits.TheConstants.{MOST_PLATES}

pub overflow_cast-place : goal.overflow_cast-place
overflow_cast-place c =
    omega (
      arith,
      ap length c.as_slice-plate-items.ensures,
      neighbour_count-neighbours (λ (p : Plate). 0) (λ (p : Plate). Sort.Branch) (λ (p : Plate). strips p.pieces.items) c.args.plan.now.plates.items,
      c.requires.cuttable.few,
      c.args.instance.now.params.accepted.few_plates,
    )

-- behind the last plate the whole sheet is written
whole : (c : goal.After-loop-place) → sheet_in (tree c.args.plan.now) ≡ c.loop-place.sheet.items
whole c =
    let none = none_left _ _ _ c.args.plan.now.plates.items c.loop-place.place (omega (arith, ap length c.as_slice-plate-items.ensures, c.loop-place-test.false)) in
    sym c.loop-place.invariant ∙ ap (λ (forest : Forest). c.loop-place.sheet.items ++ plates_sheet c.loop-place.place forest) none ∙ append-nil c.loop-place.sheet.items

pub returns-clause-replayed : goal.returns-clause-replayed
returns-clause-replayed c =
    let b = c.args.instance.now in
    let plan = c.args.plan.now in
    subst (λ (sheet : List Instr). replayed b sheet ≡ Ok (pieces_of b (tree plan))) (whole c) (sheet_made b (tree plan) (tree_shaped plan) c.requires.cuttable)

pub returns-clause-writable : goal.returns-clause-writable
returns-clause-writable c =
    let few : 0 + neighbour_count (tree c.args.plan.now) ≤ MOST_PLATES = omega (arith, c.requires.cuttable.few, c.args.instance.now.params.accepted.few_plates) in
    subst (All IsWritable) (whole c) (plates_writable 0 (tree c.args.plan.now) few c.requires.fits.in_range)
