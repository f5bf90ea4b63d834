use Rattle.std.proofs.Common.{◌≡◌, length, map, sym, ap, ◌∙◌, subst}
use Rattle.std.proofs.Math.Logic.{∥∥₁_map}
use Rattle.glass_base.specs.declared.params.Params.{Params}
use Rattle.front_table.specs.Leads.{BandsLead}
use Rattle.front_table.specs.Levels.{to_go_at}
use Rattle.front_table.specs.Packed.{unpacked_all}
use Rattle.front_table.specs.Tails.{AllBehind, unit_in}
use Rattle.front_table.specs.Widths.{Rises}
use Rattle.front_table.proofs.Known.{open_known}
use Rattle.front_table.proofs.LevelLists.{is_open}
use Rattle.front_table.proofs.Paths.{leads_below}
use Rattle.front_table.proofs.StackTails.{class_tails_behind}
use Rattle.front_table.proofs.facts.open_row.Goals as goal

pub all_tails_behind-requires-clause-rises : goal.all_tails_behind-requires-clause-rises
all_tails_behind-requires-clause-rises c = subst Rises (sym c.as_slice.ensures.value) c.in_ok-bands.ensures.rises

pub returns-clause-open : goal.returns-clause-open
returns-clause-open c =
    let fronts = c.args.fronts.now in
    let b = fronts.instance.now in
    let rows = fronts.rows.now in
    let levels = fronts.levels.now in
    let bands = c.in_ok-bands.bands.items in
    let all = c.in_ok-tails.tails.items in
    let behind = subst (λ l. AllBehind all levels l fronts.tops.now c.unit_of-unit.result (length fronts.tops.now)) c.as_slice.ensures.value c.in_ok-tails.ensures in
    let packed : unpacked_all c.in_ok-packed.packed.items ≡ bands = c.in_ok-packed.ensures ∙ c.as_slice-2.ensures.value in
    open_known b rows fronts.tops.now fronts.cover (to_go_at levels) c.args.row _ (∥∥₁_map fronts.lattice (λ lattice.
    is_open b rows fronts.tops.now fronts.cover (to_go_at levels) c.args.row _ c.in_ok-ends.ensures.falls (subst Rises (sym packed) c.in_ok-bands.ensures.rises)
    (subst (BandsLead b rows c.args.row) (sym packed) c.in_ok-bands.ensures.bands) c.in_ok-ends.ensures.ends
    (class_tails_behind b rows fronts.tops.now levels c.args.row bands all c.unit_of-unit.result (leads_below b rows lattice c.args.row (length levels) c.requires.below) c.in_ok-bands.ensures.bands c.requires.built.tails behind
    (c.unit_of-unit.ensures ∙ ap (λ (p : Params). unit_in p.height) c.params.ensures.value))))
