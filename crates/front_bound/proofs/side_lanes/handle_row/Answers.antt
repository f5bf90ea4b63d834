use Rattle.std.proofs.Common.{◌+◌, sym, subst, arith}
use Rattle.front_table.specs.Levels.{to_go_at}
use Rattle.front_table.specs.Sets.{Held}
use Rattle.front_bound.specs.Sides.{NextHeld, PlateGoesOn, RowGoesOn}
use Rattle.front_table.proofs.Known.{fronts_built}
use Rattle.front_bound.proofs.SideLemmas.{row_goes_on}
use Rattle.front_bound.proofs.side_lanes.handle_row.Goals as goal

pub returns-clause-goes_on : goal.returns-clause-goes_on
returns-clause-goes_on c =
    let fronts = c.args.outset.now.fronts in
    let row = c.args.outset.now.row in
    let most = c.args.outset.now.most in
    subst (λ l. RowGoesOn fronts.instance.now fronts.rows.now (to_go_at fronts.levels.now) most l c.handle_plates.new.sides row) c.labels.ensures
    (row_goes_on fronts.instance.now fronts.rows.now fronts.levels.now most c.handle_plates.new.sides row c.labels.result.now c.begins_of.new.begins.items
    ((fronts_built fronts c.args.outset.now.built).to_go row (omega (arith, c.args.outset.now.inside, c.args.outset.now.even)))
    c.in_ok-begins_of.ensures.own
    (λ from plate held. subst (λ far. NextHeld fronts.instance.now far most c.begins_of.new.begins.items from plate) c.to_go-far.ensures (c.in_ok-begins_of.ensures.next from plate held))
    (λ plate lt. subst (λ l. PlateGoesOn fronts.instance.now fronts.rows.now (to_go_at fronts.levels.now) most c.handle_plates.new.sides row l plate (fronts.instance.now.params.max1 + 1)) c.as_slice.ensures.value
    (c.in_ok-handle_plates.ensures.goes_on plate lt)))
