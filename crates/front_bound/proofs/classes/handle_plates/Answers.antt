use Rattle.std.proofs.Common.{◌+◌}
use Rattle.front_table.specs.Levels.{to_go_at}
use Rattle.front_bound.specs.Sides.{PlateGoesOn}
use Rattle.front_table.proofs.Each.{below_next}
use Rattle.front_table.proofs.PoolRows.{spreads_then}
use Rattle.front_bound.proofs.SideLemmas.{plate_kept}
use Rattle.front_bound.proofs.classes.handle_plates.Goals as goal

pub loop-plate-preserved : goal.loop-plate-preserved
loop-plate-preserved c = record {
  space = c.in_ok-handle_plate.ensures.space;
  spreads = spreads_then c.args.outset.now.row c.args.sides.now c.loop-plate.sides c.handle_plate.new.sides c.loop-plate.invariant.spreads c.in_ok-handle_plate.ensures.spreads;
  goes_on = below_next (λ k. PlateGoesOn c.args.outset.now.fronts.instance.now c.args.outset.now.fronts.rows.now (to_go_at c.args.outset.now.fronts.levels.now) c.args.outset.now.most c.handle_plate.new.sides c.args.outset.now.row c.args.begins.now k (c.args.outset.now.fronts.instance.now.params.max1 + 1)) c.loop-plate.plate
      (λ k lt. plate_kept c.args.outset.now.fronts.instance.now c.args.outset.now.fronts.rows.now (to_go_at c.args.outset.now.fronts.levels.now) c.args.outset.now.most c.args.outset.now.row c.loop-plate.sides c.handle_plate.new.sides c.args.outset.now.row c.args.begins.now k (c.args.outset.now.fronts.instance.now.params.max1 + 1)
      c.in_ok-handle_plate.ensures.spreads (c.loop-plate.invariant.goes_on k lt))
      c.in_ok-handle_plate.ensures.goes_on;
}
