use Rattle.std.proofs.Common.{◌+◌, get_or, refl, ap, arith}
use Rattle.glass_base.specs.declared.params.Params.{Params}
use Rattle.front_table.specs.Levels.{to_go_at}
use Rattle.front_table.proofs.PoolRows.{spreads_same, spreads_then}
use Rattle.front_bound.proofs.SideLemmas.{plate_none, plate_kept, plate_next, plate_all, plate_far}
use Rattle.front_bound.proofs.classes.handle_plate.Goals as goal

pub returns-then-start-outset-clause-goes_on : goal.returns-then-start-outset-clause-goes_on
returns-then-start-outset-clause-goes_on c =
    plate_far c.args.outset.now.fronts.instance.now c.args.outset.now.fronts.rows.now (to_go_at c.args.outset.now.fronts.levels.now) c.args.outset.now.most c.args.sides.now c.args.outset.now.row c.args.begins.now c.args.plate c.first_at-first.result (c.args.outset.now.fronts.instance.now.params.max1 + 1) c.first_at-first.ensures
    (omega (arith, c.if-start-outset.true, c.saturating_add-start.ensures, c.from.ensures, c.before-2.ensures.value))

pub loop-class-init : goal.loop-class-init
loop-class-init c = record {
  space = c.requires.space;
  spreads = spreads_same c.args.outset.now.row c.args.sides.now;
  goes_on = plate_none c.args.outset.now.fronts.instance.now c.args.outset.now.fronts.rows.now (to_go_at c.args.outset.now.fronts.levels.now) c.args.outset.now.most c.args.sides.now c.args.outset.now.row c.args.begins.now c.args.plate c.params-params.result.now.min1
      (omega (arith, ap (λ (p : Params). p.min1) c.params-params.ensures.value));
}

pub handle_class-requires-clause-class : goal.handle_class-requires-clause-class
handle_class-requires-clause-class c = record {
  plate = c.requires.plate;
  class = c.loop-class-test.true;
  top = refl;
  height = ap (λ (p : Params). p.height) c.params-params.ensures.value;
  bound = omega (arith, c.min.ensures, c.min-in-loop-class.ensures);
  narrow = omega (arith, c.min.ensures, c.min-in-loop-class.ensures, ap (λ (p : Params). p.max1) c.params-params.ensures.value);
  fits = λ w top most room. omega (arith, top, most, room, c.min.ensures, c.min-in-loop-class.ensures, ap (λ (p : Params). p.max1) c.params-params.ensures.value);
}

pub loop-class-preserved : goal.loop-class-preserved
loop-class-preserved c = record {
  space = c.in_ok-handle_class.ensures.space;
  spreads = spreads_then c.args.outset.now.row c.args.sides.now c.loop-class.sides c.handle_class.new.sides c.loop-class.invariant.spreads c.in_ok-handle_class.ensures.spreads;
  goes_on = plate_next c.args.outset.now.fronts.instance.now c.args.outset.now.fronts.rows.now (to_go_at c.args.outset.now.fronts.levels.now) c.args.outset.now.most c.handle_class.new.sides c.args.outset.now.row c.args.begins.now c.args.plate c.loop-class.low (get_or c.args.outset.now.fronts.tops.now c.loop-class.class 0)
      c.saturating_sub-room.result _ c.first_at-first.result c.in-Some.next
      (plate_kept c.args.outset.now.fronts.instance.now c.args.outset.now.fronts.rows.now (to_go_at c.args.outset.now.fronts.levels.now) c.args.outset.now.most c.args.outset.now.row c.loop-class.sides c.handle_class.new.sides c.args.outset.now.row c.args.begins.now c.args.plate c.loop-class.low
      c.in_ok-handle_class.ensures.spreads c.loop-class.invariant.goes_on)
      c.in_ok-handle_class.ensures.goes_on c.first_at-first.ensures (omega (arith, c.saturating_sub-room.ensures, c.width.ensures.value))
      (omega (arith, c.if-start-outset.false, c.saturating_add-start.ensures, c.from.ensures, c.before-2.ensures.value)) (omega (arith, c.in-Some.ensures));
}

pub returns-clause-goes_on : goal.returns-clause-goes_on
returns-clause-goes_on c =
    plate_all c.args.outset.now.fronts.instance.now c.args.outset.now.fronts.rows.now (to_go_at c.args.outset.now.fronts.levels.now) c.args.outset.now.most c.loop-class.sides c.args.outset.now.row c.args.begins.now c.args.plate c.loop-class.low (c.args.outset.now.fronts.instance.now.params.max1 + 1)
    (omega (arith, c.if-low-params.false, ap (λ (p : Params). p.max1) c.params-params.ensures.value)) c.loop-class.invariant.goes_on
