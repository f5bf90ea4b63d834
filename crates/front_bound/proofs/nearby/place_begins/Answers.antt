use Rattle.std.proofs.Common.{get_or, ap, sym, subst, Contains}
use Rattle.front_table.specs.declared.labels.FrontLabel.{FrontLabel}
use Rattle.front_table.specs.Levels.{to_go_at}
use Rattle.front_bound.specs.Sides.{BeginGoesOn}
use Rattle.front_table.proofs.Each.{up_to}
use Rattle.front_table.proofs.PoolRows.{spreads_then}
use Rattle.front_bound.proofs.SideLemmas.{begin_case, begin_kept}
use Rattle.front_bound.proofs.nearby.place_begins.Goals as goal

pub loop-begin-preserved : goal.loop-begin-preserved
loop-begin-preserved c = record {
  space = record { strips = c.in_ok-done.ensures.space.strips; near = c.in_ok-done.ensures.space.near; cells = c.in_ok-done.ensures.space.cells };
  spreads = spreads_then c.args.outset.now.row c.args.sides.now c.loop-begin.sides c.place_begin.new.sides c.loop-begin.invariant.spreads c.in_ok-done.ensures.spreads;
  goes_on = up_to
      (λ (l : FrontLabel). BeginGoesOn c.args.outset.now.fronts.instance.now c.args.outset.now.fronts.rows.now (to_go_at c.args.outset.now.fronts.levels.now) c.args.outset.now.most c.place_begin.new.sides c.args.outset.now.row c.keep_clear.new.clear.items l c.args.class.now.plate c.args.class.now.low c.args.class.now.limits.top
      c.args.class.now.room c.args.class.now.limits.most) c.args.begins.now c.loop-begin.begin-index _ c.loop-begin-test.true
      (λ k d lt. begin_kept c.args.outset.now.fronts.instance.now c.args.outset.now.fronts.rows.now (to_go_at c.args.outset.now.fronts.levels.now) c.args.outset.now.most c.args.outset.now.row c.loop-begin.sides c.place_begin.new.sides c.args.outset.now.row c.loop-begin.space.clear.items c.keep_clear.new.clear.items
      (get_or c.args.begins.now k d) c.args.class.now.plate c.args.class.now.low c.args.class.now.limits.top c.args.class.now.room c.args.class.now.limits.most c.in_ok-done.ensures.spreads
      (λ l has. c.in_ok-keep_clear.ensures.kept l (subst (λ v. Contains v l) (ap (λ v. v.items) (sym c.in_ok-done.ensures.clear)) has)) (c.loop-begin.invariant.goes_on k d lt))
      (begin_case c.in_ok-done.done c.in_ok-keep_clear.ensures.new c.in_ok-done.ensures.goes_on);
}
