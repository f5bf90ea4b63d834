use Rattle.std.proofs.Common.{get_or, ◌∙◌, ap, arith}
use Rattle.glass_base.specs.declared.params.Params.{Params}
use Rattle.front_table.specs.Levels.{to_go_at}
use Rattle.front_table.proofs.Leasts.{least_none, least_next, least_all, least_zero}
use Rattle.front_table.proofs.far.least_strip.Goals as goal

pub loop-class-init : goal.loop-class-init
loop-class-init c = record {
  len = c.in_ok-first.ensures;
  least = least_none c.args.behind.now.fronts.instance.now c.args.behind.now.fronts.rows.now (to_go_at c.args.behind.now.fronts.levels.now) c.args.behind.now.start c.params-params.result.now.min1 c.args.limit _ (omega (arith, ap (λ (p : Params). p.min1) c.params-params.ensures.value));
}

pub returns-in_default-clause-least : goal.returns-in_default-clause-least
returns-in_default-clause-least c = least_zero c.args.behind.now.fronts.instance.now c.args.behind.now.fronts.rows.now (to_go_at c.args.behind.now.fronts.levels.now) c.args.behind.now.start

pub loop-class-preserved : goal.loop-class-preserved
loop-class-preserved c = record {
  len = c.in_ok-least.ensures.len ∙ c.loop-class.invariant.len;
  least = least_next c.args.behind.now.fronts.instance.now c.args.behind.now.fronts.rows.now (to_go_at c.args.behind.now.fronts.levels.now) c.args.behind.now.start c.loop-class.low (get_or c.args.behind.now.fronts.tops.now c.loop-class.class 0) c.args.limit c.loop-class.found c.min-most.result c.in_ok-least.least c.min-found.result
      c.in-Some.next c.loop-class.invariant.least c.in_ok-least.ensures.least (λ n near less. omega (arith, near, less, c.min-most.ensures, c.saturating_sub.ensures)) (omega (arith, c.min-found.ensures)) (omega (arith, c.min-found.ensures)) (omega (arith, c.in-Some.ensures));
}

pub returns-then-low-params-clause-least : goal.returns-then-low-params-clause-least
returns-then-low-params-clause-least c = least_zero c.args.behind.now.fronts.instance.now c.args.behind.now.fronts.rows.now (to_go_at c.args.behind.now.fronts.levels.now) c.args.behind.now.start

pub returns-clause-least : goal.returns-clause-least
returns-clause-least c =
    least_all c.args.behind.now.fronts.instance.now c.args.behind.now.fronts.rows.now (to_go_at c.args.behind.now.fronts.levels.now) c.args.behind.now.start c.loop-class.low c.args.limit c.loop-class.found c.min.result c.loop-class.invariant.least
    (omega (arith, c.if-low-params.false, ap (λ (p : Params). p.max1) c.params-params.ensures.value)) (omega (arith, c.min.ensures)) (omega (arith, c.min.ensures, c.saturating_add.ensures))
