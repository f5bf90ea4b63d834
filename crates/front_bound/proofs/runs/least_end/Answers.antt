use Rattle.std.proofs.Common.{ℕ, ◌+◌, ◌<◌, ◌≤◌, arith}
use Rattle.glass_base.specs.Plates.{Before, Width}
use Rattle.plan_trace.specs.TraceRules.{Gap}
use Rattle.front_table.specs.declared.labels.FrontLabel.{FrontLabel}
use Rattle.front_table.specs.Sets.{Fits}
use Rattle.front_table.proofs.Each.{up_to}
use Rattle.front_table.proofs.HeldLists.{held_each}
use Rattle.front_bound.proofs.runs.least_end.Goals as goal

pub loop-side-preserved : goal.loop-side-preserved
loop-side-preserved c = record {
  most = omega (arith, c.end_by-least.ensures.least, c.loop-side.invariant.most);
  ends = up_to (λ (l : FrontLabel). (right plate : ℕ) → Fits l right plate → plate < c.args.instance.now.params.plates → Gap c.args.instance.now.params.waste right (Width c.args.instance.now plate) → c.end_by-least.result ≤ Before c.args.instance.now plate + right) c.args.sides.now
      c.loop-side.side-index _ c.loop-side-test.true (λ k d lt right plate fits few gap. omega (arith, c.end_by-least.ensures.least, c.loop-side.invariant.ends k d lt right plate fits few gap)) c.end_by-least.ensures.side;
}

pub returns-clause-ends : goal.returns-clause-ends
returns-clause-ends c =
    held_each c.args.sides.now (λ right plate. plate < c.args.instance.now.params.plates → Gap c.args.instance.now.params.waste right (Width c.args.instance.now plate) → c.loop-side.least ≤ Before c.args.instance.now plate + right)
    (λ k d lt. c.loop-side.invariant.ends k d (omega (arith, lt, c.loop-side-test.false)))
