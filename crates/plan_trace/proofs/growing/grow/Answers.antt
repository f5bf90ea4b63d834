use Rattle.std.proofs.Common.{◌≡◌, ◌∙◌, ap, arith, drop}
use Rattle.cut_model.specs.declared.family.Sort.{Sort}
use Rattle.cut_model.specs.Tree.{plates_of, strips}
use Rattle.plan_trace.specs.Canonical.{Grown, grown}
use Rattle.plan_trace.specs.inner.Piles.{spots_of}
use Rattle.plan_trace.proofs.Piling.{pile-turned}
use Rattle.plan_trace.proofs.growing.grow.Goals as goal

pub returns : goal.returns
returns c =
    let none : c.loop-left.left ≡ 0 = omega arith in
    ap plates_of c.in_ok-plates.ensures
    ∙ pile-turned (λ p. 0) (λ p. Sort.Branch) (λ p. strips p.pieces.items) c.loop-left.growth.plates.items
    ∙ ap (λ (g : Grown). g.plates) c.loop-left.invariant.0
    ∙ ap (λ n. (grown c.args.instance.now (spots_of (drop n c.args.steps.now))).plates) none
