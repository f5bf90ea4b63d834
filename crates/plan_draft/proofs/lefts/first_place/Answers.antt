use Rattle.std.proofs.Common.{ap, arith}
use Rattle.glass_base.specs.declared.params.Params.{Params}
use Rattle.glass_base.proofs.PlateLemmas.{width_within}
use Rattle.plan_draft.proofs.Beginnings.{best_all, best_more, best_none, best_skip, end_within}
use Rattle.plan_draft.proofs.lefts.first_place.Goals as goal

pub blocked_left-requires-clause-left : goal.blocked_left-requires-clause-left
blocked_left-requires-clause-left c =
    let s = c.args.site in
    omega (
      arith,
      c.loop-left-test.true,
      c.far_end.ensures,
      end_within s.ground.instance.now s.plate c.args.from c.args.item.now c.loop-left.left c.loop-left.best c.loop-left.invariant.0,
      (width_within s.ground.instance.now s.plate c.params.ensures.rules).1,
    )

pub place_at-requires-clause-left : goal.place_at-requires-clause-left
place_at-requires-clause-left c =
    let s = c.args.site in
    omega (
      arith,
      c.loop-left-test.true,
      c.far_end.ensures,
      end_within s.ground.instance.now s.plate c.args.from c.args.item.now c.loop-left.left c.loop-left.best c.loop-left.invariant.0,
      (width_within s.ground.instance.now s.plate c.params.ensures.rules).1,
    )

pub loop-left-preserved-in-Some : goal.loop-left-preserved-in-Some
loop-left-preserved-in-Some c =
    let s = c.args.site in (
      best_skip s.ground.instance.now s.plate c.args.from c.args.item.now c.loop-left.left c.in-Some.next c.loop-left.best c.in-Some.ensures c.loop-left.invariant.0,
      omega (arith, c.loop-left.invariant.1, c.in-Some.ensures.further),
      c.in-Some.ensures.near,
    )

pub loop-left-preserved : goal.loop-left-preserved
loop-left-preserved c =
    let s = c.args.site in (
      best_more s.ground.instance.now s.plate c.args.from c.args.item.now c.loop-left.left c.loop-left.best c.place_at.result c.first_of-best.result c.first_of-best.ensures c.in-None.ensures c.loop-left.invariant.0 c.place_at.ensures,
      omega (arith, c.loop-left.invariant.1),
      omega (
        arith,
        c.loop-left-test.true,
        c.far_end.ensures,
        end_within s.ground.instance.now s.plate c.args.from c.args.item.now c.loop-left.left c.loop-left.best c.loop-left.invariant.0,
        (width_within s.ground.instance.now s.plate c.params.ensures.rules).1,
      ),
    )

pub loop-left-init : goal.loop-left-init
loop-left-init c =
    let s = c.args.site in (
      best_none s.ground.instance.now s.plate c.args.from c.args.item.now,
      omega arith,
      omega (arith, c.if-from-width.false, c.width.ensures.value, (width_within s.ground.instance.now s.plate c.width.ensures.rules).1),
    )

pub returns : goal.returns
returns c =
    let s = c.args.site in
    best_all s.ground.instance.now s.plate c.args.from c.args.item.now c.loop-left.left c.loop-left.best (omega (arith, c.loop-left-test.false, c.far_end.ensures, ap (λ (p : Params). p.min1) c.params.ensures.value)) c.loop-left.invariant.0
