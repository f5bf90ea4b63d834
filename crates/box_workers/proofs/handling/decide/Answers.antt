use Rattle.std.proofs.Common.{rules, refl, ◌≤◌, arith}
use Rattle.cert_log.specs.Lawful.{no_loss}
use Rattle.box_workers.proofs.Probing.{closed_as, finds_none, improves_from, no_point}
use Rattle.box_workers.proofs.Steps.{refuted_fails}
use Rattle.box_workers.proofs.handling.decide.Goals as goal

pub returns-in-Some-clause-decides : goal.returns-in-Some-clause-decides
returns-in-Some-clause-decides c =
    let l = c.look-seen.ensures in let first = c.in-Some.ensures.first in
    let small : c.args.hand.now.loss ≤ no_loss = search rules in (
      c.look-seen.result,
      no_loss,
      record {
        valid = c.frame-frame.ensures.rules;
        before = l.seen;
        announced = l.announced;
        first = l.first;
        whole = l.whole;
        improves = improves_from _ _ _ _ _ _ c.args.hand.now c.args.hand.now _ l.view refl refl (finds_none _ _ _ _ _ (refuted_fails _ _ _ first) small refl refl);
        is_act = (refl, first);
        worker = refl;
        log = refl;
        left = refl;
        spares = refl;
      },
    )

pub returns-in-Some-closing_cause-clause-decides : goal.returns-in-Some-closing_cause-clause-decides
returns-in-Some-closing_cause-clause-decides c =
    let l = c.look-seen.ensures in let i = c.improve-broken.ensures.improves in let same = c.improve-broken.ensures.same in (
      c.look-seen.result,
      i.0,
      record {
        valid = c.frame-frame.ensures.rules;
        before = l.seen;
        announced = l.announced;
        first = l.first;
        whole = l.whole;
        improves = improves_from _ _ _ _ _ _ c.args.hand.now _ _ l.view refl refl i.1;
        is_act = closed_as _ _ c.floor.result _ _ _ c.bound_at-bound.result _ c.in-Some-closing_cause.cause c.floor.ensures c.min-threshold.ensures c.in_default.ensures.first c.bound_at-bound.ensures c.in-Some-closing_cause.ensures;
        worker = same.1;
        log = same.2;
        left = same.3;
        spares = same.4;
      },
    )

pub choose-step-requires : goal.choose-step-requires
choose-step-requires c =
    let i = c.improve-broken.ensures.improves in
    no_point c.args.ground.instance.now c.args.bx.now c.look-seen.result i.0 c.improve-broken.new.hand.loss c.bound_at-bound.result c.requires.frame c.frame-frame.ensures.rules c.params-params.ensures.rules.some c.in_default.ensures.first i.1.is_probed (let e = i.1.loss in omega arith) c.bound_at-bound.ensures (let t = c.in_default-closing_cause.ensures in let m = c.min-threshold.ensures in omega arith)

pub returns-clause-decides : goal.returns-clause-decides
returns-clause-decides c =
    let l = c.look-seen.ensures in let i = c.improve-broken.ensures.improves in let same = c.improve-broken.ensures.same in (
      c.look-seen.result,
      i.0,
      record {
        valid = c.frame-frame.ensures.rules;
        before = l.seen;
        announced = l.announced;
        first = l.first;
        whole = l.whole;
        improves = improves_from _ _ _ _ _ _ c.args.hand.now _ _ l.view refl refl i.1;
        is_act = (c.in_default.ensures.first, (let t = c.in_default-closing_cause.ensures in let e = c.bound_at-bound.ensures in let m = c.min-threshold.ensures in omega arith), c.choose-step.ensures);
        worker = same.1;
        log = same.2;
        left = same.3;
        spares = same.4;
      },
    )
