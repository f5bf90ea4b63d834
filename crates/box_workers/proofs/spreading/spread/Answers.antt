use Rattle.std.proofs.Common.{◌≡◌, All, rules, subst, sym}
use Rattle.plan_box.specs.Frames.{frame_of}
use Rattle.plan_box.specs.Ranges.{PlainBox}
use Rattle.box_workers.specs.inner.Teamwork.{HasBegun}
use Rattle.box_workers.proofs.Lists.{all_reverse}
use Rattle.box_workers.proofs.Stages.{begun_none}
use Rattle.box_workers.proofs.spreading.spread.Goals as goal

pub returns-then-workers-eq1-clause-frames : goal.returns-then-workers-eq1-clause-frames
returns-then-workers-eq1-clause-frames g c =
    let Fits : PlainBox → Type 0 = λ x. x.frame ≡ frame_of c.args.desk.now.ground.instance.now in
    subst (All Fits) (sym c.reverse.ensures.items) (all_reverse Fits c.args.start.items c.requires.frames)

pub returns-then-workers-eq1-clause-begun : goal.returns-then-workers-eq1-clause-begun
returns-then-workers-eq1-clause-begun g c =
    let begun = begun_none c.args.desk.now.ground.instance.now c.args.desk.now.shared.now _ c.args.start.items c.args.workers.now.count c.args.seat.now c.args.hand.now c.requires.newcomer c.requires.hand.0 c.requires.hand.1 c.args.desk.now.limits.1 (search rules) in
    subst (HasBegun c.args.desk.now.ground.instance.now c.args.desk.now.shared.now _ c.args.start.items c.args.workers.now.count c.args.seat.now c.args.seat.now c.args.hand.now c.args.hand.now) (sym c.reverse.ensures.items) begun
