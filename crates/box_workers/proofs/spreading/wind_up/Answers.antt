use Rattle.std.proofs.Common.{subst, sym}
use Rattle.std.proofs.lemmas.Result.{IfOk-weaker}
use Rattle.box_ring.specs.Arms.{AllOfFrame}
use Rattle.box_workers.proofs.Rings.{left_weighs}
use Rattle.box_workers.proofs.spreading.wind_up.Goals as goal

pub returns-clause-rest : goal.returns-clause-rest
returns-clause-rest c =
    IfOk-weaker c.drain_all.result _ _ (λ boxes left weight. left_weighs c.in_ok-arms.arms.items c.args.members.items c.in-Ok.gathered boxes.items c.in_ok-arms.ensures.arms c.in-Ok.ensures.ok left weight) c.drain_all.ensures.left

pub returns-clause-frames : goal.returns-clause-frames
returns-clause-frames c = IfOk-weaker c.drain_all.result _ _ (λ boxes framed f of. framed f (c.in-Ok.ensures.ok.frame f (subst (AllOfFrame f) (sym c.in_ok-arms.ensures.arms) of))) c.drain_all.ensures.frames
