use Rattle.std.proofs.lemmas.Result.{IfOk-weaker}
use Rattle.plan_box.specs.Frames.{frame_of}
use Rattle.box_workers.proofs.Rings.{done_seats, done_ring, done_frames}
use Rattle.box_workers.proofs.spreading.work_together.Goals as goal

pub wind_up-requires-clause-seats : goal.wind_up-requires-clause-seats
wind_up-requires-clause-seats g c = done_seats c.args.desk.now.ground.instance.now c.args.desk.now.shared.now c.args.desk.now.starts c.in_ok-members.members.items c.work_all-members.result.items c.work_all-members.ensures

pub wind_up-requires-clause-ring : goal.wind_up-requires-clause-ring
wind_up-requires-clause-ring g c = done_ring c.args.desk.now.ground.instance.now c.args.desk.now.shared.now c.args.desk.now.starts c.in_ok-members.members.items c.work_all-members.result.items c.work_all-members.ensures c.in_ok-members.ensures.set.ring

pub returns-clause-frames : goal.returns-clause-frames
returns-clause-frames g c =
    let f = frame_of c.args.desk.now.ground.instance.now in
    let of = done_frames c.args.desk.now.ground.instance.now c.args.desk.now.shared.now c.args.desk.now.starts f c.in_ok-members.members.items c.work_all-members.result.items c.work_all-members.ensures c.in_ok-members.ensures.set.frames in
    IfOk-weaker c.wind_up.result _ _ (λ boxes framed. framed f of) c.wind_up.ensures.frames
