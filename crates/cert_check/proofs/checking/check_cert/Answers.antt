use Rattle.std.proofs.Common.{rules, ◌≡◌, inl, inr}
use Rattle.plan_box.specs.Frames.{frame_of}
use Rattle.plan_box.specs.Ranges.{root_of}
use Rattle.cert_check.specs.declared.walk.Walked.{Walked}
use Rattle.cert_check.specs.inner.Walks.{Finds}
use Rattle.cert_check.proofs.Judging.{refuses, closes_all, closes_wrong}
use Rattle.cert_check.proofs.checking.check_cert.Goals as goal

pub returns-in-Fault : goal.returns-in-Fault
returns-in-Fault g c =
    let same : c.args.cert.now.loss ≡ c.args.loss = search rules in
    let found : Finds c.args.instance.now (root_of (frame_of c.args.instance.now) 0).ranges c.args.loss c.args.cert.now (Walked.Fault c.in-Fault.line c.in-Fault.why) = search rules in
    refuses c.args.instance.now _ c.args.loss c.args.cert.now c.in-Fault.line c.in-Fault.why c.requires.tree (inr (inl (same, found)))

pub returns-in-Some : goal.returns-in-Some
returns-in-Some g c =
    let same : c.args.cert.now.loss ≡ c.args.loss = search rules in
    let found : Finds c.args.instance.now (root_of (frame_of c.args.instance.now) 0).ranges c.args.loss c.args.cert.now (Walked.Whole c.in-Whole.tally) = search rules in
    closes_wrong c.args.instance.now _ c.args.loss c.args.cert.now c.in-Whole.tally c.in-Some.why c.requires.tree same found c.in-Some.ensures

pub returns-in-None : goal.returns-in-None
returns-in-None g c =
    let same : c.args.cert.now.loss ≡ c.args.loss = search rules in
    let found : Finds c.args.instance.now (root_of (frame_of c.args.instance.now) 0).ranges c.args.loss c.args.cert.now (Walked.Whole c.in-Whole.tally) = search rules in
    closes_all c.args.instance.now _ c.args.loss c.args.cert.now c.in-Whole.tally c.judge_floor.result c.requires.tree same found c.in-None.ensures c.judge_floor.ensures
