use Rattle.std.proofs.Common.{rules}
use Rattle.std.proofs.lemmas.Result.{IfOk-weaker}
use Rattle.box_workers.proofs.Outcome.{all_announced, all_done, all_whole, all_lawful, all_shown}
use Rattle.box_workers.proofs.searching.search_posting.Goals as goal

pub settle-requires-clause-small : goal.settle-requires-clause-small
settle-requires-clause-small g c =
    all_announced c.args.desk.now.ground.instance.now c.args.desk.now.shared.now c.args.start.items c.args.workers.now.count c.args.seat.now c.handle_all.new.seat c.in_ok-hand.hand c.handle_all.new.hand c.in_ok-waiting.waiting.items c.in_ok-waiting.ensures

pub finish-requires : goal.finish-requires
finish-requires g c =
    let d = c.in_ok-waiting.ensures in
    let done = all_done c.args.desk.now.ground.instance.now c.args.desk.now.shared.now c.args.start.items c.args.workers.now.count c.args.seat.now c.handle_all.new.seat c.in_ok-hand.hand c.handle_all.new.hand c.in_ok-waiting.waiting.items d in record {
      leasts = d.ended.run.leasts;
      bounds = done.bounds;
      frames = d.ended.run.frames;
      best = done.plan;
      first = c.requires.first;
    }

pub returns-clause-seat : goal.returns-clause-seat
returns-clause-seat g c =
    IfOk-weaker c.finish.result _ _ (λ h f. all_whole c.args.desk.now.ground.instance.now c.args.desk.now.shared.now c.args.start.items c.args.workers.now.count c.args.seat.now c.handle_all.new.seat c.in_ok-hand.hand c.handle_all.new.hand c.in_ok-waiting.waiting.items c.in_ok-waiting.ensures
    c.requires.newcomer c.settle.new.seat c.settle.ensures.same) c.finish.ensures

pub returns-clause-lawful : goal.returns-clause-lawful
returns-clause-lawful g c =
    IfOk-weaker c.finish.result _ _ (λ h f. all_lawful c.args.desk.now.ground.instance.now c.args.desk.now.shared.now c.args.start.items c.args.workers.now.count c.args.seat.now c.handle_all.new.seat c.in_ok-hand.hand c.handle_all.new.hand c.in_ok-waiting.waiting.items c.in_ok-waiting.ensures
    c.requires.newcomer c.settle.new.seat c.settle.ensures.same c.args.first c.args.desk.now.starts c.requires.count h
    f c.params-params.ensures.rules (search rules) c.settle.ensures.whole c.requires.ids c.requires.frames c.requires.loss c.requires.floor) c.finish.ensures

pub returns-clause-shows : goal.returns-clause-shows
returns-clause-shows g c =
    IfOk-weaker c.finish.result _ _ (λ h f. all_shown c.args.desk.now.ground.instance.now c.args.desk.now.shared.now c.args.start.items c.args.workers.now.count c.args.seat.now c.handle_all.new.seat c.in_ok-hand.hand c.handle_all.new.hand c.in_ok-waiting.waiting.items c.in_ok-waiting.ensures
    c.requires.newcomer c.settle.new.seat c.settle.ensures.same c.args.first c.args.desk.now.starts c.requires.count h
    f c.params-params.ensures.rules (search rules) c.settle.ensures.whole c.requires.ids c.requires.frames c.requires.loss c.requires.floor) c.finish.ensures
