use Rattle.std.proofs.Common.{ℕ, subst}
use Rattle.box_workers.specs.inner.Rounds.{HasEnded}
use Rattle.box_workers.proofs.searching.handle_all.Goals as goal

pub returns : goal.returns
returns g c = record {
  seat = c.spread.new.seat;
  hand = c.spread.new.hand;
  before = c.in_ok-waiting.waiting.items;
  begun = c.in_ok-waiting.ensures.begun;
  ended = subst (λ (n : ℕ). HasEnded c.args.desk.now.ground.instance.now c.args.desk.now.shared.now n c.in_ok-waiting.waiting.items c.spread.new.seat c.run.new.seat c.spread.new.hand c.run.new.hand c.run.new.waiting.items) c.requires.starts c.in_ok-run.ensures.ends;
}
