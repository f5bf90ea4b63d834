use Rattle.cut_rules.proofs.Judged.{watched_more}
use Rattle.cut_rules.proofs.judge.WatchVisitor.visit.Goals as goal

pub returns : goal.returns
returns c = record {
  after = λ start seen h. (
    h.0,
    h.1,
    watched_more start.ground.instance.now start.rule seen c.args.family.now c.args.self.now.first c.first_or_breach-self.result h.2
        (rw (← h.0, ← h.1) c.first_or_breach-self.ensures),
  );
}
