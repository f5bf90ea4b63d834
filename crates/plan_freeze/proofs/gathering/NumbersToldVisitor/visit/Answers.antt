use Rattle.std.proofs.Common.{[], ◌∷◌, sym, append-nil}
use Rattle.plan_freeze.proofs.Gathered.{gathered_more, own_item, own_none}
use Rattle.plan_freeze.proofs.gathering.NumbersToldVisitor.visit.Goals as goal

pub returns-in_ok-append : goal.returns-in_ok-append
returns-in_ok-append c = record {
  after = λ start seen h. (
    h.0,
    gathered_more start.plates start.numbers.items c.args.self.now.numbers.items c.append.new.run.items (c.in-Item.number ∷ []) seen c.args.family.now
        (own_item start.plates c.args.self.now.plates c.in-Item.number c.args.family.now h.0 c.if-family-self.true c.requires.named c.in-Item.is) c.in_ok-append.ensures.ok h.1,
  );
}

pub returns-in_default : goal.returns-in_default
returns-in_default c = record {
  after = λ start seen h. (
    h.0,
    gathered_more start.plates start.numbers.items c.args.self.now.numbers.items c.args.self.now.numbers.items [] seen c.args.family.now
        (own_none start.plates c.args.self.now.plates c.args.family.now h.0 c.if-family-self.true c.requires.named c.in_default.not-Item) (sym (append-nil c.args.self.now.numbers.items)) h.1,
  );
}
