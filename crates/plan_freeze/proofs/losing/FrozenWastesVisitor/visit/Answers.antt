use Rattle.std.proofs.Common.{arith}
use Rattle.plan_freeze.proofs.WastesBefore.{wasted_more}
use Rattle.plan_freeze.proofs.losing.FrozenWastesVisitor.visit.Goals as goal

pub returns-then-family-self : goal.returns-then-family-self
returns-then-family-self c = record {
  after = λ start seen h. (h.0, wasted_more c.args.family.now (omega (arith, h.0, c.if-family-self.true)) c.requires.small (λ fits. omega (arith, c.saturating_add-self.ensures, c.area_lost.ensures, fits)) h.1);
}
