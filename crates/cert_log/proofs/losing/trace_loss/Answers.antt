use Rattle.std.proofs.Common.{ap, arith, length, rules}
use Rattle.loss_area.proofs.TraceEnds.{begun_few}
use Rattle.cert_log.proofs.losing.trace_loss.Goals as goal

pub reach-requires : goal.reach-requires
reach-requires c = omega (arith, begun_few c.as_slice.result.now, ap length c.as_slice.ensures, c.requires, c.params.ensures.rules.few_items)

pub returns-clause-loss : goal.returns-clause-loss
returns-clause-loss c = search rules
