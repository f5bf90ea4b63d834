use Rattle.run_plans.proofs.Refusals.{batch_refused}
use Rattle.run_plans.proofs.instances.read_items.Goals as goal

pub returns-in-Err-clause-said : goal.returns-in-Err-clause-said
returns-in-Err-clause-said c = batch_refused _ _ _ c.in-Err.reason _ c.text_or_empty.ensures c.in-Err.ensures.items (rw c.text_refusal.ensures at c.stop_at.ensures)
