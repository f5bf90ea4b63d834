use Rattle.run_plans.proofs.Refusals.{plates_refused}
use Rattle.run_plans.proofs.instances.read_widths_with.Goals as goal

pub returns-in-Err-clause-said : goal.returns-in-Err-clause-said
returns-in-Err-clause-said c = plates_refused _ _ _ _ _ _ c.in-Err.reason _ c.requires c.text_of_role.ensures c.in-Err.ensures.widths (rw c.text_refusal.ensures at c.stop_at.ensures)
