use Rattle.run_plans.proofs.Refusals.{params_refused}
use Rattle.run_plans.proofs.instances.read_params_with.Goals as goal

pub returns-in-Err : goal.returns-in-Err
returns-in-Err c = params_refused _ _ _ _ _ c.in-Err.reason _ c.requires c.text_of_role.ensures c.in-Err.ensures.refused (rw c.text_refusal.ensures at c.stop_at.ensures)
