use Rattle.run_plans.proofs.Refusals.{lists_refused}
use Rattle.run_plans.proofs.instances.instance_of.Goals as goal

pub returns-in-Err : goal.returns-in-Err
returns-in-Err c = lists_refused _ _ _ _ _ _ c.in-Err.reason _ (rw (c.as_slice-4.ensures, c.as_slice-5.ensures) at c.in_ok-widths.ensures.said) c.in-Err.ensures.refused (rw c.lists_refusal.ensures at c.stop_at.ensures)
