use Rattle.std.proofs.Common.{refl}
use Rattle.run_plans.proofs.Refusals.{defects_refused}
use Rattle.run_plans.proofs.instances.read_defects_with.Goals as goal

pub returns-in-Err-clause-said : goal.returns-in-Err-clause-said
returns-in-Err-clause-said c = defects_refused _ _ _ _ c.in-Err.reason _ c.requires refl c.in-Err.ensures.defects (rw c.text_refusal.ensures at c.stop_at.ensures)
