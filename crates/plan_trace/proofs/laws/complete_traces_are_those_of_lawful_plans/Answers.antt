use Rattle.plan_trace.proofs.Exactly.{complete_exactly}
use Rattle.plan_trace.proofs.laws.complete_traces_are_those_of_lawful_plans.Goals as goal

pub returns : goal.returns
returns c = complete_exactly
