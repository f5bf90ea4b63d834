-- The statuses of answers to texts that say no instance, or no plan.
use Rattle.std.proofs.Common.{ℕ, List, Option}
use Rattle.glass_base.specs.declared.role.Role.TheVariants as role
use Rattle.plan_csv.specs.declared.bad_plan.BadPlan.{BadPlan}
use Rattle.run_frame.specs.Answers.{Answer, lists_refusal, text_refusal}
use Rattle.run_frame.specs.Texts.{Texts}
use Rattle.run_frame.proofs.Statuses.{Refuses, refused}
use Rattle.run_plans.specs.Instances.{InstanceRefused}
use Rattle.run_plans.specs.Instances.InstanceRefused.{bad_batch, bad_defects, bad_lists, bad_params as bad_parameters, bad_plates}
use Rattle.run_plans.specs.Judgements.{PlanRefused, plan_refusal}

-- the answer to texts that say no instance refuses one of them
pub instance_refused : (texts : Texts) (flaws : Option (List ℕ)) (answer : Answer) → InstanceRefused texts flaws answer → Refuses answer
instance_refused texts flaws answer (bad_batch reason said h) = refused (text_refusal role.Batch reason) answer h
instance_refused texts flaws answer (bad_defects items reason said is h) = refused (text_refusal role.Defects reason) answer h
instance_refused texts flaws answer (bad_parameters items defects reason said is h) = refused (text_refusal role.Params reason) answer h
instance_refused texts flaws answer (bad_plates items defects params reason said is h) = refused (text_refusal role.Plates reason) answer h
instance_refused texts flaws answer (bad_lists items defects params widths reason said is h) = refused (lists_refusal reason) answer h

-- so does the answer to a text that says no plan
pub plan_refused : (reason : BadPlan) (answer : Answer) → PlanRefused reason answer → Refuses answer
plan_refused reason answer h = refused (plan_refusal reason) answer h
