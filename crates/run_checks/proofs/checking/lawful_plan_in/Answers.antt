use Rattle.std.specs.Prelude.{option_map}
use Rattle.std.proofs.lemmas.Result.{err_from_is_err_and}
use Rattle.cut_model.specs.Tree.{tree}
use Rattle.run_checks.proofs.Accepting.{plan_not_lawful, text_not_lawful}
use Rattle.run_checks.proofs.checking.lawful_plan_in.Goals as goal

pub returns-in_err-said-clause-plan : goal.returns-in_err-said-clause-plan
returns-in_err-said-clause-plan c =
    let passed = err_from_is_err_and c.from_residual.result c.from_residual.ensures.1 in
    rw (passed.1, passed.2)
    (text_not_lawful c.args.ground.instance.now _ c.in_err-said.field-0.0 c.in_err-said.ensures.plan)

pub returns-in_err-judge_plan_in-clause-plan : goal.returns-in_err-judge_plan_in-clause-plan
returns-in_err-judge_plan_in-clause-plan c =
    let passed = err_from_is_err_and c.from_residual-in_err-judge_plan_in.result c.from_residual-in_err-judge_plan_in.ensures.1 in
    rw (passed.1, passed.2)
    (plan_not_lawful c.args.ground.instance.now _ (option_map tree c.in_ok-said.said) c.in_err-judge_plan_in.field-0.0 c.in_ok-said.ensures.plan c.in_err-judge_plan_in.ensures)
