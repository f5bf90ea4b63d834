use Rattle.std.proofs.Common.{ap, inl, length}
use Rattle.std.proofs.lemmas.Result.{err_from_is_err_and}
use Rattle.cut_model.specs.Tree.{tree}
use Rattle.plan_csv.specs.PlanTexts.{plan_said}
use Rattle.command_line.specs.declared.kinds.Product.TheVariants as product
use Rattle.run_frame.specs.Forms.{answer_in}
use Rattle.run_checks.specs.FrozenChecks.{LeavesNone}
use Rattle.run_plans.specs.Judgements.{TellsBreach, TellsNoPlan}
use Rattle.run_search.specs.Freezes.FreezesPlan.{broken_plan, none_left, planned}
use Rattle.run_search.proofs.FoundBehind.{refused_plan, said_plan}
use Rattle.run_search.proofs.Within.{freezes_told, freezes_too_much}
use Rattle.run_search.proofs.freezing.freeze_within.Goals as goal

pub returns-in_err-within_work : goal.returns-in_err-within_work
returns-in_err-within_work g c =
    let options = c.args.workforce.now.options in
    let passed = err_from_is_err_and c.from_residual.result c.from_residual.ensures.1 in
    rw (passed.1, passed.2)
    (freezes_too_much c.args.ground.instance.now c.args.k options.budget options.fronts c.args.bytes.now _ _ c.in_err-within_work.field-0.0 (ap length c.items.ensures.value) c.from-boxes.ensures c.in_err-within_work.ensures)

pub returns-in_err-plan : goal.returns-in_err-plan
returns-in_err-plan g c =
    let b = c.args.ground.instance.now in
    let options = c.args.workforce.now.options in
    let passed = err_from_is_err_and c.from_residual-in_err-plan.result c.from_residual-in_err-plan.ensures.1 in
    rw (passed.1, passed.2)
    (freezes_told b c.args.k options.budget options.fronts c.args.bytes.now (TellsNoPlan b c.args.bytes.now) c.in_err-plan.field-0.0 (rw (c.items.ensures.value, c.from-boxes.ensures) at c.in_ok-within_work.ensures)
    (λ answer out cert told. refused_plan b c.args.k options.budget options.fronts c.args.bytes.now out cert answer told) c.in_err-plan.ensures.plan)

pub returns-in_err-lawful : goal.returns-in_err-lawful
returns-in_err-lawful g c =
    let b = c.args.ground.instance.now in
    let options = c.args.workforce.now.options in
    let plan = tree c.in_ok-plan.plan in
    let passed = err_from_is_err_and c.from_residual-in_err-lawful.result c.from_residual-in_err-lawful.ensures.1 in
    rw (passed.1, passed.2)
    (freezes_told b c.args.k options.budget options.fronts c.args.bytes.now (TellsBreach b plan) c.in_err-lawful.field-0.0 (rw (c.items.ensures.value, c.from-boxes.ensures) at c.in_ok-within_work.ensures)
    (λ answer out cert told. said_plan b plan c.args.k options.budget options.fronts (plan_said b c.args.bytes.now) out cert answer c.in_ok-plan.ensures.plan (broken_plan told.0 told.1 told.2 told.3))
    c.in_err-lawful.ensures)

pub returns-in_err-leaves_some : goal.returns-in_err-leaves_some
returns-in_err-leaves_some g c =
    let b = c.args.ground.instance.now in
    let options = c.args.workforce.now.options in
    let plan = tree c.in_ok-plan.plan in
    let passed = err_from_is_err_and c.from_residual-in_err-leaves_some.result c.from_residual-in_err-leaves_some.ensures.1 in
    rw (passed.1, passed.2)
    (freezes_told b c.args.k options.budget options.fronts c.args.bytes.now (LeavesNone plan c.args.k) c.in_err-leaves_some.field-0.0 (rw (c.items.ensures.value, c.from-boxes.ensures) at c.in_ok-within_work.ensures)
    (λ answer out cert told. said_plan b plan c.args.k options.budget options.fronts (plan_said b c.args.bytes.now) out cert answer c.in_ok-plan.ensures.plan (none_left c.in_ok-lawful.ensures told.0 told.1))
    c.in_err-leaves_some.ensures)

pub returns : goal.returns
returns g c = λ names.
    let b = c.args.ground.instance.now in
    let options = c.args.workforce.now.options in
    inl (
      rw (c.items.ensures.value, c.from-boxes.ensures) at c.in_ok-within_work.ensures,
      said_plan b (tree c.in_ok-plan.plan) c.args.k options.budget options.fronts (plan_said b c.args.bytes.now) (names product.Plan) (names product.Certificate)
          (answer_in names c.in_ok-plan_behind.field-0) c.in_ok-plan.ensures.plan (planned (c.in_ok-plan_behind.ensures names)),
    )
