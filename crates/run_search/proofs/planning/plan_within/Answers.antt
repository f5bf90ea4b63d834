use Rattle.std.proofs.Common.{ap, inl, length}
use Rattle.std.specs.Prelude.{option_map}
use Rattle.std.proofs.lemmas.Result.{err_from_is_err_and}
use Rattle.cut_model.specs.Tree.{tree}
use Rattle.run_search.proofs.Within.{plans_none, plans_too_much}
use Rattle.run_search.proofs.planning.plan_within.Goals as goal

pub returns-in_err-within_work : goal.returns-in_err-within_work
returns-in_err-within_work g c =
    let options = c.args.workforce.now.options in
    let passed = err_from_is_err_and c.from_residual.result c.from_residual.ensures.1 in
    rw (passed.1, passed.2)
    (plans_too_much c.args.ground.instance.now options.budget options.watch options.fronts _ _ _ c.in_err-within_work.field-0.0 (ap length c.items.ensures.value) c.from-boxes.ensures c.in_err-within_work.ensures)

pub returns-in_err-before : goal.returns-in_err-before
returns-in_err-before g c =
    let options = c.args.workforce.now.options in
    let passed = err_from_is_err_and c.from_residual-in_err-before.result c.from_residual-in_err-before.ensures.1 in
    rw (passed.1, passed.2)
    (plans_none c.args.ground.instance.now options.budget options.watch options.fronts _ c.in_err-before.field-0.0 (rw (c.items.ensures.value, c.from-boxes.ensures) at c.in_ok-within_work.ensures) c.in_err-before.ensures.plan)

pub returns : goal.returns
returns g c = λ names.
    inl (
      rw (c.items.ensures.value, c.from-boxes.ensures) at c.in_ok-within_work.ensures,
      inl (option_map tree c.in_ok-before.before, c.in_ok-before.ensures.plan, c.in_ok-plan_from.ensures names),
    )
