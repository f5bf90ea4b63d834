use Rattle.std.proofs.Common.{ℕ, ◌+◌, ap, arith, inl, length}
use Rattle.std.specs.Prelude.{option_map}
use Rattle.std.proofs.lemmas.Result.{err_from_is_err_and}
use Rattle.cut_model.specs.Tree.{tree}
use Rattle.cert_log.proofs.GoodNodes.{good_counts, good_left}
use Rattle.run_checks.specs.Checks.{loss_in, root_ranges}
use Rattle.run_search.proofs.Within.{resumes_none, resumes_too_much}
use Rattle.run_search.proofs.resuming.resume_within.Goals as goal

pub returns-in_err-checked : goal.returns-in_err-checked
returns-in_err-checked g c =
    let options = c.args.workforce.now.options in
    let passed = err_from_is_err_and c.from_residual.result c.from_residual.ensures.1 in
    rw (passed.1, passed.2) (resumes_none c.args.ground.instance.now _ c.args.cert_text.now options.budget options.fronts c.in_err-checked.field-0.0 c.in_err-checked.ensures.accepted)

pub overflow_add-boxes : goal.overflow_add-boxes
overflow_add-boxes g c =
    let b = c.args.ground.instance.now in let checked = c.in_ok-checked.checked in
    let loss = loss_in b (option_map tree checked.plan) in
    let accepted = c.in_ok-checked.ensures.accepted in
    let counts = good_counts b (root_ranges b) loss checked.certificate accepted.good in
    let few = good_left b (root_ranges b) loss checked.certificate accepted.good in
    let nodes = c.len-nodes.ensures in let fits = c.len-nodes.type_inv in
    let budget = c.from.ensures in let most = c.args.workforce.now.options.bounded.1 in omega arith

pub returns-in_err-within_work : goal.returns-in_err-within_work
returns-in_err-within_work g c =
    let options = c.args.workforce.now.options in
    let checked = c.in_ok-checked.checked in
    let passed = err_from_is_err_and c.from_residual-in_err-within_work.result c.from_residual-in_err-within_work.ensures.1 in
    rw (passed.1, passed.2)
    (resumes_too_much c.args.ground.instance.now _ c.args.cert_text.now options.budget options.fronts (option_map tree checked.plan) checked.certificate _ _ c.in_err-within_work.field-0.0 c.in_ok-checked.ensures.accepted
    (ap length c.items.ensures.value) (ap (λ (n : ℕ). n + checked.certificate.left) c.from.ensures) c.in_err-within_work.ensures)

pub returns : goal.returns
returns g c = λ names.
    let checked = c.in_ok-checked.checked in
    let found = c.in_ok-found.found in
    inl (
      option_map tree checked.plan,
      checked.certificate,
      c.in_ok-checked.ensures.accepted,
      inl (
        rw (c.items.ensures.value, c.from.ensures) at c.in_ok-within_work.ensures,
        record { certificate = found.certificate; best = option_map tree found.plan; resumed = c.in_ok-found.ensures.resumed; answer_is = c.in_ok-reply_if_readable.ensures names },
      ),
    )
