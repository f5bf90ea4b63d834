use Rattle.std.proofs.Common.{◌+◌, ◌<◌, ◌^◌, ℕ, subst, sym}
use Rattle.std.specs.Prelude.{IfSome}
use Rattle.std.proofs.lemmas.Result.{IfOk-weaker}
use Rattle.cut_model.specs.Tree.{tree}
use Rattle.command_line.specs.declared.kinds.Product.TheVariants as product
use Rattle.run_frame.specs.Forms.{answer_in}
use Rattle.run_search.proofs.FoundBehind.{bound_raises, freezes, loss_raises, whole_fits}
use Rattle.run_search.proofs.freezing.plan_behind.Goals as goal

pub reply_with_whole-requires-clause-fits : goal.reply_with_whole-requires-clause-fits
reply_with_whole-requires-clause-fits g c =
    let f = c.in_ok-found.found in
    whole_fits c.args.instance.now (tree c.args.plan.now) c.args.k c.args.workforce.now.options.budget c.args.workforce.now.options.fronts f.certificate (tree f.best) (tree c.in_ok-whole.whole) c.requires.fits c.requires.rows c.in_ok-found.ensures.fits c.in_ok-found.ensures.found c.in_ok-whole.ensures

pub reply_with_whole-requires-clause-loss : goal.reply_with_whole-requires-clause-loss
reply_with_whole-requires-clause-loss g c =
    let f = c.in_ok-found.found in
    subst (λ (more : ℕ). IfSome f.certificate.loss (λ n. more + n < 2 ^ 64)) (sym c.frozen_loss-more.ensures)
    (loss_raises c.args.instance.now (tree c.args.plan.now) c.args.k c.args.workforce.now.options.budget c.args.workforce.now.options.fronts f.certificate (tree f.best) c.items-items.ensures.rules c.requires.lawful c.requires.fewer c.in_ok-found.ensures.found)

pub reply_with_whole-requires-clause-bound : goal.reply_with_whole-requires-clause-bound
reply_with_whole-requires-clause-bound g c =
    let f = c.in_ok-found.found in
    subst (λ (more : ℕ). IfSome f.certificate.bound (λ n. more + n < 2 ^ 64)) (sym c.frozen_loss-more.ensures)
    (bound_raises c.args.instance.now (tree c.args.plan.now) c.args.k c.args.workforce.now.options.budget c.args.workforce.now.options.fronts f.certificate (tree f.best) c.items-items.ensures.rules c.requires.lawful c.requires.fewer c.in_ok-found.ensures.found)

pub returns : goal.returns
returns g c =
    let f = c.in_ok-found.found in
    IfOk-weaker c.reply_with_whole.result _ _
    (λ r told names.
    freezes c.args.instance.now (tree c.args.plan.now) c.args.k c.args.workforce.now.options.budget c.frozen_loss-more.result c.args.workforce.now.options.fronts f.certificate (tree f.best) c.in_ok-whole.whole (names product.Plan) (names product.Certificate) (answer_in names r)
    c.items-items.ensures.rules c.requires.lawful c.requires.fewer c.args.workforce.now.options.bounded.1 c.in_ok-found.ensures.found c.requires.fits c.requires.rows c.in_ok-found.ensures.fits c.frozen_loss-more.ensures c.in_ok-whole.ensures (told names))
    c.reply_with_whole.ensures
