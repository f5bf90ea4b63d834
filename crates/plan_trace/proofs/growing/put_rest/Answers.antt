use Rattle.std.proofs.Common.{◌∙◌, ap, sym, arith}
use Rattle.cut_model.specs.Tree.{Forest, nothing, piece, sort1, inner1}
use Rattle.plan_trace.specs.inner.Piles.{strips_pile}
use Rattle.plan_trace.proofs.Piling.{gap-there, piled-push}
use Rattle.plan_trace.proofs.growing.put_rest.Goals as goal

pub returns-in_ok-append : goal.returns-in_ok-append
returns-in_ok-append c =
    let old : Forest = strips_pile c.args.strips.now.items in
    ap strips_pile c.in_ok-append.ensures.ok
    ∙ piled-push (λ p. p.width) (λ p. sort1 p.body) (λ p. inner1 p.body) c.args.strips.now.items _ nothing
    ∙ ap (λ f. piece c.size_between.result (sort1 c.args.body) f old) c.requires
    ∙ ap (λ n. piece n (sort1 c.args.body) nothing old) c.size_between.ensures
    ∙ sym (gap-there c.args.from c.args.to (sort1 c.args.body) old (λ e. c.if-from.true (omega (arith, e, c.from.ensures))))
