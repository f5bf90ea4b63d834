use Rattle.std.proofs.Common.{◌∙◌, ap, sym, arith}
use Rattle.cut_model.specs.declared.family.Sort.{Sort}
use Rattle.cut_model.specs.Tree.{Forest, nothing, piece, sort3, inner3}
use Rattle.plan_trace.specs.inner.Piles.{cells_pile}
use Rattle.plan_trace.proofs.Piling.{gap-there, piled-push}
use Rattle.plan_trace.proofs.growing.put_cell_waste.Goals as goal

pub returns-in_ok-append : goal.returns-in_ok-append
returns-in_ok-append c =
    let old : Forest = cells_pile c.args.cells.now.items in
    ap cells_pile c.in_ok-append.ensures.ok
    ∙ piled-push (λ p. p.width) (λ p. sort3 p.body) (λ p. inner3 p.body) c.args.cells.now.items _ nothing
    ∙ ap (λ n. piece n Sort.Waste nothing old) c.size_between.ensures
    ∙ sym (gap-there c.args.from c.args.to Sort.Waste old (λ e. c.if-from.true (omega (arith, e, c.from.ensures))))
