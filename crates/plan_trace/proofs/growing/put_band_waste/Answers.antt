use Rattle.std.proofs.Common.{◌∙◌, ap, sym, arith}
use Rattle.cut_model.specs.declared.family.Sort.{Sort}
use Rattle.cut_model.specs.Tree.{Forest, nothing, piece, sort2, inner2}
use Rattle.plan_trace.specs.inner.Piles.{bands_pile}
use Rattle.plan_trace.proofs.Piling.{gap-there, piled-push}
use Rattle.plan_trace.proofs.growing.put_band_waste.Goals as goal

pub returns-in_ok-append : goal.returns-in_ok-append
returns-in_ok-append c =
    let old : Forest = bands_pile c.args.bands.now.items in
    ap bands_pile c.in_ok-append.ensures.ok
    ∙ piled-push (λ p. p.height) (λ p. sort2 p.body) (λ p. inner2 p.body) c.args.bands.now.items _ nothing
    ∙ ap (λ n. piece n Sort.Waste nothing old) c.size_between.ensures
    ∙ sym (gap-there c.args.from c.args.to Sort.Waste old (λ e. c.if-from.true (omega (arith, e, c.from.ensures))))
