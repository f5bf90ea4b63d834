use Rattle.std.proofs.Common.{◌≡◌, ◌∙◌, ap}
use Rattle.glass_base.specs.Run.{Listed}
use Rattle.cut_model.specs.declared.family.Sort.{Sort}
use Rattle.cut_model.specs.declared.plan.Piece2.{Piece2}
use Rattle.cut_model.specs.Tree.{bands, sort2, inner2}
use Rattle.plan_trace.specs.Canonical.{gap, hoisted_sort, hoisted_inner}
use Rattle.plan_trace.specs.inner.Piles.{bands_pile}
use Rattle.plan_trace.proofs.Piling.{pile-turned}
use Rattle.plan_trace.proofs.growing.take_strip.Goals as goal
use Rattle.plan_trace.proofs.growing.take_strip.Goals.{After-body_of_strip}

made : (c : After-body_of_strip) → bands c.in_ok-turned_round.field-0.items ≡ gap 0 c.args.growth.now.low Sort.Waste (bands_pile c.args.growth.now.bands.items)
made c =
    ap bands c.in_ok-turned_round.ensures
    ∙ pile-turned (λ p. p.height) (λ p. sort2 p.body) (λ p. inner2 p.body) c.replace-bands.result.items
    ∙ ap (λ (r : Listed Piece2). bands_pile r.items) c.replace-bands.ensures.value
    ∙ c.in_ok-put_band_waste.ensures

pub returns-clause-sort : goal.returns-clause-sort
returns-clause-sort c = c.body_of_strip.ensures.sort ∙ ap hoisted_sort (made c)

pub returns-clause-inner : goal.returns-clause-inner
returns-clause-inner c = c.body_of_strip.ensures.inner ∙ ap hoisted_inner (made c)
