use Rattle.std.proofs.Common.{◌≡◌, ◌∙◌, ap}
use Rattle.glass_base.specs.Run.{Listed}
use Rattle.cut_model.specs.declared.family.Sort.{Sort}
use Rattle.cut_model.specs.declared.plan.Piece3.{Piece3}
use Rattle.cut_model.specs.Tree.{cells, sort3, inner3}
use Rattle.plan_trace.specs.Canonical.{gap, hoisted_sort, hoisted_inner}
use Rattle.plan_trace.specs.inner.Piles.{cells_pile}
use Rattle.plan_trace.proofs.Piling.{pile-turned}
use Rattle.plan_trace.proofs.growing.take_band.Goals as goal
use Rattle.plan_trace.proofs.growing.take_band.Goals.{After-body_of_band}

made : (c : After-body_of_band) → cells c.in_ok-turned_round.field-0.items ≡ gap c.args.left c.args.growth.now.from Sort.Waste (cells_pile c.args.growth.now.cells.items)
made c =
    ap cells c.in_ok-turned_round.ensures
    ∙ pile-turned (λ p. p.width) (λ p. sort3 p.body) (λ p. inner3 p.body) c.replace-cells.result.items
    ∙ ap (λ (r : Listed Piece3). cells_pile r.items) c.replace-cells.ensures.value
    ∙ c.in_ok-put_cell_waste.ensures ∙ ap (λ n. gap n c.args.growth.now.from Sort.Waste (cells_pile c.args.growth.now.cells.items)) c.from.ensures

pub returns-clause-sort : goal.returns-clause-sort
returns-clause-sort c = c.body_of_band.ensures.sort ∙ ap hoisted_sort (made c)

pub returns-clause-inner : goal.returns-clause-inner
returns-clause-inner c = c.body_of_band.ensures.inner ∙ ap hoisted_inner (made c)
