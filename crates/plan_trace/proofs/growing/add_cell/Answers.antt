use Rattle.std.proofs.Common.{◌∙◌, ◌+◌, ◌-◌, ap, refl, arith, None}
use Rattle.cut_model.specs.declared.family.Sort.{Sort}
use Rattle.cut_model.specs.Tree.{Forest, sort3, inner3}
use Rattle.plan_trace.specs.Canonical.{Grown, cell_pieces, item_id}
use Rattle.plan_trace.specs.inner.Piles.{grown_of, start_in}
use Rattle.plan_trace.proofs.Piling.{put}
use Rattle.plan_trace.proofs.growing.add_cell.Goals as goal

pub returns : goal.returns
returns c =
    let g = c.args.growth.now in
    let s = c.args.s.now in
    let was : Grown = grown_of g in
    let here : Forest = cell_pieces g.above s.step.lift (s.step.d - s.step.c) s.h (item_id s.item) in
    ap (λ (f : Forest). record was { cells = f; from = s.step.e; above = None })
    (put (λ p. p.width) (λ p. sort3 p.body) (λ p. inner3 p.body) g.cells.items c.put_cell_waste.new.cells.items c.append.new.run.items _
    s.w (s.step.e + s.w) (c.from.result + c.from-2.result) g.from s.step.b c.start_of-start.result Sort.Waste Sort.Waste here _
    refl (omega (arith, c.from.ensures, c.from-2.ensures)) (c.start_of-start.ensures ∙ ap (λ xs. start_in xs g.from s.step.b) c.as_slice.ensures) refl
    (λ j. cell_pieces g.above s.step.lift (c.saturating_sub-height.ensures j) s.h (c.number_of.ensures j))
    c.in_ok-put_cell_waste.ensures c.in_ok-append.ensures.ok c.cell_body-body.ensures.sort c.cell_body-body.ensures.inner)
