use Rattle.std.proofs.Common.{◌∙◌, ◌-◌, ap, refl}
use Rattle.cut_model.specs.declared.family.Sort.{Sort}
use Rattle.cut_model.specs.Tree.{Forest, sort2, inner2}
use Rattle.plan_trace.specs.Canonical.{Grown, gap, hoisted, start_of}
use Rattle.plan_trace.specs.inner.Piles.{cells_pile, grown_of, start_in}
use Rattle.plan_trace.proofs.Piling.{put}
use Rattle.plan_trace.proofs.growing.add_band.Goals as goal

pub returns : goal.returns
returns c =
    let g = c.args.growth.now in
    let t = c.take_band.new.growth in
    let s = c.args.s.now in
    let height = c.args.params.now.height in
    let here : Forest = gap s.step.a g.from Sort.Waste (cells_pile g.cells.items) in
    ap (λ (f : Forest). record (grown_of t) { bands = f; low = s.step.c })
    (put (λ p. p.height) (λ p. sort2 p.body) (λ p. inner2 p.body) t.bands.items c.put_band_waste.new.bands.items c.append.new.run.items _
    (s.step.d - s.step.c) s.step.d c.from.result t.low height c.start_of-start.result Sort.Waste Sort.Waste here here
    c.saturating_sub-height.ensures c.from.ensures (c.start_of-start.ensures ∙ ap (λ xs. start_in xs t.low height) c.as_slice.ensures) refl refl
    c.in_ok-put_band_waste.ensures c.in_ok-append.ensures.ok c.in_ok-body.ensures.sort c.in_ok-body.ensures.inner)
    ∙ ap (λ (x : Grown). record x { bands = hoisted (s.step.d - s.step.c) here (gap s.step.d (start_of x.bands x.low height) Sort.Waste x.bands); low = s.step.c }) c.in_ok-body.ensures.rest
