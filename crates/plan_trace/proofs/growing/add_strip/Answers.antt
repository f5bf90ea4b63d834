use Rattle.std.proofs.Common.{◌∙◌, ◌-◌, ap, refl}
use Rattle.glass_base.specs.Plates.{Width}
use Rattle.cut_model.specs.declared.family.Sort.{Sort}
use Rattle.cut_model.specs.Tree.{Forest, sort1, inner1}
use Rattle.plan_trace.specs.Canonical.{Grown, end_sort, gap, hoisted, start_of}
use Rattle.plan_trace.specs.inner.Piles.{bands_pile, grown_of, start_in}
use Rattle.plan_trace.proofs.Piling.{put}
use Rattle.plan_trace.proofs.growing.add_strip.Goals as goal

pub returns : goal.returns
returns c =
    let b = c.args.instance.now in
    let g = c.args.growth.now in
    let t = c.take_strip.new.growth in
    let s = c.args.s.now in
    let end = Width b (s.plates - 1) in
    let here : Forest = gap 0 g.low Sort.Waste (bands_pile g.bands.items) in
    let end_is = c.width-end.ensures.value ∙ ap (Width b) c.saturating_sub.ensures in
    ap (λ (f : Forest). record (grown_of t) { strips = f; left = s.step.a })
    (put (λ p. p.width) (λ p. sort1 p.body) (λ p. inner1 p.body) t.strips.items c.put_rest.new.strips.items c.append.new.run.items _
    (s.step.b - s.step.a) s.step.b c.from.result t.left end c.start_of-start.result (end_sort (grown_of t).plates (grown_of t).strips) (sort1 c.end_body-rest.result) here here
    c.saturating_sub-width.ensures c.from.ensures (c.start_of-start.ensures ∙ ap (λ xs. start_in xs t.left c.width-end.result) c.as_slice.ensures ∙ ap (start_in t.strips.items t.left) end_is) c.end_body-rest.ensures.sort refl
    c.in_ok-put_rest.ensures c.in_ok-append.ensures.ok c.in_ok-body.ensures.sort c.in_ok-body.ensures.inner)
    ∙ ap (λ (x : Grown). record x { strips = hoisted (s.step.b - s.step.a) here (gap s.step.b (start_of x.strips x.left end) (end_sort x.plates x.strips) x.strips); left = s.step.a }) c.in_ok-body.ensures.rest
