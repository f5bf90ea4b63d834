use Rattle.std.proofs.Common.{◌≡◌, ◌+◌, ◌*◌, ◌≤◌, IfSome, Option, arith, ap, subst}
use Rattle.glass_base.specs.declared.item.Item.{Item}
use Rattle.glass_base.specs.Items.{IsItemInRange}
use Rattle.glass_base.specs.Problem.{item_at}
use Rattle.plan_trace.specs.Marks.{Draw, Place, begins, drawn, item_height}
use Rattle.plan_box.specs.Decisions.{draw_at}
use Rattle.plan_box.specs.Packed.{unpacked}
use Rattle.box_bound.specs.inner.Drawn.{draw_in}
use Rattle.plan_box.specs.Follows.{draws_of}
use Rattle.plan_box.proofs.Sizes.{cell_high, item_small}
use Rattle.box_bound.proofs.kept.Kept.next.Goals as goal

pub next-so_far-requires-clause-cell_h : goal.next-so_far-requires-clause-cell_h
next-so_far-requires-clause-cell_h c =
    let b = c.args.instance.now in
    let k = c.args.self.now in
    let draws = draws_of c.args.before.now in
    let d = draw_in c.draw_at-draw.result in
    let drawn_is : d ≡ draw_at (unpacked c.args.ranges.now) = c.draw_at-draw.ensures in
    let item = subst (λ (o : Option Item). IfSome o IsItemInRange) (ap (λ (p : Place). p.item) c.next-place.ensures.value) c.next-place.ensures.item in
    let lift : d.lift ≤ 1 = omega (arith, ap (λ (x : Draw). x.lift) drawn_is, c.requires.ranges.lift) in
    let own = item_small b draws d lift item in
    omega (arith, ap (λ (p : Place). p.cell_h) c.next-place.ensures.value, cell_high (begins draws d.kind) k.place.cell_h (item_height d.turn (item_at b d.stack (drawn draws d.stack)) + d.lift * b.params.waste) (omega (arith, own)))
