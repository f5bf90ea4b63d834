use Rattle.std.proofs.Common.{rules, ◌≡◌, ◌+◌, ◌*◌, ◌∙◌, IfSome, Option, arith, ap, subst}
use Rattle.std.proofs.lemmas.Grind.{common_steps}
use Rattle.glass_base.specs.declared.item.Item.{Item}
use Rattle.glass_base.specs.Items.{IsItemInRange}
use Rattle.glass_base.specs.Problem.{item_at}
use Rattle.plan_trace.specs.declared.level.Level.{Level}
use Rattle.plan_trace.specs.Marks.{Place, begins, drawn, item_height}
use Rattle.plan_box.specs.Decisions.{draw_at}
use Rattle.plan_box.specs.Leasts.{fixed, next_known}
use Rattle.plan_box.specs.Packed.{unpacked}
use Rattle.plan_box.specs.Follows.{draws_of}
use Rattle.plan_box.proofs.Sizes.{cell_high, item_small, width_small}
use Rattle.cert_check.specs.inner.Knowns.{known_in, place_in}
use Rattle.cert_check.proofs.Placing.{cuts_are, level_is, place_is}
use Rattle.cert_check.proofs.filling.next.Goals as goal

pub with_cuts-requires-clause-behind : goal.with_cuts-requires-clause-behind
with_cuts-requires-clause-behind c =
    let draws = draws_of c.args.before.now in
    let level : c.level_behind-level.result ≡ begins draws (unpacked c.args.ranges.now).kind.low = search rules in
    cuts_are c.next_place-step.result _ (known_in c.args.last.now) _ (c.next_place-step.ensures.value draws c.requires.taken level)

pub with_cuts-requires-clause-cell_w : goal.with_cuts-requires-clause-cell_w
with_cuts-requires-clause-cell_w c =
    let b = c.args.instance.now in
    let draws = draws_of c.args.before.now in
    let d = draw_at (unpacked c.args.ranges.now) in
    let level : c.level_behind-level.result ≡ begins draws d.kind = search rules in
    let place = place_is c.next_place-step.result _ (known_in c.args.last.now) _ (c.next_place-step.ensures.value draws c.requires.taken level) in
    let item = subst (λ (o : Option Item). IfSome o IsItemInRange) (ap (λ (p : Place). p.item) place) c.next_place-step.ensures.item in
    grind (arith, common_steps, ap (λ (p : Place). p.cell_w) place, width_small d.turn (item_at b d.stack (drawn draws d.stack)) item)

pub with_cuts-requires-clause-cell_h : goal.with_cuts-requires-clause-cell_h
with_cuts-requires-clause-cell_h c =
    let b = c.args.instance.now in
    let k = known_in c.args.last.now in
    let draws = draws_of c.args.before.now in
    let d = draw_at (unpacked c.args.ranges.now) in
    let level : c.level_behind-level.result ≡ begins draws d.kind = search rules in
    let place = place_is c.next_place-step.result _ (known_in c.args.last.now) _ (c.next_place-step.ensures.value draws c.requires.taken level) in
    let item = subst (λ (o : Option Item). IfSome o IsItemInRange) (ap (λ (p : Place). p.item) place) c.next_place-step.ensures.item in
    let own = item_small b draws d c.requires.ranges.lift item in
    omega (arith, ap (λ (p : Place). p.cell_h) place, cell_high (begins draws d.kind) k.cell_h (item_height d.turn (item_at b d.stack (drawn draws d.stack)) + d.lift * b.params.waste) (omega (arith, own)))

pub returns : goal.returns
returns c =
    let b = c.args.instance.now in
    let k = known_in c.args.last.now in
    let r = unpacked c.args.ranges.now in
    let draws = draws_of c.args.before.now in
    let step = c.next_place-step.result in
    let level : c.level_behind-level.result ≡ begins draws r.kind.low = search rules in
    let here = c.next_place-step.ensures.value draws c.requires.taken level in
    c.with_cuts.ensures
    ∙ ap (λ (l : Level). fixed l (next_known b l (place_in step) k r)) (level_is step _ k _ here ∙ level)
    ∙ ap (λ (p : Place). fixed (begins draws r.kind.low) (next_known b (begins draws r.kind.low) p k r)) (place_is step _ k _ here)
