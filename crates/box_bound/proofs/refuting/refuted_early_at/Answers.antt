use Rattle.std.proofs.Common.{◌≡◌, length, ap, arith, ◌==◌, refl}
use Rattle.std.proofs.lemmas.List.{length-map}
use Rattle.plan_box.specs.declared.frame.Frame.{Frame}
use Rattle.plan_box.specs.Decisions.{all_decided, decided}
use Rattle.plan_box.proofs.Counts.{known_count}
use Rattle.box_bound.specs.Kept.{late_fixed}
use Rattle.box_bound.proofs.Firsts.{early_first}
use Rattle.box_bound.proofs.Seeing.{seen_last}
use Rattle.box_bound.proofs.refuting.refuted_early_at.Goals as goal

pub returns : goal.returns
returns c =
    let b = c.args.instance.now in
    let rs = c.args.bx.now.ranges in
    let v = c.args.leasts.now in
    let count : length v.steps ≡ length (decided rs) = omega (arith, length-map v.steps late_fixed, ap length c.requires.leasts.values, known_count b rs) in
    let items : length b.items ≡ length rs = omega (arith, c.frame-frame.ensures.rules.each_step, ap (λ (f : Frame). f.items) c.requires.instance) in
    let whole : (length v.steps == length b.items) ≡ all_decided rs = rw (count, items) refl in
    early_first b rs c.seen.result c.with_length.result c.length_at.result c.is_too_long.result
    (seen_last b rs (length v.steps == length b.items) v.steps v.seen c.seen.result whole c.requires.leasts.values c.requires.leasts.of_instance.seen c.seen.ensures.none c.seen.ensures.some)
    c.length_at.ensures.value c.is_too_long.ensures c.with_length.ensures.long c.with_length.ensures.short
