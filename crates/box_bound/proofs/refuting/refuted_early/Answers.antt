use Rattle.std.proofs.Common.{◌≡◌, [], ℕ, Bool, List, length, map, take, ap, sym, ◌∙◌, subst, ◌==◌, refl, arith}
use Rattle.plan_trace.specs.declared.level.Level.TheVariants.{NewPlate}
use Rattle.plan_box.specs.declared.frame.Frame.{Frame}
use Rattle.plan_box.specs.Decisions.{all_decided}
use Rattle.plan_box.specs.Leasts.{Fixed, least_steps, no_known, settle}
use Rattle.plan_box.specs.Packed.{unpacked}
use Rattle.plan_box.specs.Ranges.{Ranges}
use Rattle.plan_box.specs.Reasons.{SomeFixed}
use Rattle.plan_box.specs.Follows.{follow}
use Rattle.box_bound.specs.Seen.{IsFirstIfAny}
use Rattle.plan_box.specs.Facts.{FactOf}
use Rattle.box_bound.proofs.Firsts.{early_first}
use Rattle.plan_box.proofs.Following.{known_follows}
use Rattle.box_bound.proofs.refuting.refuted_early.Goals as goal

pub returns-clause-first : goal.returns-clause-first
returns-clause-first c =
    let b = c.args.ground.instance.now in
    let rs = c.args.bx.now.ranges in
    let had = c.decided_ranges-ranges.ensures in
    let items : length c.items.result.now ≡ length rs =
    omega (arith, ap length c.items.ensures.value, c.frame-frame.ensures.rules.each_step, ap (λ (f : Frame). f.items) c.requires.instance) in
    let whole : (length c.decided_ranges-ranges.result.now == length c.items.result.now) ≡ all_decided rs = rw (had.count, items) refl in
    let same = ap (λ (qs : List Ranges). settle (follow b [] no_known qs)) had.ranges ∙ sym (known_follows b rs) in
    early_first b rs c.seen_in-seen.result c.with_length.result c.length_of.result c.is_too_long.result
    (subst (λ (ks : List Fixed). IsFirstIfAny (λ r. SomeFixed (FactOf b (all_decided rs) r) NewPlate no_known ks) c.seen_in-seen.result) same
    (subst (λ (w : Bool). IsFirstIfAny (λ r. SomeFixed (FactOf b w r) NewPlate no_known (settle (follow b [] no_known (map unpacked c.decided_ranges-ranges.result.now)))) c.seen_in-seen.result) whole c.seen_in-seen.ensures.seen))
    c.length_of.ensures.value c.is_too_long.ensures c.with_length.ensures.long c.with_length.ensures.short

pub returns-clause-numbers : goal.returns-clause-numbers
returns-clause-numbers c =
    let b = c.args.ground.instance.now in
    let rs = c.args.bx.now.ranges in
    let had = c.decided_ranges-ranges.ensures in
    ap (λ (n : ℕ). take n c.seen_in-seen.new.steps) (sym had.count) ∙ c.seen_in-seen.ensures.steps
    ∙ ap (λ (qs : List Ranges). least_steps (settle (follow b [] no_known qs))) had.ranges
    ∙ ap least_steps (sym (known_follows b rs))
