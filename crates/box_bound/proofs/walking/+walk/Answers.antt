use Rattle.std.proofs.Common.{◌≡◌, ◌+◌, ◌<◌, List, ◌∷◌, ◌++◌, take, drop, length, refl, ap, sym, ◌∙◌, subst, arith, Some}
use Rattle.std.proofs.lemmas.List.{take_rest}
use Rattle.plan_box.specs.declared.packed.Packed.{Packed}
use Rattle.plan_box.specs.Leasts.{Fixed, least_step, least_steps, settle_at}
use Rattle.cut_model.specs.declared.steps.Step.{Step}
use Rattle.box_bound.specs.Kept.{blank, early}
use Rattle.plan_box.specs.Follows.{draws_of}
use Rattle.plan_box.specs.Facts.{FactOf}
use Rattle.box_bound.specs.inner.Walks.{AreLevels, steps_from}
use Rattle.box_bound.proofs.Recursed.{are_levels, head_is, head_within, seen_is, step_within, steps_one, written_one}
use Rattle.box_bound.proofs.walking.+walk.Goals as goal

pub walk-behind-requires : goal.walk-behind-requires
walk-behind-requires t c =
    let lt : c.args.at < length c.args.ranges.now = omega (arith, c.if-at-ranges.false, c.requires.inside) in
    let within = step_within c.args.asked.ground.instance.now c.items-items.ensures.rules c.args.ranges.now c.args.at (c.args.at + 1) (early c.args.last.now) c.next-step.result blank.ranges lt refl c.requires.ranges c.requires.within c.next-step.ensures.value in
    (omega (arith, c.decreases, lt), (c.requires.few, (c.requires.room, (omega (arith, lt), (c.requires.ranges, within)))))

pub returns-clause-first : goal.returns-clause-first
returns-clause-first t c =
    let b = c.args.asked.ground.instance.now in
    let ranges = c.args.ranges.now in
    let y = c.next-step.result in
    let one = steps_one b ranges c.args.at (early c.args.last.now) y blank.ranges (omega (arith, c.if-at-ranges.false, c.requires.inside)) c.next-step.ensures.value in
    head_is c.settled_before-here.result y c.settled_before-here.result.ends (steps_from b ranges c.args.at (early c.args.last.now)) (steps_from b ranges (c.args.at + 1) (early y)) c.settled_before-here.ensures.ends
    (c.settled_before-here.ensures.late (steps_from b ranges (c.args.at + 1) (early y)) c.walk-behind.ensures.first) one

pub returns-clause-within : goal.returns-clause-within
returns-clause-within t c =
    let b = c.args.asked.ground.instance.now in
    let ranges = c.args.ranges.now in
    let y = c.next-step.result in
    let one = steps_one b ranges c.args.at (early c.args.last.now) y blank.ranges (omega (arith, c.if-at-ranges.false, c.requires.inside)) c.next-step.ensures.value in
    let head = head_is c.settled_before-here.result y c.settled_before-here.result.ends (steps_from b ranges c.args.at (early c.args.last.now)) (steps_from b ranges (c.args.at + 1) (early y)) c.settled_before-here.ensures.ends
    (c.settled_before-here.ensures.late (steps_from b ranges (c.args.at + 1) (early y)) c.walk-behind.ensures.first) one in
    head_within b c.items-items.ensures.rules ranges c.args.at (early c.args.last.now) (Some c.settled_before-here.result) c.requires.inside c.requires.few c.requires.ranges c.requires.within head

pub returns-clause-seen : goal.returns-clause-seen
returns-clause-seen t c =
    let b = c.args.asked.ground.instance.now in
    let ranges = c.args.ranges.now in
    let y = c.next-step.result in
    let later = steps_from b ranges (c.args.at + 1) (early y) in
    let one = steps_one b ranges c.args.at (early c.args.last.now) y blank.ranges (omega (arith, c.if-at-ranges.false, c.requires.inside)) c.next-step.ensures.value in
    seen_is (FactOf b c.args.asked.whole) c.settled_before-here.result y c.settled_before-here.result.ends (steps_from b ranges c.args.at (early c.args.last.now)) later c.seen_behind-seen.result c.settled_before-here.ensures.ends
    (c.settled_before-here.ensures.late later c.walk-behind.ensures.first) one
    (c.seen_behind-seen.ensures later c.walk-behind.ensures.first (subst (λ (rs : List Packed). AreLevels later rs) (sym (take_rest ranges (c.args.at + 1))) (are_levels b (draws_of (take (c.args.at + 1) ranges)) (early y) (drop (c.args.at + 1) ranges))) c.walk-behind.ensures.seen)

pub returns-clause-steps : goal.returns-clause-steps
returns-clause-steps t c =
    let b = c.args.asked.ground.instance.now in
    let ranges = c.args.ranges.now in
    let at = c.args.at in
    let y = c.next-step.result in
    let old = c.args.steps.now in
    let later = steps_from b ranges (at + 1) (early y) in
    let one = steps_one b ranges at (early c.args.last.now) y blank.ranges (omega (arith, c.if-at-ranges.false, c.requires.inside)) c.next-step.ensures.value in
    let here : c.least_step.result ≡ least_step (settle_at (early y) later) = c.least_step.ensures ∙ ap least_step (c.settled_before-here.ensures.late later c.walk-behind.ensures.first) in
    written_one old c.walk-behind.new.steps _ at (length ranges) c.least_step.result c.least_step.result (least_steps later) (drop (length ranges) old) (omega (arith, c.if-at-ranges.false, c.requires.inside, c.requires.room)) c.walk-behind.ensures.steps refl
    ∙ ap (λ (s : Step). take at old ++ (s ∷ (least_steps later ++ drop (length ranges) old))) here
    ∙ ap (λ (ks : List Fixed). take at old ++ (least_steps ks ++ drop (length ranges) old)) (sym one)
