use Rattle.std.proofs.Common.{[], List, map, take, length, ap, ◌∙◌, arith, refl}
use Rattle.std.proofs.lemmas.List.{length-take-le, take_all}
use Rattle.plan_box.specs.declared.packed.Packed.{Packed}
use Rattle.plan_box.specs.Leasts.{last_known, no_known}
use Rattle.plan_box.specs.Packed.{unpacked}
use Rattle.box_bound.specs.Kept.{blank, early, known_of, late}
use Rattle.plan_box.specs.Follows.{follow}
use Rattle.plan_box.specs.Within.{limit}
use Rattle.plan_box.proofs.Following.{followed_last}
use Rattle.plan_box.proofs.Limits.{known_within}
use Rattle.plan_box.proofs.Sizes.{within_more, within_same}
use Rattle.box_bound.proofs.bounding.last_step.Goals as goal
use Rattle.glass_base.specs.declared.limits.TheConstants.{MOST_LENGTH}

pub next-last-requires-clause-within : goal.next-last-requires-clause-within
next-last-requires-clause-within c =
    known_within c.args.instance.now c.items-items.ensures.rules c.args.ranges.now c.loop-i.i (early c.loop-i.last) c.loop-i.invariant.last c.requires.within

pub loop-i-preserved : goal.loop-i-preserved
loop-i-preserved c =
    let y = c.next-last.result in
    record {
      last = followed_last c.args.instance.now c.args.ranges.now c.loop-i.i blank.ranges y.level (early y) (early c.loop-i.last) (omega arith) c.loop-i.invariant.last c.next-last.ensures.value;
      ends = ap (known_of y.place) c.next-last.ensures.ends;
    }

pub returns-clause-value : goal.returns-clause-value
returns-clause-value c =
    c.loop-i.invariant.ends ∙ c.loop-i.invariant.last
    ∙ ap (λ (xs : List Packed). last_known no_known (follow c.args.instance.now [] no_known (map unpacked xs))) (take_all c.loop-i.i c.args.ranges.now (omega arith))

pub returns-clause-within : goal.returns-clause-within
returns-clause-within c =
    let ranges = c.args.ranges.now in
    let i = c.loop-i.i in
    let here = known_within c.args.instance.now c.items-items.ensures.rules ranges i (early c.loop-i.last) c.loop-i.invariant.last c.requires.within in
    within_same MOST_LENGTH MOST_LENGTH (late c.loop-i.last) (early c.loop-i.last) c.loop-i.invariant.ends refl
    (within_more (limit (length (take i ranges))) MOST_LENGTH (early c.loop-i.last) (omega (arith, c.requires.few, length-take-le i ranges (omega arith))) here)
