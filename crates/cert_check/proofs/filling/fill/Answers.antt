use Rattle.std.proofs.Common.{◌≤◌, arith, length, sym}
use Rattle.std.proofs.lemmas.List.{length-take-le}
use Rattle.plan_box.proofs.Limits.{taken_within}
use Rattle.cert_check.proofs.Filled.{are_known, few_decided}
use Rattle.cert_check.proofs.filling.fill.Goals as goal
use Rattle.glass_base.specs.declared.limits.TheConstants.{MOST_ITEMS}

pub slice_bounds-follow-end : goal.slice_bounds-follow-end
slice_bounds-follow-end c = sym (length-take-le c.count_decided-count.result c.args.ranges.now (omega (arith, c.count_decided-count.ensures, few_decided c.args.ranges.now)))

pub follow-requires-clause-within : goal.follow-requires-clause-within
follow-requires-clause-within c = taken_within c.args.instance.now c.items-items.ensures.rules c.args.ranges.now c.count_decided-count.result c.requires.stored.in_frame

pub settle-requires : goal.settle-requires
settle-requires c = omega (arith, c.count_decided-count.ensures, few_decided c.args.ranges.now, c.requires.room, c.follow.ensures.many)

pub returns-clause-inside : goal.returns-clause-inside
returns-clause-inside c = omega (arith, c.count_decided-count.ensures, few_decided c.args.ranges.now)

pub returns-clause-known : goal.returns-clause-known
returns-clause-known c =
    let n = c.count_decided-count.result in
    let ranges = c.args.ranges.now in
    let inside : n ≤ length ranges = omega (arith, c.count_decided-count.ensures, few_decided ranges) in
    let few : length ranges ≤ MOST_ITEMS = omega (arith, c.requires.stored.few, c.requires.stored.frame.items) in
    are_known c.args.instance.now ranges n c.follow.new.steps.items c.settle.new.steps.items c.items-items.ensures.rules c.count_decided-count.ensures inside few
    (taken_within c.args.instance.now c.items-items.ensures.rules ranges n c.requires.stored.in_frame)
    (rw (length-take-le n ranges inside) at c.follow.ensures.steps) c.settle.ensures.steps
