use Rattle.std.proofs.Common.{◌≡◌, ◌⊎◌, ◌<◌, ◌≤◌, List, length, get_or, map, take, ap, subst, arith, inl, inr}
use Rattle.std.proofs.lemmas.List.{length-take-le}
use Rattle.box_bound.specs.declared.kept.Kept.{Kept}
use Rattle.box_bound.specs.Kept.{blank}
use Rattle.box_bound.specs.Seen.{StartsStrip}
use Rattle.box_bound.proofs.Filled.{followed_same, start_followed}
use Rattle.box_bound.proofs.Sharing.{late_from, shared_from}
use Rattle.box_bound.proofs.filling.refill.Goals as goal

pub extend-requires-clause-start : goal.extend-requires-clause-start
extend-requires-clause-start c =
    let xs = c.args.steps.now.items in
    let same = subst (λ (ys : List Kept). map (λ (k : Kept). k.ranges) (take c.same-from.result (take c.args.count ys)) ≡ take c.same-from.result c.args.ranges.now) c.as_slice.ensures c.same-from.ensures.same in
    let few : c.same-from.result ≤ c.args.count = omega (arith, c.same-from.ensures.steps, ap (λ (ys : List Kept). length (take c.args.count ys)) c.as_slice.ensures, length-take-le c.args.count xs c.requires.inside) in
    start_followed c.args.instance.now xs c.args.ranges.now c.args.count c.same-from.result few same c.requires.kept

pub returns-clause-followed : goal.returns-clause-followed
returns-clause-followed c =
    followed_same c.args.instance.now c.extend.new.steps.items c.settle.new.steps.items c.args.ranges.now (length c.args.ranges.now) c.settle.ensures.early c.settle.ensures.ranges c.extend.ensures.followed

pub returns-clause-shared : goal.returns-clause-shared
returns-clause-shared c =
    let old = c.args.steps.now.items in
    let from = c.same-from.result in
    let start = c.strip_start-start.result in
    let few : from ≤ c.args.count = omega (arith, c.same-from.ensures.steps, ap (λ (ys : List Kept). length (take c.args.count ys)) c.as_slice.ensures, length-take-le c.args.count old c.requires.inside) in
    let front : length (take from old) ≡ from = length-take-le from old (omega (arith, few, c.requires.inside)) in
    let inside : start ≤ from = omega (arith, c.strip_start-start.ensures.inside, ap (λ (ys : List Kept). length (take from ys)) c.as_slice-2.ensures, front) in
    let strip = subst (λ (ys : List Kept). (start ≡ 0) ⊎ ((start < length (take from ys)) × StartsStrip (get_or (take from ys) start blank).level)) c.as_slice-2.ensures c.strip_start-start.ensures.strip in
    let at : (start ≡ 0) ⊎ ((start < from) × StartsStrip (get_or (take from old) start blank).level) = elim strip [
      | inl none ↦ inl none
      | inr here ↦ inr (omega (arith, here.0, front), here.1)
    ] in
    shared_from old c.extend.new.steps.items c.settle.new.steps.items c.args.count from start (length c.args.ranges.now) few c.same-from.ensures.ranges inside at c.extend.ensures.kept c.settle.ensures.kept c.settle.ensures.early

pub returns-clause-late : goal.returns-clause-late
returns-clause-late c =
    late_from c.args.steps.now.items c.settle.new.steps.items c.strip_start-start.result c.args.count (length c.args.ranges.now) (returns-clause-shared c) c.requires.inside
    (omega (arith, c.requires.room, c.settle.ensures.many, c.extend.ensures.many)) c.requires.settled c.settle.ensures.late
