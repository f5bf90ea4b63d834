use Rattle.std.proofs.Common.{◌≡◌, ◌+◌, List, length, map, take, ap, sym, ◌∙◌, subst, arith}
use Rattle.std.proofs.Math.ListN.{set, length-set}
use Rattle.std.proofs.lemmas.List.{take-set-le}
use Rattle.plan_box.specs.declared.packed.Packed.{Packed}
use Rattle.plan_box.specs.Leasts.{last_known, no_known}
use Rattle.box_bound.specs.declared.kept.Kept.{Kept}
use Rattle.box_bound.specs.Kept.{blank, early, early_fixed}
use Rattle.box_bound.specs.inner.Drawn.{IsFollowed}
use Rattle.box_bound.proofs.Extending.{extended_within, followed_more, last_more}
use Rattle.box_bound.proofs.filling.extend.Goals as goal

pub next-next-requires-clause-within : goal.next-next-requires-clause-within
next-next-requires-clause-within c =
    extended_within c.args.instance.now c.items-items.ensures.rules c.loop-i.steps.items c.args.ranges.now c.loop-i.i (early c.loop-i.last) c.loop-i.invariant.followed c.loop-i.invariant.last c.requires.within

pub loop-i-preserved : goal.loop-i-preserved
loop-i-preserved c =
    let b = c.args.instance.now in
    let xs = c.loop-i.steps.items in
    let ranges = c.args.ranges.now in
    let i = c.loop-i.i in
    let y = c.next-next.result in
    let d : Packed = blank.ranges in
    let is : c.set.new.self.items ≡ set xs i y = c.set.ensures.new in
    record {
      many = ap length is ∙ length-set xs i y ∙ c.loop-i.invariant.many;
      kept = ap (take c.args.from) is ∙ take-set-le c.args.from xs i y (omega arith) ∙ c.loop-i.invariant.kept;
      followed =
          subst (λ (ys : List Kept). IsFollowed b ys ranges (i + 1)) (sym is)
          (followed_more b xs ranges i y (early c.loop-i.last) d (omega (arith, c.loop-i.invariant.many, c.requires.room)) (omega arith) c.loop-i.invariant.followed c.loop-i.invariant.last c.next-next.ensures.value c.next-next.ensures.ranges);
      last = subst (λ (ys : List Kept). early y ≡ last_known no_known (map early_fixed (take (i + 1) ys))) (sym is) (last_more xs i y (omega (arith, c.loop-i.invariant.many, c.requires.room)));
    }
