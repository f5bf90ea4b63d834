use Rattle.std.proofs.Common.{◌+◌, List, length, map, drop, get_or, refl, ap, sym, ◌∙◌, subst, arith, Option, None, ◌-◌}
use Rattle.std.proofs.Math.ListN.{length-set}
use Rattle.std.proofs.lemmas.List.{take_rest}
use Rattle.plan_trace.specs.declared.level.Level.TheVariants.{NewPlate}
use Rattle.plan_box.specs.declared.reason.Reason.{Reason}
use Rattle.plan_box.specs.Leasts.{fixed, no_known}
use Rattle.plan_box.proofs.Levels.{levels_are}
use Rattle.box_bound.specs.Kept.{blank, late, late_fixed}
use Rattle.box_bound.specs.inner.Drawn.{levels_of}
use Rattle.box_bound.specs.Seen.{AmongFixed, AreSeen, IsFirstIfAny}
use Rattle.plan_box.specs.Facts.{FactOf}
use Rattle.box_bound.proofs.Seeing.{before_more, late_at, seen_more, seen_put, seen_start}
use Rattle.box_bound.proofs.seen.look.Goals as goal

pub loop-i-init : goal.loop-i-init
loop-i-init c =
    record {
      many = refl;
      last = c.step_before-last.ensures;
      found =
          seen_start c.args.asked.ground.instance.now c.args.asked.whole (map late_fixed c.args.steps.now) c.args.seen.now.items c.args.start c.seen_before-found.result c.requires.before c.seen_before-found.ensures.none
          (λ some. c.seen_before-found.ensures.some some ∙ ap (λ (xs : List (Option Reason)). get_or xs (c.args.start - 1) None) c.as_slice.ensures);
      seen = c.requires.before;
    }

pub loop-i-preserved : goal.loop-i-preserved
loop-i-preserved c =
    let b = c.args.asked.ground.instance.now in
    let steps = c.args.steps.now in
    let ranges = c.args.ranges.now in
    let i = c.loop-i.i in
    let here = get_or steps i blank in
    let ks = map late_fixed steps in
    let at = late_at steps i blank (omega arith) in
    let found = subst (λ (o : Option Reason). IsFirstIfAny (λ r. AmongFixed (FactOf b c.args.asked.whole r) NewPlate no_known ks (i + 1)) o) (sym c.earlier-found.ensures)
    (seen_more (FactOf b c.args.asked.whole) ks i (i + 1) (late_fixed c.loop-i.last) (late_fixed here) (map late_fixed (drop (i + 1) steps)) _ c.loop-i.found c.seen_at-next.result (omega arith) at
    c.loop-i.invariant.last (ap levels_of (take_rest ranges (i + 1)) ∙ c.requires.levels.later (i + 1) (omega arith) ∙ sym (levels_are (λ k. k.level) late (drop (i + 1) steps))) c.loop-i.invariant.found c.seen_at-next.ensures) in
    record {
      many = ap length c.set.ensures.new ∙ length-set c.loop-i.seen.items i c.earlier-found.result ∙ c.loop-i.invariant.many;
      last = sym (before_more (fixed NewPlate no_known) ks i (i + 1) (late_fixed here) (map late_fixed (drop (i + 1) steps)) (omega arith) at);
      found = found;
      seen = subst (λ (xs : List (Option Reason)). AreSeen b c.args.asked.whole ks xs (i + 1)) (sym c.set.ensures.new) (seen_put b c.args.asked.whole ks c.loop-i.seen.items i (i + 1) c.earlier-found.result (omega (arith, c.loop-i.invariant.many, c.requires.room)) (omega arith) c.loop-i.invariant.seen found);
    }
