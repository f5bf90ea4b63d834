use Rattle.std.proofs.Common.{◌≡◌, length, map}
use Rattle.plan_trace.specs.declared.level.Level.TheVariants.{NewPlate}
use Rattle.plan_box.specs.Leasts.{fixed, no_known}
use Rattle.box_bound.specs.Kept.{late_fixed}
use Rattle.box_bound.specs.Seen.{AmongFixed, AreSeen, IsFirstIfAny, before_fixed}
use Rattle.plan_box.specs.Facts.{FactOf}
use Rattle.box_bound.proofs.seen.look.Given as goal

abbrev pub invariant-loop-i : goal.invariant-loop-i
invariant-loop-i l = record {
  many : length l.seen.items ≡ length l.initial.seen.items;
  last : late_fixed l.last ≡ before_fixed (fixed NewPlate no_known) (map late_fixed l.steps) l.i;
  found : IsFirstIfAny (λ reason. AmongFixed (FactOf l.asked.ground.instance.now l.asked.whole reason) NewPlate no_known (map late_fixed l.steps) l.i) l.found;
  seen : AreSeen l.asked.ground.instance.now l.asked.whole (map late_fixed l.steps) l.seen.items l.i;
}
