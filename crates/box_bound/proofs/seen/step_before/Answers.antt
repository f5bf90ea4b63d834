use Rattle.std.proofs.Common.{◌-◌, ◌+◌, map, drop, get_or, sym, arith}
use Rattle.plan_trace.specs.declared.level.Level.TheVariants.{NewPlate}
use Rattle.plan_box.specs.Leasts.{fixed, no_known}
use Rattle.box_bound.specs.Kept.{blank, late_fixed}
use Rattle.box_bound.proofs.Seeing.{before_more, late_at}
use Rattle.box_bound.proofs.seen.step_before.Goals as goal

pub returns-else-at-eq0 : goal.returns-else-at-eq0
returns-else-at-eq0 c =
    let steps = c.args.steps.now in
    let at = c.args.at in
    sym (before_more (fixed NewPlate no_known) (map late_fixed steps) (at - 1) at (late_fixed (get_or steps (at - 1) blank)) (map late_fixed (drop (at - 1 + 1) steps)) (omega arith) (late_at steps (at - 1) blank (omega arith)))
