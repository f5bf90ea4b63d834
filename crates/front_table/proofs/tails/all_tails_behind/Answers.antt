use Rattle.std.proofs.Common.{sym, subst}
use Rattle.front_table.specs.Tails.{AllBehind}
use Rattle.front_table.proofs.StackTails.{behind_none, behind_next}
use Rattle.front_table.proofs.tails.all_tails_behind.Goals as goal

pub loop-class-init : goal.loop-class-init
loop-class-init c = subst (λ l. AllBehind l c.args.levels.now c.args.bands.now c.args.tops.now c.args.unit 0) (sym c.in_ok-all.ensures.items) (behind_none c.args.levels.now c.args.bands.now c.args.tops.now c.args.unit)

pub loop-class-preserved : goal.loop-class-preserved
loop-class-preserved c = behind_next c.args.levels.now c.args.bands.now c.args.tops.now c.args.unit c.loop-class.all.items _ c.tails_behind.result c.loop-class.class c.loop-class.invariant c.in_ok-push.ensures.items c.tails_behind.ensures
