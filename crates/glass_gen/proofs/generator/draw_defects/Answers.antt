use Rattle.std.proofs.Common.{refl}
use Rattle.glass_gen.specs.Draws.{state_after}
use Rattle.glass_gen.proofs.Drawing.{defects-state, defects_drawn_more}
use Rattle.glass_gen.proofs.generator.draw_defects.Goals as goal

pub loop-number-init : goal.loop-number-init
unfolding state_after
loop-number-init c = record { defects = c.new-defects.ensures; state = refl }

pub loop-number-preserved : goal.loop-number-preserved
loop-number-preserved c = record {
  defects = let more = defects_drawn_more c.args.state.now c.loop-number._number in let ok = c.in_ok-append.ensures.ok in let inv = c.loop-number.invariant in cc;
  state = let more = defects-state c.args.state.now c.loop-number._number in let inv = c.loop-number.invariant in cc;
}
