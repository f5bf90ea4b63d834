use Rattle.std.proofs.Common.{◌+◌, ◌/◌, refl}
use Rattle.glass_gen.specs.Draws.{state_after}
use Rattle.glass_gen.proofs.Drawing.{items-state, items_drawn_more}
use Rattle.glass_gen.proofs.generator.draw_items.Goals as goal

pub loop-number-init : goal.loop-number-init
unfolding state_after
loop-number-init c = record { items = c.new-items.ensures; state = refl }

pub loop-number-preserved : goal.loop-number-preserved
loop-number-preserved c = record {
  items = let more = items_drawn_more c.args.state.now (1 + c.args.count / 20) c.loop-number.number in let ok = c.in_ok-append.ensures.ok in let inv = c.loop-number.invariant in cc;
  state = let more = items-state c.args.state.now c.loop-number.number in let inv = c.loop-number.invariant in cc;
}
