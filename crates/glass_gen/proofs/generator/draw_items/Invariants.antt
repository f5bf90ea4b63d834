use Rattle.std.proofs.Common.{◌≡◌, ◌*◌}
use Rattle.glass_gen.specs.Drawn.{items_drawn}
use Rattle.glass_gen.specs.Draws.{state_after}
use Rattle.glass_gen.proofs.generator.draw_items.Given as goal

-- the items so far are drawn, and the next draw is behind theirs
abbrev pub invariant-loop-number : goal.invariant-loop-number
invariant-loop-number l =
    record { items : l.items.items ≡ items_drawn l.initial.state l.stacks l.number; state : l.state ≡ state_after l.initial.state (3 * l.number) }
