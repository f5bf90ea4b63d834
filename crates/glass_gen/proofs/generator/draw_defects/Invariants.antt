use Rattle.std.proofs.Common.{◌≡◌, ◌*◌}
use Rattle.glass_gen.specs.Drawn.{defects_drawn}
use Rattle.glass_gen.specs.Draws.{state_after}
use Rattle.glass_gen.proofs.generator.draw_defects.Given as goal

-- the defects so far are drawn, and the next draw is behind theirs
abbrev pub invariant-loop-number : goal.invariant-loop-number
invariant-loop-number l =
    record { defects : l.defects.items ≡ defects_drawn l.initial.state l._number; state : l.state ≡ state_after l.initial.state (5 * l._number) }
