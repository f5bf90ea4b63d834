use Rattle.std.proofs.Common.{◌+◌, ◌*◌}
use Rattle.plan_beams.proofs.crew.+hands.Given as goal

abbrev pub decreases-by_hands : goal.decreases-by_hands
decreases-by_hands g l = 2 * l.hands

abbrev pub decreases-mine : goal.decreases-mine
decreases-mine g l = 2 * l.rest + 1
