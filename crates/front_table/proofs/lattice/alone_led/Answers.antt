use Rattle.front_table.proofs.RowLemmas.{alone_as}
use Rattle.front_table.proofs.lattice.alone_led.Goals as goal

pub returns : goal.returns
returns c = λ yes.
    alone_as c.args.waste c.args.moves.now c.args.to c.args.item.now c.args.turn _ _ c.sides-own.ensures.wide c.sides-own.ensures.high c.heights.result (λ y stands. c.heights.ensures y stands) (c.led.ensures yes)
