use Rattle.std.proofs.Common.{inl, refl, arith}
use Rattle.front_table.specs.Lattice.{PairLed}
use Rattle.front_table.proofs.RowLemmas.{pair_as}
use Rattle.front_table.proofs.lattice.pair_led.Goals as goal

pub returns-in-Some : goal.returns-in-Some
unfolding PairLed
returns-in-Some c = λ yes same.
    pair_as c.args.moves.now c.args.to _ c.in-Some.both _ _ _ c.sides-low.ensures.wide (omega (arith, c.in-Some.ensures, c.sides-low.ensures.high, c.sides-high.ensures.high)) (inl refl) (c.led.ensures yes)
