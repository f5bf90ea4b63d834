use Rattle.front_table.proofs.RowLemmas.{led_by_at}
use Rattle.front_table.proofs.lattice.led.Goals as goal

pub returns-then-leads : goal.returns-then-leads
returns-then-leads c = λ yes.
    let is = c.leads.ensures c.if-leads.true in
    led_by_at c.args.moves.now c.loop-next.next-index _ c.args.to c.args.wide _ c.loop-next-test.true is.0 is.1
