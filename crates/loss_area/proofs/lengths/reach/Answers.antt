use Rattle.std.proofs.Common.{◌≡◌, ◌≤◌, ◌+◌, ◌-◌, ap, ◌∙◌, arith}
use Rattle.glass_base.specs.Plates.{Before}
use Rattle.loss_area.proofs.TraceEnds.{end_small}
use Rattle.loss_area.proofs.lengths.reach.Goals as goal
use Rattle.loss_area.proofs.lengths.reach.Goals.{After-plates_begun-plates, After-from}

-- few plates are begun
few : (c : After-plates_begun-plates) → c.plates_begun-plates.result ≤ 1001
few c = omega (arith, c.plates_begun-plates.ensures, c.requires)

-- the widths before the last one of them
start : (c : After-from) → c.before-2.result ≡ Before c.args.instance.now (c.plates_begun-plates.result - 1)
start c = c.before-2.ensures.value ∙ ap (Before c.args.instance.now) c.saturating_sub.ensures

-- the steps do not reach far
short : (c : After-from) → c.plates_begun-plates.result ≤ 1001 → c.before-2.result + c.from.result ≤ 5000000000
short c few = end_small c.args.instance.now _ c.before-2.result c.from.result c.before-2.ensures.rules few (start c) (omega (arith, c.from.ensures, c.last_right.type_inv))

pub overflow_cast-plates : goal.overflow_cast-plates
overflow_cast-plates c = omega (arith, few c)

pub before-requires : goal.before-requires
before-requires c = omega (arith, few (goal.at.before-requires c).After-plates_begun-plates, c.saturating_sub.ensures)

pub overflow_add-result : goal.overflow_add-result
overflow_add-result c = omega (arith, short c (few (goal.at.overflow_add-result c).After-plates_begun-plates))

pub returns-clause-value : goal.returns-clause-value
returns-clause-value c =
    let k = (goal.at.returns-clause-value c).After-plates_begun-plates in
    omega (arith, start c, ap (λ plates. Before c.args.instance.now (plates - 1)) k.plates_begun-plates.ensures, c.from.ensures, c.last_right.ensures)

pub returns-clause-small : goal.returns-clause-small
returns-clause-small c = short c (few (goal.at.returns-clause-small c).After-plates_begun-plates)
