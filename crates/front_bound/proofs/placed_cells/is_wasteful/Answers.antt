use Rattle.std.proofs.Common.{arith}
use Rattle.std.proofs.lemmas.Nat.{mul-le}
use Rattle.front_bound.proofs.placed_cells.is_wasteful.Goals as goal

pub returns-then-used-most : goal.returns-then-used-most
returns-then-used-most c = λ yes x y wide high lean.
    omega (
      arith,
      lean,
      mul-le c.args.wide c.args.high x y wide high,
      c.glass_of.ensures,
      c.area_left.ensures,
      c.area_left-2.ensures,
      c.saturating_add-used.ensures,
      c.saturating_add-most.ensures,
      c.if-used-most.true,
    )
