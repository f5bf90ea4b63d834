use Rattle.std.proofs.Common.{arith, map}
use Rattle.std.proofs.lemmas.List.{length-map}
use Rattle.plan_box.specs.Packed.{unpacked}
use Rattle.plan_box.proofs.Counts.{decided_few}
use Rattle.plan_box.proofs.Stored.{decided_of_box}
use Rattle.plan_box.proofs.boxes.PlanBox.reserve_half.Goals as goal

pub returns : goal.returns
returns c =
    let stored = c.self.inside.stored.items in
    omega (
      arith,
      c.reserve.ensures,
      decided_few (map unpacked stored),
      length-map stored unpacked,
      decided_of_box c.self.inside.id c.self.inside.frame stored c.args.self.now c.self.view_is,
    )
