use Rattle.std.proofs.Common.{arith, ◌∙◌, map}
use Rattle.std.proofs.lemmas.List.{length-map}
use Rattle.plan_box.specs.Packed.{unpacked}
use Rattle.plan_box.proofs.Counts.{decided_few}
use Rattle.plan_box.proofs.Stored.{decided_of_box}
use Rattle.plan_box.proofs.boxes.PlanBox.decided.Goals as goal

pub overflow_cast-result : goal.overflow_cast-result
overflow_cast-result c =
    let stored = c.self.inside.stored.items in
    omega (
      arith,
      rw c.as_slice.ensures at c.decided_of_stored.ensures,
      decided_few (map unpacked stored),
      length-map stored unpacked,
      c.self.invariant.few,
      c.self.invariant.frame.items,
    )

pub returns : goal.returns
returns c =
    rw c.as_slice.ensures at c.decided_of_stored.ensures
    ∙ decided_of_box c.self.inside.id c.self.inside.frame c.self.inside.stored.items c.args.self.now c.self.view_is
