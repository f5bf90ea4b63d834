use Rattle.std.proofs.Common.{sym, ◌∙◌}
use Rattle.plan_picture.proofs.Stacks.{stack_found}
use Rattle.plan_picture.proofs.sheet.Subject.stack.Goals as goal

pub returns-in-Some : goal.returns-in-Some
returns-in-Some c =
    stack_found c.args.self.now.instance.now c.args.number c.args.self.now.stacks.now c.in-Some.item _ c.args.self.now.numbered ((rw c.items.ensures.value at (sym c.item_numbered.ensures)) ∙ c.in-Some.is) c.place_of.ensures
