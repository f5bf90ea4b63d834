use Rattle.std.proofs.Common.{sym, ◌∙◌}
use Rattle.box_bound.proofs.Chosen.{discrete_none}
use Rattle.box_bound.proofs.choosing.first_discrete.Goals as goal

pub returns : goal.returns
returns c = discrete_none c.args.bx.now.ranges c.args.step (sym c.free.ensures ∙ c.if-free.false) (sym c.free-2.ensures ∙ c.if-free-2.false) (sym c.free-3.ensures ∙ c.if-free-3.false) (sym c.free-4.ensures ∙ c.if-free-4.false)
