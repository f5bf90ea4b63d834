use Rattle.std.proofs.Common.{◌+◌, ◌/◌, arith}
use Rattle.glass_base.specs.BadInstance.{MakesInstance}
use Rattle.glass_gen.proofs.Drawing.{defects_in_range, drawn_makes, items_in_range}
use Rattle.glass_base.proofs.Refusals.{allowed_is_not_refused}
use Rattle.glass_gen.proofs.generator.generate.Goals as goal

pub new-requires-clause-items : goal.new-requires-clause-items
new-requires-clause-items c =
    rw (c.in_ok-drawn_items.ensures.items) (items_in_range c.args.start (1 + c.args.items / 20) c.args.items (omega arith) (omega arith) (omega arith))

pub new-requires-clause-defects : goal.new-requires-clause-defects
new-requires-clause-defects c = rw (c.in_ok-drawn_defects.ensures) (defects_in_range c.draw_items.new.state c.args.defects)

pub only_memory-requires : goal.only_memory-requires
only_memory-requires c =
    let makes : MakesInstance c.in_ok-drawn_items.drawn_items.items c.in_ok-drawn_defects.drawn_defects.items =
    rw (c.in_ok-drawn_items.ensures.items, c.in_ok-drawn_defects.ensures) (drawn_makes c.args.start c.draw_items.new.state (1 + c.args.items / 20) c.args.items c.args.defects (omega arith) (omega arith) (omega arith)) in
    allowed_is_not_refused _ _ c.in-Err.bad makes c.in-Err.ensures.refused
