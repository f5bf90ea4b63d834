use Rattle.front_table.proofs.LaneLists.{made_taken, made_left}
use Rattle.front_table.proofs.lanes.pop_made.Goals as goal

pub returns-clause-made : goal.returns-clause-made
returns-clause-made c = made_taken c.args.lanes.now c.args.number c.index-lanes-number.result c.pop.new.self.items c.pop.result c.requires c.pop.ensures.items

pub returns-clause-others : goal.returns-clause-others
returns-clause-others c = made_left c.args.lanes.now c.args.number c.index-lanes-number.result _ c.pop.result c.requires c.pop.ensures.items
