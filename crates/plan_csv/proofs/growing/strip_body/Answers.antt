use Rattle.std.proofs.Common.{refl}
use Rattle.plan_csv.proofs.GrownRows.{below_nothing}
use Rattle.plan_csv.proofs.growing.strip_body.Goals as goal

pub returns-in-Item-clause-inner : goal.returns-in-Item-clause-inner
returns-in-Item-clause-inner c = below_nothing c.args.nodes.now c.args.row.now 2 _ c.requires.nodes c.requires.piece.known c.in-Item.ensures refl

pub returns-in-Waste-clause-inner : goal.returns-in-Waste-clause-inner
returns-in-Waste-clause-inner c = below_nothing c.args.nodes.now c.args.row.now 2 _ c.requires.nodes c.requires.piece.known c.in-Waste.ensures refl

pub returns-in-Residual-clause-inner : goal.returns-in-Residual-clause-inner
returns-in-Residual-clause-inner c = below_nothing c.args.nodes.now c.args.row.now 2 _ c.requires.nodes c.requires.piece.known c.in-Residual.ensures refl
