use Rattle.std.proofs.Common.{◌++◌, ◌∙◌, ◌∷◌, [], refl, ap}
use Rattle.std.proofs.lemmas.Result.{on_ok_weaker}
use Rattle.plan_csv.proofs.NodeSteps.{are_nodes-more}
use Rattle.plan_csv.proofs.nodes.Nodes.push.Goals as goal

pub returns-in-Ok-clause-nodes : goal.returns-in-Ok-clause-nodes
returns-in-Ok-clause-nodes c =
    on_ok_weaker c.append.result
    (λ rows. are_nodes-more c.args.row.now _ c.args.self.now c.attach.new.self _ c.requires.nodes c.requires.allowed c.in_ok-attach.ensures.attached
    (rows ∙ ap (λ xs. xs ++ c.args.row.now ∷ []) c.in_ok-attach.ensures.rows) refl
    (record { here = c.in-Ok.ensures.updates.1; others = c.in-Ok.ensures.updates.2 }) refl c.new.ensures refl)
    c.append.ensures.ok
