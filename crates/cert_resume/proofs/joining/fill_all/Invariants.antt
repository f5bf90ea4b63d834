use Rattle.std.proofs.Common.{◌≡◌, ◌++◌, drop}
use Rattle.cert_resume.specs.Joins.{filled, nodes_in}
use Rattle.cert_resume.proofs.joining.fill_all.Given as goal

abbrev pub invariant-loop-node : goal.invariant-loop-node
invariant-loop-node l = l.joined.items ++ filled (drop l.node-index l.nodes) (nodes_in l.rest) ≡ filled l.nodes (nodes_in l.parts)
