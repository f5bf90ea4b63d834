use Rattle.std.proofs.Common.{◌≡◌, ◌++◌, replicate}
use Rattle.cert_log.specs.declared.certificate.Node.{Node}
use Rattle.cert_log.proofs.node_lines.append_open.Given as goal

abbrev pub invariant-loop-done : goal.invariant-loop-done
invariant-loop-done l = l.nodes.items ≡ l.fn.nodes.items ++ replicate l._done Node.Left
