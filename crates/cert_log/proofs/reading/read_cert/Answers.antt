use Rattle.std.proofs.Common.{rules, arith}
use Rattle.cert_log.specs.Outcomes.{IsReading}
use Rattle.cert_log.proofs.ReadTrees.{read_tree, read_version}
use Rattle.cert_log.proofs.reading.read_cert.Goals as goal

pub returns-clause-tree : goal.returns-clause-tree
returns-clause-tree c =
    let reading : IsReading c.args.bytes.now c.read_nodes.result = search rules in
    read_tree c.args.bytes.now c.read_nodes.result (omega arith) reading

pub returns-clause-version : goal.returns-clause-version
returns-clause-version c =
    let reading : IsReading c.args.bytes.now c.read_nodes.result = search rules in
    read_version c.args.bytes.now c.read_nodes.result (omega arith) reading
