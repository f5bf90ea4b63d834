use Rattle.cert_log.specs.inner.LineForms.{said}
use Rattle.cert_log.proofs.LineByLine.{so_far_more}
use Rattle.cert_log.proofs.reading.read_nodes.Goals as goal

pub place_behind-at-requires-clause-may : goal.place_behind-at-requires-clause-may
place_behind-at-requires-clause-may c = (c.args.head.version, c.in_ok-found.ensures.0)

pub loop-at-preserved : goal.loop-at-preserved
loop-at-preserved c =
    so_far_more c.args.head.version c.args.text.now c.loop-at.nodes.items c.append_line.new.nodes.items c.loop-at.at c.place_behind-at.result c.loop-at.rest.now c.in_ok-found.behind.now c.loop-at.line (said c.in_ok-found.found) c.loop-at-test.true c.in_ok-found.ensures.0 c.in_ok-found.ensures.1 c.in_ok-append_line.ensures c.place_behind-at.ensures.value c.place_behind-at.ensures.most c.loop-at.invariant
