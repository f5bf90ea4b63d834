use Rattle.std.proofs.Common.{refl, arith}
use Rattle.cert_log.specs.declared.certificate.Certificate.{Certificate}
use Rattle.cert_check.proofs.NamedTrees.{good_named, is_reasoned, reasoned_version}
use Rattle.cert_check.proofs.reasoning.reasoned.Goals as goal

pub returns-clause-reasoned : goal.returns-clause-reasoned
returns-clause-reasoned c =
    is_reasoned c.args.instance.now _ c.args.cert.now.loss c.args.cert.now _ c.requires.good c.requires.version c.in_ok-nodes.ensures (omega (arith, c.max.ensures)) refl refl refl refl

pub returns-clause-good : goal.returns-clause-good
returns-clause-good c =
    good_named c.args.instance.now _ c.args.cert.now.loss c.args.cert.now _
    (is_reasoned c.args.instance.now _ c.args.cert.now.loss c.args.cert.now _ c.requires.good c.requires.version c.in_ok-nodes.ensures (omega (arith, c.max.ensures)) refl refl refl refl) c.requires.good

pub returns-clause-version : goal.returns-clause-version
returns-clause-version c =
    let cert = c.args.cert.now in
    let named : Certificate = record { version = c.max.result; loss = cert.loss; bound = cert.bound; left = cert.left; floor = cert.floor; nodes = c.in_ok-nodes.nodes } in
    reasoned_version c.args.instance.now _ cert named c.requires.version
    (is_reasoned c.args.instance.now _ cert.loss cert named c.requires.good c.requires.version c.in_ok-nodes.ensures (omega (arith, c.max.ensures)) refl refl refl refl)
