use Rattle.std.proofs.Common.{rules, ◌≡◌}
use Rattle.cert_log.specs.declared.history.Act.{Act}
use Rattle.box_workers.proofs.Steps.{makes_halves}
use Rattle.box_workers.proofs.handling.carry_out.Goals as goal

pub returns-in-Split-clause-gives : goal.returns-in-Split-clause-gives
returns-in-Split-clause-gives g c =
    let is : c.args.act ≡ Act.Split c.in-Split.step c.in-Split.var = search rules in
    λ _ _. makes_halves c.args.desk.now.starts c.args.ticket c.args.act c.in-Split.step c.in-Split.var c.args.bx _ _ is c.split-lower.ensures.lower c.split-lower.ensures.upper
