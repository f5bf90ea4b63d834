use Rattle.std.specs.Fmt.{decimal}
use Rattle.std.proofs.Common.{◌≡◌, ◌++◌, ◌∷◌, List, ℕ, ap, sym, ◌∙◌, arith}
use Rattle.cert_log.proofs.Heads.{floor_said, later_floor, no_floor_said}
use Rattle.cert_log.proofs.head.take_counts.Goals as goal

pub returns-in_err-floor : goal.returns-in_err-floor
returns-in_err-floor c = rw c.from_residual-in_err-floor.ensures (λ left floor rest small is e.
    c.in_err-floor.ensures floor rest is.0
    (later_floor c.args.version c.in_ok-left-2.left left floor c.args.text.now c.in_ok-left-2.behind.now rest c.in_ok-left-2.ensures.0 small (λ low. omega (arith, low)) c.in_ok-left-2.ensures.1 e))
