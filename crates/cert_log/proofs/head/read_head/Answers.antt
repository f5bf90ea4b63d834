use Rattle.std.specs.Fmt.{decimal}
use Rattle.std.proofs.Common.{◌≡◌, ℕ, ◌++◌, ◌∷◌, subst, sym}
use Rattle.cert_log.specs.Texts.{floor_text, loss_text}
use Rattle.cert_log.specs.Values.{IsFloorOf}
use Rattle.cert_log.proofs.Heads.{behind_version, behind_loss, counts_text}
use Rattle.cert_log.proofs.head.read_head.Goals as goal

pub returns-in_err-loss : goal.returns-in_err-loss
returns-in_err-loss c = rw c.from_residual-in_err-loss.ensures (λ h rest head f.
    let a = behind_version c.args.text.now c.in_ok-rest.rest.now c.in_ok-version.rest.now c.in_ok-version.version c.in_ok-rest.ensures c.in_ok-version.ensures.1 c.in_ok-version.ensures.0 h rest head f in
    c.in_err-loss.ensures h.loss _ head.loss a.back)

pub returns-in_err-bound : goal.returns-in_err-bound
returns-in_err-bound c = rw c.from_residual-in_err-bound.ensures (λ h rest head f.
    let a = behind_version c.args.text.now c.in_ok-rest.rest.now c.in_ok-version.rest.now c.in_ok-version.version c.in_ok-rest.ensures c.in_ok-version.ensures.1 c.in_ok-version.ensures.0 h rest head f in
    c.in_err-bound.ensures h.bound (counts_text h rest) head.bound (behind_loss c.in_ok-version.rest.now c.in_ok-loss.rest.now _ c.in_ok-loss.loss h.loss c.in_ok-loss.ensures.0 head.loss c.in_ok-loss.ensures.1 a.back))

pub returns-in_err-left : goal.returns-in_err-left
returns-in_err-left c = rw c.from_residual-in_err-left.ensures (λ h rest head f.
    let a = behind_version c.args.text.now c.in_ok-rest.rest.now c.in_ok-version.rest.now c.in_ok-version.version c.in_ok-rest.ensures c.in_ok-version.ensures.1 c.in_ok-version.ensures.0 h rest head f in
    let b = behind_loss c.in_ok-version.rest.now c.in_ok-loss.rest.now (loss_text h.bound ++ 59 ∷ counts_text h rest) c.in_ok-loss.loss h.loss c.in_ok-loss.ensures.0 head.loss c.in_ok-loss.ensures.1 a.back in
    let d = behind_loss c.in_ok-loss.rest.now c.in_ok-bound.rest.now (counts_text h rest) c.in_ok-bound.bound h.bound c.in_ok-bound.ensures.0 head.bound c.in_ok-bound.ensures.1 b in
    c.in_err-left.ensures h.left h.floor rest head.left (subst (λ (v : ℕ). IsFloorOf v h.floor) (sym a.same) head.floor)
    (subst (λ (v : ℕ). c.in_ok-bound.rest.now ≡ decimal h.left ++ (floor_text v h.floor ++ 10 ∷ rest)) (sym a.same) d))
