use Rattle.std.proofs.Common.{◌≡◌, ◌∷◌, ◌++◌, refl, subst, rules, Err}
use Rattle.std.proofs.lemmas.Option.{MatchOption-at_some, MatchOption-at_none}
use Rattle.cert_log.specs.declared.bad_cert.BadCert.TheVariants as bad
use Rattle.cert_log.specs.inner.Fields.{Lacks}
use Rattle.cert_log.specs.inner.LineForms.{SaysLine, said}
use Rattle.cert_log.proofs.Marks.{no_true, not_empty}
use Rattle.cert_log.proofs.Bodies.{no_line_feed, no_such_line, other_line}
use Rattle.cert_log.proofs.node_lines.next_line.Goals as goal
use Rattle.cert_log.proofs.node_lines.next_line.Goals.{In_ok-body}

-- the text up to the first line feed, and behind it
split : (c : In_ok-body) → (c.args.text.now ≡ c.in_ok-body.body.now ++ 10 ∷ c.in_ok-body.rest.now) × Lacks 10 c.in_ok-body.body.now
split c = MatchOption-at_some _ _ (c.in_ok-body.body, c.in_ok-body.rest) c.in_ok-body.ensures.ok_part c.field.ensures

pub returns-in_err-body : goal.returns-in_err-body
returns-in_err-body c =
    let told : c.from_residual.result ≡ Err (bad.Line c.args.line) = search rules in
    rw told (not_empty c.args.text.now c.if-is_empty.ensures, no_line_feed c.args.version c.args.at c.args.text.now (MatchOption-at_none _ _ c.in_err-body.ensures.ok_part c.field.ensures), refl)

pub returns-in_err-found : goal.returns-in_err-found
returns-in_err-found c =
    let told : c.from_residual-in_err-found.result ≡ Err (bad.Line c.args.line) = search rules in let s = split (goal.at.returns-in_err-found c).In_ok-body in
    rw told (not_empty c.args.text.now c.if-is_empty.ensures, no_such_line c.args.version c.args.at c.args.text.now c.in_ok-body.body.now c.in_ok-body.rest.now c.requires.places s.0 s.1 (subst (SaysLine c.in_ok-body.body.now) c.in_err-found.ensures.ok_part c.line_in.ensures), refl)

pub returns-else-may_come : goal.returns-else-may_come
returns-else-may_come c =
    let s = split (goal.at.returns-else-may_come c).In_ok-body in let l = subst (SaysLine c.in_ok-body.body.now) c.in_ok-found.ensures.ok_part c.line_in.ensures in
    (not_empty c.args.text.now c.if-is_empty.ensures, other_line c.args.version c.args.at c.args.text.now c.in_ok-body.body.now c.in_ok-body.rest.now (said c.in_ok-found.found) c.requires.places s.0 s.1 l.0 l.1 (λ may. no_true c.may_come.result (c.may_come.ensures.1 may) c.if-may_come.false), refl)
