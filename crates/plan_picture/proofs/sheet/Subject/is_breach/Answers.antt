use Rattle.std.proofs.Common.{rules}
use Rattle.plan_picture.proofs.sheet.Subject.is_breach.Goals as goal

pub returns-then-broken-row : goal.returns-then-broken-row
returns-then-broken-row c = search rules
