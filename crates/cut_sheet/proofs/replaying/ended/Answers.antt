use Rattle.std.proofs.Common.{ap, sym, ◌∙◌, Err}
use Rattle.cut_sheet.proofs.Ending.{ended_kept}
use Rattle.cut_sheet.proofs.Lying.{no_true}
use Rattle.cut_sheet.proofs.replaying.ended.Goals as goal

pub returns-else-is_bare : goal.returns-else-is_bare
returns-else-is_bare c =
    ap Err c.stuck.ensures ∙ sym (ended_kept c.args.lines c.args.table.made c.args.table.pile (λ none. no_true c.is_bare.result (c.is_bare.ensures.1 none) c.if-is_bare.false))
