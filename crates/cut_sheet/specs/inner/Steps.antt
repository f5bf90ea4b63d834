-- What a table's calls answer.
use Rattle.std.specs.Prelude.{◌≡◌, Result, Ok, Err}
use Rattle.cut_sheet.specs.declared.why.Why.{Why}
use Rattle.cut_sheet.specs.Table.{Table}

-- the step leads to this table, or is refused for this reason
abbrev pub Leads : Result Table Why → Table → Result Unit Why → Type 0
Leads step new (Ok _) = step ≡ Ok new
Leads step new (Err why) = step ≡ Err why
