use Rattle.std.proofs.Common.{rules}
use Rattle.table_notes.proofs.notes.is_row.Goals as goal

pub returns-in-Defects : goal.returns-in-Defects
returns-in-Defects c = search rules

pub returns-in-Plates : goal.returns-in-Plates
returns-in-Plates c = search rules
