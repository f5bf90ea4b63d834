use Rattle.std.proofs.Common.{rules}
use Rattle.table_notes.proofs.notes.note_on.Goals as goal

pub returns : goal.returns
returns c = search rules
