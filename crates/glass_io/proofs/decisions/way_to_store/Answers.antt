use Rattle.std.proofs.Common.{rules}
use Rattle.glass_io.proofs.decisions.way_to_store.Goals as goal

pub returns-then-was_used : goal.returns-then-was_used
returns-then-was_used c = search rules

pub returns-in-Other : goal.returns-in-Other
returns-in-Other c = search rules
