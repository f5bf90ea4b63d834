use Rattle.std.proofs.Common.{rules}
use Rattle.glass_io.proofs.system.StdFilesFiles.store.Goals as goal

pub returns-in-Err-Failed-clause-counts : goal.returns-in-Err-Failed-clause-counts
returns-in-Err-Failed-clause-counts g c = search rules
