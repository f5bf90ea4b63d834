use Rattle.std.proofs.Common.{rules}
use Rattle.table_notes.proofs.noting.NotingFilesFiles.fetch.Goals as goal

pub returns-in-Ok-Bytes-clause-found : goal.returns-in-Ok-Bytes-clause-found
returns-in-Ok-Bytes-clause-found g c = search rules
