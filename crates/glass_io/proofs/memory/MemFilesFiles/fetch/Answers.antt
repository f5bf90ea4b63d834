use Rattle.std.proofs.Common.{rules}
use Rattle.glass_io.proofs.memory.MemFilesFiles.fetch.Goals as goal

pub returns-in-None-clause-found : goal.returns-in-None-clause-found
returns-in-None-clause-found c = search rules

pub returns-then-len-limit-clause-found : goal.returns-then-len-limit-clause-found
returns-then-len-limit-clause-found c = search rules
