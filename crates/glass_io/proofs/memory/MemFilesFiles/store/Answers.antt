use Rattle.std.proofs.Common.{rules}
use Rattle.glass_io.proofs.memory.MemFilesFiles.store.Goals as goal

pub returns-then-fails-clause-half : goal.returns-then-fails-clause-half
returns-then-fails-clause-half c = search rules

pub returns-then-fails-clause-counts : goal.returns-then-fails-clause-counts
returns-then-fails-clause-counts c = search rules

pub returns-clause-counts : goal.returns-clause-counts
returns-clause-counts c = search rules

pub returns-then-fails-clause-stored : goal.returns-then-fails-clause-stored
returns-then-fails-clause-stored c = search rules

pub returns-then-fails-clause-follows : goal.returns-then-fails-clause-follows
returns-then-fails-clause-follows c = search rules
