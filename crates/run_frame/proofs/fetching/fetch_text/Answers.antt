use Rattle.std.proofs.Common.{rules}
use Rattle.run_frame.proofs.fetching.fetch_text.Goals as goal

pub returns-in_err-absent-in-Ok-Absent-clause-same : goal.returns-in_err-absent-in-Ok-Absent-clause-same
returns-in_err-absent-in-Ok-Absent-clause-same g c = search rules

pub returns-in_err-absent-in-Ok-Absent-clause-fetched : goal.returns-in_err-absent-in-Ok-Absent-clause-fetched
returns-in_err-absent-in-Ok-Absent-clause-fetched g c = search rules

pub returns-in_err-absent-in-Ok-Absent-clause-faults : goal.returns-in_err-absent-in-Ok-Absent-clause-faults
returns-in_err-absent-in-Ok-Absent-clause-faults g c = search rules

pub returns-in_err-absent-in-Ok-Absent-clause-keeps : goal.returns-in_err-absent-in-Ok-Absent-clause-keeps
returns-in_err-absent-in-Ok-Absent-clause-keeps g c = search rules

pub returns-in_err-too_long-in-Ok-TooLong-clause-same : goal.returns-in_err-too_long-in-Ok-TooLong-clause-same
returns-in_err-too_long-in-Ok-TooLong-clause-same g c = search rules

pub returns-in_err-too_long-in-Ok-TooLong-clause-fetched : goal.returns-in_err-too_long-in-Ok-TooLong-clause-fetched
returns-in_err-too_long-in-Ok-TooLong-clause-fetched g c = search rules

pub returns-in_err-too_long-in-Ok-TooLong-clause-faults : goal.returns-in_err-too_long-in-Ok-TooLong-clause-faults
returns-in_err-too_long-in-Ok-TooLong-clause-faults g c = search rules

pub returns-in_err-too_long-in-Ok-TooLong-clause-keeps : goal.returns-in_err-too_long-in-Ok-TooLong-clause-keeps
returns-in_err-too_long-in-Ok-TooLong-clause-keeps g c = search rules

pub returns-in-Ok-Bytes-clause-same : goal.returns-in-Ok-Bytes-clause-same
returns-in-Ok-Bytes-clause-same g c = search rules

pub returns-in-Ok-Bytes-clause-fetched : goal.returns-in-Ok-Bytes-clause-fetched
returns-in-Ok-Bytes-clause-fetched g c = search rules

pub returns-in-Ok-Bytes-clause-faults : goal.returns-in-Ok-Bytes-clause-faults
returns-in-Ok-Bytes-clause-faults g c = search rules

pub returns-in-Ok-Bytes-clause-keeps : goal.returns-in-Ok-Bytes-clause-keeps
returns-in-Ok-Bytes-clause-keeps g c = search rules

pub returns-in_ok-absent-in-Ok-Absent-clause-same : goal.returns-in_ok-absent-in-Ok-Absent-clause-same
returns-in_ok-absent-in-Ok-Absent-clause-same g c = search rules

pub returns-in_ok-absent-in-Ok-Absent-clause-fetched : goal.returns-in_ok-absent-in-Ok-Absent-clause-fetched
returns-in_ok-absent-in-Ok-Absent-clause-fetched g c = search rules

pub returns-in_ok-absent-in-Ok-Absent-clause-faults : goal.returns-in_ok-absent-in-Ok-Absent-clause-faults
returns-in_ok-absent-in-Ok-Absent-clause-faults g c = search rules

pub returns-in_ok-absent-in-Ok-Absent-clause-keeps : goal.returns-in_ok-absent-in-Ok-Absent-clause-keeps
returns-in_ok-absent-in-Ok-Absent-clause-keeps g c = search rules

pub returns-in_ok-too_long-in-Ok-TooLong-clause-same : goal.returns-in_ok-too_long-in-Ok-TooLong-clause-same
returns-in_ok-too_long-in-Ok-TooLong-clause-same g c = search rules

pub returns-in_ok-too_long-in-Ok-TooLong-clause-fetched : goal.returns-in_ok-too_long-in-Ok-TooLong-clause-fetched
returns-in_ok-too_long-in-Ok-TooLong-clause-fetched g c = search rules

pub returns-in_ok-too_long-in-Ok-TooLong-clause-faults : goal.returns-in_ok-too_long-in-Ok-TooLong-clause-faults
returns-in_ok-too_long-in-Ok-TooLong-clause-faults g c = search rules

pub returns-in_ok-too_long-in-Ok-TooLong-clause-keeps : goal.returns-in_ok-too_long-in-Ok-TooLong-clause-keeps
returns-in_ok-too_long-in-Ok-TooLong-clause-keeps g c = search rules

pub returns-in-Err-Failed-clause-same : goal.returns-in-Err-Failed-clause-same
returns-in-Err-Failed-clause-same g c = search rules

pub returns-in-Err-Failed-clause-faults : goal.returns-in-Err-Failed-clause-faults
returns-in-Err-Failed-clause-faults g c = search rules

pub returns-in-Err-Failed-clause-keeps : goal.returns-in-Err-Failed-clause-keeps
returns-in-Err-Failed-clause-keeps g c = search rules

pub returns-in-Err-Memory-clause-same : goal.returns-in-Err-Memory-clause-same
returns-in-Err-Memory-clause-same g c = search rules

pub returns-in-Err-Memory-clause-faults : goal.returns-in-Err-Memory-clause-faults
returns-in-Err-Memory-clause-faults g c = search rules

pub returns-in-Err-Memory-clause-keeps : goal.returns-in-Err-Memory-clause-keeps
returns-in-Err-Memory-clause-keeps g c = search rules
