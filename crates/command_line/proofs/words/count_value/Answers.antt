use Rattle.std.proofs.Common.{ap}
use Rattle.command_line.proofs.Counts.{sets_none}
use Rattle.command_line.proofs.words.count_value.Goals as goal

pub returns-in-None-clause-value : goal.returns-in-None-clause-value
returns-in-None-clause-value c = sets_none c.args.count _ c.args.word.now (ap (λ s. s.front) c.setting-setting.ensures) c.in-None.ensures.cases
