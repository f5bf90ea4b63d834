use Rattle.std.proofs.Common.{sym}
use Rattle.command_line.proofs.Prefixes.{no_option}
use Rattle.command_line.proofs.words.option_name.Goals as goal

pub returns-in-None : goal.returns-in-None
returns-in-None c = sym (no_option c.args.role _ c.args.word.now c.option_front.ensures c.in-None.ensures.cases)
