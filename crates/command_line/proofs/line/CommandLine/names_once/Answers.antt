use Rattle.std.proofs.Common.{rules}
use Rattle.command_line.proofs.line.CommandLine.names_once.Goals as goal

pub returns : goal.returns
returns g c = search rules
