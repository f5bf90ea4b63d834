use Rattle.std.proofs.Common.{map}
use Rattle.std.specs.String.{string_bytes}
use Rattle.command_line.specs.Grammar.{line_of}
use Rattle.command_line.specs.declared.questions.Program.TheVariants as program
use Rattle.run_frame.proofs.Exited.{exited}
use Rattle.glass_run.specs.Commands.{Answers}
use Rattle.glass_run.proofs.program.run_program.Goals as goal

pub returns : goal.returns
returns g c = exited Answers program.Glass line_of c.words_given-words.result (λ given. map string_bytes given.items) _ _ c.exit_code-code.result c.exit_code-code.ensures.given c.exit_code-code.ensures.wrong
