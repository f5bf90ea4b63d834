use Rattle.std.proofs.Common.{map}
use Rattle.std.specs.String.{string_bytes}
use Rattle.command_line.specs.Grammar.{picture_line_of}
use Rattle.command_line.specs.declared.questions.Program.TheVariants as program
use Rattle.run_frame.proofs.Exited.{exited}
use Rattle.picture_run.specs.Pictures.{Answers}
use Rattle.picture_run.proofs.program.run_picture.Goals as goal

pub returns : goal.returns
returns g c = exited Answers program.Picture picture_line_of c.words_given.result (λ given. map string_bytes given.items) _ _ c.exit_code-code.result c.exit_code-code.ensures.given c.exit_code-code.ensures.wrong
