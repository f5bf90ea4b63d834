use Rattle.std.proofs.Common.{map, take}
use Rattle.glass_io.specs.Told.{SameFaults}
use Rattle.command_line.specs.Grammar.{stored_as}
use Rattle.command_line.specs.Lines.{line_in}
use Rattle.run_frame.specs.Forms.{store_in}
use Rattle.run_frame.specs.Runs.{Stands}
use Rattle.run_frame.proofs.delivering.store_all.Given as goal

abbrev pub invariant-loop-output : goal.invariant-loop-output
invariant-loop-output g l = record {
  stands : Stands (take l.output-index (map (store_in (stored_as (line_in l.line))) l.outputs)) (g.F.Files.shelf l.fn.files).contents (g.F.Files.shelf l.files).contents;
  faults : SameFaults (g.F.Files.shelf l.fn.files) (g.F.Files.shelf l.files);
  keeps : g.F.Files.reliable l.fn.files → g.F.Files.reliable l.files;
}
