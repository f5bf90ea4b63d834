use Rattle.std.proofs.Common.{◌≡◌, map, take}
use Rattle.std.specs.List.{filter_map}
use Rattle.run_frame.specs.Forms.{file_in}
use Rattle.command_line.specs.Lines.{line_in}
use Rattle.command_line.specs.Grammar.{file_of}
use Rattle.command_line.specs.Rows.{fetch_order}
use Rattle.run_frame.proofs.fetching.files_wanted.Given as goal

abbrev pub invariant-loop-role : goal.invariant-loop-role
invariant-loop-role g l = map file_in l.wanted.items ≡ filter_map (file_of (line_in l.line)) (take l.role-index fetch_order)
