use Rattle.glass_base.specs.declared.role.Role.TheVariants as role
use Rattle.command_line.specs.Lines.{line_in}
use Rattle.command_line.specs.Grammar.{file_of}
use Rattle.command_line.specs.Rows.{fetch_order}
use Rattle.run_frame.proofs.ListedFiles.{filter_map_more}
use Rattle.run_frame.proofs.fetching.files_wanted.Goals as goal

pub loop-role-preserved : goal.loop-role-preserved
loop-role-preserved g c =
    let more = rw c.loop-role.invariant at c.in_ok-append_wanted.ensures in
    rw (filter_map_more (file_of (line_in c.args.line.now)) fetch_order c.loop-role.role-index role.Batch c.loop-role-test.true) more
