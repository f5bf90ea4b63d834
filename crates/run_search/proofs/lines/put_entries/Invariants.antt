use Rattle.std.proofs.Common.{◌≡◌, ◌++◌, map, take}
use Rattle.std.specs.String.{string_bytes}
use Rattle.best_board.specs.declared.entry.Entry.{Entry}
use Rattle.run_search.specs.Plans.{entry_lines}
use Rattle.run_search.proofs.lines.put_entries.Given as goal

abbrev pub invariant-loop-entry : goal.invariant-loop-entry
invariant-loop-entry l = string_bytes l.lines ≡ string_bytes l.initial.lines ++ entry_lines (map (λ (e : Entry). e.loss) (take l.entry-index l.improvements))
