use Rattle.std.proofs.Common.{◌≡◌, ◌+◌, drop}
use Rattle.cut_sheet.specs.Replays.{replayed, replayed_from}
use Rattle.cut_sheet.proofs.replaying.replay.Given as goal

abbrev pub invariant-loop-instr : goal.invariant-loop-instr
invariant-loop-instr l = record {
  goes : replayed_from l.instance l.lines l.table (drop l.instr-index l.sheet) ≡ replayed l.instance l.sheet;
  count : l.lines ≡ l.instr-index + 1;
}
