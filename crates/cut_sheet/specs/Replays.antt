-- A whole sheet on the cutting table.
use Rattle.std.specs.Prelude.{ℕ, ◌+◌, List, [], ◌∷◌, Result, Ok, Err}
use Rattle.glass_base.specs.Problem.{Problem}
use Rattle.glass_base.specs.Run.{Listed}
use Rattle.cut_sheet.specs.declared.instr.Instr.{Instr}
use Rattle.cut_sheet.specs.declared.instr.Made.{Made}
use Rattle.cut_sheet.specs.declared.instr.Stuck.{Stuck}
use Rattle.cut_sheet.specs.declared.piece.Piece.{Piece}
use Rattle.cut_sheet.specs.declared.why.Why.{Why}
use Rattle.cut_sheet.specs.Table.{Table, bare, done, why_number}

-- stuck at this line for this reason
abbrev pub stuck : ℕ → Why → Result (List Made) Stuck
stuck line why = Err (record { line = line; why = why_number why })

-- behind the last line: the pieces that left the table, where none lies on it any more
abbrev pub ended : ℕ → List Made → List Piece → Result (List Made) Stuck
ended lines made [] = Ok made
ended lines made (_ ∷ _) = stuck lines Why.Kept

-- the instructions behind so many lines, one after the other
abbrev pub replayed_from : Problem → ℕ → Table → List Instr → Result (List Made) Stuck
replayed_from b lines t [] = ended lines t.made t.pile
replayed_from b lines t (instr ∷ later) = elim (done b t instr) [
  | Ok next ↦ replayed_from b (lines + 1) next later
  | Err why ↦ stuck (lines + 1) why
]

-- the pieces that a sheet makes, or where it gets stuck; its text has a line for the head and one for each instruction
abbrev pub replayed : Problem → List Instr → Result (List Made) Stuck
replayed b sheet = replayed_from b 1 bare sheet

-- the pieces that were made, as a list
abbrev pub made_items : Result (Listed Made) Stuck → Result (List Made) Stuck
made_items (Ok made) = Ok made.items
made_items (Err stuck) = Err stuck
