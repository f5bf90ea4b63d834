-- The cutting table: a pile of pieces, and what each instruction does to it.
use Rattle.std.specs.Prelude.{ℕ, ℤ, ◌+◌, ◌==◌, ◌||◌, ◌&&◌, ◌++◌, nat_lt, nat_le, List, [], ◌∷◌, false, if◌then◌else◌, Result, Ok, Err}
use Rattle.glass_base.specs.Plates.{Width}
use Rattle.glass_base.specs.Problem.{Problem}
use Rattle.cut_sheet.specs.declared.instr.Instr.{Instr}
use Rattle.cut_sheet.specs.declared.instr.Made.{Made}
use Rattle.cut_sheet.specs.declared.piece.Piece.{Piece}
use Rattle.cut_sheet.specs.declared.why.Why.{Why}
use Rattle.cut_sheet.specs.Pieces.{cut_off, deeper, made_as, side_cut, without}

-- the pieces on the table, the top one first; how many plates were loaded so far; the pieces that left the table, in their order
pub record Table : Type 0 where
  pub pile : List Piece
  pub loaded : ℕ
  pub made : List Made

-- before the first instruction
abbrev pub bare : Table
bare = record { pile = []; loaded = 0; made = [] }

-- a whole plate
abbrev pub plate_piece : Problem → ℕ → Piece
plate_piece b plate = record { plate = plate; x = 0; y = 0; width = Width b plate; height = b.params.height; level = 0; begun = false }

-- a plate is put on the empty table: they come by their numbers, and there are so many
abbrev pub load : Problem → ℕ → Table → List Piece → Result Table Why
load b plate t (_ ∷ _) = Err Why.Loaded
load b plate t [] =
    if (plate == t.loaded) && nat_lt plate b.params.plates then Ok (record { pile = plate_piece b plate ∷ []; loaded = t.loaded + 1; made = t.made })
    else Err Why.Plate

-- a part is cut off the top piece, and lies on what is left of it
abbrev pub off : ℕ → Table → List Piece → Result Table Why
off size t [] = Err Why.Bare
off size t (top ∷ under) =
    if top.level == 4 then Err Why.Deep
    else if (size == 0) || nat_le (side_cut top) size then Err Why.Size
    else Ok (record t { pile = cut_off size top ∷ without size top ∷ under })

-- the top piece, or what is left of it, becomes a piece of the next level
abbrev pub whole : Table → List Piece → Result Table Why
whole t [] = Err Why.Bare
whole t (top ∷ under) = if top.level == 4 then Err Why.Deep else Ok (record t { pile = deeper top ∷ under })

-- the top piece leaves the table
abbrev pub take_off : ℤ → Table → List Piece → Result Table Why
take_off kind t [] = Err Why.Bare
take_off kind t (top ∷ under) =
    if (top.level == 0) || top.begun then Err Why.Begun else Ok (record t { pile = under; made = t.made ++ made_as kind top ∷ [] })

-- the table behind an instruction, or why it cannot be done
abbrev pub done : Problem → Table → Instr → Result Table Why
done b t (Instr.Load plate) = load b plate t t.pile
done b t (Instr.Off size) = off size t t.pile
done b t Instr.Whole = whole t t.pile
done b t (Instr.Done kind) = take_off kind t t.pile

-- the number by which a reason is told
abbrev pub why_number : Why → ℕ
why_number Why.Loaded = 1
why_number Why.Plate = 2
why_number Why.Bare = 3
why_number Why.Deep = 4
why_number Why.Size = 5
why_number Why.Begun = 6
why_number Why.Kept = 7
