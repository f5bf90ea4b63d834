-- What `replay` answers to an instance and the text of a sheet.
use Rattle.std.specs.Prelude.{◌≡◌, ◌⊎◌, ◌++◌, ℕ, List, length, Option, None, Result, Ok, Err, codes}
use Rattle.std.specs.Fmt.{decimal}
use Rattle.glass_base.specs.Problem.{Problem}
use Rattle.glass_base.specs.declared.role.Role.TheVariants as role
use Rattle.cut_sheet.specs.declared.bad_sheet.BadSheet.{BadSheet}
use Rattle.cut_sheet.specs.declared.bad_sheet.BadSheet.TheVariants as bad
use Rattle.cut_sheet.specs.declared.instr.Instr.{Instr}
use Rattle.cut_sheet.specs.declared.instr.Made.{Made}
use Rattle.cut_sheet.specs.declared.instr.Stuck.{Stuck}
use Rattle.cut_sheet.specs.Areas.{cut_count, waste_area}
use Rattle.cut_sheet.specs.Readings.{IsReading, IsText}
use Rattle.cut_sheet.specs.Replays.{replayed}
use Rattle.run_frame.specs.Answers.{Answer, Refused, bad_input, only_lines, refusal}
use Rattle.run_frame.specs.declared.refusals.Refusal.{Refusal}
use Rattle.run_frame.specs.declared.status.Status.TheVariants as status

-- how many pieces left the table, how many cuts were made, and the area of the wastes in mm²
abbrev pub replay_line : List Instr → List Made → List ℕ
replay_line sheet made =
    codes "pieces " ++ decimal (length made) ++ codes " cuts " ++ decimal (cut_count sheet) ++ codes " waste " ++ decimal (waste_area made) ++ codes "\n"

abbrev pub followed : List Instr → List Made → Answer
followed sheet made = only_lines status.Done (replay_line sheet made)

-- the answer to a sheet that the table follows to its end, or at which it is stuck
abbrev pub Follows : List Instr → Result (List Made) Stuck → Answer → Type 0
Follows sheet (Ok made) answer = answer ≡ followed sheet made
Follows sheet (Err stuck) answer = answer ≡ bad_input role.Sheet 42 stuck.line stuck.why

-- the refusals of a text that is no sheet's
abbrev pub sheet_refusal : BadSheet → Option Refusal
sheet_refusal bad.Memory = None
sheet_refusal bad.Head = refusal role.Sheet 40 1 0
sheet_refusal (bad.Line line) = refusal role.Sheet 41 line 0

-- the answer to a text that is no sheet's
abbrev pub SheetRefused : BadSheet → Answer → Type 0
SheetRefused reason answer = Refused (sheet_refusal reason) answer

-- the answer to the text of a sheet, or to its first refusal
abbrev pub ReplaysText : Problem → List ℕ → Answer → Type 0
ReplaysText b text answer =
    ((sheet : List Instr) × IsText text sheet × Follows sheet (replayed b sheet) answer)
    ⊎ ((reason : BadSheet) × IsReading text (Err reason) × SheetRefused reason answer)
