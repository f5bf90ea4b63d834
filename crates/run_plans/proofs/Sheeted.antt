-- The answers of `sheet` and `replay`, from what their calls give.
use Rattle.std.proofs.Common.{◌≡◌, ℕ, List, [], ◌∷◌, refl, subst}
use Rattle.std.specs.Prelude.{Result}
use Rattle.cut_sheet.specs.declared.instr.Instr.{Instr}
use Rattle.cut_sheet.specs.declared.instr.Made.{Made}
use Rattle.cut_sheet.specs.declared.instr.Stuck.{Stuck}
use Rattle.cut_sheet.specs.Texts.{sheet_text}
use Rattle.run_frame.specs.Answers.{Answer}
use Rattle.run_plans.specs.Replays.{Follows}
use Rattle.run_plans.specs.Sheets.{instructions_line, sheeted}
use Rattle.run_frame.specs.declared.status.Status.TheVariants as status

-- the text and the line of a sheet make the answer
pub sheeted_is : (name bytes lines : List ℕ) (sheet whole : List Instr) → bytes ≡ sheet_text sheet → lines ≡ instructions_line sheet → sheet ≡ whole →
    record { status = status.Done; stores = record { name = name; bytes = bytes } ∷ []; lines = lines } ≡ sheeted name whole
sheeted_is name bytes lines sheet whole text line is = rw (text, line, is) refl

-- the answer to what comes of a sheet
pub follows_run : (sheet : List Instr) (run said : Result (List Made) Stuck) (answer : Answer) → run ≡ said → Follows sheet run answer → Follows sheet said answer
follows_run sheet run said answer is h = subst (λ (r : Result (List Made) Stuck). Follows sheet r answer) is h
