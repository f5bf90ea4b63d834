-- How far a reader has come.
use Rattle.std.proofs.Common.{◌≡◌, ℕ, ◌+◌, ◌^◌, ◌<◌, ◌≤◌, List, [], ◌∷◌, ◌++◌, length, sym, ap, subst, ◌∙◌, arith, append_assoc, append-nil, length-append, All}
use Rattle.std.proofs.lemmas.List.Concat.{flat_map-append}
use Rattle.std.proofs.lemmas.List.Elements.{All-push}
use Rattle.cut_sheet.specs.declared.instr.Instr.{Instr}
use Rattle.cut_sheet.specs.Texts.{IsWritable, head, instr_line, lines_text}
use Rattle.cut_sheet.specs.inner.Lines.{body}
use Rattle.cut_sheet.proofs.Spelling.{line_ends}

-- these instructions were read, and this is the rest; the next line has this number
pub record IsSoFar (text : List ℕ) (sheet : List Instr) (rest : List ℕ) (line : ℕ) : Type 0 where
  pub writable : All IsWritable sheet
  pub text_is : text ≡ head ++ (lines_text sheet ++ rest)
  pub line_is : line ≡ length sheet + 2
  pub few : line + length rest < 2 ^ 64

-- a line has a byte at least
pub shorter : (instr : Instr) (text rest : List ℕ) → text ≡ instr_line instr ++ rest → length rest + 1 ≤ length text
shorter instr text rest is =
    omega (arith, ap length (is ∙ line_ends instr rest), length-append (body instr) (10 ∷ rest))

-- one more line
pub so_far_more : (text : List ℕ) (sheet more : List Instr) (rest later : List ℕ) (line : ℕ) (instr : Instr) → IsWritable instr → rest ≡ instr_line instr ++ later → more ≡ sheet ++ instr ∷ [] →
    IsSoFar text sheet rest line → IsSoFar text more later (line + 1)
so_far_more text sheet more rest later line instr fits is pushed so =
    let lines : lines_text more ++ later ≡ lines_text sheet ++ rest =
    ap (λ (s : List Instr). lines_text s ++ later) pushed
    ∙ ap (λ (t : List ℕ). t ++ later) (flat_map-append instr_line sheet (instr ∷ []) ∙ ap (λ (t : List ℕ). lines_text sheet ++ t) (append-nil (instr_line instr)))
    ∙ append_assoc (lines_text sheet) (instr_line instr) later
    ∙ ap (λ (t : List ℕ). lines_text sheet ++ t) (sym is) in
    record {
      writable = subst (All IsWritable) (sym pushed) (All-push IsWritable sheet instr so.writable fits);
      text_is = so.text_is ∙ ap (λ (t : List ℕ). head ++ t) (sym lines);
      line_is = omega (arith, so.line_is, ap length pushed, length-append sheet (instr ∷ []));
      few = omega (arith, so.few, shorter instr rest later is);
    }
