-- A text is read up to one place, and there it has one outcome.
use Rattle.std.proofs.Common.{◌≡◌, ◌≢◌, ℕ, ◌+◌, List, [], ◌∷◌, ◌++◌, length, refl, sym, ap, ◌∙◌, append_assoc, append-nil, All, Ok, Err}
use Rattle.std.specs.Prelude.{Result}
use Rattle.std.proofs.lemmas.List.Elements.{All-head, All-tail}
use Rattle.cut_sheet.specs.declared.bad_sheet.BadSheet.{BadSheet}
use Rattle.cut_sheet.specs.declared.bad_sheet.BadSheet.TheVariants as bad
use Rattle.cut_sheet.specs.declared.instr.Instr.{Instr}
use Rattle.cut_sheet.specs.ReadAgain.{IsReadAgain, OneReading, OneRefusal, RoundTrip}
use Rattle.cut_sheet.specs.Readings.{IsBadLine, IsReading, IsText, NoHead, NoLine}
use Rattle.cut_sheet.specs.Texts.{IsWritable, head, instr_line, lines_text, sheet_text}
use Rattle.cut_sheet.specs.inner.Lines.{body}
use Rattle.cut_sheet.proofs.Spelling.{bodies_alike, body_unbroken, ends_alike, line_ends}

-- behind the head and the lines of a sheet no line stands
record Stops (text : List ℕ) (sheet : List Instr) (rest : List ℕ) : Type 0 where
  writable : All IsWritable sheet
  text_is : text ≡ head ++ (lines_text sheet ++ rest)
  none : NoLine rest

record Alike (xs ys : List Instr) (s t : List ℕ) : Type 0 where
  sheet : xs ≡ ys
  rest : s ≡ t

lines_alike : (xs ys : List Instr) (s t : List ℕ) → All IsWritable xs → All IsWritable ys → NoLine s → NoLine t → lines_text xs ++ s ≡ lines_text ys ++ t → Alike xs ys s t
lines_alike [] [] s t fit_x fit_y no_s no_t e = record { sheet = refl; rest = e }
lines_alike [] (y ∷ ys) s t fit_x fit_y no_s no_t e =
    absurd (no_s y (lines_text ys ++ t) (All-head IsWritable y ys fit_y) (e ∙ append_assoc (instr_line y) (lines_text ys) t))
lines_alike (x ∷ xs) [] s t fit_x fit_y no_s no_t e =
    absurd (no_t x (lines_text xs ++ s) (All-head IsWritable x xs fit_x) (sym e ∙ append_assoc (instr_line x) (lines_text xs) s))
lines_alike (x ∷ xs) (y ∷ ys) s t fit_x fit_y no_s no_t e =
    let is_x = All-head IsWritable x xs fit_x in
    let is_y = All-head IsWritable y ys fit_y in
    let d : body x ++ 10 ∷ (lines_text xs ++ s) ≡ body y ++ 10 ∷ (lines_text ys ++ t) =
    sym (append_assoc (instr_line x) (lines_text xs) s ∙ line_ends x (lines_text xs ++ s)) ∙ e ∙ append_assoc (instr_line y) (lines_text ys) t ∙ line_ends y (lines_text ys ++ t) in
    let r = ends_alike (body x) (body y) (lines_text xs ++ s) (lines_text ys ++ t) (body_unbroken x is_x) (body_unbroken y is_y) d in
    let same = bodies_alike x y is_x is_y r.front in
    let later = lines_alike xs ys s t (All-tail IsWritable x xs fit_x) (All-tail IsWritable y ys fit_y) no_s no_t r.back in
    let lines = later.sheet in
    record { sheet = cc (same, lines); rest = later.rest }

-- texts with one head have one rest
behind_front : (front s t : List ℕ) → front ++ s ≡ front ++ t → s ≡ t
behind_front [] s t e = e
behind_front (x ∷ front) s t e = let f : front ++ s ≡ front ++ t = cc in behind_front front s t f

one_stop : (text : List ℕ) (xs ys : List Instr) (s t : List ℕ) → Stops text xs s → Stops text ys t → Alike xs ys s t
one_stop text xs ys s t a b = lines_alike xs ys s t a.writable b.writable a.none b.none (behind_front head (lines_text xs ++ s) (lines_text ys ++ t) (sym a.text_is ∙ b.text_is))

-- nothing is no line
no_line_empty : NoLine []
no_line_empty (Instr.Load plate) rest is e = cc
no_line_empty (Instr.Off size) rest is e = cc
no_line_empty Instr.Whole rest is e = cc
no_line_empty (Instr.Done kind) rest is e = cc

text_stops : (text : List ℕ) (sheet : List Instr) → IsText text sheet → Stops text sheet []
text_stops text sheet is = record {
  writable = is.writable;
  text_is = is.text_is ∙ ap (λ (t : List ℕ). head ++ t) (sym (append-nil (lines_text sheet)));
  none = no_line_empty;
}

bad_line_stops : (text : List ℕ) (line : ℕ) (bad_line : IsBadLine text line) → Stops text bad_line.sheet bad_line.rest
bad_line_stops text line bad_line = record { writable = bad_line.writable; text_is = bad_line.text_is; none = bad_line.none }

pub one_reading : OneReading
one_reading text sheet (Ok other) is read = (one_stop text other sheet [] [] (text_stops text other read) (text_stops text sheet is)).sheet
one_reading text sheet (Err bad.Memory) is read = refl
one_reading text sheet (Err bad.Head) is read = absurd (read (lines_text sheet) is.text_is)
one_reading text sheet (Err (bad.Line line)) is read =
    absurd (read.some (one_stop text read.sheet sheet read.rest [] (bad_line_stops text line read) (text_stops text sheet is)).rest)

pub round_trip : RoundTrip
round_trip sheet read fit is = one_reading (sheet_text sheet) sheet read (record { writable = fit; text_is = refl }) is

pub one_refusal : OneRefusal
one_refusal text bad.Memory b not_a not_b x y = absurd (not_a refl)
one_refusal text bad.Head bad.Memory not_a not_b x y = absurd (not_b refl)
one_refusal text bad.Head bad.Head not_a not_b x y = refl
one_refusal text bad.Head (bad.Line line) not_a not_b x y = absurd (x (lines_text y.sheet ++ y.rest) y.text_is)
one_refusal text (bad.Line line) bad.Memory not_a not_b x y = absurd (not_b refl)
one_refusal text (bad.Line line) bad.Head not_a not_b x y = absurd (y (lines_text x.sheet ++ x.rest) x.text_is)
one_refusal text (bad.Line line) (bad.Line other) not_a not_b x y =
    let same = one_stop text x.sheet y.sheet x.rest y.rest (bad_line_stops text line x) (bad_line_stops text other y) in
    ap bad.Line (x.line_is ∙ ap (λ (s : List Instr). length s + 2) same.sheet ∙ sym y.line_is)
