-- A line of plain fields is read again as these fields.
use Rattle.std.proofs.Common.{◌≡◌, ◌≤◌, ◌+◌, ◌==◌, ◌++◌, ℕ, zero, suc, List, [], ◌∷◌, length, false, Some, refl, sym, ap, ◌∙◌, append_assoc, arith, length-append}
use Rattle.std.proofs.lemmas.Bool.{false_from_ne_true, or_parts}
use Rattle.std.proofs.lemmas.List.{append-nil}
use Rattle.std.proofs.lemmas.List.Elements.{All-head, All-tail}
use Rattle.std.specs.List.{flat_map, join_with_byte}
use Rattle.std.specs.Prelude.{All}
use Rattle.csv.specs.Machine.{next_record}
use Rattle.csv.specs.Reading.{records_from, strip_bom}
use Rattle.csv.specs.Writing.{needs_byte}
use Rattle.csv.specs.declared.parser.State.TheVariants as st
use Rattle.csv_table.specs.Lines.{IsPlain, ArePlain, line_of, semicolons as written}
use Rattle.csv_table.specs.Rows.{table_rows, semicolons}

-- a byte that is no mark of a table
record IsOrdinary (b : ℕ) : Type 0 where
  no_semicolon : (b == 59) ≡ false
  no_quote : (b == 34) ≡ false
  no_return : (b == 13) ≡ false
  no_line : (b == 10) ≡ false

-- a byte that needs no quotes is ordinary
ordinary : (b : ℕ) → needs_byte written b ≡ false → IsOrdinary b
ordinary b e =
    let a = false_from_ne_true (b == 59) (λ t. cc (rw t at e)) in
    let q = false_from_ne_true (b == 34) (λ t. cc (rw (a, t) at e)) in
    let r = false_from_ne_true (b == 13) (λ t. cc (rw (a, q, t) at e)) in
    let n = false_from_ne_true (b == 10) (λ t. cc (rw (a, q, r, t) at e)) in
    record { no_semicolon = a; no_quote = q; no_return = r; no_line = n }

-- the bytes of a plain field join it
plain_run : (fields : List (List ℕ)) (field x tail : List ℕ) → IsPlain x
    → next_record semicolons st.InField fields field (x ++ tail) ≡ next_record semicolons st.InField fields (field ++ x) tail
unfolding next_record
plain_run fields field [] tail e = rw (append-nil field) refl
plain_run fields field (b ∷ rest) tail e =
    let o = ordinary b (or_parts _ _ e).0 in
    rw (o.no_semicolon, o.no_return, o.no_line) (plain_run fields (field ++ (b ∷ [])) rest tail (or_parts _ _ e).1
    ∙ ap (λ (f : List ℕ). next_record semicolons st.InField fields f tail) (append_assoc field (b ∷ []) rest))

-- a byte that is no quote does the same at the start of a field and in one
start_same : (fields : List (List ℕ)) (field : List ℕ) (c : ℕ) (tail : List ℕ) → (c == 34) ≡ false
    → next_record semicolons st.StartField fields field (c ∷ tail) ≡ next_record semicolons st.InField fields field (c ∷ tail)
unfolding next_record
start_same fields field c tail n = rw n refl

-- a byte that ends no line starts a row as it starts a field
row_same : (fields : List (List ℕ)) (field : List ℕ) (c : ℕ) (tail : List ℕ) → (c == 13) ≡ false → (c == 10) ≡ false
    → next_record semicolons st.StartRecord fields field (c ∷ tail) ≡ next_record semicolons st.StartField fields field (c ∷ tail)
unfolding next_record
row_same fields field c tail r n = rw (r, n) refl

-- a plain field, from its start, and a byte behind it
field_run : (fields : List (List ℕ)) (x : List ℕ) (c : ℕ) (tail : List ℕ) → (c == 34) ≡ false → IsPlain x
    → next_record semicolons st.StartField fields [] (x ++ (c ∷ tail)) ≡ next_record semicolons st.InField fields x (c ∷ tail)
field_run fields [] c tail n p = start_same fields [] c tail n
field_run fields (b ∷ rest) c tail n p =
    let o = ordinary b (or_parts _ _ p).0 in
    start_same fields [] b (rest ++ (c ∷ tail)) o.no_quote ∙ plain_run fields [] (b ∷ rest) (c ∷ tail) p

-- a semicolon ends a field
end_field : (fields : List (List ℕ)) (x u : List ℕ)
    → next_record semicolons st.InField fields x (59 ∷ u) ≡ next_record semicolons st.StartField (fields ++ (x ∷ [])) [] u
unfolding next_record
end_field fields x u = refl

-- a line feed ends a row
end_row : (fields : List (List ℕ)) (x u : List ℕ) → next_record semicolons st.InField fields x (10 ∷ u) ≡ Some (fields ++ (x ∷ []), st.StartRecord, u)
unfolding next_record
end_row fields x u = refl

-- a line, behind its first field
line_more : (f g : List ℕ) (fs : List (List ℕ)) (tail : List ℕ) → line_of (f ∷ g ∷ fs) ++ tail ≡ f ++ (59 ∷ (line_of (g ∷ fs) ++ tail))
line_more f g fs tail =
    append_assoc (f ++ (59 ∷ join_with_byte 59 (g ∷ fs))) (10 ∷ []) tail
    ∙ append_assoc f (59 ∷ join_with_byte 59 (g ∷ fs)) (10 ∷ tail)
    ∙ ap (λ (rest : List ℕ). f ++ (59 ∷ rest)) (sym (append_assoc (join_with_byte 59 (g ∷ fs)) (10 ∷ []) tail))

-- the fields of a line, from the start of one, behind some
fields_run : (before : List (List ℕ)) (f : List ℕ) (fs : List (List ℕ)) (tail : List ℕ) → IsPlain f → ArePlain fs
    → next_record semicolons st.StartField before [] (line_of (f ∷ fs) ++ tail) ≡ Some (before ++ (f ∷ fs), st.StartRecord, tail)
fields_run before f [] tail p ps = rw (append_assoc f (10 ∷ []) tail) (field_run before f 10 tail refl p ∙ end_row before f tail)
fields_run before f (g ∷ fs) tail p ps =
    rw (line_more f g fs tail) (field_run before f 59 (line_of (g ∷ fs) ++ tail) refl p
    ∙ end_field before f (line_of (g ∷ fs) ++ tail)
    ∙ fields_run (before ++ (f ∷ [])) g fs tail ps.0 ps.1
    ∙ ap (λ (all : List (List ℕ)). Some (all, st.StartRecord, tail)) (append_assoc before (f ∷ []) (g ∷ fs)))

-- a line of two fields or more starts a row as it starts a field
first_same : (f : List ℕ) (tail : List ℕ) → IsPlain f
    → next_record semicolons st.StartRecord [] [] (f ++ (59 ∷ tail)) ≡ next_record semicolons st.StartField [] [] (f ++ (59 ∷ tail))
first_same [] tail p = row_same [] [] 59 tail refl refl
first_same (b ∷ rest) tail p = let o = ordinary b (or_parts _ _ p).0 in row_same [] [] b (rest ++ (59 ∷ tail)) o.no_return o.no_line

-- a line of two plain fields or more is a row of these
pub row_run : (f g : List ℕ) (fs : List (List ℕ)) (tail : List ℕ) → ArePlain (f ∷ g ∷ fs)
    → next_record semicolons st.StartRecord [] [] (line_of (f ∷ g ∷ fs) ++ tail) ≡ Some (f ∷ g ∷ fs, st.StartRecord, tail)
row_run f g fs tail p =
    let run = fields_run [] f (g ∷ fs) tail p.0 p.1 in
    let first = first_same f (line_of (g ∷ fs) ++ tail) p.0 in
    let e = line_more f g fs tail in
    rw e (first ∙ rw e at run)

-- a row that is written without quotes: two plain fields or more
pub record IsLine (fields : List (List ℕ)) : Type 0 where
  pub some : 2 ≤ length fields
  pub plain : ArePlain fields

-- a line is a row of its fields, and the next row starts behind it
pub line_run : (fields : List (List ℕ)) (tail : List ℕ) → IsLine fields
    → next_record semicolons st.StartRecord [] [] (line_of fields ++ tail) ≡ Some (fields, st.StartRecord, tail)
line_run [] tail h = absurd (omega arith)
line_run (f ∷ []) tail h = absurd (omega arith)
line_run (f ∷ g ∷ fs) tail h = row_run f g fs tail h.plain

-- lines are read again, by as many turns as there are lines or more
pub lines_run : (rows : List (List (List ℕ))) (n : ℕ) → All IsLine rows → length rows ≤ n → records_from semicolons n st.StartRecord (flat_map line_of rows) ≡ rows
unfolding records_from next_record
lines_run [] zero h k = refl
lines_run [] (suc n) h k = refl
lines_run (fields ∷ rows) zero h k = absurd (omega arith)
lines_run (fields ∷ rows) (suc n) h k =
    let e = line_run fields (flat_map line_of rows) (All-head IsLine fields rows h) in
    let more = lines_run rows n (All-tail IsLine fields rows h) (omega arith) in
    rw e (ap (λ (rs : List (List (List ℕ))). fields ∷ rs) more)

-- each line has a byte at least
pub length-lines : (rows : List (List (List ℕ))) → length rows ≤ length (flat_map line_of rows)
length-lines [] = omega arith
length-lines (fields ∷ rows) =
    let more = length-lines rows in
    omega (arith, length-append (line_of fields) (flat_map line_of rows), length-append (join_with_byte 59 fields) (10 ∷ []))

-- a text of lines that does not begin with a byte order mark reads as these lines' fields
pub rows_of_lines : (rows : List (List (List ℕ))) → All IsLine rows → strip_bom (flat_map line_of rows) ≡ flat_map line_of rows → table_rows (flat_map line_of rows) ≡ rows
rows_of_lines rows h e = rw e (lines_run rows (length (flat_map line_of rows) + 1) h (omega (arith, length-lines rows)))

-- a text that begins with another byte has no byte order mark
pub no_mark : (a : ℕ) (xs : List ℕ) → (a == 239) ≡ false → strip_bom (a ∷ xs) ≡ a ∷ xs
unfolding strip_bom
no_mark a [] e = refl
no_mark a (b ∷ []) e = refl
no_mark a (b ∷ c ∷ rest) e = rw e refl
