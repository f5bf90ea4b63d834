-- How a row that is read leaves the rows behind it.
use Rattle.std.proofs.Common.{◌≡◌, ◌<◌, ◌≤◌, ◌+◌, ◌==◌, ◌&&◌, ℕ, zero, suc, List, [], ◌∷◌, length, Bool, true, false, Bor, Option, Some, None, refl, ap, ◌∙◌, arith, add-one, if◌then◌else◌}
use Rattle.csv.specs.Machine.{Read, after_end, ends_at_end, ends_with, field_after, fields_after, in_field, is_byte, is_end, next_record, start_field, start_record, step}
use Rattle.csv.specs.Reading.{NextIs, ReadsNext, pending_of, records_from, records_next, source_of, is_bom, strip_bom}
use Rattle.csv.specs.declared.parser.Action.{Action}
use Rattle.csv.specs.declared.parser.Config.{Config}
use Rattle.csv.specs.declared.parser.State.{State}
use Rattle.csv.specs.declared.parser.State.TheVariants as st
use Rattle.csv.specs.declared.parser.Terminator.{Terminator}
use Rattle.csv.specs.declared.parser.Terminator.TheVariants as term
use Rattle.csv.specs.Reading.{RowStep, is_flexible}
use Rattle.csv.specs.Records.{Row, fields_of}
use Rattle.csv.specs.declared.iter.ByteRecordsIntoIter.{ByteRecordsIntoIter}
use Rattle.std.proofs.Common.{Ok, inl}
use Rattle.csv_table.specs.Rows.{IsOpen, rows_from, rows_left, table_rows, semicolons}

-- where this step ends a row, its state stands between rows
abbrev Between : State × Action → Type 0
Between q = is_end q.1 ≡ true → ends_at_end q.0 ≡ false

pick : (b : Bool) (x y : State × Action) → Between x → Between y → Between (if b then x else y)
pick true x y h k = h
pick false x y h k = k

after_end-between : (t : Terminator) (c : ℕ) → ends_at_end (after_end t c) ≡ false
after_end-between term.CRLF c = by (c == 13)
  where
    by : (b : Bool) → ends_at_end (if b then st.AfterCr else st.StartRecord) ≡ false
    by true = refl
    by false = refl
after_end-between (term.Any t) c = refl

in_field-between : (cfg : Config) (c : ℕ) → Between (in_field cfg c)
in_field-between cfg c = pick (c == cfg.delimiter) _ _ (λ e. cc e) (pick (ends_with cfg.terminator c) _ _ (λ e. after_end-between cfg.terminator c) (λ e. cc e))

start_field-between : (cfg : Config) (c : ℕ) → Between (start_field cfg c)
start_field-between cfg c = pick (cfg.quoting && (c == cfg.quote)) _ _ (λ e. cc e) (in_field-between cfg c)

start_record-between : (cfg : Config) (c : ℕ) → Between (start_record cfg c)
start_record-between cfg c = pick (ends_with cfg.terminator c) _ _ (λ e. cc e) (pick (is_byte cfg.comment c) _ _ (λ e. cc e) (start_field-between cfg c))

step-between : (cfg : Config) (s : State) (c : ℕ) → Between (step cfg s c)
step-between cfg st.StartRecord c = start_record-between cfg c
step-between cfg st.StartField c = start_field-between cfg c
step-between cfg st.InField c = in_field-between cfg c
step-between cfg st.InQuoted c = pick (cfg.quoting && (c == cfg.quote)) _ _ (λ e. cc e) (pick (cfg.quoting && is_byte cfg.escape c) _ _ (λ e. cc e) (λ e. cc e))
step-between cfg st.InEscape c = λ e. cc e
step-between cfg st.AfterQuote c = pick (cfg.quoting && cfg.double_quote && (c == cfg.quote)) _ _ (λ e. cc e) (in_field-between cfg c)
step-between cfg st.InComment c = pick (c == 10) _ _ (λ e. cc e) (λ e. cc e)
step-between cfg st.AfterCr c = pick (c == 10) _ _ (λ e. cc e) (start_record-between cfg c)

-- a row that begins between two rows takes a byte at least, and ends between two rows
pub record IsShorter (p : Read) (size : ℕ) : Type 0 where
  pub between : ends_at_end p.1 ≡ false
  pub less : length p.2 < size

branch : (b : Bool) (x : Read) (o : Option Read) (p : Read) (n : ℕ) → (b ≡ true → IsShorter x n) → (o ≡ Some p → IsShorter p n) → (if b then Some x else o) ≡ Some p → IsShorter p n
branch true x o p n f g e = let q : x ≡ p = cc e in rw (← q) (f refl)
branch false x o p n f g e = g e

next-any : (cfg : Config) (s : State) (fields : List (List ℕ)) (field : List ℕ) (xs : List ℕ) (p : Read) → next_record cfg s fields field xs ≡ Some p → IsShorter p (suc (length xs))
unfolding next_record
next-any cfg s fields field [] p e = branch (ends_at_end s) _ None p _ (λ t. record { between = refl; less = omega arith }) (λ h. cc h) e
next-any cfg s fields field (c ∷ rest) p e =
    branch (is_end (step cfg s c).1) _ _ p _ (λ t. record { between = step-between cfg s c t; less = omega arith })
    (λ h. let d = next-any cfg (step cfg s c).0 (fields_after (step cfg s c).1 fields field) (field_after (step cfg s c).1 c field) rest p h in record { between = d.between; less = omega (arith, d.less) }) e

pub next-shorter : (cfg : Config) (s : State) (xs : List ℕ) (p : Read) → ends_at_end s ≡ false → next_record cfg s [] [] xs ≡ Some p → IsShorter p (length xs)
unfolding next_record
next-shorter cfg s [] p b e = cc (rw b at e)
next-shorter cfg s (c ∷ rest) p b e =
    branch (is_end (step cfg s c).1) _ _ p _ (λ t. record { between = step-between cfg s c t; less = omega arith }) (λ h. next-any cfg (step cfg s c).0 _ _ rest p h) e

-- what is enough turns is enough
pub records-enough : (cfg : Config) (n m : ℕ) (s : State) (xs : List ℕ) → ends_at_end s ≡ false → length xs < n → length xs < m → records_from cfg n s xs ≡ records_from cfg m s xs
unfolding records_from
records-enough cfg zero m s xs b h k = absurd (omega arith)
records-enough cfg (suc n) zero s xs b h k = absurd (omega arith)
records-enough cfg (suc n) (suc m) s xs b h k = by (next_record cfg s [] [] xs) refl (λ s2 ys. records-enough cfg n m s2 ys)
  where
    by : (o : Option Read) → next_record cfg s [] [] xs ≡ o
        → ((s2 : State) (ys : List ℕ) → ends_at_end s2 ≡ false → length ys < n → length ys < m → records_from cfg n s2 ys ≡ records_from cfg m s2 ys)
        → records_next (records_from cfg n) (next_record cfg s [] [] xs) ≡ records_next (records_from cfg m) (next_record cfg s [] [] xs)
    by None e more = rw e refl
    by (Some p) e more =
        let d = next-shorter cfg s xs p b e in
        rw e (ap (λ rs. p.0 ∷ rs) (more p.1 p.2 d.between (omega (arith, d.less)) (omega (arith, d.less))))

-- the row that was read, and the rows behind it
pub rows-next : (s s2 : State) (xs ys : List ℕ) (f : List (List ℕ)) → ends_at_end s ≡ false → NextIs (next_record semicolons s [] [] xs) true f s2 ys
    → (rows_from s (Some xs) ≡ f ∷ rows_from s2 (Some ys)) × (ends_at_end s2 ≡ false)
unfolding records_from
rows-next s s2 xs ys f b h = by (next_record semicolons s [] [] xs) refl h
  where
    by : (o : Option Read) → next_record semicolons s [] [] xs ≡ o → NextIs o true f s2 ys → (rows_from s (Some xs) ≡ f ∷ rows_from s2 (Some ys)) × (ends_at_end s2 ≡ false)
    by None e n = cc n
    by (Some p) e n =
        let d = next-shorter semicolons s xs p b e in
        rw (n.1, n.2, n.3) (rw (add-one, e) (ap (λ rs. p.0 ∷ rs) (records-enough semicolons (length xs) (length p.2 + 1) p.1 p.2 d.between d.less (omega arith))), d.between)

pub rows-none : (s s2 : State) (xs ys : List ℕ) (f : List (List ℕ)) → NextIs (next_record semicolons s [] [] xs) false f s2 ys → rows_from s (Some xs) ≡ []
unfolding records_from
rows-none s s2 xs ys f h = by (next_record semicolons s [] [] xs) refl h
  where
    by : (o : Option Read) → next_record semicolons s [] [] xs ≡ o → NextIs o false f s2 ys → rows_from s (Some xs) ≡ []
    by None e n = rw (add-one, e) refl
    by (Some p) e n = cc n.0

-- the bytes that are left behind a read, where those before it are known
after_read : (s s2 : State) (xs : List ℕ) (f : List (List ℕ)) (k : Option (List ℕ)) → ends_at_end s ≡ false → ReadsNext semicolons s (Some xs) k true f s2
    → ((ys : List ℕ) × (k ≡ Some ys)) × (rows_from s (Some xs) ≡ f ∷ rows_from s2 k) × (ends_at_end s2 ≡ false)
after_read s s2 xs f None b h = absurd h
after_read s s2 xs f (Some ys) b h = let n = rows-next s s2 xs ys f b h in ((ys, refl), n.0, n.1)

after_last : (s s2 : State) (xs : List ℕ) (f : List (List ℕ)) (k : Option (List ℕ)) → ReadsNext semicolons s (Some xs) k false f s2 → rows_from s (Some xs) ≡ []
after_last s s2 xs f None h = absurd h
after_last s s2 xs f (Some ys) h = rows-none s s2 xs ys f h

-- a row that was read leaves the reader open, at the rows behind it
pub open-next : (a b : ByteRecordsIntoIter (Bor (List ℕ))) (x : Row) → IsOpen a → RowStep (λ (s : Bor (List ℕ)). Some s.now) a.rdr b.rdr b.left (Some (Ok x)) → is_flexible b.rdr ≡ is_flexible a.rdr → IsOpen b × (rows_left a ≡ fields_of x ∷ rows_left b)
open-next a b x o h same_length =
    let (xs, known) = o.known in
    let r = h.0 in
    let m = after_read a.rdr.state b.rdr.state xs (fields_of x) _ o.between (rw (o.config, known) at r.0) in
    let same : source_of (λ (s : Bor (List ℕ)). Some s.now) b.rdr ≡ pending_of (Some b.rdr.rdr.now) b.rdr = rw r.1 refl in (
      record {
        plain = r.3 ∙ o.plain;
        flexible = same_length ∙ o.flexible;
        ready = inl h.1;
        turns = h.2;
        config = r.2 ∙ o.config;
        between = m.2;
        known = (m.0.0, same ∙ m.0.1);
      },
      rw (same, known) m.1,
    )

-- no row was left
pub open-none : (a b : ByteRecordsIntoIter (Bor (List ℕ))) (left : ℕ) → IsOpen a → RowStep (λ (s : Bor (List ℕ)). Some s.now) a.rdr b.rdr left None → rows_left a ≡ []
open-none a b left o h =
    let (xs, known) = o.known in
    rw known (after_last a.rdr.state b.rdr.state xs [] _ (rw (o.config, known) at h.0))

-- a table has at most a row for each byte
pub length-records : (cfg : Config) (n : ℕ) (s : State) (xs : List ℕ) → ends_at_end s ≡ false → length (records_from cfg n s xs) ≤ length xs
unfolding records_from
length-records cfg zero s xs b = omega arith
length-records cfg (suc n) s xs b = by (next_record cfg s [] [] xs) refl (λ s2 ys. length-records cfg n s2 ys)
  where
    by : (o : Option Read) → next_record cfg s [] [] xs ≡ o
        → ((s2 : State) (ys : List ℕ) → ends_at_end s2 ≡ false → length (records_from cfg n s2 ys) ≤ length ys)
        → length (records_next (records_from cfg n) (next_record cfg s [] [] xs)) ≤ length xs
    by None e more = rw e (omega arith)
    by (Some p) e more =
        let d = next-shorter cfg s xs p b e in
        let m = more p.1 p.2 d.between in
        rw e (omega (arith, d.less))

length-strip_bom : (xs : List ℕ) → length (strip_bom xs) ≤ length xs
unfolding strip_bom
length-strip_bom [] = omega arith
length-strip_bom (a ∷ []) = omega arith
length-strip_bom (a ∷ b ∷ []) = omega arith
length-strip_bom (a ∷ b ∷ c ∷ rest) = by (is_bom a b c)
  where
    by : (t : Bool) → length (if t then rest else a ∷ b ∷ c ∷ rest) ≤ length (a ∷ b ∷ c ∷ rest)
    by true = omega arith
    by false = omega arith

pub length-table_rows : (bytes : List ℕ) → length (table_rows bytes) ≤ length bytes
length-table_rows bytes =
    let a = length-records semicolons (length (strip_bom bytes) + 1) st.StartRecord (strip_bom bytes) refl in
    omega (arith, length-strip_bom bytes)
