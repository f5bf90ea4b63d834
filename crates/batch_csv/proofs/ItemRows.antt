-- What a row of five fields says: it is read from the left, and the first field that is refused decides.
use Rattle.std.proofs.Common.{◌≡◌, ℕ, List, [], ◌∷◌, drop, length, Option, Some, None, Ok, Err, MatchOption, refl}
use Rattle.csv.specs.Records.{field_at, fields_of}
use Rattle.csv.specs.declared.record.ByteRecord.{ByteRecord}
use Rattle.glass_base.specs.declared.bad_text.BadText.{BadText}
use Rattle.csv_table.specs.Readings.{whole_in}
use Rattle.batch_csv.specs.Batches.{item_at}
use Rattle.glass_base.specs.declared.limits.TheConstants.{MOST_NUMBER, MOST_SIDE}

pub id_refused : (row : ℕ) (fields : List (List ℕ)) (e : BadText) → length fields ≡ 5 →
    whole_in row 1 MOST_NUMBER (field_at fields 0) ≡ Err e → Err e ≡ item_at row fields
unfolding item_at
id_refused row fields e five id = rw (five, id) refl

pub length_refused : (row : ℕ) (fields : List (List ℕ)) (i : ℕ) (e : BadText) → length fields ≡ 5 →
    whole_in row 1 MOST_NUMBER (field_at fields 0) ≡ Ok i → whole_in row 2 MOST_SIDE (field_at fields 1) ≡ Err e →
    Err e ≡ item_at row fields
unfolding item_at
length_refused row fields i e five id long = rw (five, id, long) refl

pub width_refused : (row : ℕ) (fields : List (List ℕ)) (i l : ℕ) (e : BadText) → length fields ≡ 5 →
    whole_in row 1 MOST_NUMBER (field_at fields 0) ≡ Ok i → whole_in row 2 MOST_SIDE (field_at fields 1) ≡ Ok l →
    whole_in row 3 MOST_SIDE (field_at fields 2) ≡ Err e → Err e ≡ item_at row fields
unfolding item_at
width_refused row fields i l e five id long wide = rw (five, id, long, wide) refl

pub stack_refused : (row : ℕ) (fields : List (List ℕ)) (i l w : ℕ) (e : BadText) → length fields ≡ 5 →
    whole_in row 1 MOST_NUMBER (field_at fields 0) ≡ Ok i → whole_in row 2 MOST_SIDE (field_at fields 1) ≡ Ok l →
    whole_in row 3 MOST_SIDE (field_at fields 2) ≡ Ok w → whole_in row 4 MOST_NUMBER (field_at fields 3) ≡ Err e →
    Err e ≡ item_at row fields
unfolding item_at
stack_refused row fields i l w e five id long wide stack = rw (five, id, long, wide, stack) refl

pub sequence_refused : (row : ℕ) (fields : List (List ℕ)) (i l w s : ℕ) (e : BadText) → length fields ≡ 5 →
    whole_in row 1 MOST_NUMBER (field_at fields 0) ≡ Ok i → whole_in row 2 MOST_SIDE (field_at fields 1) ≡ Ok l →
    whole_in row 3 MOST_SIDE (field_at fields 2) ≡ Ok w → whole_in row 4 MOST_NUMBER (field_at fields 3) ≡ Ok s →
    whole_in row 5 MOST_NUMBER (field_at fields 4) ≡ Err e → Err e ≡ item_at row fields
unfolding item_at
sequence_refused row fields i l w s e five id long wide stack next = rw (five, id, long, wide, stack, next) refl

pub item_read : (row : ℕ) (fields : List (List ℕ)) (i l w s q : ℕ) → length fields ≡ 5 →
    whole_in row 1 MOST_NUMBER (field_at fields 0) ≡ Ok i → whole_in row 2 MOST_SIDE (field_at fields 1) ≡ Ok l →
    whole_in row 3 MOST_SIDE (field_at fields 2) ≡ Ok w → whole_in row 4 MOST_NUMBER (field_at fields 3) ≡ Ok s →
    whole_in row 5 MOST_NUMBER (field_at fields 4) ≡ Ok q →
    Ok (record { id = i; length = l; width = w; stack = s; sequence = q }) ≡ item_at row fields
unfolding item_at
item_read row fields i l w s q five id long wide stack next = rw (five, id, long, wide, stack, next) refl

-- what is left behind the first row of a table
pub begun : (rows now : List (List (List ℕ))) (o : Option ByteRecord) →
    MatchOption o ((rows ≡ []) × (now ≡ [])) (λ r. rows ≡ fields_of r ∷ now) → now ≡ drop 1 rows
begun rows now None ends = rw (ends.0, ends.1) refl
begun rows now (Some r) starts = rw starts refl
