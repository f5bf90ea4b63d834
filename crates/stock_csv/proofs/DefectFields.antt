-- What a row of six fields says: it is read from the left, and the first field that is refused decides.
use Rattle.std.proofs.Common.{◌≡◌, ℕ, List, length, Ok, Err, refl}
use Rattle.csv.specs.Records.{field_at}
use Rattle.glass_base.specs.declared.bad_text.BadText.{BadText}
use Rattle.csv_table.specs.Numbers.{millionths_in}
use Rattle.csv_table.specs.Readings.{measure_in, whole_in}
use Rattle.csv_table.specs.declared.number.Decimal.{Decimal}
use Rattle.stock_csv.specs.DefectRows.{defect_at, widened}
use Rattle.glass_base.specs.declared.limits.TheConstants.{MOST_NUMBER, MOST_SIDE}

pub width_refused : (row : ℕ) (fields : List (List ℕ)) (i p : ℕ) (x y : Decimal) (e : BadText) → length fields ≡ 6 →
    whole_in row 1 MOST_NUMBER (field_at fields 0) ≡ Ok i → whole_in row 2 MOST_NUMBER (field_at fields 1) ≡ Ok p →
    measure_in row 3 MOST_SIDE (field_at fields 2) ≡ Ok x → measure_in row 4 MOST_SIDE (field_at fields 3) ≡ Ok y →
    measure_in row 5 MOST_SIDE (field_at fields 4) ≡ Err e →
    Err e ≡ defect_at row fields
unfolding defect_at
width_refused row fields i p x y e six number plate left low wide = rw (six, number, plate, left, low, wide) refl

pub height_refused : (row : ℕ) (fields : List (List ℕ)) (i p : ℕ) (x y w : Decimal) (e : BadText) → length fields ≡ 6 →
    whole_in row 1 MOST_NUMBER (field_at fields 0) ≡ Ok i → whole_in row 2 MOST_NUMBER (field_at fields 1) ≡ Ok p →
    measure_in row 3 MOST_SIDE (field_at fields 2) ≡ Ok x → measure_in row 4 MOST_SIDE (field_at fields 3) ≡ Ok y →
    measure_in row 5 MOST_SIDE (field_at fields 4) ≡ Ok w → measure_in row 6 MOST_SIDE (field_at fields 5) ≡ Err e →
    Err e ≡ defect_at row fields
unfolding defect_at
height_refused row fields i p x y w e six number plate left low wide high = rw (six, number, plate, left, low, wide, high) refl

pub defect_read : (row : ℕ) (fields : List (List ℕ)) (i p : ℕ) (x y w h : Decimal) → length fields ≡ 6 →
    whole_in row 1 MOST_NUMBER (field_at fields 0) ≡ Ok i → whole_in row 2 MOST_NUMBER (field_at fields 1) ≡ Ok p →
    measure_in row 3 MOST_SIDE (field_at fields 2) ≡ Ok x → measure_in row 4 MOST_SIDE (field_at fields 3) ≡ Ok y →
    measure_in row 5 MOST_SIDE (field_at fields 4) ≡ Ok w → measure_in row 6 MOST_SIDE (field_at fields 5) ≡ Ok h →
    widened row p (millionths_in x) (millionths_in y) (millionths_in w) (millionths_in h) ≡ defect_at row fields
unfolding defect_at
defect_read row fields i p x y w h six number plate left low wide high = rw (six, number, plate, left, low, wide, high) refl
