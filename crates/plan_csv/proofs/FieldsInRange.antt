-- A row that is read from fields is in range.
use Rattle.std.proofs.Common.{◌≡◌, ◌≤◌, ◌+◌, ◌-◌, ◌*◌, ◌^◌, ◌==◌, ◌&&◌, ℕ, zero, suc, List, [], ◌∷◌, length, take, drop, Bool, true, false, if◌then◌else◌, refl, ap, subst, arith}
use Rattle.std.proofs.Math.Nat.{pow-le-pow_right}
use Rattle.std.proofs.lemmas.Bool.{and_parts, leb-true}
use Rattle.std.proofs.lemmas.Option.{cond_some}
use Rattle.std.specs.Char.{is_ascii_digit}
use Rattle.std.specs.List.{list_all}
use Rattle.std.specs.Prelude.{Option, Some, None, Result, Ok, Err, ℤ, pos, negsuc, nat_le, nat_lt, position, ok_or, option_and_then, option_map}
use Rattle.std.specs.Result.{result_ok}
use Rattle.std.specs.Str.Parse.{digits_value}
use Rattle.csv.specs.Records.{field_at}
use Rattle.glass_base.specs.declared.bad_text.BadText.TheVariants as text
use Rattle.cut_model.specs.declared.family.Row.{Row}
use Rattle.csv_table.specs.declared.number.Decimal.{Decimal}
use Rattle.csv_table.specs.Numbers.{around_point, decimal, digits, is_point, number_at, trimmed}
use Rattle.csv_table.specs.Readings.{◌>>=◌, whole_number}
use Rattle.csv_table.proofs.DigitFacts.{value_below}
use Rattle.plan_csv.specs.declared.bad_plan.BadPlan.{BadPlan}
use Rattle.plan_csv.specs.declared.bad_plan.BadPlan.TheVariants as bad
use Rattle.plan_csv.specs.PlanRows.{number_in, parent_in, row_in, signed_type, type_in, type_text, whole_text}
use Rattle.plan_csv.proofs.WrittenNumbers.{IsParent, IsRowInRange, IsType}
use Rattle.glass_base.specs.declared.limits.TheConstants.{MOST_NUMBER, MOST_SIDE}

-- what was read before
pub read_behind : {A B : Type 0} (x : Result A BadPlan) (f : A → Result B BadPlan) (z : B) → (x >>= f) ≡ Ok z → (y : A) × (x ≡ Ok y) × (f y ≡ Ok z)
read_behind (Ok y) f z h = (y, refl, h)
read_behind (Err e) f z h = cc h

-- a number of a column, from what its field says
whole_at_most : (row column most n : ℕ) (said : Option Decimal) → ok_or (result_ok (whole_number row column most said)) (bad.Number row column) ≡ Ok n → n ≤ most
whole_at_most row column most n None h = cc h
whole_at_most row column most n (Some d) h = by (d.millionths == 0) (nat_le d.whole most) refl h
  where
    by : (exact small : Bool) → nat_le d.whole most ≡ small
        → ok_or (result_ok (if exact then (if small then Ok d.whole else Err (text.Range row column)) else Err (text.Number row column))) (bad.Number row column) ≡ Ok n → n ≤ most
    by true true le k = let same : d.whole ≡ n = cc k in omega (arith, leb-true d.whole most le)
    by true false le k = cc k
    by false small le k = cc k

-- a number that is read in a column is in its range
number_at_most : (row column most n : ℕ) (field : Option (List ℕ)) → number_in row column most field ≡ Ok n → n ≤ most
number_at_most row column most n None h = cc h
number_at_most row column most n (Some field) h = whole_at_most row column most n (decimal field) h

-- one to nine digits
digits_most : (text : List ℕ) (n : ℕ) → digits 9 text ≡ Some n → n ≤ MOST_NUMBER
digits_most text n h =
    let k = cond_some (nat_lt 0 (length text) && nat_le (length text) 9 && list_all is_ascii_digit text) (digits_value 10 text) n h in
    let a = and_parts (nat_lt 0 (length text) && nat_le (length text) 9) (list_all is_ascii_digit text) k.0 in
    let b = and_parts (nat_lt 0 (length text)) (nat_le (length text) 9) a.0 in
    let short : length text ≤ 9 = leb-true (length text) 9 b.1 in
    let power : 10 ^ length text ≤ 10 ^ 9 = pow-le-pow_right (omega arith) short in
    omega (arith, value_below text a.1, power, k.1)

-- the number without decimals that is 0 behind its point
abbrev without_decimals : Decimal → Option ℕ
without_decimals n = if n.millionths == 0 then Some n.whole else None

-- a whole number of one to nine digits, with decimals that are 0 or without
whole_most : (text : List ℕ) (point : Option ℕ) (n : ℕ) → option_and_then without_decimals (number_at text point) ≡ Some n → n ≤ MOST_NUMBER
whole_most text None n h = by (digits 9 text) (digits_most text) h
  where
    by : (said : Option ℕ) → ((m : ℕ) → said ≡ Some m → m ≤ MOST_NUMBER) → option_and_then without_decimals (option_map (λ m. record { whole = m; millionths = 0 }) said) ≡ Some n → n ≤ MOST_NUMBER
    by None small k = cc k
    by (Some m) small k = let same : m ≡ n = cc k in omega (arith, small m refl)
whole_most text (Some point) n h =
    by (digits 9 (take point text)) (digits 6 (drop (point + 1) text)) (digits_most (take point text)) h
  where
    by : (said behind : Option ℕ) → ((m : ℕ) → said ≡ Some m → m ≤ MOST_NUMBER)
        → option_and_then without_decimals (around_point (length (drop (point + 1) text)) said behind) ≡ Some n → n ≤ MOST_NUMBER
    by None behind small k = cc k
    by (Some m) None small k = cc k
    by (Some m) (Some f) small k =
        let same = cond_some (f * 10 ^ (6 - length (drop (point + 1) text)) == 0) m n k in
        omega (arith, small m refl, same.1)

-- a type without a minus sign
item_type_is : (said : Option ℕ) (kind : ℤ) → ((m : ℕ) → said ≡ Some m → m ≤ MOST_NUMBER) → option_map (λ n. pos n) said ≡ Some kind → IsType kind
item_type_is None kind small h = cc h
item_type_is (Some m) kind small h = let same : pos m ≡ kind = cc h in subst IsType same (small m refl)

-- a type behind a minus sign
signed_type_is : (said : Option ℕ) (kind : ℤ) → signed_type said ≡ Some kind → IsType kind
signed_type_is None kind h = cc h
signed_type_is (Some zero) kind h = let same : pos 0 ≡ kind = cc h in subst IsType same (omega arith)
signed_type_is (Some (suc m)) kind h =
    let k = cond_some (nat_le m 2) (negsuc m) kind h in
    subst IsType k.1 (leb-true m 2 k.0)

-- a type that a text says
type_text_is : (text : List ℕ) (kind : ℤ) → type_text text ≡ Some kind → IsType kind
type_text_is [] kind h = cc h
type_text_is (byte ∷ text) kind h = by (byte == 45) h
  where
    by : (b : Bool) → (if b then signed_type (whole_text text) else option_map (λ n. pos n) (whole_text (byte ∷ text))) ≡ Some kind → IsType kind
    by true k = signed_type_is (whole_text text) kind k
    by false k = item_type_is (whole_text (byte ∷ text)) kind (whole_most (byte ∷ text) (position is_point (byte ∷ text))) k

-- a type that is read is one that rows have
type_is : (row : ℕ) (kind : ℤ) (field : Option (List ℕ)) → type_in row field ≡ Ok kind → IsType kind
type_is row kind None h = cc h
type_is row kind (Some field) h = by (type_text (trimmed field)) (type_text_is (trimmed field) kind) h
  where
    by : (said : Option ℤ) → (said ≡ Some kind → IsType kind) → ok_or said (bad.Number row 7) ≡ Ok kind → IsType kind
    by None small k = cc k
    by (Some z) small k = let same : z ≡ kind = cc k in small (ap Some same)

-- a parent that is read is in range
parent_is : (row : ℕ) (parent : Option ℕ) (field : Option (List ℕ)) → parent_in row field ≡ Ok parent → IsParent parent
parent_is row parent None h = cc h
parent_is row parent (Some []) h = let same : None ≡ parent = cc h in subst IsParent same tt
parent_is row parent (Some (byte ∷ text)) h =
    let read = read_behind (number_in row 9 MOST_NUMBER (Some (byte ∷ text))) (λ n. Ok (Some n)) parent h in
    let same : Some read.0 ≡ parent = cc read.2 in
    subst IsParent same (number_at_most row 9 MOST_NUMBER read.0 (Some (byte ∷ text)) read.1)

-- what is read where a test passes, and was read
passed : (test : Bool) (said : Result Row BadPlan) (refusal : BadPlan) (r : Row) → (if test then said else Err refusal) ≡ Ok r → said ≡ Ok r
passed true said refusal r h = h
passed false said refusal r h = cc h

-- a row that was read
same_row : (read r : Row) → ◌≡◌ {A = Result Row BadPlan} (Ok read) (Ok r) → read ≡ r
same_row read r h = cc h

-- a row that is read is in range
pub row_in_range : (row : ℕ) (fields : List (List ℕ)) (r : Row) → row_in row fields ≡ Ok r → IsRowInRange r
unfolding row_in
row_in_range row fields r h =
    let nine = passed (length fields == 9) _ (bad.Record row (length fields)) r h in
    let plate = read_behind (number_in row 1 MOST_NUMBER (field_at fields 0)) _ r nine in
    let node = read_behind (number_in row 2 MOST_NUMBER (field_at fields 1)) _ r plate.2 in
    let x = read_behind (number_in row 3 MOST_SIDE (field_at fields 2)) _ r node.2 in
    let y = read_behind (number_in row 4 MOST_SIDE (field_at fields 3)) _ r x.2 in
    let width = read_behind (number_in row 5 MOST_SIDE (field_at fields 4)) _ r y.2 in
    let height = read_behind (number_in row 6 MOST_SIDE (field_at fields 5)) _ r width.2 in
    let kind = read_behind (type_in row (field_at fields 6)) _ r height.2 in
    let cut = read_behind (number_in row 8 4 (field_at fields 7)) _ r kind.2 in
    let parent = read_behind (parent_in row (field_at fields 8)) _ r cut.2 in
    let read : Row = record {
      plate = plate.0;
      node = node.0;
      x = x.0;
      y = y.0;
      width = width.0;
      height = height.0;
      kind = kind.0;
      cut = cut.0;
      parent = parent.0;
    } in
    subst IsRowInRange (same_row read r parent.2) (record {
      plate = number_at_most row 1 MOST_NUMBER plate.0 (field_at fields 0) plate.1;
      node = number_at_most row 2 MOST_NUMBER node.0 (field_at fields 1) node.1;
      x = number_at_most row 3 MOST_SIDE x.0 (field_at fields 2) x.1;
      y = number_at_most row 4 MOST_SIDE y.0 (field_at fields 3) y.1;
      width = number_at_most row 5 MOST_SIDE width.0 (field_at fields 4) width.1;
      height = number_at_most row 6 MOST_SIDE height.0 (field_at fields 5) height.1;
      kind = type_is row kind.0 (field_at fields 6) kind.1;
      cut = number_at_most row 8 4 cut.0 (field_at fields 7) cut.1;
      parent = parent_is row parent.0 (field_at fields 8) parent.1;
    })
