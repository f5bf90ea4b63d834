-- Sizes that rows set, one after another.
use Rattle.std.proofs.Common.{◌≡◌, ◌+◌, ℕ, List, ◌∷◌, refl, fold, Option}
use Rattle.std.specs.Prelude.{Result, Ok, Err}
use Rattle.csv_table.specs.Readings.{◌>>=◌, each_row}
use Rattle.glass_base.specs.declared.bad_text.BadText.{BadText}
use Rattle.glass_base.specs.declared.bad_text.BadText.TheVariants as bad
use Rattle.stock_csv.specs.declared.parameters.ParameterRow.{ParameterRow}
use Rattle.glass_base.specs.Sizes.{usual_sizes}
use Rattle.glass_base.specs.declared.sizes.Sizes.{Sizes}
use Rattle.stock_csv.specs.Settings.{GivesSizes, RefusesSettings, set_by, setting_at}

-- what was set so far, and then what the rows that are left set
abbrev pub set_all : {S X : Type 0} → (S → X → S) → S → Result (List X) BadText → Result S BadText
set_all set s said = said >>= λ xs. Ok (fold set s xs)

pub set_more : {S X : Type 0} (set : S → X → S) (say : ℕ → List (List ℕ) → Result X BadText) (s : S) (row : ℕ) (fields : List (List ℕ)) (rest : List (List (List ℕ))) (x : X)
    → say row fields ≡ Ok x → set_all set (set s x) (each_row say (row + 1) rest) ≡ set_all set s (each_row say row (fields ∷ rest))
set_more {S} {X} set say s row fields rest x e = rw e (by (each_row say (row + 1) rest))
  where
    by : (said : Result (List X) BadText) → set_all set (set s x) said ≡ set_all set s (said >>= λ xs. Ok (x ∷ xs))
    by (Ok xs) = refl
    by (Err e) = refl

pub set_refused : {S X : Type 0} (set : S → X → S) (say : ℕ → List (List ℕ) → Result X BadText) (s : S) (row : ℕ) (fields : List (List ℕ)) (rest : List (List (List ℕ))) (e : BadText)
    → say row fields ≡ Err e → set_all set s (each_row say row (fields ∷ rest)) ≡ Err e
set_refused set say s row fields rest e h = rw h refl

-- the sizes that rows set
abbrev pub set_by_all : Sizes → Result (List (Option ParameterRow)) BadText → Result Sizes BadText
set_by_all = set_all set_by

pub set_by_more : (s : Sizes) (row : ℕ) (fields : List (List ℕ)) (rest : List (List (List ℕ))) (x : Option ParameterRow)
    → setting_at row fields ≡ Ok x → set_by_all (set_by s x) (each_row setting_at (row + 1) rest) ≡ set_by_all s (each_row setting_at row (fields ∷ rest))
set_by_more = set_more set_by setting_at

pub set_by_refused : (s : Sizes) (row : ℕ) (fields : List (List ℕ)) (rest : List (List (List ℕ))) (e : BadText)
    → setting_at row fields ≡ Err e → set_by_all s (each_row setting_at row (fields ∷ rest)) ≡ Err e
set_by_refused = set_refused set_by setting_at

pub reads_sizes : (s : Sizes) (said : Result (List (Option ParameterRow)) BadText) → Ok s ≡ set_by_all usual_sizes said → GivesSizes (Ok s) said
reads_sizes s (Ok settings) e = cc e
reads_sizes s (Err bad) e = cc e

pub reads_refusal : (bad : BadText) (said : Result (List (Option ParameterRow)) BadText) → Err bad ≡ set_by_all usual_sizes said → said ≡ Err bad
reads_refusal bad (Ok settings) e = cc e
reads_refusal bad (Err other) e = cc e

-- a text that was refused
pub refuses_text : (e : BadText) (said : Result (List (Option ParameterRow)) BadText) → GivesSizes (Err e) said → RefusesSettings e said
refuses_text e (Err other) h = h
refuses_text bad.Memory (Ok settings) h = tt
refuses_text (bad.Record row fields) (Ok settings) h = cc h
refuses_text (bad.Number row column) (Ok settings) h = cc h
refuses_text (bad.Range row column) (Ok settings) h = cc h
refuses_text (bad.EmptyDefect row) (Ok settings) h = cc h
refuses_text (bad.ZeroWidth row) (Ok settings) h = cc h
refuses_text (bad.Params reason) (Ok settings) h = cc h
