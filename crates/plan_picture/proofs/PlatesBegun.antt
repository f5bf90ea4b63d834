-- Which plates begin with one more row.
use Rattle.std.proofs.Common.{◌≡◌, ℕ, Bool, true, false, cond, List, [], ◌∷◌, ◌++◌, Option, Some, None, refl, ◌∙◌, ap}
use Rattle.std.proofs.lemmas.Bool.{eqb-true}
use Rattle.cut_model.specs.declared.family.Row.{Row}
use Rattle.plan_picture.specs.Pictures.{is_plate, plates_from, plates_in}
use Rattle.plan_picture.specs.inner.Sketches.{last_plate}

-- the plate that begins with a row of this plate behind one of that plate, if one does
abbrev pub begun_with : Option ℕ → ℕ → List ℕ
begun_with plate number = cond (is_plate plate number) [] (number ∷ [])

pub same_plate : (plate : Option ℕ) (number : ℕ) → is_plate plate number ≡ true → plate ≡ Some number
same_plate None number e = cc
same_plate (Some plate) number e = ap Some (eqb-true plate number e)

pub last_plate-push : (plate : Option ℕ) (rows : List Row) (row : Row) → last_plate plate (rows ++ row ∷ []) ≡ Some row.plate
last_plate-push plate [] row = refl
last_plate-push plate (x ∷ rows) row = last_plate-push (Some x.plate) rows row

push_at : (same : Bool) (plate : Option ℕ) (x : Row) (rows : List Row) (row : Row) → is_plate plate x.plate ≡ same →
    ((p : Option ℕ) → plates_from p (rows ++ row ∷ []) ≡ plates_from p rows ++ begun_with (last_plate p rows) row.plate) →
    cond same (plates_from plate (rows ++ row ∷ [])) (x.plate ∷ plates_from (Some x.plate) (rows ++ row ∷ []))
    ≡ cond same (plates_from plate rows) (x.plate ∷ plates_from (Some x.plate) rows) ++ begun_with (last_plate (Some x.plate) rows) row.plate
push_at true plate x rows row e later =
    later plate ∙ ap (λ (p : Option ℕ). plates_from plate rows ++ begun_with (last_plate p rows) row.plate) (same_plate plate x.plate e)
push_at false plate x rows row e later = ap (λ (ps : List ℕ). x.plate ∷ ps) (later (Some x.plate))

plates_from-push : (plate : Option ℕ) (rows : List Row) (row : Row) → plates_from plate (rows ++ row ∷ []) ≡ plates_from plate rows ++ begun_with (last_plate plate rows) row.plate
plates_from-push plate [] row = refl
plates_from-push plate (x ∷ rows) row = push_at (is_plate plate x.plate) plate x rows row refl (λ p. plates_from-push p rows row)

pub plates_in-push : (rows : List Row) (row : Row) → plates_in (rows ++ row ∷ []) ≡ plates_in rows ++ begun_with (last_plate None rows) row.plate
plates_in-push rows row = plates_from-push None rows row
