-- A line or an item that a defect stands in the way of: so it does up to the defect's far side.
use Rattle.std.proofs.Common.{◌≡◌, ℕ, ◌+◌, ◌<◌, ◌≤◌, Bool, true, List, length, slice_index_or, Some, None, All, IsTrue, cond, nat_lt, sym, ◌∙◌, arith}
use Rattle.std.specs.Prelude.{position}
use Rattle.std.specs.List.{position_or_len}
use Rattle.std.proofs.lemmas.Bool.{false≢true}
use Rattle.std.proofs.lemmas.Bool.Decides.{nat_tests}
use Rattle.std.proofs.lemmas.List.Quantifiers.{position-Some}
use Rattle.std.proofs.lemmas.List.Sums.{fails_before_first}
use Rattle.glass_base.specs.declared.item.Defect.{Defect}
use Rattle.glass_base.specs.Defects.{crosses_x, crosses_y, hits}
use Rattle.glass_base.specs.Items.{IsDefectInRange}
use Rattle.defect_map.specs.Queries.{CrossesNoneX, CrossesNoneY, HitsNone}
use Rattle.plan_draft.specs.inner.Least.{IsSkip}
use Rattle.glass_base.specs.declared.limits.TheConstants.{MOST_REACH}

more_x : (plate x m y0 y1 : ℕ) (d : Defect) → crosses_x plate x y0 y1 d ≡ true → x ≤ m → m < d.x1 → crosses_x plate m y0 y1 d ≡ true
more_x plate x m y0 y1 d hit le lt = grind (arith, nat_tests)

more_y : (plate y m x0 x1 : ℕ) (d : Defect) → crosses_y plate y x0 x1 d ≡ true → y ≤ m → m < d.y1 → crosses_y plate m x0 x1 d ≡ true
more_y plate y m x0 x1 d hit le lt = grind (arith, nat_tests)

more_up : (plate x0 y x1 h m : ℕ) (d : Defect) → hits plate x0 y x1 (y + h) d ≡ true → y ≤ m → m < d.y1 → hits plate x0 m x1 (m + h) d ≡ true
more_up plate x0 y x1 h m d hit le lt = grind (arith, nat_tests)

far_x : (plate x y0 y1 : ℕ) (d : Defect) → crosses_x plate x y0 y1 d ≡ true → x < d.x1
far_x plate x y0 y1 d hit = grind (arith, nat_tests)

far_y : (plate y x0 x1 : ℕ) (d : Defect) → crosses_y plate y x0 x1 d ≡ true → y < d.y1
far_y plate y x0 x1 d hit = grind (arith, nat_tests)

far_up : (plate x0 y x1 top : ℕ) (d : Defect) → hits plate x0 y x1 top d ≡ true → y < d.y1
far_up plate x0 y x1 top d hit = grind (arith, nat_tests)

not_below : (m n i : ℕ) → cond (nat_lt m n) (Some i) None ≡ None → n ≤ m
not_below m n i e = grind (arith, nat_tests)

-- where no place is found the test fails everywhere
pub none_found : {A : Type 0} (p : A → Bool) (xs : List A) → position p xs ≡ None → All (λ x. ¬ IsTrue (p x)) xs
none_found p xs e k d lt hit =
    false≢true (sym (fails_before_first p xs k d (omega (arith, lt, not_below (position_or_len p xs) (length xs) (position_or_len p xs) e))) ∙ hit)

-- a defect that is found stands in the way up to its far side
skipped : (p : ℕ → Defect → Bool) (far : Defect → ℕ) (defects : List Defect) (from i : ℕ) (d : Defect) → position (p from) defects ≡ Some i →
    ((x : Defect) → p from x ≡ true → from < far x) → ((x : Defect) (m : ℕ) → p from x ≡ true → from ≤ m → m < far x → p m x ≡ true) → All (λ x. far x ≤ MOST_REACH) defects →
    IsSkip (λ m. All (λ x. ¬ IsTrue (p m x)) defects) from (far (slice_index_or defects i d))
skipped p far defects from i d found further more near =
    let at = position-Some (p from) defects i d found in
    let x : Defect = slice_index_or defects i d in
    record { further = further x at.1; near = near i d at.0; none_before = λ m le lt none. none i d at.0 (more x m at.1 le lt) }

pub skip_x : (defects seen : List Defect) (plate x height i : ℕ) (d : Defect) → seen ≡ defects → All IsDefectInRange defects → position (crosses_x plate x 0 height) seen ≡ Some i →
    IsSkip (λ m. CrossesNoneX defects plate m 0 height) x (slice_index_or defects i d).x1
skip_x defects seen plate x height i d same ranges found =
    skipped (λ m. crosses_x plate m 0 height) (λ t. t.x1) defects x i d (rw same at found)
    (λ t hit. far_x plate x 0 height t hit) (λ t m hit le lt. more_x plate x m 0 height t hit le lt) (λ k e lt. (ranges k e lt).1)

pub skip_y : (defects seen : List Defect) (plate y x0 x1 i : ℕ) (d : Defect) → seen ≡ defects → All IsDefectInRange defects → position (crosses_y plate y x0 x1) seen ≡ Some i →
    IsSkip (λ m. CrossesNoneY defects plate m x0 x1) y (slice_index_or defects i d).y1
skip_y defects seen plate y x0 x1 i d same ranges found =
    skipped (λ m. crosses_y plate m x0 x1) (λ t. t.y1) defects y i d (rw same at found)
    (λ t hit. far_y plate y x0 x1 t hit) (λ t m hit le lt. more_y plate y m x0 x1 t hit le lt) (λ k e lt. (ranges k e lt).3)

pub skip_up : (defects seen : List Defect) (plate x y right h i : ℕ) (d : Defect) → seen ≡ defects → All IsDefectInRange defects → position (hits plate x y right (y + h)) seen ≡ Some i →
    IsSkip (λ m. HitsNone defects plate x m right (m + h)) y (slice_index_or defects i d).y1
skip_up defects seen plate x y right h i d same ranges found =
    skipped (λ m. hits plate x m right (m + h)) (λ t. t.y1) defects y i d (rw same at found)
    (λ t hit. far_up plate x y right (y + h) t hit) (λ t m hit le lt. more_up plate x y right h m t hit le lt) (λ k e lt. (ranges k e lt).3)

-- none found among the same defects
pub none_x : (defects seen : List Defect) (plate x y0 y1 : ℕ) → seen ≡ defects → position (crosses_x plate x y0 y1) seen ≡ None → CrossesNoneX defects plate x y0 y1
none_x defects seen plate x y0 y1 same found = none_found (crosses_x plate x y0 y1) defects (rw same at found)

pub none_y : (defects seen : List Defect) (plate y x0 x1 : ℕ) → seen ≡ defects → position (crosses_y plate y x0 x1) seen ≡ None → CrossesNoneY defects plate y x0 x1
none_y defects seen plate y x0 x1 same found = none_found (crosses_y plate y x0 x1) defects (rw same at found)

pub none_up : (defects seen : List Defect) (plate x0 y0 x1 y1 : ℕ) → seen ≡ defects → position (hits plate x0 y0 x1 y1) seen ≡ None → HitsNone defects plate x0 y0 x1 y1
none_up defects seen plate x0 y0 x1 y1 same found = none_found (hits plate x0 y0 x1 y1) defects (rw same at found)
