-- What stands in columns, and that a look into them finds what the list has.
use Rattle.std.proofs.Common.{◌≡◌, ◌≢◌, ℕ, zero, suc, ◌+◌, ◌-◌, ◌<◌, ◌≤◌, Bool, true, false, List, [], ◌∷◌, ◌++◌, length, get_or, set, take, drop, max, refl, sym, ap, ◌∙◌, arith, inl, inr, Some, None, Option, Contains, All}
use Rattle.std.specs.Prelude.{position, slice_get}
use Rattle.std.specs.List.{list_any}
use Rattle.std.proofs.lemmas.Bool.{cases_Bool, cases_eq, false≢true}
use Rattle.std.proofs.lemmas.Bool.Decides.{nat_tests}
use Rattle.std.proofs.lemmas.Grind.{common_steps}
use Rattle.std.proofs.lemmas.List.Elements.{Contains-append_left}
use Rattle.std.proofs.lemmas.List.Folds.{Any-from_list_any, list_any_at}
use Rattle.std.proofs.lemmas.List.Quantifiers.{position-Some}
use Rattle.std.proofs.lemmas.Map.Keys.{any_passes_from_place}
use Rattle.std.proofs.lemmas.Option.{slice_get_within, get_or_from_slice_get, gets}
use Rattle.glass_base.specs.declared.item.Defect.{Defect}
use Rattle.glass_base.specs.Items.{IsDefectInRange}
use Rattle.smallvec.specs.SmallVec.{SmallVec}
use Rattle.defect_map.specs.declared.frame.Region.{Region}
use Rattle.defect_map.specs.inner.Columns.{column_at, KeepsAll, StandsAcross, AllStand}
use Rattle.defect_map.specs.inner.Frames.{is_met, is_met_at, is_some_met}

-- an element keeps its place where others come behind
get-append : {X : Type 0} (xs ys : List X) (k : ℕ) (x : X) → slice_get xs k ≡ Some x → slice_get (xs ++ ys) k ≡ Some x
get-append [] ys k x h = cc
get-append (y ∷ xs) ys zero x h = h
get-append (y ∷ xs) ys (suc k) x h = get-append xs ys k x h

get-set : {X : Type 0} (xs : List X) (k : ℕ) (x y : X) → slice_get xs k ≡ Some y → slice_get (set xs k x) k ≡ Some x
get-set [] k x y h = cc
get-set (z ∷ xs) zero x y h = refl
get-set (z ∷ xs) (suc k) x y h = get-set xs k x y h

get-set_other : {X : Type 0} (xs : List X) (i k : ℕ) (x : X) → k ≢ i → slice_get (set xs i x) k ≡ slice_get xs k
get-set_other [] i k x h = refl
get-set_other (y ∷ xs) zero zero x h = absurd (h refl)
get-set_other (y ∷ xs) zero (suc k) x h = refl
get-set_other (y ∷ xs) (suc i) zero x h = refl
get-set_other (y ∷ xs) (suc i) (suc k) x h = get-set_other xs i k x (λ same. h (ap suc same))

-- what stood in a column stands there when columns come behind
pub keeps_append : (start columns more : List (SmallVec ℕ)) → KeepsAll start columns → KeepsAll start (columns ++ more)
keeps_append start columns more keeps number position h =
    let s = keeps number position h in
    (s.0, get-append columns more number s.0 s.1, s.2)

-- and when a position comes behind those of a column, which is empty in between
pub keeps_put : (start columns : List (SmallVec ℕ)) (at added : ℕ) (empty old new : SmallVec ℕ) → KeepsAll start columns → slice_get columns at ≡ Some old → new.items ≡ old.items ++ added ∷ [] → KeepsAll start (set (set columns at empty) at new)
keeps_put start columns at added empty old new keeps was is number position h =
    let s = keeps number position h in
    elim (cases_eq number at) [
      | inl same ↦
          let held : s.0 ≡ old = let e : slice_get columns at ≡ Some s.0 = rw (← same) s.1 in cc in
          (new, rw same (get-set (set columns at empty) at new empty (get-set columns at empty old was)), let has : Contains old.items position = rw (← held) s.2 in rw is (Contains-append_left old.items (added ∷ []) position has))
      | inr other ↦ (s.0, get-set_other (set columns at empty) at number new other ∙ get-set_other columns at number empty other ∙ s.1, s.2)
    ]

-- with one more defect that stands in its columns, all do
pub all_more : (ds : List Defect) (old new : List (SmallVec ℕ)) (n : ℕ) → AllStand ds old n → KeepsAll old new → ((d : Defect) → slice_get ds n ≡ Some d → StandsAcross new d n) → AllStand ds new (n + 1)
all_more ds old new n all keeps more position d below at = elim (cases_eq position n) [
  | inl same ↦ let e : slice_get ds n ≡ Some d = rw (← same) at in rw same (more d e)
  | inr other ↦ λ number low high. keeps number position (all position d (omega (arith, other)) at number low high)
]

-- an element of a list is in the part that begins no later and ends behind it
pub part_contains : {X : Type 0} (xs : List X) (start end k : ℕ) (x : X) → start ≤ k → k < end → slice_get xs k ≡ Some x → Contains (take (end - start) (drop start xs)) x
part_contains xs start end k x begun before at =
    let within : k < length xs = slice_get_within xs k x at in
    let is : get_or xs k x ≡ x = get_or_from_slice_get xs k x x at in
    (k - start, grind (arith, common_steps), grind (arith, common_steps))

-- each defect that is met stands in one of the columns
abbrev pub Reaches : Region → List Defect → List (SmallVec ℕ) → Type 0
Reaches f ds columns =
    (position : ℕ) (d : Defect) → slice_get ds position ≡ Some d → is_met f d ≡ true → (column : SmallVec ℕ) × Contains columns column × Contains column.items position

any_contained : {X : Type 0} (p : X → Bool) (xs : List X) (x : X) → Contains xs x → p x ≡ true → list_any p xs ≡ true
any_contained p xs x has passes = list_any_at p xs has.0 x has.1 (rw has.2 passes)

-- what is met at a position is a defect of the list
met_from_at : (f : Region) (ds : List Defect) (position : ℕ) → is_met_at f ds position ≡ true → list_any (is_met f) ds ≡ true
met_from_at f ds position h = by (slice_get ds position) refl
  where
    by : (o : Option Defect) → slice_get ds position ≡ o → list_any (is_met f) ds ≡ true
    by None e = absurd (false≢true (rw e at h))
    by (Some d) e = any_passes_from_place (is_met f) ds position d e (rw e at h)

met_from_some : (f : Region) (ds : List Defect) (columns : List (SmallVec ℕ)) → is_some_met f ds columns ≡ true → list_any (is_met f) ds ≡ true
met_from_some f ds columns h =
    let column = Any-from_list_any (λ (column : SmallVec ℕ). list_any (is_met_at f ds) column.items) columns h in
    let at = Any-from_list_any (is_met_at f ds) column.1.items column.4 in
    met_from_at f ds at.1 at.4

some_from_met : (f : Region) (ds : List Defect) (columns : List (SmallVec ℕ)) → Reaches f ds columns → list_any (is_met f) ds ≡ true → is_some_met f ds columns ≡ true
some_from_met f ds columns reaches h =
    let found = Any-from_list_any (is_met f) ds h in
    let at : slice_get ds found.0 ≡ Some found.1 = grind (arith, common_steps, gets) in
    let s = reaches found.0 found.1 at found.4 in
    any_contained (λ (column : SmallVec ℕ). list_any (is_met_at f ds) column.items) columns s.0 s.1
    (any_contained (is_met_at f ds) s.0.items found.0 s.2 (rw at found.4))

-- what is asked of the defects in columns is what is asked of all, where each that is met stands in one
pub some_met : (f : Region) (ds : List Defect) (columns : List (SmallVec ℕ)) → Reaches f ds columns → is_some_met f ds columns ≡ list_any (is_met f) ds
some_met f ds columns reaches = elim (cases_Bool (list_any (is_met f) ds)) [
  | inl is ↦ some_from_met f ds columns reaches is ∙ sym is
  | inr isnt ↦ elim (cases_Bool (is_some_met f ds columns)) [
    | inl some ↦ absurd (false≢true (sym isnt ∙ met_from_some f ds columns some))
    | inr none ↦ none ∙ sym isnt
  ]
]

-- what it takes to be met
met_parts : (f : Region) (d : Defect) → is_met f d ≡ true → (d.plate ≡ f.plate) × (d.x0 < f.x.1) × (f.x.0 < d.x1)
met_parts f d h = (grind (arith, nat_tests), grind (arith, nat_tests), grind (arith, nat_tests))

column_later : (plate x y : ℕ) → x ≤ y → column_at plate x ≤ column_at plate y
column_later plate x y h = omega arith

-- a defect that is met has a column in common with the frame: that of the later of the two beginnings
pub reached : (f : Region) (ds : List Defect) (columns part : List (SmallVec ℕ)) (first last : ℕ) → All IsDefectInRange ds → AllStand ds columns (length ds) → first ≡ column_at f.plate f.x.0 → last ≡ column_at f.plate (max f.x.0 (f.x.1 - 1)) → ((number : ℕ) (column : SmallVec ℕ) → first ≤ number → number ≤ last → slice_get columns number ≡ Some column → Contains part column) → Reaches f ds part
reached f ds columns part first last ranges all first_is last_is has position d at met =
    let within : position < length ds = slice_get_within ds position d at in
    let same : get_or ds position d ≡ d = get_or_from_slice_get ds position d d at in
    let range : IsDefectInRange d = rw same at (ranges position d within) in
    let parts = met_parts f d met in
    let number = column_at d.plate (max f.x.0 d.x0) in
    let s = all position d within at number (column_later d.plate _ _ (omega arith)) (column_later d.plate _ _ (omega (arith, range.0, parts.2))) in
    let low : first ≤ number = rw (first_is, parts.0) (column_later f.plate _ _ (omega arith)) in
    let high : number ≤ last = rw (last_is, parts.0) (column_later f.plate _ _ (omega (arith, parts.1))) in
    (s.0, has number s.0 low high s.1, s.2)

-- where no element passes, none is the first
pub no_first : {X : Type 0} (p : X → Bool) (xs : List X) → list_any p xs ≡ false → None ≡ position p xs
no_first p [] none = refl
no_first p (x ∷ xs) none = by (position p (x ∷ xs)) refl
  where
    by : (o : Option ℕ) → position p (x ∷ xs) ≡ o → None ≡ o
    by None e = refl
    by (Some i) e =
        let first = position-Some p (x ∷ xs) i x e in
        absurd (false≢true (sym none ∙ list_any_at p (x ∷ xs) i x first.0 first.1))
