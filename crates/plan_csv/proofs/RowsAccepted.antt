-- What holds of rows that were accepted one behind the other.
use Rattle.std.proofs.Common.{◌≡◌, ◌≤◌, ◌+◌, ◌==◌, ℕ, zero, suc, List, [], ◌∷◌, ◌++◌, Bool, true, false, cond, All, append-nil, get_or, if◌then◌else◌, refl, sym, ap, subst, ◌∙◌, arith}
use Rattle.std.proofs.lemmas.Bool.{eq-eqb, eqb-true, leb-true, ne_eqb, or_parts}
use Rattle.std.proofs.lemmas.Bool.Decides.{nat_tests}
use Rattle.std.proofs.lemmas.List.Elements.{All-cons, All-nil, All-push, All-same, filter-append}
use Rattle.std.proofs.lemmas.List.Folds.{list_any-append}
use Rattle.std.proofs.lemmas.Option.{none-some, same_Some}
use Rattle.std.specs.Prelude.{Option, Some, None, Ok, find, nat_le, not, ◌||◌}
use Rattle.glass_base.specs.Problem.{Problem}
use Rattle.cut_model.specs.declared.family.Along.{Along}
use Rattle.cut_model.specs.declared.family.Row.{Row}
use Rattle.cut_model.specs.Families.{side_along}
use Rattle.cut_model.specs.Loss.{names_residual}
use Rattle.cut_model.specs.Parents.{is_number, rows_in, sum_along}
use Rattle.plan_csv.specs.declared.bad_plan.BadPlan.{BadPlan}
use Rattle.plan_csv.specs.declared.bad_plan.BadPlan.TheVariants as bad
use Rattle.plan_csv.specs.PlanRows.{row_in}
use Rattle.plan_csv.specs.PlanTexts.{child_refusal, filled_by, first_refusal, lies, names_branch, or_refusal, piece_refusal, place_refusal, row_refusal, rows_behind, side_refusal, unless}
use Rattle.plan_csv.proofs.RowsGrown.{AreApart, has_number}
use Rattle.plan_csv.proofs.FieldsInRange.{read_behind, row_in_range}
use Rattle.plan_csv.proofs.WrittenNumbers.{IsRowInRange}
use Rattle.glass_base.specs.declared.limits.TheConstants.{MOST_SIDE}

-- the rows that are cut from a row are one level below it, and fit into 20,000 mm
pub record IsHead (rows : List Row) (e : Row) : Type 0 where
  pub below : All (λ r. r.cut ≡ e.cut + 1) (rows_in e.node rows)
  pub filled : filled_by (e.cut + 1) rows e.node ≤ MOST_SIDE

-- rows that were accepted: each is in range and fits what is cut from it, their numbers differ, and each parent is one of them
pub record AreAccepted (rows : List Row) : Type 0 where
  pub small : All IsRowInRange rows
  pub apart : AreApart rows
  pub known : (n : ℕ) → has_number n rows ≡ false → rows_in n rows ≡ []
  pub heads : All (IsHead rows) rows

-- a row without a parent, or one that is cut from this row and fits beside what was cut from it before
abbrev HasPlace : List Row → Row → Option ℕ → Type 0
HasPlace before r None = Unit {0}
HasPlace before r (Some n) =
    (e : Row) × (find (λ x. x.node == n) before ≡ Some e) × (r.cut ≡ e.cut + 1) × (filled_by r.cut before e.node + side_along (lies r.cut) r ≤ MOST_SIDE)

-- where nothing is refused, the last of four facts holds
last_holds : (a b c d : Bool) (v x y z : BadPlan) → first_refusal (unless a v ∷ unless b x ∷ unless c y ∷ unless d z ∷ []) ≡ None → d ≡ true
last_holds true true true true v x y z h = refl
last_holds true true true false v x y z h = cc h
last_holds true true false d v x y z h = cc h
last_holds true false c d v x y z h = cc h
last_holds false b c d v x y z h = cc h

-- where nothing is refused, the second of five facts holds, and nothing behind them is refused
second_holds : (a b c d f : Bool) (u v x y z : BadPlan) (last : Option BadPlan)
    → first_refusal (unless a u ∷ unless b v ∷ unless c x ∷ unless d y ∷ unless f z ∷ last ∷ []) ≡ None → (b ≡ true) × (last ≡ None)
second_holds true true true true true u v x y z None h = (refl, refl)
second_holds true true true true true u v x y z (Some refusal) h = cc h
second_holds true true true true false u v x y z last h = cc h
second_holds true true true false f u v x y z last h = cc h
second_holds true true false d f u v x y z last h = cc h
second_holds true false c d f u v x y z last h = cc h
second_holds false b c d f u v x y z last h = cc h

-- what a cut makes lies side by side or one over the other
lies_cut : (level : ℕ) → lies (suc level) ≡ Along.Plates → ⊥
lies_cut zero h = cc h
lies_cut (suc zero) h = cc h
lies_cut (suc (suc zero)) h = cc h
lies_cut (suc (suc (suc level))) h = cc h

-- a piece whose sides are not refused fits beside what fills its parent
side_fits : (row filled : ℕ) (e r : Row) (along : Along) → (along ≡ Along.Plates → ⊥) → side_refusal row filled e r along ≡ None
    → filled + side_along along r ≤ MOST_SIDE
side_fits row filled e r Along.Plates cut h = absurd (cut refl)
side_fits row filled e r Along.X cut h =
    leb-true (filled + r.width) MOST_SIDE
    (last_holds (r.x == e.x + filled) (r.y == e.y) (r.height == e.height) (nat_le (filled + r.width) MOST_SIDE) (bad.Size row 3) (bad.Size row 4) (bad.Size row 6) (bad.Size row 5) h)
side_fits row filled e r Along.Y cut h =
    leb-true (filled + r.height) MOST_SIDE
    (last_holds (r.x == e.x) (r.y == e.y + filled) (r.width == e.width) (nat_le (filled + r.height) MOST_SIDE) (bad.Size row 3) (bad.Size row 4) (bad.Size row 5) (bad.Size row 6) h)

-- so does a piece that is not refused, one level below its parent
piece_fits : (row filled level : ℕ) (e r : Row) → r.cut ≡ suc level → piece_refusal row filled e r ≡ None
    → (r.cut ≡ e.cut + 1) × (filled + side_along (lies r.cut) r ≤ MOST_SIDE)
piece_fits row filled level e r is h =
    let holds =
    second_holds (r.plate == e.plate) (r.cut == e.cut + 1) (names_branch e.kind) (not (names_residual r.kind) || (r.cut == 1)) (not (names_branch r.kind) || not (r.cut == 4))
    (bad.Parent row) (bad.Level row r.cut) (bad.Kind row) (bad.Kind row) (bad.Kind row) (side_refusal row filled e r (lies r.cut)) h in
    (eqb-true r.cut (e.cut + 1) holds.0, side_fits row filled e r (lies r.cut) (λ plates. lies_cut level (ap lies (sym is) ∙ plates)) holds.1)

-- a row that is not refused has a place
placed : (b : Problem) (row : ℕ) (before : List Row) (r : Row) (cut : ℕ) (parent : Option ℕ) → r.cut ≡ cut
    → place_refusal b row before r cut parent ≡ None → HasPlace before r parent
placed b row before r zero None is h = tt
placed b row before r zero (Some n) is h = cc h
placed b row before r (suc level) None is h = tt
placed b row before r (suc level) (Some n) is h = by (find (λ x. x.node == n) before) refl h
  where
    by : (o : Option Row) → find (λ x. x.node == n) before ≡ o → child_refusal row before r o ≡ None → HasPlace before r (Some n)
    by None found k = cc k
    by (Some e) found k =
        let fits = piece_fits row (filled_by r.cut before e.node) level e r is k in
        (e, found, fits.0, fits.1)

-- no row before has the number, so none behind it names it
none_names : (n : ℕ) (before : List Row) (r : Row) → has_number n before ≡ false → rows_in n before ≡ [] → HasPlace before r r.parent
    → rows_in n (before ++ r ∷ []) ≡ []
none_names n before r free none place =
    filter-append (λ x. is_number n x.parent) before (r ∷ [])
    ∙ rw (none, other r.parent place) refl
  where
    nobody : (rows : List Row) → has_number n rows ≡ false → find (λ x. x.node == n) rows ≡ None
    nobody [] h = refl
    nobody (e ∷ rows) h =
        let k = or_parts (e.node == n) (has_number n rows) h in
        rw k.0 (nobody rows k.1)

    other : (parent : Option ℕ) → HasPlace before r parent → is_number n parent ≡ false
    other None h = refl
    other (Some m) h = ne_eqb m n (λ same. none-some h.0 (sym (nobody before free) ∙ ap (λ (k : ℕ). find (λ x. x.node == k) before) (sym same) ∙ h.1))

-- a row is found by its number
found : (rows : List Row) → AreApart rows → All (λ e. find (λ x. x.node == e.node) rows ≡ Some e) rows
found [] apart = All-nil (λ e. find (λ x. x.node == e.node) [] ≡ Some e)
found (r ∷ rows) apart =
    All-cons (λ e. find (λ x. x.node == e.node) (r ∷ rows) ≡ Some e) r rows (rw (eq-eqb r.node r.node refl) refl)
    (λ k d lt. later (get_or rows k d) (differs rows apart.0 k d lt) (found rows apart.1 k d lt))
  where
    later : (e : Row) → (e.node == r.node) ≡ false → find (λ x. x.node == e.node) rows ≡ Some e → find (λ x. x.node == e.node) (r ∷ rows) ≡ Some e
    later e other h =
        let flipped : (r.node == e.node) ≡ false = grind (arith, nat_tests) in
        rw flipped h

    differs : (rows : List Row) → has_number r.node rows ≡ false → All (λ e. (e.node == r.node) ≡ false) rows
    differs [] h = All-nil (λ e. (e.node == r.node) ≡ false)
    differs (e ∷ rows) h =
        let k = or_parts (e.node == r.node) (has_number r.node rows) h in
        All-cons (λ x. (x.node == r.node) ≡ false) e rows k.0 (differs rows k.1)

-- one more row that has another number
apart_push : (rows : List Row) (r : Row) → AreApart rows → has_number r.node rows ≡ false → AreApart (rows ++ r ∷ [])
apart_push [] r apart free = (refl, tt)
apart_push (e ∷ rows) r apart free =
    let k = or_parts (e.node == r.node) (has_number r.node rows) free in
    let other : (r.node == e.node) ≡ false = grind (arith, nat_tests) in
    (list_any-append (λ x. x.node == e.node) rows (r ∷ []) ∙ rw (apart.0, other) refl, apart_push rows r apart.1 k.1)

-- the sizes of one row more
sum_push : (along : Along) (rows : List Row) (r : Row) → sum_along along (rows ++ r ∷ []) ≡ sum_along along rows + side_along along r
sum_push along [] r = omega arith
sum_push along (e ∷ rows) r = omega (arith, sum_push along rows r)

-- a row that names this one as its parent is the next that is cut from it
next_of : (before : List Row) (r e : Row) (parent : Option ℕ) → find (λ x. x.node == e.node) before ≡ Some e → HasPlace before r parent
    → is_number e.node parent ≡ true → (r.cut ≡ e.cut + 1) × (filled_by (e.cut + 1) before e.node + side_along (lies (e.cut + 1)) r ≤ MOST_SIDE)
next_of before r e None is place named = cc named
next_of before r e (Some n) is place named =
    let same : place.0 ≡ e = same_Some place.0 e (sym place.1 ∙ ap (λ (k : ℕ). find (λ x. x.node == k) before) (eqb-true n e.node named) ∙ is) in
    let level : r.cut ≡ e.cut + 1 = place.2 ∙ ap (λ (x : Row). x.cut + 1) same in
    let fits : filled_by r.cut before e.node + side_along (lies r.cut) r ≤ MOST_SIDE =
    subst (λ (x : Row). filled_by r.cut before x.node + side_along (lies r.cut) r ≤ MOST_SIDE) same place.3 in
    (level, subst (λ (c : ℕ). filled_by c before e.node + side_along (lies c) r ≤ MOST_SIDE) level fits)

-- a row before keeps what was cut from it, and may get this row
head_more : (before : List Row) (r e : Row) → find (λ x. x.node == e.node) before ≡ Some e → HasPlace before r r.parent → IsHead before e
    → IsHead (before ++ r ∷ []) e
head_more before r e is place head =
    let rows = rows_in e.node before in
    let split : rows_in e.node (before ++ r ∷ []) ≡ rows ++ cond (is_number e.node r.parent) (r ∷ []) [] =
    filter-append (λ x. is_number e.node x.parent) before (r ∷ []) in
    record {
      below = All-same (λ x. x.cut ≡ e.cut + 1) (rows_in e.node (before ++ r ∷ [])) (rows ++ cond (is_number e.node r.parent) (r ∷ []) []) split
          (more (is_number e.node r.parent) rows head.below (λ named. (next_of before r e r.parent is place named).0));
      filled = rw split (fits (is_number e.node r.parent) rows head.filled (λ named. (next_of before r e r.parent is place named).1));
    }
  where
    more : (b : Bool) (rows : List Row) → All (λ x. x.cut ≡ e.cut + 1) rows → (b ≡ true → r.cut ≡ e.cut + 1)
        → All (λ x. x.cut ≡ e.cut + 1) (rows ++ cond b (r ∷ []) [])
    more true rows h k = All-push (λ x. x.cut ≡ e.cut + 1) rows r h (k refl)
    more false rows h k = rw (append-nil rows) h

    fits : (b : Bool) (rows : List Row) → sum_along (lies (e.cut + 1)) rows ≤ MOST_SIDE
        → (b ≡ true → sum_along (lies (e.cut + 1)) rows + side_along (lies (e.cut + 1)) r ≤ MOST_SIDE)
        → sum_along (lies (e.cut + 1)) (rows ++ cond b (r ∷ []) []) ≤ MOST_SIDE
    fits true rows h k = rw (sum_push (lies (e.cut + 1)) rows r) (k refl)
    fits false rows h k = rw (append-nil rows) h

-- one more row that is not refused
accepted_more : (b : Problem) (row : ℕ) (before : List Row) (r : Row) → AreAccepted before → IsRowInRange r → row_refusal b row before r ≡ None
    → AreAccepted (before ++ r ∷ [])
accepted_more b row before r all small h = by (has_number r.node before) refl h
  where
    by : (test : Bool) → has_number r.node before ≡ test → (if test then Some (bad.Parent row) else place_refusal b row before r r.cut r.parent) ≡ None
        → AreAccepted (before ++ r ∷ [])
    by true free k = cc k
    by false free k =
        let place = placed b row before r r.cut r.parent refl k in
        let names_none : rows_in r.node (before ++ r ∷ []) ≡ [] = none_names r.node before r free (all.known r.node free) place in
        record {
          small = All-push IsRowInRange before r all.small small;
          apart = apart_push before r all.apart free;
          known = λ n no_one. let others = or_parts (has_number n before) (has_number n (r ∷ [])) (sym (list_any-append (λ x. x.node == n) before (r ∷ [])) ∙ no_one) in
              none_names n before r others.0 (all.known n others.0) place;
          heads = All-push (IsHead (before ++ r ∷ [])) before r
              (λ i d lt. head_more before r (get_or before i d) (found before all.apart i d lt) place (all.heads i d lt))
              (record {
                below = All-same (λ x. x.cut ≡ r.cut + 1) (rows_in r.node (before ++ r ∷ [])) [] names_none (All-nil (λ x. x.cut ≡ r.cut + 1));
                filled = rw names_none (omega arith);
              });
        }

-- no rows
pub accepted_none : AreAccepted []
accepted_none = record {
  small = All-nil IsRowInRange;
  apart = tt;
  known = λ n free. refl;
  heads = All-nil (IsHead []);
}

-- what was not refused
pub not_refused : (rows more : List Row) (refusal : Option BadPlan) → or_refusal rows refusal ≡ Ok more → (refusal ≡ None) × (rows ≡ more)
not_refused rows more None h = (refl, cc h)
not_refused rows more (Some refusal) h = cc h

-- all rows of a text are accepted
pub accepted_all : (b : Problem) (row : ℕ) (before rows : List Row) (rest : List (List (List ℕ))) → AreAccepted before
    → rows_behind b row before rest ≡ Ok rows → AreAccepted rows
accepted_all b row before rows [] all h = let same : before ≡ rows = cc h in subst AreAccepted same all
accepted_all b row before rows (fields ∷ rest) all h =
    let read = read_behind (row_in row fields) _ rows h in
    let r : Row = read.0 in
    let here = read_behind (or_refusal (before ++ r ∷ []) (row_refusal b row before r)) (λ more. rows_behind b (row + 1) more rest) rows read.2 in
    let kept = not_refused (before ++ r ∷ []) here.0 (row_refusal b row before r) here.1 in
    accepted_all b (row + 1) here.0 rows rest
    (subst AreAccepted kept.1 (accepted_more b row before r all (row_in_range row fields r read.1) kept.0)) here.2
