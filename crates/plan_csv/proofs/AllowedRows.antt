-- A row that is not refused may stand behind the rows before it.
use Rattle.std.proofs.Common.{◌≡◌, ◌+◌, ◌≤◌, ◌∙◌, ℕ, zero, suc, List, [], ◌∷◌, Bool, true, false, cond, length, refl, sym, ap, subst}
use Rattle.std.specs.Prelude.{find, Option, Some, None, ◌==◌, ◌||◌, not, nat_le}
use Rattle.std.specs.List.{list_any}
use Rattle.std.specs.Option.{is_some}
use Rattle.std.proofs.lemmas.Bool.{eq-eqb, eqb-true, leb-true}
use Rattle.glass_base.specs.Problem.{Problem}
use Rattle.glass_base.specs.Plates.{Width}
use Rattle.cut_model.specs.declared.family.Along.{Along}
use Rattle.cut_model.specs.declared.family.Row.{Row}
use Rattle.cut_model.specs.Lawful.{plate_rows}
use Rattle.cut_model.specs.Families.{side_along}
use Rattle.cut_model.specs.Loss.{names_residual}
use Rattle.plan_csv.specs.declared.bad_plan.BadPlan.{BadPlan}
use Rattle.plan_csv.specs.declared.bad_plan.BadPlan.TheVariants as bad
use Rattle.plan_csv.specs.PlanTexts.{child_refusal, filled_by, first_refusal, lies, names_branch, piece_refusal, place_refusal, plate_refusal, row_refusal, side_refusal, unless}
use Rattle.cut_model.specs.Tree.{IsRowType}
use Rattle.plan_csv.specs.inner.ReadNodes.{GoesWith, MayFollow, IsPlaced, IsUnder, row_with}
use Rattle.plan_csv.proofs.CheckFacts.{any-find}
use Rattle.glass_base.specs.declared.limits.TheConstants.{MOST_SIDE}

-- each of these refusals is none
abbrev AreNone : List (Option BadPlan) → Type 0
AreNone [] = Unit {0}
AreNone (refusal ∷ later) = (refusal ≡ None) × AreNone later

-- where there is no first refusal, there is none
all_none : (refusals : List (Option BadPlan)) → first_refusal refusals ≡ None → AreNone refusals
all_none [] h = tt
all_none (None ∷ later) h = (refl, all_none later h)
all_none (Some e ∷ later) h = absurd (let u : Some e ≡ None = h in cc)

-- what is not refused holds
holds : (test : Bool) (e : BadPlan) → unless test e ≡ None → test ≡ true
holds true e h = refl
holds false e h = cc

-- an implication that a test computes
then_holds : (a b : Bool) → (not a || b) ≡ true → a ≡ true → b ≡ true
then_holds true b h e = h
then_holds false b h e = cc

-- a test that fails
fails : (a : Bool) → not a ≡ true → a ≡ false
fails true h = cc
fails false h = refl

-- an element that is found passes the test
found_passes : {X : Type 0} (test : X → Bool) (xs : List X) (x : X) → find test xs ≡ Some x → test x ≡ true
found_passes test [] x h = cc
found_passes {X = X} test (y ∷ xs) x h = by (test y) refl h (found_passes test xs x)
  where
    by : (b : Bool) → test y ≡ b → cond b (Some y) (find test xs) ≡ Some x → (find test xs ≡ Some x → test x ≡ true) → test x ≡ true
    by true e s later = let same : y ≡ x = cc in ap test (sym same) ∙ e
    by false e s later = later s

-- a plate that is not refused is of a plate's type
plate_branch : (b : Problem) (row : ℕ) (before : List Row) (r : Row) → plate_refusal b row before r ≡ None → names_branch r.kind ≡ true
plate_branch b row before r h =
    let all = all_none (
    unless (r.plate == length (plate_rows before)) (bad.Level row 0)
    ∷ unless (names_branch r.kind) (bad.Kind row)
    ∷ unless (r.x == 0) (bad.Size row 3)
    ∷ unless (r.y == 0) (bad.Size row 4)
    ∷ unless (r.width == Width b r.plate) (bad.Size row 5)
    ∷ unless (r.height == b.params.height) (bad.Size row 6)
    ∷ []) h in
    holds (names_branch r.kind) (bad.Kind row) all.1.0

-- a piece beside its neighbours that is not refused has room
room_beside : (row filled : ℕ) (e r : Row) → side_refusal row filled e r Along.X ≡ None → filled + r.width ≤ MOST_SIDE
room_beside row filled e r h =
    let all = all_none (
    unless (r.x == e.x + filled) (bad.Size row 3)
    ∷ unless (r.y == e.y) (bad.Size row 4)
    ∷ unless (r.height == e.height) (bad.Size row 6)
    ∷ unless (nat_le (filled + r.width) MOST_SIDE) (bad.Size row 5)
    ∷ []) h in
    leb-true (filled + r.width) MOST_SIDE (holds (nat_le (filled + r.width) MOST_SIDE) (bad.Size row 5) all.1.1.1.0)

-- and so has a piece over them
room_over : (row filled : ℕ) (e r : Row) → side_refusal row filled e r Along.Y ≡ None → filled + r.height ≤ MOST_SIDE
room_over row filled e r h =
    let all = all_none (
    unless (r.x == e.x) (bad.Size row 3)
    ∷ unless (r.y == e.y + filled) (bad.Size row 4)
    ∷ unless (r.width == e.width) (bad.Size row 5)
    ∷ unless (nat_le (filled + r.height) MOST_SIDE) (bad.Size row 6)
    ∷ []) h in
    leb-true (filled + r.height) MOST_SIDE (holds (nat_le (filled + r.height) MOST_SIDE) (bad.Size row 6) all.1.1.1.0)

-- a piece whose sides are not refused has room
room : (row filled cut : ℕ) (e r : Row) → side_refusal row filled e r (lies (suc cut)) ≡ None → filled + side_along (lies (suc cut)) r ≤ MOST_SIDE
room row filled zero e r h = room_beside row filled e r h
room row filled (suc zero) e r h = room_over row filled e r h
room row filled (suc (suc zero)) e r h = room_beside row filled e r h
room row filled (suc (suc (suc cut))) e r h = room_over row filled e r h

-- what holds of a piece that is not refused: it goes with its parent, and its sides are not refused
record Passes (row filled : ℕ) (e r : Row) : Type 0 where
  goes : GoesWith e r
  sides : side_refusal row filled e r (lies r.cut) ≡ None

-- a piece that is not refused
piece_passes : (row filled : ℕ) (e r : Row) → piece_refusal row filled e r ≡ None → Passes row filled e r
piece_passes row filled e r h =
    let all = all_none (
    unless (r.plate == e.plate) (bad.Parent row)
    ∷ unless (r.cut == e.cut + 1) (bad.Level row r.cut)
    ∷ unless (names_branch e.kind) (bad.Kind row)
    ∷ unless (not (names_residual r.kind) || (r.cut == 1)) (bad.Kind row)
    ∷ unless (not (names_branch r.kind) || not (r.cut == 4)) (bad.Kind row)
    ∷ side_refusal row filled e r (lies r.cut)
    ∷ []) h in
    let residual = holds (not (names_residual r.kind) || (r.cut == 1)) (bad.Kind row) all.1.1.1.0 in
    let leaf = holds (not (names_branch r.kind) || not (r.cut == 4)) (bad.Kind row) all.1.1.1.1.0 in
    record {
      goes = record {
        cut = eqb-true r.cut (e.cut + 1) (holds (r.cut == e.cut + 1) (bad.Level row r.cut) all.1.0);
        branch = holds (names_branch e.kind) (bad.Kind row) all.1.1.0;
        residual = λ is. eqb-true r.cut 1 (then_holds (names_residual r.kind) (r.cut == 1) residual is);
        leaf = λ is four.
            let no : (r.cut == 4) ≡ false = fails (r.cut == 4) (then_holds (names_branch r.kind) (not (r.cut == 4)) leaf is) in
            let yes : (r.cut == 4) ≡ true = eq-eqb r.cut 4 four in cc;
      };
      sides = all.1.1.1.1.1.0;
    }

-- a piece that is not refused is below its parent
under : (row cut parent : ℕ) (before : List Row) (r : Row) (o : Option Row) → r.cut ≡ suc cut → row_with parent before ≡ o
    → child_refusal row before r o ≡ None → IsUnder before r parent
under row cut parent before r None level found h = absurd (let e : Some (bad.Parent row) ≡ None = h in cc)
under row cut parent before r (Some e) level found h =
    let number : e.node ≡ parent = eqb-true e.node parent (found_passes (λ x. x.node == parent) before e found) in
    let pass = piece_passes row (filled_by r.cut before e.node) e r h in
    let sides : side_refusal row (filled_by r.cut before e.node) e r (lies (suc cut)) ≡ None = ap (λ n. side_refusal row (filled_by r.cut before e.node) e r (lies n)) (sym level) ∙ pass.sides in
    let fits : filled_by r.cut before e.node + side_along (lies (suc cut)) r ≤ MOST_SIDE = room row (filled_by r.cut before e.node) cut e r sides in
    let P : ℕ → ℕ → Type 0 = λ number level. filled_by r.cut before number + side_along (lies level) r ≤ MOST_SIDE in
    record {
      above = e;
      found = found;
      with = pass.goes;
      room = subst (λ q. P q r.cut) number (subst (λ n. P e.node n) (sym level) fits);
    }

-- a row that is not refused is in its place
placed : (b : Problem) (row : ℕ) (before : List Row) (r : Row) (cut : ℕ) (parent : Option ℕ) → r.cut ≡ cut
    → place_refusal b row before r cut parent ≡ None → IsPlaced before r cut parent
placed b row before r zero None level h = plate_branch b row before r h
placed b row before r zero (Some _) level h = absurd (let e : Some (bad.Parent row) ≡ None = h in cc)
placed b row before r (suc _) None level h = absurd (let e : Some (bad.Parent row) ≡ None = h in cc)
placed b row before r (suc cut) (Some parent) level h = under row cut parent before r (row_with parent before) level refl h

-- nothing is found where no element passes
none_found : (o : Option Row) → is_some o ≡ false → o ≡ None
none_found None h = refl
none_found (Some x) h = cc

-- a row that is not refused may stand behind the others
pub allowed : (b : Problem) (row : ℕ) (before : List Row) (r : Row) → row_refusal b row before r ≡ None → IsRowType r.kind → MayFollow before r
allowed b row before r h typed = by (list_any (λ e. e.node == r.node) before) refl h
  where
    by : (test : Bool) → list_any (λ e. e.node == r.node) before ≡ test → cond test (Some (bad.Parent row)) (place_refusal b row before r r.cut r.parent) ≡ None → MayFollow before r
    by true e s = absurd (let u : Some (bad.Parent row) ≡ None = s in cc)
    by false e s = record {
      new = none_found (row_with r.node before) (sym (any-find (λ x. x.node == r.node) before) ∙ e);
      typed = typed;
      placed = placed b row before r r.cut r.parent refl s;
    }
