-- The rows of a plan: each is known by its node number, and rows that name one parent are made by cuts of one level.
use Rattle.std.proofs.Common.{◌≡◌, ℕ, zero, suc, ◌+◌, ◌<◌, List, [], ◌∷◌, ◌++◌, length, map, take, drop, get_or, refl, sym, ap, subst, ◌∙◌, arith, Option, Some, None}
use Rattle.std.specs.Prelude.{Contains, MatchOption, slice_get}
use Rattle.std.specs.List.{AllByRecursion}
use Rattle.std.proofs.lemmas.List.{get_or-map, length-map, take-append-drop}
use Rattle.glass_base.specs.Problem.{Problem}
use Rattle.cut_model.specs.declared.family.Family.{Family}
use Rattle.cut_model.specs.declared.family.Row.{Row}
use Rattle.cut_model.specs.Families.{families_of, rows_of}
use Rattle.cut_model.specs.Neighbourhood.{IsCutFrom, IsPlate, StandsInItsParent}
use Rattle.cut_model.specs.Numbers.{numbers_from}
use Rattle.cut_model.specs.Tree.{Forest, count}
use Rattle.cut_model.proofs.Corners.{get_kept, stand_in_their_parents}
use Rattle.cut_model.proofs.Numbers.{rows_numbered}
use Rattle.cut_model.proofs.Parents.{rows}

-- the rows of a plan are known by their node numbers, and the level of a row by its parent
pub record AreKnown (all : List Row) : Type 0 where
  pub same : (r s : Row) → Contains all r → Contains all s → r.node ≡ s.node → r ≡ s
  pub level : (r s : Row) → Contains all r → Contains all s → r.parent ≡ s.parent → r.cut ≡ s.cut

-- what holds of each element of two lists that are put together
pub all_left : {X : Type 0} (P : X → Type 0) (xs ys : List X) → AllByRecursion P (xs ++ ys) → AllByRecursion P xs
all_left P [] ys h = tt
all_left P (x ∷ xs) ys h = (h.0, all_left P xs ys h.1)

pub all_right : {X : Type 0} (P : X → Type 0) (xs ys : List X) → AllByRecursion P (xs ++ ys) → AllByRecursion P ys
all_right P [] ys h = h
all_right P (x ∷ xs) ys h = all_right P xs ys h.1

-- what is weaker holds too
pub all_weaker : {X : Type 0} (P Q : X → Type 0) (xs : List X) → ((x : X) → P x → Q x) → AllByRecursion P xs → AllByRecursion Q xs
all_weaker P Q [] f h = tt
all_weaker P Q (x ∷ xs) f h = (f x h.0, all_weaker P Q xs f h.1)

-- the numbers from one on
number_at : (n more place d : ℕ) → place < more → get_or (numbers_from n more) place d ≡ n + place
number_at n zero place d lt = absurd (omega (arith, lt))
number_at n (suc more) zero d lt = omega arith
number_at n (suc more) (suc place) d lt = number_at (n + 1) more place d (omega (arith, lt)) ∙ omega arith

length-numbers : (n more : ℕ) → length (numbers_from n more) ≡ more
length-numbers n zero = refl
length-numbers n (suc more) = ap suc (length-numbers (n + 1) more)

-- so a row's place is its number
place_is : (all : List Row) (more place : ℕ) (r : Row) → map (λ s. s.node) all ≡ numbers_from 0 more → place < length all → get_or all place r ≡ r → r.node ≡ place
place_is all more place r e lt is =
    let node : Row → ℕ = λ s. s.node in
    let many : length all ≡ more = sym (length-map all node) ∙ ap length e ∙ length-numbers 0 more in
    let at : get_or (map node all) place 0 ≡ (get_or all place r).node = get_or-map node all place r 0 lt in
    let number : get_or (numbers_from 0 more) place 0 ≡ 0 + place = number_at 0 more place 0 (omega (arith, lt, many)) in
    omega (arith, at, number, ap node is, ap (λ (l : List ℕ). get_or l place 0) e)

-- two rows of one number are one
same_number : (all : List Row) (more : ℕ) (r s : Row) → map (λ t. t.node) all ≡ numbers_from 0 more → Contains all r → Contains all s → r.node ≡ s.node → r ≡ s
same_number all more r s e h k is =
    let same : h.0 ≡ k.0 = sym (place_is all more h.0 r e h.1 h.2) ∙ is ∙ place_is all more k.0 s e k.1 k.2 in
    sym h.2 ∙ ap (λ (i : ℕ). get_or all i r) same ∙ inside all k.0 r s k.1 ∙ k.2
  where
    inside : (xs : List Row) (i : ℕ) (x y : Row) → i < length xs → get_or xs i x ≡ get_or xs i y
    inside [] i x y lt = absurd (omega (arith, lt))
    inside (z ∷ xs) zero x y lt = refl
    inside (z ∷ xs) (suc i) x y lt = inside xs i x y (omega (arith, lt))

-- the level of the cut that makes the pieces of this parent
abbrev IsLevelOf : List Row → Option ℕ → ℕ → Type 0
IsLevelOf all None cut = cut ≡ 0
IsLevelOf all (Some number) cut = (whole : Row) × (slice_get all number ≡ Some whole) × (cut ≡ whole.cut + 1)

-- a parent has one
one_level : (all : List Row) (parent : Option ℕ) (cut other : ℕ) → IsLevelOf all parent cut → IsLevelOf all parent other → cut ≡ other
one_level all None cut other h k = h ∙ sym k
one_level all (Some number) cut other h k =
    let same : h.0 ≡ k.0 = some_is h.0 k.0 (sym h.1 ∙ k.1) in
    h.2 ∙ ap (λ (r : Row). r.cut + 1) same ∙ sym k.2
  where
    some_is : (r s : Row) → Some r ≡ Some s → r ≡ s
    some_is r s e = cc

-- a piece that stands in its parent is of its parent's level
stands_level : (b : Problem) (all : List Row) (place : ℕ) (f : Family) → StandsInItsParent b (take place all) f → IsLevelOf all f.row.parent f.row.cut
stands_level b all place f h = by f.row.parent h
  where
    by : (parent : Option ℕ) → MatchOption parent (IsPlate b (take place all) f.row) (IsCutFrom (take place all) f) → IsLevelOf all parent f.row.cut
    by None h = h.cut
    by (Some number) h =
        (h.whole, subst (λ (l : List Row). slice_get l number ≡ Some h.whole) (take-append-drop place all) (get_kept (take place all) (drop place all) number h.whole h.stands), h.cut)

-- a row of some families is that of one of them
family_at : (fs : List Family) (place : ℕ) (r : Row) → place < length (rows fs) → get_or (rows fs) place r ≡ r → (f : Family) × (slice_get fs place ≡ Some f) × (f.row ≡ r)
family_at [] place r lt is = absurd (omega (arith, lt))
family_at (f ∷ fs) zero r lt is = (f, refl, is)
family_at (f ∷ fs) (suc place) r lt is = family_at fs place r (omega (arith, lt)) is

level_is : (b : Problem) (plan : Forest) (r : Row) → Contains (rows_of b plan) r → IsLevelOf (rows_of b plan) r.parent r.cut
level_is b plan r h =
    let one : (f : Family) × (slice_get (families_of b plan) h.0 ≡ Some f) × (f.row ≡ r) = family_at (families_of b plan) h.0 r h.1 h.2 in
    subst (λ (s : Row). IsLevelOf (rows_of b plan) s.parent s.cut) one.2
    (stands_level b (rows_of b plan) h.0 one.0 (stand_in_their_parents b plan h.0 one.0 one.1))

-- the rows of a plan are known so
pub are_known : (b : Problem) (plan : Forest) → AreKnown (rows_of b plan)
are_known b plan = record {
  same = λ r s h k is. same_number (rows_of b plan) (count plan) r s (rows_numbered b plan) h k is;
  level = λ r s h k is.
      one_level (rows_of b plan) s.parent r.cut s.cut
      (subst (λ (parent : Option ℕ). IsLevelOf (rows_of b plan) parent r.cut) is (level_is b plan r h)) (level_is b plan s k);
}
