-- Each piece of a 1-cut knows whether it is the last one of the last plate.
use Rattle.std.proofs.Common.{◌≡◌, ◌≢◌, ℕ, ◌+◌, ◌<◌, ◌≤◌, ◌↔◌, List, [], ◌∷◌, ◌++◌, drop, Bool, true, false, ◌&&◌, refl, sym, ap, subst, ◌∙◌, arith, Some, All, append-nil, append_assoc}
use Rattle.std.specs.Prelude.{slice_get}
use Rattle.std.proofs.lemmas.Bool.{false≢true}
use Rattle.std.proofs.lemmas.Bool.Decides.{nat_tests}
use Rattle.std.proofs.lemmas.List.{map-append}
use Rattle.std.proofs.lemmas.List.Elements.{All-append, All-head, All-tail}
use Rattle.glass_base.specs.Plates.{Width}
use Rattle.glass_base.specs.Problem.{Problem}
use Rattle.cut_model.specs.declared.family.Along.{Along}
use Rattle.cut_model.specs.declared.family.Area.{Area}
use Rattle.cut_model.specs.declared.family.Family.{Family}
use Rattle.cut_model.specs.declared.family.Row.{Row}
use Rattle.cut_model.specs.Families.{behind, families, families_of, family_with, inside, moved, rows_of}
use Rattle.cut_model.specs.Neighbourhood.{KnowsIfItEnds, NoneNames}
use Rattle.cut_model.specs.Parents.{is_number}
use Rattle.cut_model.specs.Sized.{sized}
use Rattle.cut_model.specs.Tree.{Forest, nothing, piece, children_in, count, is_nothing, neighbour_count}
use Rattle.cut_model.proofs.Parents.{along_behind, cut_behind, none_in, parent_behind, rows}
use Rattle.cut_model.proofs.Places.{EachAfter, after-append, at_place_after, plate_at, unnamed}

-- pieces of other cuts say nothing of it
deeper : (plates : ℕ) (rest : List Row) (at : Area) (first : Bool) (node : ℕ) (forest : Forest) → 2 ≤ at.cut → EachAfter (KnowsIfItEnds plates) rest (families at first node forest)
unfolding families
deeper plates rest at first node nothing le = tt
deeper plates rest at first node (piece size sort inner later) le =
    let f : Family = family_with at first (is_nothing later) node size sort (children_in inner) in
    let within : List Family = families (inside f) true (node + 1) inner in
    let after : List Family = families (behind at size) false (node + 1 + count inner) later in (
      λ e. absurd (omega (arith, e, le)),
      after-append (KnowsIfItEnds plates) rest within after
          (deeper plates (rows after ++ rest) (inside f) true (node + 1) inner (omega arith))
          (deeper plates rest (behind at size) false (node + 1 + count inner) later (omega (arith, cut_behind at.along at size, le))),
    )

-- it is the last one, and so is what it is in
both : {N M : Type 0} (last none : Bool) → (last ≡ true) ↔ M → (none ≡ true → N) → (none ≡ false → N → ⊥) → ((last && none) ≡ true) ↔ (N × M)
both true true h there gone = (λ _. (there refl, h.0 refl), λ _. refl)
both true false h there gone = (λ e. absurd (false≢true e), λ x. absurd (gone refl x.0))
both false true h there gone = (λ e. absurd (false≢true e), λ x. h.1 x.1)
both false false h there gone = (λ e. absurd (false≢true e), λ x. absurd (gone refl x.0))

all_behind : (P : Row → Type 0) (xs ys : List Row) → All P (xs ++ ys) → All P ys
all_behind P [] ys h = h
all_behind P (x ∷ xs) ys h = all_behind P xs ys (All-tail P x (xs ++ ys) h)

-- a list that has a piece names its parent
named_there : (rest : List Row) (at : Area) (first : Bool) (node : ℕ) (forest : Forest) → is_nothing forest ≡ false → NoneNames at.parent (rows (families at first node forest) ++ rest) → ⊥
unfolding families
named_there rest at first node nothing some none = false≢true (sym some)
named_there rest at first node (piece size sort inner later) some none = All-head (λ (r : Row). r.parent ≢ at.parent) _ _ none refl

none_there : (at : Area) (first : Bool) (node : ℕ) (forest : Forest) → is_nothing forest ≡ true → families at first node forest ≡ []
unfolding families
none_there at first node nothing e = refl
none_there at first node (piece size sort inner later) e = absurd (false≢true e)

-- the pieces of 1-cuts of one plate
pub record AreStrips (plates number : ℕ) (at : Area) : Type 0 where
  pub parent : at.parent ≡ Some number
  pub cut : at.cut ≡ 1
  pub along : at.along ≡ Along.X
  pub last : (at.last ≡ true) ↔ (at.plate + 1 ≡ plates)

last_behind : (along : Along) (at : Area) (size : ℕ) → (moved along at size).last ≡ at.last
last_behind Along.Plates at size = refl
last_behind Along.X at size = refl
last_behind Along.Y at size = refl

strips_behind : (plates number : ℕ) (at : Area) (size : ℕ) → AreStrips plates number at → AreStrips plates number (behind at size)
strips_behind plates number at size h =
    let plate : (behind at size).plate ≡ at.plate = ap (λ (a : Along). (moved a at size).plate) h.along in
    record {
      parent = parent_behind at at.along size ∙ h.parent;
      cut = cut_behind at.along at size ∙ h.cut;
      along = along_behind at at.along size ∙ h.along;
      last = rw (last_behind at.along at size, plate) h.last;
    }

-- a piece of a 1-cut, where these are the rows inside it and behind it
one_ends : (plates : ℕ) (rest : List Row) (number : ℕ) (at : Area) (node size : ℕ) (within : List Family) (later : Forest) → AreStrips plates number at → NoneNames (Some number) (rows within) → NoneNames (Some number) rest →
    ((at.last && is_nothing later) ≡ true) ↔ (NoneNames at.parent (rows (within ++ families (behind at size) false node later) ++ rest) × (at.plate + 1 ≡ plates))
one_ends plates rest number at node size within later h inner outer =
    let after : List Family = families (behind at size) false node later in
    let split : rows (within ++ after) ++ rest ≡ rows within ++ (rows after ++ rest) = ap (λ (l : List Row). l ++ rest) (map-append (λ (f : Family). f.row) within after) ∙ append_assoc (rows within) (rows after) rest in
    let Unsaid : List Row → Type 0 = NoneNames at.parent in
    both at.last (is_nothing later) h.last
    (λ e.
    let gone : rows after ≡ [] = ap rows (none_there (behind at size) false node later e) in
    subst Unsaid (sym split) (rw (gone, h.parent) (All-append (λ (r : Row). r.parent ≢ Some number) (rows within) rest inner outer)))
    (λ e none.
    named_there rest (behind at size) false node later e
    (rw (parent_behind at at.along size) (all_behind (λ (r : Row). r.parent ≢ at.parent) (rows within) (rows after ++ rest) (subst Unsaid split none))))

strips_end : (plates : ℕ) (rest : List Row) (number : ℕ) (at : Area) (first : Bool) (node : ℕ) (forest : Forest) → AreStrips plates number at → number < node → NoneNames (Some number) rest →
    EachAfter (KnowsIfItEnds plates) rest (families at first node forest)
unfolding families
strips_end plates rest number at first node nothing h earlier outer = tt
strips_end plates rest number at first node (piece size sort inner later) h earlier outer =
    let f : Family = family_with at first (is_nothing later) node size sort (children_in inner) in
    let next : ℕ = node + 1 + count inner in
    let within : List Family = families (inside f) true (node + 1) inner in
    let after : List Family = families (behind at size) false next later in
    let other : is_number number (Some node) ≡ false = grind (arith, nat_tests) in
    let unsaid : NoneNames (Some number) (rows within) = unnamed number (rows within) (none_in number (inside f) true (node + 1) inner other (omega (arith, earlier))) in (
      λ _. one_ends plates rest number at next size within later h unsaid outer,
      after-append (KnowsIfItEnds plates) rest within after
          (deeper plates (rows after ++ rest) (inside f) true (node + 1) inner (omega (arith, h.cut)))
          (strips_end plates rest number (behind at size) false next later (strips_behind plates number at size h) (omega (arith, earlier)) outer),
    )

-- no plate is left where none is counted
last_plate : (b : Problem) (plate : ℕ) (plan : Forest) → (is_nothing (sized b plate plan) ≡ true) ↔ (neighbour_count plan ≡ 0)
last_plate b plate nothing = (λ _. refl, λ _. refl)
last_plate b plate (piece size sort inner later) = (λ e. absurd (false≢true e), λ e. absurd (omega (arith, e)))

plates_end : (b : Problem) (plates plate : ℕ) (first : Bool) (node : ℕ) (plan : Forest) → plates ≡ plate + neighbour_count plan → EachAfter (KnowsIfItEnds plates) [] (families (plate_at b plate) first node (sized b plate plan))
unfolding families
plates_end b plates plate first node nothing all = tt
plates_end b plates plate first node (piece size sort inner later) all =
    let ends : Bool = is_nothing (sized b (plate + 1) later) in
    let f : Family = family_with (plate_at b plate) first ends node (Width b plate) sort (children_in inner) in
    let next : ℕ = node + 1 + count inner in
    let within : List Family = families (inside f) true (node + 1) inner in
    let after : List Family = families (plate_at b (plate + 1)) false next (sized b (plate + 1) later) in
    let last = last_plate b (plate + 1) later in
    let strips : AreStrips plates node (inside f) = record {
      parent = refl;
      cut = refl;
      along = refl;
      last = (λ e. omega (arith, last.0 e, all), λ e. last.1 (omega (arith, all, e)));
    } in (
      λ e. absurd (omega (arith, e)),
      after-append (KnowsIfItEnds plates) [] within after
          (strips_end plates (rows after ++ []) node (inside f) true (node + 1) inner strips (omega arith)
          (rw (append-nil (rows after)) (unnamed node (rows after) (none_in node (plate_at b (plate + 1)) false next (sized b (plate + 1) later) refl (omega arith)))))
          (plates_end b plates (plate + 1) false next later (omega (arith, all))),
    )

pub know_if_they_end : (b : Problem) (plan : Forest) (place : ℕ) (f : Family) → slice_get (families_of b plan) place ≡ Some f → KnowsIfItEnds (neighbour_count plan) (drop (place + 1) (rows_of b plan)) f
know_if_they_end b plan place f is =
    let behind_it : List Row = drop (place + 1) (rows_of b plan) in
    subst (λ (l : List Row). KnowsIfItEnds (neighbour_count plan) l f) (append-nil behind_it)
    (at_place_after (KnowsIfItEnds (neighbour_count plan)) [] (families_of b plan) place f (plates_end b (neighbour_count plan) 0 true 0 plan (omega arith)) is)
