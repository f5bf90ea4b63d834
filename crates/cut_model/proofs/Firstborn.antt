-- Each family knows whether it is the first one of its parent.
use Rattle.std.proofs.Common.{◌≡◌, ◌≢◌, ℕ, ◌+◌, ◌↔◌, List, [], ◌∷◌, ◌++◌, take, Bool, true, false, refl, sym, arith, Some}
use Rattle.std.specs.Prelude.{slice_get}
use Rattle.std.proofs.lemmas.Bool.{false≢true}
use Rattle.std.proofs.lemmas.List.Elements.{All-nil}
use Rattle.glass_base.specs.Problem.{Problem}
use Rattle.cut_model.specs.declared.family.Area.{Area}
use Rattle.cut_model.specs.declared.family.Family.{Family}
use Rattle.cut_model.specs.declared.family.Row.{Row}
use Rattle.cut_model.specs.Families.{behind, families, families_of, family_with, first_plate, inside, rows_of}
use Rattle.cut_model.specs.Neighbourhood.{KnowsIfFirst, NoneNames}
use Rattle.cut_model.specs.Parents.{rows_in}
use Rattle.cut_model.specs.Sized.{on_plates}
use Rattle.cut_model.specs.Tree.{Forest, nothing, piece, children_in, count, is_nothing}
use Rattle.cut_model.proofs.Parents.{parent_behind, rows}
use Rattle.cut_model.proofs.Places.{EachBefore, IsBelow, NamesBelow, at_place, before-append, below_behind, below_after, below_inside, below_later, below_next, between, unnamed}

-- whether a list begins with the first piece of its parent
abbrev Begins : Bool → Area → List Row → Type 0
Begins first at told = (first ≡ true) ↔ NoneNames at.parent told

-- the pieces inside a piece begin with its first one
begins_inside : (at : Area) (node : ℕ) (told : List Row) → at.parent ≡ Some node → rows_in node told ≡ [] → Begins true at told
begins_inside at node told parent none = (λ _. rw parent (unnamed node told none), λ _. refl)

-- behind a piece there is no first one
begins_behind : (at : Area) (told later : List Row) (r : Row) → at.parent ≡ r.parent → Begins false at ((told ++ r ∷ []) ++ later)
begins_behind at told later r same = (λ e. absurd (false≢true e), λ none. absurd (between (λ (s : Row). s.parent ≢ at.parent) told later r none (sym same)))

all_know : (told : List Row) (at : Area) (first : Bool) (node : ℕ) (forest : Forest) → Begins first at told → IsBelow node at.parent → NamesBelow node told →
    EachBefore KnowsIfFirst told (families at first node forest)
unfolding families
all_know told at first node nothing begins parent below = tt
all_know told at first node (piece size sort inner later) begins parent below =
    let f : Family = family_with at first (is_nothing later) node size sort (children_in inner) in
    let here : List Row = told ++ f.row ∷ [] in
    let next : ℕ = node + 1 + count inner in
    let within : List Family = families (inside f) true (node + 1) inner in
    let after : List Family = families (behind at size) false next later in
    let named : NamesBelow node here = below_next node told f.row below parent in (
      begins,
      before-append KnowsIfFirst here within after
          (all_know here (inside f) true (node + 1) inner (begins_inside (inside f) node here refl (named node (omega arith))) (below_inside node) (below_after node here named))
          (all_know (here ++ rows within) (behind at size) false next later (begins_behind (behind at size) told (rows within) f.row (parent_behind at at.along size))
          (below_behind node (count inner) at size parent) (below_later node here (inside f) inner named refl)),
    )

pub know_if_first : (b : Problem) (plan : Forest) (place : ℕ) (f : Family) → slice_get (families_of b plan) place ≡ Some f → KnowsIfFirst (take place (rows_of b plan)) f
know_if_first b plan place f is =
    at_place KnowsIfFirst [] (families_of b plan) place f
    (all_know [] (first_plate b) true 0 (on_plates b plan) (λ _. All-nil _, λ _. refl) (λ n le. refl) (λ n le. refl)) is
