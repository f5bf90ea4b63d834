-- The pieces of odd cuts lie side by side, those of even cuts one over the other.
use Rattle.std.proofs.Common.{◌≡◌, ℕ, zero, suc, ◌+◌, ◌%◌, ◌≤◌, List, Bool, true, false, refl, sym, ap, ◌∙◌, add-one, arith, All}
use Rattle.std.specs.List.{AllByRecursion}
use Rattle.std.proofs.lemmas.List.Elements.{All-from_recursion}
use Rattle.glass_base.specs.Problem.{Problem}
use Rattle.cut_model.specs.declared.family.Along.{Along}
use Rattle.cut_model.specs.declared.family.Area.{Area}
use Rattle.cut_model.specs.declared.family.Family.{Family}
use Rattle.cut_model.specs.Families.{behind, families, families_of, family_with, first_plate, inside, turned}
use Rattle.cut_model.specs.Neighbourhood.{LiesByItsCut}
use Rattle.cut_model.specs.Sized.{on_plates}
use Rattle.cut_model.specs.Tree.{Forest, nothing, piece, children_in, count, is_nothing}
use Rattle.cut_model.proofs.Parents.{along_behind, append_all, cut_behind}

-- how the pieces of a cut lie: turned against those that they are cut from
abbrev along_of : ℕ → Along
along_of zero = Along.Plates
along_of (suc cut) = turned (along_of cut)

turned_back : (along : Along) → turned (turned (turned along)) ≡ turned along
turned_back Along.Plates = refl
turned_back Along.X = refl
turned_back Along.Y = refl

odd_beside : (cut : ℕ) → cut % 2 ≡ 1 → along_of cut ≡ Along.X
odd_beside zero odd = absurd (omega (arith, odd))
odd_beside (suc zero) odd = refl
odd_beside (suc (suc zero)) odd = absurd (omega (arith, odd))
odd_beside (suc (suc (suc cut))) odd = turned_back (along_of cut) ∙ odd_beside (suc cut) (omega (arith, odd))

even_above : (cut : ℕ) → suc cut % 2 ≡ 0 → along_of (suc cut) ≡ Along.Y
even_above zero even = absurd (omega (arith, even))
even_above (suc zero) even = refl
even_above (suc (suc cut)) even = turned_back (along_of cut) ∙ even_above cut (omega (arith, even))

above_plates : (cut : ℕ) → 1 ≤ cut → cut % 2 ≡ 0 → along_of cut ≡ Along.Y
above_plates zero some even = absurd (omega (arith, some))
above_plates (suc cut) some even = even_above cut even

one_lies : (f : Family) → f.along ≡ along_of f.row.cut → LiesByItsCut f
one_lies f e = record {
  plate = λ none. e ∙ ap along_of none;
  odd = λ odd. e ∙ odd_beside f.row.cut odd;
  even = λ some even. e ∙ above_plates f.row.cut some even;
}

all_lie : (at : Area) (first : Bool) (node : ℕ) (forest : Forest) → at.along ≡ along_of at.cut → AllByRecursion LiesByItsCut (families at first node forest)
unfolding families
all_lie at first node nothing e = tt
all_lie at first node (piece size sort inner later) e =
    let f : Family = family_with at first (is_nothing later) node size sort (children_in inner) in
    let next : ℕ = node + 1 + count inner in
    let within : List Family = families (inside f) true (node + 1) inner in
    let after : List Family = families (behind at size) false next later in (
      one_lies f e,
      append_all LiesByItsCut within after
          (all_lie (inside f) true (node + 1) inner (ap turned e ∙ ap along_of (sym (add-one at.cut))))
          (all_lie (behind at size) false next later (along_behind at at.along size ∙ e ∙ ap along_of (sym (cut_behind at.along at size)))),
    )

pub lie_by_their_cuts : (b : Problem) (plan : Forest) → All LiesByItsCut (families_of b plan)
lie_by_their_cuts b plan = All-from_recursion LiesByItsCut (families_of b plan) (all_lie (first_plate b) true 0 (on_plates b plan) refl)
