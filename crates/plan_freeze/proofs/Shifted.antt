-- Pieces on plates with other numbers: all plates and all nodes are counted from further on.
use Rattle.std.proofs.Common.{◌≡◌, ℕ, ◌+◌, List, ◌∷◌, ◌++◌, map, Bool, true, false, refl, sym, ap, ◌∙◌, arith}
use Rattle.std.specs.Option.{option_map}
use Rattle.std.proofs.lemmas.List.{map-append}
use Rattle.cut_model.specs.declared.family.Row.{Row}
use Rattle.cut_model.specs.declared.family.Along.{Along}
use Rattle.cut_model.specs.declared.family.Area.{Area}
use Rattle.cut_model.specs.declared.family.Family.{Family}
use Rattle.cut_model.specs.Families.{behind, families, family_with, inside, moved}
use Rattle.cut_model.specs.Tree.{Forest, nothing, piece, children_in, count, is_nothing}

abbrev pub shifted_row : ℕ → ℕ → Row → Row
shifted_row k n r = record r { plate = r.plate + k; node = r.node + n; parent = option_map (λ m. m + n) r.parent }

abbrev pub shifted : ℕ → ℕ → Family → Family
shifted k n f = record f { row = shifted_row k n f.row }

abbrev pub shifted_area : ℕ → ℕ → Area → Area
shifted_area k n at = record at { plate = at.plate + k; parent = option_map (λ m. m + n) at.parent }

-- so are the pieces behind
behind_shifted : (k n : ℕ) (along : Along) (at : Area) (size : ℕ) → moved along (shifted_area k n at) size ≡ shifted_area k n (moved along at size)
behind_shifted k n Along.Plates at size =
    let same : at.plate + k + 1 ≡ at.plate + 1 + k = omega arith in
    ap (λ (p : ℕ). record (shifted_area k n at) { plate = p }) same
behind_shifted k n Along.X at size = refl
behind_shifted k n Along.Y at size = refl

-- the families of a list of pieces that begins further on
pub families_shifted : (k n : ℕ) (at : Area) (first : Bool) (node : ℕ) (forest : Forest) →
    families (shifted_area k n at) first (node + n) forest ≡ map (shifted k n) (families at first node forest)
unfolding families
families_shifted k n at first node nothing = refl
families_shifted k n at first node (piece size sort inner later) =
    let f : Family = family_with at first (is_nothing later) node size sort (children_in inner) in
    let below : List Family = families (inside f) true (node + 1) inner in
    let after : List Family = families (behind at size) false (node + 1 + count inner) later in
    let in_it : node + n + 1 ≡ node + 1 + n = omega arith in
    let behind_it : node + n + 1 + count inner ≡ node + 1 + count inner + n = omega arith in
    let first_part : families (inside (shifted k n f)) true (node + n + 1) inner ≡ map (shifted k n) below =
    ap (λ (m : ℕ). families (shifted_area k n (inside f)) true m inner) in_it ∙ families_shifted k n (inside f) true (node + 1) inner in
    let second_part : families (behind (shifted_area k n at) size) false (node + n + 1 + count inner) later ≡ map (shifted k n) after =
    ap (λ (a : Area). families a false (node + n + 1 + count inner) later) (behind_shifted k n at.along at size)
    ∙ ap (λ (m : ℕ). families (shifted_area k n (behind at size)) false m later) behind_it
    ∙ families_shifted k n (behind at size) false (node + 1 + count inner) later in
    ap (λ (l : List Family). shifted k n f ∷ l)
    (ap (λ (l : List Family). l ++ families (behind (shifted_area k n at) size) false (node + n + 1 + count inner) later) first_part
    ∙ ap (λ (l : List Family). map (shifted k n) below ++ l) second_part
    ∙ sym (map-append (shifted k n) below after))
