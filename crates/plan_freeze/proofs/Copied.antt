-- Copies of pieces, one behind the other.
use Rattle.std.proofs.Common.{◌≡◌, ℕ, ◌+◌, ◌<◌, List, [], ◌∷◌, ◌++◌, take, drop, length, get_or, refl, sym, ap, ◌∙◌}
use Rattle.std.proofs.lemmas.List.{take_more}
use Rattle.cut_model.specs.declared.family.Sort.{Sort}
use Rattle.cut_model.specs.Tree.{Forest, nothing, piece, neighbour_count, neighbours, plates_of, strips}
use Rattle.cut_model.specs.declared.plan.Plate.{Plate}
use Rattle.cut_model.proofs.Neighbours.{neighbour_count-neighbours}
use Rattle.plan_freeze.specs.Frozen.{first_plates, joined, later_plates}
use Rattle.plan_freeze.proofs.Forests.{first_taken, later_dropped, neighbours-append}

pub joined_assoc : (one two three : Forest) → joined (joined one two) three ≡ joined one (joined two three)
joined_assoc nothing two three = refl
joined_assoc (piece size sort inner later) two three = ap (piece size sort inner) (joined_assoc later two three)

-- one more copy behind copies that stand behind other pieces
pub copied_more : {A : Type 0} (size : A → ℕ) (sort : A → Sort) (inner : A → Forest) (before : Forest) (new copy pieces : List A) (i : ℕ) (p q d : A) → new ≡ copy ++ p ∷ [] → i < length pieces → q ≡ get_or pieces i d →
    neighbours size sort inner (p ∷ []) ≡ neighbours size sort inner (q ∷ []) → neighbours size sort inner copy ≡ joined before (neighbours size sort inner (take i pieces)) →
    neighbours size sort inner new ≡ joined before (neighbours size sort inner (take (i + 1) pieces))
copied_more {A} size sort inner before new copy pieces i p q d pushed lt is same so =
    let tree : List A → Forest = neighbours size sort inner in
    ap tree pushed
    ∙ neighbours-append size sort inner copy (p ∷ [])
    ∙ ap (λ (f : Forest). joined f (tree (p ∷ []))) so
    ∙ ap (λ (f : Forest). joined (joined before (tree (take i pieces))) f) (same ∙ ap (λ (x : A). tree (x ∷ [])) is)
    ∙ joined_assoc before (tree (take i pieces)) (tree (get_or pieces i d ∷ []))
    ∙ ap (joined before) (sym (neighbours-append size sort inner (take i pieces) (get_or pieces i d ∷ [])) ∙ ap tree (sym (take_more pieces i d lt)))

-- copies of the first plates, then those of other plates
pub glued : (k : ℕ) (whole tail none one two : List Plate) → none ≡ [] → plates_of one ≡ joined (plates_of none) (plates_of (take k whole)) → plates_of two ≡ joined (plates_of one) (plates_of tail) →
    plates_of two ≡ joined (first_plates k (plates_of whole)) (plates_of tail)
glued k whole tail none one two empty first behind =
    behind
    ∙ ap (λ (f : Forest). joined f (plates_of tail))
    (first ∙ ap (λ (ps : List Plate). joined (plates_of ps) (plates_of (take k whole))) empty ∙ first_taken (λ p. 0) (λ p. Sort.Branch) (λ p. strips p.pieces.items) k whole)

-- copies of the plates behind the first ones
pub dropped : (k : ℕ) (whole none one : List Plate) → none ≡ [] → plates_of one ≡ joined (plates_of none) (plates_of (drop k whole)) → plates_of one ≡ later_plates k (plates_of whole)
dropped k whole none one empty behind =
    behind ∙ ap (λ (ps : List Plate). joined (plates_of ps) (plates_of (drop k whole))) empty ∙ later_dropped (λ p. 0) (λ p. Sort.Branch) (λ p. strips p.pieces.items) k whole

-- a plan has as many plates as its tree
pub plates_counted : (plates : List Plate) → neighbour_count (plates_of plates) ≡ length plates
plates_counted plates = neighbour_count-neighbours (λ p. 0) (λ p. Sort.Branch) (λ p. strips p.pieces.items) plates
