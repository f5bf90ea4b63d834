-- Nodes are numbered in cutting order.
use Rattle.std.proofs.Common.{◌≡◌, ℕ, zero, suc, ◌+◌, List, [], ◌∷◌, ◌++◌, length, length-append, map, Bool, true, false, refl, arith, sym, ap, ◌∙◌}
use Rattle.glass_base.specs.Problem.{Problem}
use Rattle.cut_model.specs.declared.family.Area.{Area}
use Rattle.cut_model.specs.declared.family.Family.{Family}
use Rattle.cut_model.specs.Tree.{Forest, nothing, piece, is_nothing, children_in, count}
use Rattle.cut_model.specs.Families.{family_with, families, inside, behind, first_plate, rows_of}
use Rattle.cut_model.specs.Sized.{on_plates}
use Rattle.cut_model.proofs.OnPlates.{count-on_plates}
use Rattle.cut_model.specs.Numbers.{numbers_from}

from_again : (n m k : ℕ) → n ≡ m → numbers_from n k ≡ numbers_from m k
from_again n m k e = ap (λ i. numbers_from i k) e

from-append : (n a b : ℕ) → numbers_from n (a + b) ≡ numbers_from n a ++ numbers_from (n + a) b
from-append n zero b =
    let left : zero + b ≡ b = omega arith in
    rw left (from_again n (n + zero) b (omega arith))
from-append n (suc a) b =
    let left : suc a + b ≡ suc (a + b) = omega arith in
    rw left (ap (λ l. n ∷ l) (from-append (n + 1) a b ∙ ap (λ l. numbers_from (n + 1) a ++ l) (from_again (n + 1 + a) (n + suc a) b (omega arith))))

abbrev nodes : List Family → List ℕ
nodes fs = map (λ r. r.node) (map (λ f. f.row) fs)

nodes-append : (xs ys : List Family) → nodes (xs ++ ys) ≡ nodes xs ++ nodes ys
nodes-append [] ys = refl
nodes-append (x ∷ xs) ys = ap (λ l. x.row.node ∷ l) (nodes-append xs ys)

pub numbered : (at : Area) (first : Bool) (node : ℕ) (forest : Forest) → nodes (families at first node forest) ≡ numbers_from node (count forest)
unfolding families
numbered at first node nothing = refl
numbered at first node (piece size sort inner later) =
    let f : Family = family_with at first (is_nothing later) node size sort (children_in inner) in
    let below : List Family = families (inside f) true (node + 1) inner in
    let all : 1 + count inner + count later ≡ suc (count inner + count later) = omega arith in
    rw (all, nodes-append below (families (behind at size) false (node + 1 + count inner) later), numbered (inside f) true (node + 1) inner, numbered (behind at size) false (node + 1 + count inner) later)
    (ap (λ l. node ∷ l) (sym (from-append (node + 1) (count inner) (count later))))

-- the rows of a plan have the node numbers from 0 on, in their order
pub rows_numbered : (b : Problem) (plan : Forest) → map (λ r. r.node) (rows_of b plan) ≡ numbers_from 0 (count plan)
rows_numbered b plan = numbered (first_plate b) true 0 (on_plates b plan) ∙ ap (numbers_from 0) (count-on_plates b plan)

-- a plan has as many families as pieces
pub length-families : (at : Area) (first : Bool) (node : ℕ) (forest : Forest) → length (families at first node forest) ≡ count forest
unfolding families
length-families at first node nothing = refl
length-families at first node (piece size sort inner later) =
    let f : Family = family_with at first (is_nothing later) node size sort (children_in inner) in
    let below : List Family = families (inside f) true (node + 1) inner in
    let after : List Family = families (behind at size) false (node + 1 + count inner) later in
    omega (arith, length-append below after, length-families (inside f) true (node + 1) inner, length-families (behind at size) false (node + 1 + count inner) later)
