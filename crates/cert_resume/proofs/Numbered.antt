-- The boxes that a tree leaves open, with their identities.
use Rattle.std.proofs.Common.{◌≡◌, ℕ, ◌+◌, List, [], ◌∷◌, ◌++◌, length, refl, arith, All, ◌∙◌, sym, ap, Option}
use Rattle.std.specs.Prelude.{cond, count_by}
use Rattle.std.specs.List.{AllZip}
use Rattle.std.proofs.lemmas.List.{length-append}
use Rattle.std.proofs.lemmas.List.Elements.{All-cons, All-nil}
use Rattle.std.proofs.lemmas.List.Sums.{sum_by-cons, sum_by-append}
use Rattle.glass_base.specs.Problem.{Problem}
use Rattle.plan_box.specs.declared.frame.Frame.{Frame}
use Rattle.plan_box.specs.Halves.{lower_half, upper_half, half_at}
use Rattle.plan_box.specs.Ranges.{PlainBox, Ranges}
use Rattle.cert_log.specs.declared.certificate.Certificate.{Certificate}
use Rattle.cert_log.specs.declared.certificate.Node.{Node}
use Rattle.cert_log.specs.Good.{IsGood}
use Rattle.cert_log.specs.Lawful.{numbered}
use Rattle.cert_log.specs.Trees.{Tree, halved, closed, waiting, nodes_of, is_left}
use Rattle.cert_log.proofs.Walked.{Stands, open_bounds, good_left_is, good_stands}
use Rattle.cert_resume.specs.OpenBoxes.{CanBeWalked, SplitsFree, numbered_from, open_boxes}

pub are_numbered : (f : Frame) (n : ℕ) (boxes : List (List Ranges)) → numbered n (numbered_from f n boxes)
are_numbered f n [] = tt
are_numbered f n (rs ∷ boxes) = (refl, are_numbered f (n + 1) boxes)

pub have_frame : (f : Frame) (n : ℕ) (boxes : List (List Ranges)) → All (λ (x : PlainBox). x.frame ≡ f) (numbered_from f n boxes)
have_frame f n [] = All-nil (λ (x : PlainBox). x.frame ≡ f)
have_frame f n (rs ∷ boxes) = All-cons (λ (x : PlainBox). x.frame ≡ f) (record { id = n; frame = f; ranges = rs }) (numbered_from f (n + 1) boxes) refl (have_frame f (n + 1) boxes)

pub as_many : (f : Frame) (n : ℕ) (boxes : List (List Ranges)) → length (numbered_from f n boxes) ≡ length boxes
as_many f n [] = refl
as_many f n (rs ∷ boxes) = let e = as_many f (n + 1) boxes in omega (arith, e)

-- one for an open node
abbrev one : Node → ℕ
one node = cond (is_left node) 1 0

-- there is a box for each open node
pub one_for_each : (rs : List Ranges) (tree : Tree) → length (open_boxes rs tree) ≡ count_by is_left (nodes_of tree)
one_for_each rs (halved step v lower upper) =
    let l = one_for_each (half_at lower_half rs step v) lower in let u = one_for_each (half_at upper_half rs step v) upper in
    let n = length-append (open_boxes (half_at lower_half rs step v) lower) (open_boxes (half_at upper_half rs step v) upper) in
    let c = sum_by-cons one (Node.Split step v) (nodes_of lower ++ nodes_of upper) in let d = sum_by-append one (nodes_of lower) (nodes_of upper) in omega arith
one_for_each rs (closed cause) = refl
one_for_each rs waiting = refl

-- what holds of each box by its ranges
pub by_ranges : (R : List Ranges → Certificate → Type 0) (f : Frame) (n : ℕ) (boxes : List (List Ranges)) (parts : List Certificate) → AllZip (λ (x : PlainBox) (c : Certificate). R x.ranges c) (numbered_from f n boxes) parts
    → AllZip (λ (rs : List Ranges) (c : Certificate). R rs c) boxes parts
by_ranges R f n [] [] all = tt
by_ranges R f n [] (c ∷ cs) all = absurd all
by_ranges R f n (rs ∷ boxes) [] all = absurd all
by_ranges R f n (rs ∷ boxes) (c ∷ cs) all = (all.0, by_ranges R f (n + 1) boxes cs all.1)

-- and a bound for each box
pub bound_for_each : (b : Problem) (floor : ℕ) (rs : List Ranges) (tree : Tree) → length (open_bounds b floor rs tree) ≡ length (open_boxes rs tree)
bound_for_each b floor rs (halved step v lower upper) =
    let low = half_at lower_half rs step v in let high = half_at upper_half rs step v in
    let l = bound_for_each b floor low lower in let u = bound_for_each b floor high upper in
    let n = length-append (open_boxes low lower) (open_boxes high upper) in let m = length-append (open_bounds b floor low lower) (open_bounds b floor high upper) in omega arith
bound_for_each b floor rs (closed cause) = refl
bound_for_each b floor rs waiting = refl

stands_free : (b : Problem) (floor : ℕ) (loss : Option ℕ) (rs : List Ranges) (tree : Tree) → Stands b floor loss rs tree → SplitsFree rs tree
stands_free b floor loss rs (halved step v lower upper) st =
    (st.0, stands_free b floor loss (half_at lower_half rs step v) lower st.1, stands_free b floor loss (half_at upper_half rs step v) upper st.2)
stands_free b floor loss rs (closed cause) st = tt
stands_free b floor loss rs waiting st = tt

-- a right certificate can be walked
pub can_be_walked : (b : Problem) (loss : Option ℕ) (rs : List Ranges) (c : Certificate) → IsGood b rs loss c → CanBeWalked rs c.nodes.items
can_be_walked b loss rs c good = record {
  tree = good.tree;
  nodes_are = good.nodes_are;
  free = stands_free b c.floor loss rs good.tree (good_stands b rs loss c good);
}

-- and has as many open nodes as it says
pub left_counted : (b : Problem) (loss : Option ℕ) (rs : List Ranges) (c : Certificate) → IsGood b rs loss c → c.left ≡ count_by is_left c.nodes.items
left_counted b loss rs c good =
    good_left_is b rs loss c good ∙ bound_for_each b c.floor rs good.tree ∙ one_for_each rs good.tree
    ∙ ap (λ (ns : List Node). count_by is_left ns) (sym good.nodes_are)
