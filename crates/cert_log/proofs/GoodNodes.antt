-- The nodes of certificates that are right for a box.
use Rattle.std.proofs.Common.{◌≡◌, ℕ, zero, suc, ◌+◌, ◌^◌, ◌<◌, ◌≤◌, List, [], ◌∷◌, ◌++◌, length, Bool, true, false, refl, sym, ap, ◌∙◌, subst, arith, Option, pow-suc}
use Rattle.std.specs.Prelude.{cond, count_by, not, IsTrue}
use Rattle.std.proofs.lemmas.Nat.{pow_pos}
use Rattle.std.proofs.lemmas.List.{length-append}
use Rattle.std.proofs.lemmas.List.Sums.{sum_by-cons, sum_by-append}
use Rattle.glass_base.specs.Problem.{Problem}
use Rattle.plan_box.specs.declared.var.Var.{Var}
use Rattle.plan_box.specs.Decisions.{is_free}
use Rattle.plan_box.specs.Frames.{frame_of}
use Rattle.plan_box.specs.Halves.{lower_half, upper_half, half_of, half_at, Choice, IsPath}
use Rattle.plan_box.specs.Ranges.{Ranges, root_of}
use Rattle.plan_box.proofs.Depth.{paths_end}
use Rattle.cert_log.specs.declared.certificate.Certificate.{Certificate}
use Rattle.cert_log.specs.declared.certificate.Node.{Node}
use Rattle.cert_log.specs.Good.{IsGood}
use Rattle.cert_log.specs.Splits.{IsNoLargerThanFull}
use Rattle.cert_log.specs.Trees.{Tree, halved, closed, waiting, nodes_of, is_left}
use Rattle.cert_log.proofs.Walked.{Stands, open_bounds, good_stands, good_left_is}

-- one for a node that is no open one
abbrev pub one : Node → ℕ
one node = cond (not (is_left node)) 1 0

-- the nodes that are no open ones
abbrev pub shut : List Node → ℕ
shut nodes = count_by (λ node. not (is_left node)) nodes

tree_counts : (b : Problem) (floor : ℕ) (rs : List Ranges) (t : Tree) → shut (nodes_of t) + length (open_bounds b floor rs t) ≡ length (nodes_of t)
tree_counts b floor rs (halved step v lower upper) =
    let l = tree_counts b floor (half_at lower_half rs step v) lower in let u = tree_counts b floor (half_at upper_half rs step v) upper in
    let c = sum_by-cons one (Node.Split step v) (nodes_of lower ++ nodes_of upper) in let d = sum_by-append one (nodes_of lower) (nodes_of upper) in
    let m = length-append (nodes_of lower) (nodes_of upper) in
    let n = length-append (open_bounds b floor (half_at lower_half rs step v) lower) (open_bounds b floor (half_at upper_half rs step v) upper) in omega arith
tree_counts b floor rs (closed cause) = refl
tree_counts b floor rs waiting = refl

-- the nodes that are no open ones are all but those that the certificate counts as left
pub good_counts : (b : Problem) (rs : List Ranges) (loss : Option ℕ) (c : Certificate) → IsGood b rs loss c → count_by (λ node. not (is_left node)) c.nodes.items + c.left ≡ length c.nodes.items
good_counts b rs loss c good =
    ap (λ (n : ℕ). shut c.nodes.items + n) (good_left_is b rs loss c good)
    ∙ subst (λ (ns : List Node). shut ns + length (open_bounds b c.floor rs good.tree) ≡ length ns) (sym good.nodes_are) (tree_counts b c.floor rs good.tree)

tree_left : (b : Problem) (floor : ℕ) (rs : List Ranges) (t : Tree) → length (open_bounds b floor rs t) ≤ shut (nodes_of t) + 1
tree_left b floor rs (halved step v lower upper) =
    let l = tree_left b floor (half_at lower_half rs step v) lower in let u = tree_left b floor (half_at upper_half rs step v) upper in
    let c = sum_by-cons one (Node.Split step v) (nodes_of lower ++ nodes_of upper) in let d = sum_by-append one (nodes_of lower) (nodes_of upper) in
    let n = length-append (open_bounds b floor (half_at lower_half rs step v) lower) (open_bounds b floor (half_at upper_half rs step v) upper) in omega arith
tree_left b floor rs (closed cause) = omega arith
tree_left b floor rs waiting = omega arith

-- there is at most one open node more than there are others
pub good_left : (b : Problem) (rs : List Ranges) (loss : Option ℕ) (c : Certificate) → IsGood b rs loss c → c.left ≤ count_by (λ node. not (is_left node)) c.nodes.items + 1
good_left b rs loss c good =
    let e = good_left_is b rs loss c good in
    let few = subst (λ (ns : List Node). length (open_bounds b c.floor rs good.tree) ≤ shut ns + 1) (sym good.nodes_are) (tree_left b c.floor rs good.tree) in omega arith

-- no path of splits from the box is longer than this
abbrev PathsEnd : List Ranges → ℕ → Type 0
PathsEnd rs depth = (path : List Choice) → IsPath rs path → length path ≤ depth

abbrev choice : ℕ → Var → Bool → Choice
choice step v upper = record { step = step; var = v; upper = upper }

-- the paths of a half are shorter by one
paths_shorter : (rs : List Ranges) (step : ℕ) (v : Var) (upper : Bool) (depth : ℕ) → IsTrue (is_free rs step v) → PathsEnd rs (suc depth) → PathsEnd (half_at (half_of upper) rs step v) depth
paths_shorter rs step v upper depth free end path is = let e = end (choice step v upper ∷ path) (free, is) in omega arith

one_power : (depth : ℕ) → 1 < 2 ^ suc depth
one_power depth = omega (arith, pow-suc 2 depth, pow_pos depth)

-- a tree that splits a box at free variables has fewer nodes than twice the leaves of a full tree as deep as its paths
tree_few : (b : Problem) (floor : ℕ) (loss : Option ℕ) (rs : List Ranges) (t : Tree) (depth : ℕ) → PathsEnd rs depth → Stands b floor loss rs t → length (nodes_of t) < 2 ^ suc depth
tree_few b floor loss rs (halved step v lower upper) zero end st = absurd (let e = end (choice step v false ∷ []) (st.0, tt) in omega arith)
tree_few b floor loss rs (halved step v lower upper) (suc depth) end st =
    let l = tree_few b floor loss (half_at lower_half rs step v) lower depth (paths_shorter rs step v false depth st.0 end) st.1 in
    let u = tree_few b floor loss (half_at upper_half rs step v) upper depth (paths_shorter rs step v true depth st.0 end) st.2 in
    omega (arith, l, u, length-append (nodes_of lower) (nodes_of upper), pow-suc 2 (suc depth))
tree_few b floor loss rs (closed cause) depth end st = one_power depth
tree_few b floor loss rs waiting depth end st = one_power depth

pub no_larger_than_full : IsNoLargerThanFull
no_larger_than_full b id depth loss c is good =
    let rs = (root_of (frame_of b) id).ranges in
    let stands = good_stands b rs loss c good in
    let few = tree_few b c.floor loss rs good.tree depth (paths_end (frame_of b) id depth is) stands in
    let e : suc depth ≡ depth + 1 = omega arith in
    omega (arith, few, ap length good.nodes_are, ap (λ (n : ℕ). 2 ^ n) e)
