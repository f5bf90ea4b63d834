-- The walk over nodes with the boxes that wait is the walk over the tree.
use Rattle.std.proofs.Common.{◌≡◌, ◌≢◌, ℕ, ◌+◌, ◌≤◌, List, [], ◌∷◌, ◌++◌, length, drop, refl, sym, ap, ◌∙◌, subst, append_assoc, All}
use Rattle.std.proofs.lemmas.List.{append-nil, drop_all, length_push}
use Rattle.std.proofs.lemmas.List.Elements.{All-append, All-cons, All-head, All-nil, All-tail}
use Rattle.plan_box.specs.declared.frame.Frame.{Frame}
use Rattle.plan_box.specs.Halves.{lower_half, upper_half, half_at, child_of}
use Rattle.plan_box.specs.Ranges.{PlainBox, Ranges, root_of}
use Rattle.cert_log.specs.declared.certificate.Node.{Node}
use Rattle.cert_log.specs.Trees.{Tree, halved, closed, waiting, nodes_of}
use Rattle.cert_resume.specs.OpenBoxes.{CanBeWalked, SplitsFree, numbered_from, open_boxes}
use Rattle.cert_resume.specs.inner.Walks.{HasCome, MayPass, MayWalk, ahead, boxes_behind, left_at, open_from}

abbrev OfFrame : Frame → PlainBox → Type 0
OfFrame f x = x.frame ≡ f

ahead_push : (xs : List PlainBox) (x : PlainBox) → ahead (xs ++ x ∷ []) ≡ x.ranges ∷ ahead xs
ahead_push [] x = refl
ahead_push (y ∷ ys) x = ap (λ (boxes : List (List Ranges)). boxes ++ y.ranges ∷ []) (ahead_push ys x)

ahead_pair : (xs : List PlainBox) (u l : PlainBox) → ahead (xs ++ u ∷ l ∷ []) ≡ l.ranges ∷ u.ranges ∷ ahead xs
ahead_pair [] u l = refl
ahead_pair (y ∷ ys) u l = ap (λ (boxes : List (List Ranges)). boxes ++ y.ranges ∷ []) (ahead_pair ys u l)

none_from : (boxes : List (List Ranges)) → open_from boxes [] ≡ []
none_from [] = refl
none_from (rs ∷ boxes) = refl

may_none : (boxes : List (List Ranges)) → MayWalk boxes []
may_none [] = tt
may_none (rs ∷ boxes) = tt

-- where a tree comes next, it can be walked and its open boxes are found
may_tree : (tree : Tree) (rs : List Ranges) (boxes : List (List Ranges)) (later : List Node) → SplitsFree rs tree → MayWalk boxes later → MayWalk (rs ∷ boxes) (nodes_of tree ++ later)
may_tree (halved step v lower upper) rs boxes later free may =
    let low = half_at lower_half rs step v in let high = half_at upper_half rs step v in (
      free.0,
      subst (λ (ns : List Node). MayWalk (low ∷ high ∷ boxes) ns) (sym (append_assoc (nodes_of lower) (nodes_of upper) later))
          (may_tree lower low (high ∷ boxes) (nodes_of upper ++ later) free.1 (may_tree upper high boxes later free.2 may)),
    )
may_tree (closed cause) rs boxes later free may = may
may_tree waiting rs boxes later free may = may

open_tree : (tree : Tree) (rs : List Ranges) (boxes : List (List Ranges)) (later : List Node) → open_from (rs ∷ boxes) (nodes_of tree ++ later) ≡ open_boxes rs tree ++ open_from boxes later
open_tree (halved step v lower upper) rs boxes later =
    let low = half_at lower_half rs step v in let high = half_at upper_half rs step v in
    ap (λ (ns : List Node). open_from (low ∷ high ∷ boxes) ns) (append_assoc (nodes_of lower) (nodes_of upper) later)
    ∙ open_tree lower low (high ∷ boxes) (nodes_of upper ++ later)
    ∙ ap (λ (xs : List (List Ranges)). open_boxes low lower ++ xs) (open_tree upper high boxes later)
    ∙ sym (append_assoc (open_boxes low lower) (open_boxes high upper) (open_from boxes later))
open_tree (closed cause) rs boxes later = refl
open_tree waiting rs boxes later = refl

-- one whole tree
pub open_whole : (rs : List Ranges) (nodes : List Node) (tree : Tree) → nodes ≡ nodes_of tree → open_from (rs ∷ []) nodes ≡ open_boxes rs tree
open_whole rs nodes tree e =
    ap (λ (ns : List Node). open_from (rs ∷ []) ns) (e ∙ sym (append-nil (nodes_of tree))) ∙ open_tree tree rs [] [] ∙ append-nil (open_boxes rs tree)

-- nothing is walked yet
pub starts : (f : Frame) (nodes : List Node) (waits : List PlainBox) → waits ≡ root_of f 0 ∷ [] → CanBeWalked (root_of f 0).ranges nodes
    → HasCome f (numbered_from f 0 (open_from ((root_of f 0).ranges ∷ []) nodes)) nodes waits []
starts f nodes waits e can =
    subst (λ (xs : List PlainBox). HasCome f (numbered_from f 0 (open_from ((root_of f 0).ranges ∷ []) nodes)) nodes xs []) (sym e)
    (record {
      frames = All-cons (OfFrame f) (root_of f 0) [] refl (All-nil (OfFrame f));
      may =
          subst (λ (ns : List Node). MayWalk ((root_of f 0).ranges ∷ []) ns) (append-nil (nodes_of can.tree) ∙ sym can.nodes_are)
          (may_tree can.tree (root_of f 0).ranges [] [] can.free tt);
      found = refl;
    })

-- where a node comes next, a box waits
pub waits : (f : Frame) (all : List PlainBox) (n : Node) (nodes : List Node) (ahead_of boxes : List PlainBox) → HasCome f all (n ∷ nodes) ahead_of boxes → ahead_of ≢ []
waits f all n nodes [] boxes come = λ none. come.may
waits f all n nodes (x ∷ xs) boxes come = λ none. cc none

all_front : (f : Frame) (xs : List PlainBox) (x : PlainBox) → All (OfFrame f) (xs ++ x ∷ []) → All (OfFrame f) xs
all_front f [] x all = All-nil (OfFrame f)
all_front f (y ∷ ys) x all = All-cons (OfFrame f) y ys (All-head (OfFrame f) y (ys ++ x ∷ []) all) (all_front f ys x (All-tail (OfFrame f) y (ys ++ x ∷ []) all))

all_last : (f : Frame) (xs : List PlainBox) (x : PlainBox) → All (OfFrame f) (xs ++ x ∷ []) → x.frame ≡ f
all_last f [] x all = All-head (OfFrame f) x [] all
all_last f (y ∷ ys) x all = all_last f ys x (All-tail (OfFrame f) y (ys ++ x ∷ []) all)

module _ (f : Frame) (all : List PlainBox) (n : Node) (nodes : List Node) (before : List PlainBox) (x : PlainBox) (boxes : List PlainBox) (come : HasCome f all (n ∷ nodes) (before ++ x ∷ []) boxes) where
  -- the box of the node that comes next
  pub its_frame : x.frame ≡ f
  its_frame = all_last f before x come.frames

  here : MayWalk (x.ranges ∷ ahead before) (n ∷ nodes)
  here = subst (λ (bs : List (List Ranges)). MayWalk bs (n ∷ nodes)) (ahead_push before x) come.may

  rest : boxes ++ numbered_from f (length boxes) (open_from (x.ranges ∷ ahead before) (n ∷ nodes)) ≡ all
  rest = ap (λ (bs : List (List Ranges)). boxes ++ numbered_from f (length boxes) (open_from bs (n ∷ nodes))) (sym (ahead_push before x)) ∙ come.found

may_pass : (rs : List Ranges) (boxes : List (List Ranges)) (n : Node) (nodes : List Node) → MayWalk (rs ∷ boxes) (n ∷ nodes) → MayPass rs n
may_pass rs boxes (Node.Split step v) nodes may = may.0
may_pass rs boxes (Node.Closed cause) nodes may = tt
may_pass rs boxes Node.Left nodes may = tt

-- the node that comes next can be passed at its box
pub may_next : (f : Frame) (all : List PlainBox) (n : Node) (nodes before : _) (x : PlainBox) (boxes : List PlainBox) → HasCome f all (n ∷ nodes) (before ++ x ∷ []) boxes → MayPass x.ranges n
may_next f all n nodes before x boxes come = may_pass x.ranges (ahead before) n nodes (here f all n nodes before x boxes come)

goes_on : (f : Frame) (all : List PlainBox) (n : Node) (nodes : List Node) (before : List PlainBox) (x : PlainBox) (boxes : List PlainBox) → HasCome f all (n ∷ nodes) (before ++ x ∷ []) boxes
    → HasCome f all nodes (before ++ boxes_behind n x) (boxes ++ left_at (length boxes) n x)
goes_on f all (Node.Split step v) nodes before x boxes come =
    let frame = its_frame f all (Node.Split step v) nodes before x boxes come in
    let u = child_of upper_half x step v 0 in let l = child_of lower_half x step v 0 in
    let pair = ahead_pair before u l in
    record {
      frames =
          All-append (OfFrame f) before (u ∷ l ∷ []) (all_front f before x come.frames)
          (All-cons (OfFrame f) u (l ∷ []) frame (All-cons (OfFrame f) l [] frame (All-nil (OfFrame f))));
      may = subst (λ (bs : List (List Ranges)). MayWalk bs nodes) (sym pair) (here f all (Node.Split step v) nodes before x boxes come).1;
      found =
          ap (λ (xs : List PlainBox). xs ++ numbered_from f (length xs) (open_from (ahead (before ++ u ∷ l ∷ [])) nodes)) (append-nil boxes)
          ∙ ap (λ (bs : List (List Ranges)). boxes ++ numbered_from f (length boxes) (open_from bs nodes)) pair
          ∙ rest f all (Node.Split step v) nodes before x boxes come;
    }
goes_on f all (Node.Closed cause) nodes before x boxes come =
    let none = append-nil before in
    record {
      frames = subst (All (OfFrame f)) (sym none) (all_front f before x come.frames);
      may = subst (λ (xs : List PlainBox). MayWalk (ahead xs) nodes) (sym none) (here f all (Node.Closed cause) nodes before x boxes come);
      found =
          ap (λ (xs : List PlainBox). xs ++ numbered_from f (length xs) (open_from (ahead (before ++ [])) nodes)) (append-nil boxes)
          ∙ ap (λ (xs : List PlainBox). boxes ++ numbered_from f (length boxes) (open_from (ahead xs) nodes)) none
          ∙ rest f all (Node.Closed cause) nodes before x boxes come;
    }
goes_on f all Node.Left nodes before x boxes come =
    let none = append-nil before in
    let frame = its_frame f all Node.Left nodes before x boxes come in
    let y : PlainBox = record x { id = length boxes } in
    let later = open_from (ahead before) nodes in
    record {
      frames = subst (All (OfFrame f)) (sym none) (all_front f before x come.frames);
      may = subst (λ (xs : List PlainBox). MayWalk (ahead xs) nodes) (sym none) (here f all Node.Left nodes before x boxes come);
      found =
          ap (λ (xs : List PlainBox). (boxes ++ y ∷ []) ++ numbered_from f (length (boxes ++ y ∷ [])) (open_from (ahead xs) nodes)) none
          ∙ ap (λ (k : ℕ). (boxes ++ y ∷ []) ++ numbered_from f k later) (length_push boxes y)
          ∙ append_assoc boxes (y ∷ []) (numbered_from f (length boxes + 1) later)
          ∙ ap (λ (g : Frame). boxes ++ record { id = length boxes; frame = g; ranges = x.ranges } ∷ numbered_from f (length boxes + 1) later) frame
          ∙ rest f all Node.Left nodes before x boxes come;
    }

-- one more node is walked
pub walks : (f : Frame) (all : List PlainBox) (n : Node) (nodes : List Node) (before : List PlainBox) (x : PlainBox) (boxes after more : List PlainBox) → HasCome f all (n ∷ nodes) (before ++ x ∷ []) boxes
    → after ≡ before ++ boxes_behind n x → more ≡ boxes ++ left_at (length boxes) n x → HasCome f all nodes after more
walks f all n nodes before x boxes after more come then found =
    subst (λ (xs : List PlainBox). HasCome f all nodes xs more) (sym then) (subst (λ (xs : List PlainBox). HasCome f all nodes (before ++ boxes_behind n x) xs) (sym found) (goes_on f all n nodes before x boxes come))

-- all nodes are walked
pub all_found : (f : Frame) (all ahead_of boxes : List PlainBox) → HasCome f all [] ahead_of boxes → boxes ≡ all
all_found f all ahead_of boxes come =
    sym (append-nil boxes) ∙ ap (λ (xs : List (List Ranges)). boxes ++ numbered_from f (length boxes) xs) (sym (none_from (ahead ahead_of))) ∙ come.found

-- the box that was taken is the last one that waited
pub popped : (f : Frame) (all : List PlainBox) (nodes : List Node) (ahead_of before : List PlainBox) (x : PlainBox) (boxes : List PlainBox) → HasCome f all nodes ahead_of boxes → ahead_of ≡ before ++ x ∷ []
    → HasCome f all nodes (before ++ x ∷ []) boxes
popped f all nodes ahead_of before x boxes come e = subst (λ (xs : List PlainBox). HasCome f all nodes xs boxes) e come

-- where no node is left, all boxes are found
pub found_all : (f : Frame) (all : List PlainBox) (nodes : List Node) (k : ℕ) (ahead_of boxes : List PlainBox) → HasCome f all (drop k nodes) ahead_of boxes → length nodes ≤ k → boxes ≡ all
found_all f all nodes k ahead_of boxes come le = all_found f all ahead_of boxes (subst (λ (ns : List Node). HasCome f all ns ahead_of boxes) (drop_all k nodes le) come)
