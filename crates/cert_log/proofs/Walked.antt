-- What the visits of a tree say, said by recursion over the tree: the form in which inductions use it.
use Rattle.std.proofs.Common.{◌≡◌, ℕ, suc, ◌+◌, ◌<◌, max, List, [], ◌∷◌, ◌++◌, length, refl, sym, ap, ◌∙◌, All, append_assoc, Option}
use Rattle.std.specs.Prelude.{IsTrue}
use Rattle.std.proofs.lemmas.List.{length-append}
use Rattle.std.proofs.lemmas.List.Elements.{All-append, All-cons, All-head, All-nil, All-tail}
use Rattle.glass_base.specs.Problem.{Problem}
use Rattle.plan_box.specs.Ranges.{Ranges}
use Rattle.plan_box.specs.Decisions.{is_free}
use Rattle.plan_box.specs.Halves.{lower_half, upper_half, half_at}
use Rattle.plan_box.specs.Bounds.{bound}
use Rattle.plan_box.specs.Reasons.{IsRefuted}
use Rattle.cert_log.specs.declared.certificate.Certificate.{Certificate}
use Rattle.cert_log.specs.declared.certificate.Node.{Node}
use Rattle.cert_log.specs.Good.{IsFloor, IsGood, MayClose, Passes, least_of, node_bounds, visit_bounds}
use Rattle.cert_log.specs.Splits.{SplitsRightly}
use Rattle.cert_log.specs.Trees.{Tree, halved, closed, waiting, nodes_of}
use Rattle.cert_log.specs.Visits.{Visit, visits}

-- walking the tree from the box, each split is of a free variable, and each closed box may be closed
abbrev pub Stands : Problem → ℕ → Option ℕ → List Ranges → Tree → Type 0
Stands b floor loss rs (halved step v lower upper) =
    IsTrue (is_free rs step v) × Stands b floor loss (half_at lower_half rs step v) lower × Stands b floor loss (half_at upper_half rs step v) upper
Stands b floor loss rs (closed cause) = MayClose b floor loss rs cause
Stands b floor loss rs waiting = Unit {0}

-- the bounds of the boxes that the tree leaves open, each raised to the floor, walking it from the box
abbrev pub open_bounds : Problem → ℕ → List Ranges → Tree → List ℕ
open_bounds b floor rs (halved step v lower upper) =
    open_bounds b floor (half_at lower_half rs step v) lower ++ open_bounds b floor (half_at upper_half rs step v) upper
open_bounds b floor rs (closed cause) = []
open_bounds b floor rs waiting = max floor (bound b rs) ∷ []

-- walking the tree from the box, each box that is split is not refuted, and its bound is below the loss that is to be beaten
abbrev pub SplitsBelow : Problem → ℕ → List Ranges → Tree → Type 0
SplitsBelow b to_beat rs (halved step v lower upper) =
    ¬ IsRefuted b rs × (bound b rs < to_beat)
    × SplitsBelow b to_beat (half_at lower_half rs step v) lower
    × SplitsBelow b to_beat (half_at upper_half rs step v) upper
SplitsBelow b to_beat rs (closed cause) = Unit {0}
SplitsBelow b to_beat rs waiting = Unit {0}

-- each node is visited
pub visits_count : (tree : Tree) (rs : List Ranges) → length (visits rs tree) ≡ length (nodes_of tree)
visits_count (halved step v lower upper) rs =
    ap suc (length-append (visits (half_at lower_half rs step v) lower) (visits (half_at upper_half rs step v) upper)
    ∙ ap (λ (n : ℕ). n + length (visits (half_at upper_half rs step v) upper)) (visits_count lower (half_at lower_half rs step v))
    ∙ ap (λ (n : ℕ). length (nodes_of lower) + n) (visits_count upper (half_at upper_half rs step v))
    ∙ sym (length-append (nodes_of lower) (nodes_of upper)))
visits_count (closed cause) rs = refl
visits_count waiting rs = refl

-- what is open in two lists of visits
pub bounds_append : (b : Problem) (floor : ℕ) (xs ys : List Visit) → visit_bounds b floor (xs ++ ys) ≡ visit_bounds b floor xs ++ visit_bounds b floor ys
bounds_append b floor [] ys = refl
bounds_append b floor (x ∷ xs) ys =
    ap (λ (ns : List ℕ). node_bounds b floor x.ranges x.node ++ ns) (bounds_append b floor xs ys) ∙ sym (append_assoc (node_bounds b floor x.ranges x.node) (visit_bounds b floor xs) (visit_bounds b floor ys))

-- the bounds of the open nodes are those of the tree
pub bounds_are : (b : Problem) (floor : ℕ) (tree : Tree) (rs : List Ranges) → visit_bounds b floor (visits rs tree) ≡ open_bounds b floor rs tree
bounds_are b floor (halved step v lower upper) rs =
    bounds_append b floor (visits (half_at lower_half rs step v) lower) (visits (half_at upper_half rs step v) upper)
    ∙ ap (λ (ns : List ℕ). ns ++ visit_bounds b floor (visits (half_at upper_half rs step v) upper)) (bounds_are b floor lower (half_at lower_half rs step v))
    ∙ ap (λ (ns : List ℕ). open_bounds b floor (half_at lower_half rs step v) lower ++ ns) (bounds_are b floor upper (half_at upper_half rs step v))
bounds_are b floor (closed cause) rs = refl
bounds_are b floor waiting rs = refl

-- what holds of two lists holds of the first one
pub all_front : {X : Type 0} (p : X → Type 0) (xs ys : List X) → All p (xs ++ ys) → All p xs
all_front p [] ys h = All-nil p
all_front p (x ∷ xs) ys h = All-cons p x xs (All-head p x (xs ++ ys) h) (all_front p xs ys (All-tail p x (xs ++ ys) h))

-- and of the second one
pub all_back : {X : Type 0} (p : X → Type 0) (xs ys : List X) → All p (xs ++ ys) → All p ys
all_back p [] ys h = h
all_back p (x ∷ xs) ys h = all_back p xs ys (All-tail p x (xs ++ ys) h)

-- where each node may stand at its box, the tree stands
pub stands_from : (b : Problem) (floor : ℕ) (loss : Option ℕ) (tree : Tree) (rs : List Ranges) → All (Passes b floor loss) (visits rs tree) → Stands b floor loss rs tree
stands_from b floor loss (halved step v lower upper) rs h =
    let low = half_at lower_half rs step v in let high = half_at upper_half rs step v in
    let t = All-tail (Passes b floor loss) (record { node = Node.Split step v; ranges = rs }) (visits low lower ++ visits high upper) h in (
      All-head (Passes b floor loss) (record { node = Node.Split step v; ranges = rs }) (visits low lower ++ visits high upper) h,
      stands_from b floor loss lower low (all_front (Passes b floor loss) (visits low lower) (visits high upper) t),
      stands_from b floor loss upper high (all_back (Passes b floor loss) (visits low lower) (visits high upper) t),
    )
stands_from b floor loss (closed cause) rs h = All-head (Passes b floor loss) (record { node = Node.Closed cause; ranges = rs }) [] h
stands_from b floor loss waiting rs h = tt

-- and where it stands, each node may stand at its box
pub stands_all : (b : Problem) (floor : ℕ) (loss : Option ℕ) (tree : Tree) (rs : List Ranges) → Stands b floor loss rs tree → All (Passes b floor loss) (visits rs tree)
stands_all b floor loss (halved step v lower upper) rs h =
    let low = half_at lower_half rs step v in let high = half_at upper_half rs step v in
    All-cons (Passes b floor loss) (record { node = Node.Split step v; ranges = rs }) (visits low lower ++ visits high upper) h.0
    (All-append (Passes b floor loss) (visits low lower) (visits high upper) (stands_all b floor loss lower low h.1) (stands_all b floor loss upper high h.2))
stands_all b floor loss (closed cause) rs h = All-cons (Passes b floor loss) (record { node = Node.Closed cause; ranges = rs }) [] h (All-nil (Passes b floor loss))
stands_all b floor loss waiting rs h = All-cons (Passes b floor loss) (record { node = Node.Left; ranges = rs }) [] tt (All-nil (Passes b floor loss))

-- what is asked of a split, walking the tree, is asked of all visits
pub splits_all : (b : Problem) (to_beat : ℕ) (tree : Tree) (rs : List Ranges)
    → SplitsBelow b to_beat rs tree → All (SplitsRightly b to_beat) (visits rs tree)
splits_all b to_beat (halved step v lower upper) rs h =
    let low = half_at lower_half rs step v in let high = half_at upper_half rs step v in
    let P = SplitsRightly b to_beat in let x : Visit = record { node = Node.Split step v; ranges = rs } in
    let lows = splits_all b to_beat lower low h.2 in let highs = splits_all b to_beat upper high h.3 in
    All-cons P x (visits low lower ++ visits high upper) (h.0, h.1)
    (All-append P (visits low lower) (visits high upper) lows highs)
splits_all b to_beat (closed cause) rs h =
    let P = SplitsRightly b to_beat in
    All-cons P (record { node = Node.Closed cause; ranges = rs }) [] tt (All-nil P)
splits_all b to_beat waiting rs h =
    let P = SplitsRightly b to_beat in All-cons P (record { node = Node.Left; ranges = rs }) [] tt (All-nil P)

module _ (b : Problem) (rs : List Ranges) (loss : Option ℕ) (c : Certificate) (g : IsGood b rs loss c) where
  -- the tree of a right certificate stands
  pub good_stands : Stands b c.floor loss rs g.tree
  good_stands = stands_from b c.floor loss g.tree rs g.passes

  -- it leaves as many boxes open as are said
  pub good_left_is : c.left ≡ length (open_bounds b c.floor rs g.tree)
  good_left_is = g.left_is ∙ ap (λ (ns : List ℕ). length ns) (bounds_are b c.floor g.tree rs)

  -- the bound that is said is the least of the loss and of their bounds
  pub good_bound_is : c.bound ≡ least_of loss (open_bounds b c.floor rs g.tree)
  good_bound_is = g.bound_is ∙ ap (λ (ns : List ℕ). least_of loss ns) (bounds_are b c.floor g.tree rs)

-- a certificate is right where its tree stands, and leaves as many boxes open and has the bound that are said
pub good_of : (b : Problem) (rs : List Ranges) (loss : Option ℕ) (c : Certificate) (tree : Tree)
    → c.nodes.items ≡ nodes_of tree → c.loss ≡ loss → IsFloor b c.floor → Stands b c.floor loss rs tree
    → c.left ≡ length (open_bounds b c.floor rs tree)
    → c.bound ≡ least_of loss (open_bounds b c.floor rs tree) → IsGood b rs loss c
good_of b rs loss c tree nodes same floor stands left least =
    let bounds = sym (bounds_are b c.floor tree rs) in
    record {
      tree = tree;
      nodes_are = nodes;
      loss_is = same;
      floor_is = floor;
      passes = stands_all b c.floor loss tree rs stands;
      left_is = left ∙ ap (λ (ns : List ℕ). length ns) bounds;
      bound_is = least ∙ ap (λ (ns : List ℕ). least_of loss ns) bounds;
    }
