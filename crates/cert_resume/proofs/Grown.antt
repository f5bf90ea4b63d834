-- A right certificate with a right part in the place of each open node is right.
use Rattle.std.proofs.Common.{◌≡◌, ℕ, ◌+◌, ◌≤◌, inl, inr, List, [], ◌∷◌, ◌++◌, length, refl, sym, ap, ◌∙◌, subst, fold, append_assoc, map, max, None, Option, Some, option_map, arith, All}
use Rattle.std.specs.Prelude.{sum_by}
use Rattle.std.specs.List.{AllZip}
use Rattle.std.proofs.lemmas.Grind.{fold-append}
use Rattle.std.proofs.lemmas.List.{append-nil, length-append, length-map, map-append}
use Rattle.std.proofs.lemmas.List.Elements.{All-head, All-tail}
use Rattle.std.proofs.lemmas.List.Sums.{sum_by-append}
use Rattle.glass_base.specs.Problem.{Problem}
use Rattle.plan_box.specs.Halves.{lower_half, upper_half, half_at}
use Rattle.plan_box.specs.Ranges.{Ranges}
use Rattle.plan_box.specs.declared.var.Var.{Var}
use Rattle.cert_log.specs.declared.certificate.Certificate.{Certificate}
use Rattle.cert_log.specs.declared.certificate.Node.{Node}
use Rattle.cert_log.specs.declared.history.Cause.{Cause}
use Rattle.cert_log.specs.Good.{IsFloor, IsGood, MayClose, Reaches, lesser}
use Rattle.cert_log.specs.Trees.{Tree, halved, closed, waiting, nodes_of}
use Rattle.cert_log.proofs.Walked.{Stands, open_bounds, good_bound_is, good_left_is, good_of, good_stands}
use Rattle.cert_resume.specs.Joins.{AreRightParts, IsAtMost, IsJoined, KeepsRight, bounds_of, filled, lesser_of, nodes_in}
use Rattle.cert_resume.specs.OpenBoxes.{open_boxes}
use Rattle.cert_resume.proofs.Least.{at_most_itself, at_most_least, least_raised, reaches_less}

-- a box that may be closed for a loss may be closed for a lesser one
closes_less : (b : Problem) (floor : ℕ) (m before : Option ℕ) (rs : List Ranges) (cause : Cause) → IsAtMost m before → MayClose b floor before rs cause → MayClose b floor m rs cause
closes_less b floor m before rs (Cause.Reason r) at_most may = may
closes_less b floor m before rs Cause.Bound at_most may = reaches_less m before _ at_most may
closes_less b floor m before rs Cause.Floor at_most may = reaches_less m before floor at_most may
closes_less b floor m before rs Cause.Unsaid at_most (inl refuted) = inl refuted
closes_less b floor m before rs Cause.Unsaid at_most (inr reaches) = inr (reaches_less m before _ at_most reaches)

-- a number that reaches a loss, and a greater one
reach_more : (m : Option ℕ) (less more : ℕ) → less ≤ more → Reaches m less → Reaches m more
reach_more None less more le reaches = reaches
reach_more (Some k) less more le reaches = omega (arith, le, reaches)

-- a box that may be closed by a floor may be closed by a greater one
closes_more : (b : Problem) (less more : ℕ) (m : Option ℕ) (rs : List Ranges) (cause : Cause) → less ≤ more → MayClose b less m rs cause → MayClose b more m rs cause
closes_more b less more m rs (Cause.Reason r) le may = may
closes_more b less more m rs Cause.Bound le may = may
closes_more b less more m rs Cause.Floor le may = reach_more m less more le may
closes_more b less more m rs Cause.Unsaid le may = may

stands_more : (b : Problem) (less more : ℕ) (m : Option ℕ) (rs : List Ranges) (tree : Tree) → less ≤ more → Stands b less m rs tree → Stands b more m rs tree
stands_more b less more m rs (halved step v lower upper) le st = (
  st.0,
  stands_more b less more m (half_at lower_half rs step v) lower le st.1,
  stands_more b less more m (half_at upper_half rs step v) upper le st.2,
)
stands_more b less more m rs (closed cause) le st = closes_more b less more m rs cause le st
stands_more b less more m rs waiting le st = tt

-- bounds that are raised to a greater floor
raised_more : (b : Problem) (less more : ℕ) (rs : List Ranges) (tree : Tree) → less ≤ more → map (max more) (open_bounds b less rs tree) ≡ open_bounds b more rs tree
raised_more b less more rs (halved step v lower upper) le =
    let low = half_at lower_half rs step v in let high = half_at upper_half rs step v in
    map-append (max more) (open_bounds b less low lower) (open_bounds b less high upper)
    ∙ ap (λ (ns : List ℕ). ns ++ map (max more) (open_bounds b less high upper)) (raised_more b less more low lower le)
    ∙ ap (λ (ns : List ℕ). open_bounds b more low lower ++ ns) (raised_more b less more high upper le)
raised_more b less more rs (closed cause) le = refl
raised_more b less more rs waiting le = ap (λ (n : ℕ). n ∷ []) (omega (arith, le))

count_raised : (b : Problem) (less more : ℕ) (rs : List Ranges) (tree : Tree) → less ≤ more → length (open_bounds b less rs tree) ≡ length (open_bounds b more rs tree)
count_raised b less more rs tree le = sym (length-map (open_bounds b less rs tree) (max more)) ∙ ap (λ (ns : List ℕ). length ns) (raised_more b less more rs tree le)

-- a list that goes with two lists, one behind the other, in its two parts
record HasParts (A B : Type 0) (R : A → B → Type 0) (xs ys : List A) (zs : List B) : Type 0 where
  first : List B
  second : List B
  parts_are : zs ≡ first ++ second
  left : AllZip R xs first
  right : AllZip R ys second

zip_parts : {A B : Type 0} (R : A → B → Type 0) (xs ys : List A) (zs : List B) → AllZip R (xs ++ ys) zs → HasParts A B R xs ys zs
zip_parts R [] ys zs h = record { first = []; second = zs; parts_are = refl; left = tt; right = h }
zip_parts R (x ∷ xs) ys [] h = absurd h
zip_parts {A} {B} R (x ∷ xs) ys (z ∷ zs) h =
    let r = zip_parts R xs ys zs h.1 in
    record { first = z ∷ r.first; second = r.second; parts_are = ap (λ (l : List B). z ∷ l) r.parts_are; left = (h.0, r.left); right = r.right }

-- a part that is right for a box, and whose floor is no greater
abbrev IsPart : Problem → ℕ → Option ℕ → List Ranges → Certificate → Type 0
IsPart b floor m rs p = IsGood b rs m p × (p.floor ≤ floor)

are_parts : (b : Problem) (floor : ℕ) (m : Option ℕ) (boxes : List (List Ranges)) (parts : List Certificate) → AreRightParts b m boxes parts → All (λ (p : Certificate). p.floor ≤ floor) parts
    → AllZip (IsPart b floor m) boxes parts
are_parts b floor m [] [] right low = tt
are_parts b floor m [] (p ∷ ps) right low = absurd right
are_parts b floor m (rs ∷ boxes) [] right low = absurd right
are_parts b floor m (rs ∷ boxes) (p ∷ ps) right low =
    ((right.0, All-head (λ (q : Certificate). q.floor ≤ floor) p ps low), are_parts b floor m boxes ps right.1 (All-tail (λ (q : Certificate). q.floor ≤ floor) p ps low))

abbrev left_in : Certificate → ℕ
left_in p = p.left

-- the tree that some nodes are with these parts, whatever follows them
record IsGrown (b : Problem) (floor : ℕ) (m : Option ℕ) (rs : List Ranges) (nodes : List Node) (parts : List Certificate) : Type 0 where
  tree : Tree
  stands : Stands b floor m rs tree
  nodes_are : (later : List Node) (more : List (List Node)) → filled (nodes ++ later) (nodes_in parts ++ more) ≡ nodes_of tree ++ filled later more
  left_is : sum_by left_in parts ≡ length (open_bounds b floor rs tree)
  bound_is : (x : Option ℕ) → IsAtMost x m → fold lesser_of x (map (option_map (max floor)) (bounds_of parts)) ≡ fold lesser x (open_bounds b floor rs tree)

-- both halves of a box
both : (b : Problem) (floor : ℕ) (m : Option ℕ) (rs : List Ranges) (step : ℕ) (v : Var) (lows highs : List Node) (first second : List Certificate) → Stands b floor m rs (halved step v waiting waiting)
    → IsGrown b floor m (half_at lower_half rs step v) lows first → IsGrown b floor m (half_at upper_half rs step v) highs second → IsGrown b floor m rs (Node.Split step v ∷ (lows ++ highs)) (first ++ second)
both b floor m rs step v lows highs first second free l u =
    let low = half_at lower_half rs step v in let high = half_at upper_half rs step v in
    record {
      tree = halved step v l.tree u.tree;
      stands = (free.0, l.stands, u.stands);
      nodes_are = λ later more. ap (λ (ns : List Node). Node.Split step v ∷ ns) (pair later more);
      left_is =
          sum_by-append left_in first second ∙ ap (λ (n : ℕ). n + sum_by left_in second) l.left_is ∙ ap (λ (n : ℕ). length (open_bounds b floor low l.tree) + n) u.left_is
          ∙ sym (length-append (open_bounds b floor low l.tree) (open_bounds b floor high u.tree));
      bound_is = λ x at_most. bound x at_most;
    }
  where
    pair : (later : List Node) (more : List (List Node)) → filled ((lows ++ highs) ++ later) (nodes_in (first ++ second) ++ more) ≡ (nodes_of l.tree ++ nodes_of u.tree) ++ filled later more
    pair later more =
        ap (λ (ns : List Node). filled ns (nodes_in (first ++ second) ++ more)) (append_assoc lows highs later)
        ∙ ap (λ (ps : List (List Node)). filled (lows ++ (highs ++ later)) (ps ++ more)) (map-append (λ (p : Certificate). p.nodes.items) first second)
        ∙ ap (λ (ps : List (List Node)). filled (lows ++ (highs ++ later)) ps) (append_assoc (nodes_in first) (nodes_in second) more)
        ∙ l.nodes_are (highs ++ later) (nodes_in second ++ more)
        ∙ ap (λ (ns : List Node). nodes_of l.tree ++ ns) (u.nodes_are later more)
        ∙ sym (append_assoc (nodes_of l.tree) (nodes_of u.tree) (filled later more))

    bound : (x : Option ℕ) → IsAtMost x m → fold lesser_of x (map (option_map (max floor)) (bounds_of (first ++ second))) ≡ fold lesser x (open_bounds b floor (half_at lower_half rs step v) l.tree ++ open_bounds b floor (half_at upper_half rs step v) u.tree)
    bound x at_most =
        let low = open_bounds b floor (half_at lower_half rs step v) l.tree in let high = open_bounds b floor (half_at upper_half rs step v) u.tree in
        ap (λ (os : List (Option ℕ)). fold lesser_of x (map (option_map (max floor)) os)) (map-append (λ (p : Certificate). p.bound) first second)
        ∙ ap (λ (os : List (Option ℕ)). fold lesser_of x os) (map-append (option_map (max floor)) (bounds_of first) (bounds_of second))
        ∙ fold-append lesser_of x (map (option_map (max floor)) (bounds_of first)) (map (option_map (max floor)) (bounds_of second))
        ∙ ap (λ (o : Option ℕ). fold lesser_of o (map (option_map (max floor)) (bounds_of second))) (l.bound_is x at_most)
        ∙ u.bound_is (fold lesser x low) (at_most_least x m low at_most)
        ∙ sym (fold-append lesser x low high)

grows : (b : Problem) (floor : ℕ) (m before : Option ℕ) (tree : Tree) (rs : List Ranges) (parts : List Certificate) → IsAtMost m before → Stands b floor before rs tree → AllZip (IsPart b floor m) (open_boxes rs tree) parts
    → IsGrown b floor m rs (nodes_of tree) parts
grows b floor m before (halved step v lower upper) rs parts at_most stands right =
    let low = half_at lower_half rs step v in let high = half_at upper_half rs step v in
    let p = zip_parts (IsPart b floor m) (open_boxes low lower) (open_boxes high upper) parts right in
    subst (λ (ps : List Certificate). IsGrown b floor m rs (nodes_of (halved step v lower upper)) ps) (sym p.parts_are)
    (both b floor m rs step v (nodes_of lower) (nodes_of upper) p.first p.second (stands.0, tt, tt)
    (grows b floor m before lower low p.first at_most stands.1 p.left) (grows b floor m before upper high p.second at_most stands.2 p.right))
grows b floor m before (closed cause) rs [] at_most stands right = record {
  tree = closed cause;
  stands = closes_less b floor m before rs cause at_most stands;
  nodes_are = λ later more. refl;
  left_is = refl;
  bound_is = λ x _. refl;
}
grows b floor m before (closed cause) rs (p ∷ ps) at_most stands right = absurd right
grows b floor m before waiting rs [] at_most stands right = absurd right
grows b floor m before waiting rs (p ∷ q ∷ ps) at_most stands right = absurd right.1
grows b floor m before waiting rs (p ∷ []) at_most stands right =
    let good : IsGood b rs m p = right.0.0 in let low : p.floor ≤ floor = right.0.1 in
    record {
      tree = good.tree;
      stands = stands_more b p.floor floor m rs good.tree low (good_stands b rs m p good);
      nodes_are = λ later more. ap (λ (ns : List Node). ns ++ filled later more) good.nodes_are;
      left_is =
          (let left = good_left_is b rs m p good in
          let count = count_raised b p.floor floor rs good.tree low in omega (arith, left, count));
      bound_is = λ x less.
          ap (λ (o : Option ℕ). lesser_of x (option_map (max floor) o)) (good_bound_is b rs m p good)
          ∙ least_raised floor x m (open_bounds b p.floor rs good.tree) less
          ∙ ap (λ (ns : List ℕ). fold lesser x ns) (raised_more b p.floor floor rs good.tree low);
    }

-- what right certificates are joined to is right
pub keeps_right : (c : Certificate) (parts : List Certificate) (floor : ℕ) (loss : Option ℕ) (j : Certificate) → c.floor ≤ floor → All (λ (p : Certificate). p.floor ≤ floor) parts → IsJoined c parts floor loss j →
    KeepsRight c parts loss j
keeps_right c parts floor_now loss j more low joined = λ b rs before good at_most least_is right.
    let stands = stands_more b c.floor floor_now before rs good.tree more (good_stands b rs before c good) in
    let each = are_parts b floor_now loss (open_boxes rs good.tree) parts right low in
    let g = grows b floor_now loss before good.tree rs parts at_most stands each in
    let floor = sym joined.floor_is in let whole = nodes_of good.tree in
    let nodes =
    joined.nodes_are
    ∙ ap (λ (ns : List Node). filled ns (nodes_in parts)) (good.nodes_are ∙ sym (append-nil whole))
    ∙ ap (λ (ps : List (List Node)). filled (whole ++ []) ps) (sym (append-nil (nodes_in parts)))
    ∙ g.nodes_are [] [] ∙ append-nil (nodes_of g.tree) in
    let least = joined.bound_is ∙ g.bound_is loss (at_most_itself loss) in
    good_of b rs loss j g.tree nodes joined.loss_is least_is
    (subst (λ (n : ℕ). Stands b n loss rs g.tree) floor g.stands)
    (joined.left_is ∙ g.left_is ∙ ap (λ (n : ℕ). length (open_bounds b n rs g.tree)) floor)
    (least ∙ ap (λ (n : ℕ). fold lesser loss (open_bounds b n rs g.tree)) floor)
