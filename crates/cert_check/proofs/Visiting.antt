-- Nodes that are walked one after the other, each at its box.
use Rattle.std.proofs.Common.{◌≡◌, ◌≢◌, ℕ, ◌+◌, ◌<◌, ◌≤◌, List, [], ◌∷◌, ◌++◌, length, take, drop, get_or, refl, sym, ap, ◌∙◌, arith, append_assoc}
use Rattle.std.proofs.lemmas.List.{length-map, length-take-le, append-nil, map-append, drop_more, take_more, drop_all}
use Rattle.plan_box.specs.Ranges.{Ranges}
use Rattle.cert_log.specs.declared.certificate.Node.{Node}
use Rattle.cert_log.specs.Trees.{IsTree}
use Rattle.cert_log.specs.Visits.{Visit}
use Rattle.cert_log.proofs.Walked.{visits_count}
use Rattle.cert_check.specs.inner.Paths.{top, below}
use Rattle.cert_check.specs.inner.Walks.{boxes_after, visits_from, HasCome}
use Rattle.cert_check.proofs.Trees.{visits_whole, empty_from}

-- nothing is walked yet
pub comes_first : (root : List Ranges) (nodes : List Node) (boxes : List (List Ranges)) → boxes ≡ root ∷ [] → HasCome root nodes 0 boxes []
comes_first root nodes boxes e = record { visits_are = ap (λ (xs : List (List Ranges)). visits_from xs nodes) (sym e); nodes_are = refl }

one_visit : (boxes : List (List Ranges)) (n : Node) (ns : List Node) → boxes ≢ []
    → visits_from boxes (n ∷ ns) ≡ record { node = n; ranges = top boxes } ∷ visits_from (boxes_after n (top boxes) (below boxes)) ns
one_visit [] n ns some = absurd (some refl)
one_visit (rs ∷ boxes) n ns some = refl

module _ (root : List Ranges) (nodes : List Node) (k : ℕ) (boxes : List (List Ranges)) (done : List Visit) (come : HasCome root nodes k boxes done) where
  pub done_count : k ≤ length nodes → length done ≡ k
  done_count le = sym (length-map done (λ (x : Visit). x.node)) ∙ ap (λ (ns : List Node). length ns) come.nodes_are ∙ length-take-le k nodes le

  -- where a node comes next, a box waits
  pub waits : (d : Node) → IsTree nodes → k < length nodes → boxes ≢ []
  waits d tree lt = λ none.
      let all : length (visits_from (root ∷ []) nodes) ≡ length nodes =
      ap (λ (ns : List Node). length (visits_from (root ∷ []) ns)) tree.1 ∙ ap (λ (xs : List Visit). length xs) (visits_whole tree.0 root)
      ∙ visits_count tree.0 root ∙ ap (λ (ns : List Node). length ns) (sym tree.1) in
      let rest : visits_from boxes (drop k nodes) ≡ [] =
      ap (λ (xs : List (List Ranges)). visits_from xs (drop k nodes)) none ∙ ap (λ (ns : List Node). visits_from [] ns) (drop_more nodes k d lt) in
      let both = ap (λ (xs : List Visit). length xs) (come.visits_are ∙ ap (λ (xs : List Visit). done ++ xs) rest ∙ append-nil done) in
      let n = done_count (omega (arith, lt)) in
      omega (arith, all, both, n, lt)

  -- what is visited next
  pub next_visit : (d n : Node) → k < length nodes → get_or nodes k d ≡ n → boxes ≢ []
      → visits_from (root ∷ []) nodes ≡ done ++ record { node = n; ranges = top boxes } ∷ visits_from (boxes_after n (top boxes) (below boxes)) (drop (k + 1) nodes)
  next_visit d n lt is some =
      come.visits_are
      ∙ ap (λ (ns : List Node). done ++ visits_from boxes ns) (drop_more nodes k d lt ∙ ap (λ (m : Node). m ∷ drop (k + 1) nodes) is)
      ∙ ap (λ (xs : List Visit). done ++ xs) (one_visit boxes n (drop (k + 1) nodes) some)

  -- all nodes are walked
  pub all_done : length nodes ≤ k → visits_from (root ∷ []) nodes ≡ done
  all_done le =
      come.visits_are ∙ ap (λ (ns : List Node). done ++ visits_from boxes ns) (drop_all k nodes le)
      ∙ ap (λ (xs : List Visit). done ++ xs) (empty_from boxes) ∙ append-nil done

pub one_taken : (nodes : List Node) (k : ℕ) (d n : Node) → k < length nodes → get_or nodes k d ≡ n → take (k + 1) nodes ≡ take k nodes ++ n ∷ []
one_taken nodes k d n lt is = take_more nodes k d lt ∙ ap (λ (m : Node). take k nodes ++ m ∷ []) is

-- one more node is walked
pub comes_further : (root : List Ranges) (nodes : List Node) (k : ℕ) (boxes after : List (List Ranges)) (done : List Visit) (d n : Node) → HasCome root nodes k boxes done
    → k < length nodes → get_or nodes k d ≡ n → boxes ≢ [] → after ≡ boxes_after n (top boxes) (below boxes)
    → HasCome root nodes (k + 1) after (done ++ record { node = n; ranges = top boxes } ∷ [])
comes_further root nodes k boxes after done d n come lt is some then =
    let x : Visit = record { node = n; ranges = top boxes } in
    record {
      visits_are =
          next_visit root nodes k boxes done come d n lt is some
          ∙ sym (append_assoc done (x ∷ []) (visits_from (boxes_after n (top boxes) (below boxes)) (drop (k + 1) nodes)))
          ∙ ap (λ (xs : List (List Ranges)). (done ++ x ∷ []) ++ visits_from xs (drop (k + 1) nodes)) (sym then);
      nodes_are =
          map-append (λ (y : Visit). y.node) done (x ∷ []) ∙ ap (λ (ns : List Node). ns ++ n ∷ []) come.nodes_are ∙ sym (one_taken nodes k d n lt is);
    }
