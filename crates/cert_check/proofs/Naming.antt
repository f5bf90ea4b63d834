-- Nodes whose causes are named: where naming starts, one step of it, and the tree that they are.
use Rattle.std.proofs.Common.{◌≡◌, ◌≢◌, ℕ, ◌+◌, ◌<◌, List, [], ◌∷◌, ◌++◌, length, drop, get_or, Option, refl, sym, ap, ◌∙◌, subst, All}
use Rattle.std.specs.List.{AllZip}
use Rattle.glass_base.specs.Problem.{Problem}
use Rattle.glass_base.proofs.StackLemmas.{zip_push}
use Rattle.plan_box.specs.Halves.{lower_half, upper_half, half_at}
use Rattle.plan_box.specs.Ranges.{Ranges}
use Rattle.cert_log.specs.declared.certificate.Node.{Node}
use Rattle.cert_log.specs.declared.certificate.Certificate.{Certificate}
use Rattle.cert_log.specs.Good.{IsGood, Passes}
use Rattle.cert_log.specs.Trees.{Tree, halved, closed, waiting, nodes_of}
use Rattle.cert_log.specs.Visits.{Visit, visits}
use Rattle.cert_check.specs.Causes.{AreNamed}
use Rattle.cert_check.specs.inner.Naming.{IsNamedNode, IsNamedAt, IsNaming}
use Rattle.cert_check.specs.inner.Paths.{top, below}
use Rattle.cert_check.specs.inner.Walks.{boxes_after, visits_from, HasCome, MayGo}
use Rattle.cert_check.proofs.Judging.{all_here, good_passes}
use Rattle.cert_check.proofs.Visiting.{comes_further, next_visit}
use Rattle.cert_check.proofs.Walking.{may_go}

-- a node of a right certificate that comes next may be passed
pub may_go_next : (b : Problem) (root : List Ranges) (loss : Option ℕ) (c : Certificate) (k : ℕ) (boxes : List (List Ranges)) (done : List Visit) (d n : Node) → IsGood b root loss c
    → HasCome root c.nodes.items k boxes done → k < length c.nodes.items → get_or c.nodes.items k d ≡ n → boxes ≢ [] → MayGo (top boxes) n
may_go_next b root loss c k boxes done d n good come lt is some =
    may_go b c.floor loss (top boxes) n
    (all_here (Passes b c.floor loss) done (record { node = n; ranges = top boxes }) (visits_from (boxes_after n (top boxes) (below boxes)) (drop (k + 1) c.nodes.items))
    (subst (λ (xs : List Visit). All (Passes b c.floor loss) xs) (next_visit root c.nodes.items k boxes done come d n lt is some) (good_passes b root loss c good)))

-- one more node is named
pub naming_goes_on : (b : Problem) (root : List Ranges) (nodes : List Node) (k : ℕ) (boxes after : List (List Ranges)) (named more : List Node) (d n m : Node) → IsNaming b root nodes k boxes named
    → k < length nodes → get_or nodes k d ≡ n → boxes ≢ [] → IsNamedNode b (top boxes) n m → more ≡ named ++ m ∷ [] → after ≡ boxes_after n (top boxes) (below boxes)
    → IsNaming b root nodes (k + 1) after more
naming_goes_on b root nodes k boxes after named more d n m w lt is some names push then =
    let x : Visit = record { node = n; ranges = top boxes } in
    record {
      done = w.done ++ x ∷ [];
      come = comes_further root nodes k boxes after w.done d n w.come lt is some then;
      are_named = subst (λ (ms : List Node). AllZip (IsNamedAt b) (w.done ++ x ∷ []) ms) (sym push) (zip_push (IsNamedAt b) w.done named x m w.are_named names);
    }

-- a list that goes with two lists, one behind the other, in its two parts
record HasParts (A B : Type 0) (R : A → B → Type 0) (xs ys : List A) (zs : List B) : Type 0 where
  first : List B
  second : List B
  parts_are : zs ≡ first ++ second
  left : AllZip R xs first
  right : AllZip R ys second

zip_parts : {A B : Type 0} (R : A → B → Type 0) (xs ys : List A) (zs : List B) → AllZip R (xs ++ ys) zs → HasParts A B R xs ys zs
zip_parts R [] ys zs h = record { first = []; second = zs; parts_are = refl; left = tt; right = h }
zip_parts R (x ∷ xs) ys [] h = absurd h
zip_parts {A} {B} R (x ∷ xs) ys (z ∷ zs) h =
    let r = zip_parts R xs ys zs h.1 in
    record { first = z ∷ r.first; second = r.second; parts_are = ap (λ (l : List B). z ∷ l) r.parts_are; left = (h.0, r.left); right = r.right }

-- the tree of named nodes
pub record IsNamedTree (b : Problem) (rs : List Ranges) (t : Tree) (ms : List Node) : Type 0 where
  pub named : Tree
  pub named_are : ms ≡ nodes_of named
  pub are_named : AreNamed b rs t named

pub named_tree : (b : Problem) (t : Tree) (rs : List Ranges) (ms : List Node) → AllZip (IsNamedAt b) (visits rs t) ms → IsNamedTree b rs t ms
named_tree b (halved step v lower upper) rs [] h = absurd h
named_tree b (halved step v lower upper) rs (m ∷ ms) h =
    let low = half_at lower_half rs step v in let high = half_at upper_half rs step v in
    let p = zip_parts (IsNamedAt b) (visits low lower) (visits high upper) ms h.1 in
    let l = named_tree b lower low p.first p.left in let u = named_tree b upper high p.second p.right in
    record {
      named = halved step v l.named u.named;
      named_are =
          ap (λ (k : Node). k ∷ ms) h.0
          ∙ ap (λ (ns : List Node). Node.Split step v ∷ ns) (p.parts_are ∙ ap (λ (ns : List Node). ns ++ p.second) l.named_are ∙ ap (λ (ns : List Node). nodes_of l.named ++ ns) u.named_are);
      are_named = (refl, refl, l.are_named, u.are_named);
    }
named_tree b (closed cause) rs [] h = absurd h
named_tree b (closed cause) rs (m ∷ []) h = record { named = closed h.0.0; named_are = ap (λ (k : Node). k ∷ []) h.0.2; are_named = h.0.1 }
named_tree b (closed cause) rs (m ∷ k ∷ ms) h = absurd h.1
named_tree b waiting rs [] h = absurd h
named_tree b waiting rs (m ∷ []) h = record { named = waiting; named_are = ap (λ (k : Node). k ∷ []) h.0; are_named = tt }
named_tree b waiting rs (m ∷ k ∷ ms) h = absurd h.1
