-- The walk: where it starts, one step of it, where it ends.
use Rattle.std.proofs.Common.{◌≡◌, ◌≢◌, ℕ, suc, ◌+◌, ◌<◌, List, [], ◌∷◌, ◌++◌, length, take, drop, fold, get_or, cond, Bool, true, false, Option, refl, sym, ap, ◌∙◌, arith}
use Rattle.std.proofs.lemmas.Grind.{fold-append}
use Rattle.std.proofs.lemmas.List.{length-append, append-nil}
use Rattle.std.proofs.lemmas.List.Elements.{All-append, All-cons, All-nil}
use Rattle.glass_base.specs.Problem.{Problem}
use Rattle.plan_box.specs.Ranges.{Ranges}
use Rattle.cert_log.specs.declared.certificate.Certificate.{Certificate}
use Rattle.cert_log.specs.declared.certificate.Node.{Node}
use Rattle.cert_log.specs.Good.{NodePasses, Passes, node_bounds, visit_bounds, lesser, least_of}
use Rattle.cert_log.specs.Texts.{lines_of}
use Rattle.cert_log.specs.Visits.{Visit}
use Rattle.cert_log.proofs.Walked.{bounds_append}
use Rattle.cert_check.specs.declared.verdict.Why.{Why}
use Rattle.cert_check.specs.declared.walk.NodeCounts.{NodeCounts}
use Rattle.cert_check.specs.declared.walk.TextPlace.{TextPlace}
use Rattle.cert_check.specs.Faults.{IsNodeFault, NodeFails}
use Rattle.cert_check.specs.inner.Paths.{top, below}
use Rattle.cert_check.specs.inner.Walks.{boxes_after, visits_from}
use Rattle.cert_check.specs.inner.Walks.{MayGo, Reads, Counts, IsWalking, ends_open, joins}
use Rattle.cert_check.proofs.Lines.{line_more, no_lines, ends_push}
use Rattle.cert_check.proofs.Visiting.{comes_first, comes_further, done_count, next_visit, one_taken}

pub may_go : (b : Problem) (floor : ℕ) (loss : Option ℕ) (rs : List Ranges) (n : Node) → NodePasses b floor loss rs n → MayGo rs n
may_go b floor loss rs (Node.Split step v) h = h
may_go b floor loss rs (Node.Closed cause) h = tt
may_go b floor loss rs Node.Left h = tt

-- nothing is walked yet
pub starts : (b : Problem) (root : List Ranges) (loss : Option ℕ) (c : Certificate) (boxes : List (List Ranges)) → boxes ≡ root ∷ []
    → IsWalking b root loss c 0 boxes (record { line = 1; after_open = false }) (record { least = loss; left = 0 })
starts b root loss c boxes e = record {
  done = [];
  come = comes_first root c.nodes.items boxes e;
  passed = All-nil (Passes b c.floor loss);
  least = refl;
  left = refl;
  line = (let z = no_lines c.version in omega arith);
  after_open = refl;
}

-- the line of the node that is read
line_next : (b : Problem) (root : List Ranges) (loss : Option ℕ) (c : Certificate) (k : ℕ) (boxes : List (List Ranges)) (place next : TextPlace) (tally : NodeCounts) (d n : Node)
    → (w : IsWalking b root loss c k boxes place tally) → k < length c.nodes.items → get_or c.nodes.items k d ≡ n → Reads c.version n place next
    → next.line ≡ 1 + length (lines_of c.version (take (k + 1) c.nodes.items))
line_next b root loss c k boxes place next tally d n w lt is reads =
    let ns = take k c.nodes.items in
    reads.line
    ∙ ap (λ (t : Bool). cond (joins c.version t n) place.line (place.line + 1)) w.after_open
    ∙ ap (λ (m : ℕ). cond (joins c.version (ends_open ns) n) m (m + 1)) w.line
    ∙ pull (joins c.version (ends_open ns) n) (length (lines_of c.version ns))
    ∙ ap (λ (m : ℕ). 1 + m) (sym (line_more c.version ns n))
    ∙ ap (λ (xs : List Node). 1 + length (lines_of c.version xs)) (sym (one_taken c.nodes.items k d n lt is))
  where
    pull : (t : Bool) (m : ℕ) → cond t (1 + m) (1 + m + 1) ≡ 1 + cond t m (suc m)
    pull true m = refl
    pull false m = omega arith

-- one more node is walked
pub walks : (b : Problem) (root : List Ranges) (loss : Option ℕ) (c : Certificate) (k : ℕ) (boxes after : List (List Ranges)) (place next : TextPlace) (tally more : NodeCounts) (d n : Node)
    → IsWalking b root loss c k boxes place tally → k < length c.nodes.items → get_or c.nodes.items k d ≡ n → boxes ≢ []
    → NodePasses b c.floor loss (top boxes) n → Reads c.version n place next → Counts b c.floor n (top boxes) tally more → after ≡ boxes_after n (top boxes) (below boxes)
    → IsWalking b root loss c (k + 1) after next more
walks b root loss c k boxes after place next tally more d n w lt is some passes reads counts then =
    let x : Visit = record { node = n; ranges = top boxes } in
    let t = one_taken c.nodes.items k d n lt is in
    let bounds : visit_bounds b c.floor (w.done ++ x ∷ []) ≡ visit_bounds b c.floor w.done ++ node_bounds b c.floor (top boxes) n =
    bounds_append b c.floor w.done (x ∷ []) ∙ ap (λ (ns : List ℕ). visit_bounds b c.floor w.done ++ ns) (append-nil (node_bounds b c.floor (top boxes) n)) in
    record {
      done = w.done ++ x ∷ [];
      come = comes_further root c.nodes.items k boxes after w.done d n w.come lt is some then;
      passed = All-append (Passes b c.floor loss) w.done (x ∷ []) w.passed (All-cons (Passes b c.floor loss) x [] passes (All-nil (Passes b c.floor loss)));
      least =
          counts.least ∙ ap (λ (m : Option ℕ). fold lesser m (node_bounds b c.floor (top boxes) n)) w.least
          ∙ sym (fold-append lesser loss (visit_bounds b c.floor w.done) (node_bounds b c.floor (top boxes) n))
          ∙ ap (λ (ns : List ℕ). least_of loss ns) (sym bounds);
      left =
          counts.left ∙ ap (λ (m : ℕ). m + length (node_bounds b c.floor (top boxes) n)) w.left
          ∙ sym (length-append (visit_bounds b c.floor w.done) (node_bounds b c.floor (top boxes) n))
          ∙ ap (λ (ns : List ℕ). length ns) (sym bounds);
      line = line_next b root loss c k boxes place next tally d n w lt is reads;
      after_open = reads.after_open ∙ sym (ends_push (take k c.nodes.items) n) ∙ ap (λ (ns : List Node). ends_open ns) (sym t);
    }

-- a node may not stand at its box
pub stops : (b : Problem) (root : List Ranges) (loss : Option ℕ) (c : Certificate) (k : ℕ) (boxes : List (List Ranges)) (place next : TextPlace) (tally : NodeCounts) (d n : Node) (why : Why)
    → IsWalking b root loss c k boxes place tally → k < length c.nodes.items → get_or c.nodes.items k d ≡ n → boxes ≢ []
    → NodeFails b c.floor loss (top boxes) n why → Reads c.version n place next → IsNodeFault b loss c (visits_from (root ∷ []) c.nodes.items) next.line why
stops b root loss c k boxes place next tally d n why w lt is some fails reads = record {
  before = w.done;
  here = record { node = n; ranges = top boxes };
  later = visits_from (boxes_after n (top boxes) (below boxes)) (drop (k + 1) c.nodes.items);
  visits_are = next_visit root c.nodes.items k boxes w.done w.come d n lt is some;
  passed = w.passed;
  fails = fails;
  line_is =
      line_next b root loss c k boxes place next tally d n w lt is reads
      ∙ ap (λ (m : ℕ). 1 + length (lines_of c.version (take m c.nodes.items)))
      (let e = done_count root c.nodes.items k boxes w.done w.come (omega (arith, lt)) in let f : k + 1 ≡ suc (length w.done) = omega (arith, e) in f);
}
