-- A fault refutes a certificate, and a walk without one proves it right.
use Rattle.std.proofs.Common.{◌≡◌, ℕ, inl, inr, List, [], ◌∷◌, ◌++◌, length, Option, Some, None, refl, sym, ap, ◌∙◌, subst, All}
use Rattle.std.specs.Prelude.{IfOk, Result, Ok, Err}
use Rattle.std.proofs.lemmas.List.Elements.{All-head, All-tail}
use Rattle.glass_base.specs.Problem.{Problem}
use Rattle.glass_base.specs.declared.memory.Memory.{Memory}
use Rattle.plan_box.specs.Ranges.{Ranges}
use Rattle.cert_log.specs.declared.certificate.Certificate.{Certificate}
use Rattle.cert_log.specs.declared.certificate.Node.{Node}
use Rattle.cert_log.specs.declared.history.Cause.{Cause}
use Rattle.cert_log.specs.Good.{IsFloor, IsGood, MayClose, NodePasses, Passes, least_of, visit_bounds}
use Rattle.cert_log.specs.Trees.{IsTree}
use Rattle.cert_log.specs.Visits.{Visit, visits}
use Rattle.cert_check.specs.declared.verdict.Why.{Why}
use Rattle.cert_check.specs.declared.verdict.Verdict.{Verdict}
use Rattle.cert_check.specs.declared.walk.NodeCounts.{NodeCounts}
use Rattle.cert_check.specs.declared.walk.Walked.{Walked}
use Rattle.cert_check.specs.Faults.{FailsToClose, NodeFails, FirstFails, SaysWrong, Answers}
use Rattle.cert_check.specs.inner.Walks.{visits_from}
use Rattle.cert_check.specs.inner.Walks.{Finds, Closes, JudgesFloor}
use Rattle.cert_check.proofs.Trees.{visits_whole}

close_clash : (b : Problem) (floor : ℕ) (loss : Option ℕ) (rs : List Ranges) (cause : Cause) (why : Why) → MayClose b floor loss rs cause → FailsToClose b floor loss rs cause why → ⊥
close_clash b floor loss rs (Cause.Reason r) why may fails = fails.0 may
close_clash b floor loss rs Cause.Bound why may fails = fails.0 may
close_clash b floor loss rs Cause.Floor why may fails = fails.0 may
close_clash b floor loss rs Cause.Unsaid why (inl refuted) fails = fails.0 refuted
close_clash b floor loss rs Cause.Unsaid why (inr reaches) fails = fails.1.0 reaches

-- a node does not both pass and fail
pub node_clash : (b : Problem) (floor : ℕ) (loss : Option ℕ) (rs : List Ranges) (n : Node) (why : Why) → NodePasses b floor loss rs n → NodeFails b floor loss rs n why → ⊥
node_clash b floor loss rs (Node.Split step v) why passes fails = fails.0 passes
node_clash b floor loss rs (Node.Closed cause) why passes fails = close_clash b floor loss rs cause why passes fails
node_clash b floor loss rs Node.Left why passes fails = fails

-- what holds of all holds of one of them
pub all_here : {X : Type 0} (p : X → Type 0) (xs : List X) (x : X) (ys : List X) → All p (xs ++ x ∷ ys) → p x
all_here p [] x ys h = All-head p x ys h
all_here p (z ∷ xs) x ys h = all_here p xs x ys (All-tail p z (xs ++ x ∷ ys) h)

-- the visits of a certificate, whichever tree it is read as
pub good_visits : (b : Problem) (rs : List Ranges) (loss : Option ℕ) (c : Certificate) (g : IsGood b rs loss c) → visits_from (rs ∷ []) c.nodes.items ≡ visits rs g.tree
good_visits b rs loss c g = ap (λ (ns : List Node). visits_from (rs ∷ []) ns) g.nodes_are ∙ visits_whole g.tree rs

pub good_passes : (b : Problem) (rs : List Ranges) (loss : Option ℕ) (c : Certificate) → IsGood b rs loss c → All (Passes b c.floor loss) (visits_from (rs ∷ []) c.nodes.items)
good_passes b rs loss c g =
    subst (λ (xs : List Visit). All (Passes b c.floor loss) xs) (sym (good_visits b rs loss c g)) g.passes

good_bounds : (b : Problem) (rs : List Ranges) (loss : Option ℕ) (c : Certificate) (g : IsGood b rs loss c)
    → visit_bounds b c.floor (visits rs g.tree) ≡ visit_bounds b c.floor (visits_from (rs ∷ []) c.nodes.items)
good_bounds b rs loss c g =
    ap (λ (xs : List Visit). visit_bounds b c.floor xs) (sym (good_visits b rs loss c g))

-- what is not right is wrong, whichever check failed
not_right : (b : Problem) (rs : List Ranges) (loss : Option ℕ) (c : Certificate) (why : Why) → ¬ IsGood b rs loss c → SaysWrong b rs loss c why
not_right b rs loss c (Why.WrongLoss said found) none = none
not_right b rs loss c (Why.Split step v) none = none
not_right b rs loss c (Why.NotClosed bound to_beat) none = none
not_right b rs loss c (Why.WrongCause said found) none = none
not_right b rs loss c (Why.WrongOpen said found) none = none
not_right b rs loss c (Why.WrongBound said found) none = none
not_right b rs loss c (Why.WrongFloor said found) none = tt

-- what fails is wrong
says_wrong : (b : Problem) (rs : List Ranges) (loss : Option ℕ) (c : Certificate) (line : ℕ) (why : Why) → FirstFails b loss c (visits_from (rs ∷ []) c.nodes.items) line why → SaysWrong b rs loss c why
says_wrong b rs loss c line why (inl f) = not_right b rs loss c why (λ g. f.0 g.loss_is)
says_wrong b rs loss c line why (inr (inl f)) = not_right b rs loss c why (λ g.
    let x = f.1 in
    node_clash b c.floor loss x.here.ranges x.here.node why (all_here (Passes b c.floor loss) x.before x.here x.later (subst (λ (xs : List Visit). All (Passes b c.floor loss) xs) x.visits_are (good_passes b rs loss c g))) x.fails)
says_wrong b rs loss c line why (inr (inr (inl f))) = not_right b rs loss c why (λ g. f.2 (g.left_is ∙ ap (λ (ns : List ℕ). length ns) (good_bounds b rs loss c g)))
says_wrong b rs loss c line why (inr (inr (inr (inl f)))) = not_right b rs loss c why (λ g. f.3 (g.bound_is ∙ ap (λ (ns : List ℕ). least_of loss ns) (good_bounds b rs loss c g)))
says_wrong b rs loss c line why (inr (inr (inr (inr f)))) = subst (SaysWrong b rs loss c) (sym f.4.why_is) tt

-- a fault among the nodes as they stand is one of the tree
pub refuses : (b : Problem) (rs : List Ranges) (loss : Option ℕ) (c : Certificate) (line : ℕ) (why : Why) → IsTree c.nodes.items
    → FirstFails b loss c (visits_from (rs ∷ []) c.nodes.items) line why → Answers b rs loss c (Verdict.Refuse line why)
refuses b rs loss c line why tree fails = (
  record {
    tree = tree.0;
    nodes_are = tree.1;
    fails = subst (λ (xs : List Visit). FirstFails b loss c xs line why) (ap (λ (ns : List Node). visits_from (rs ∷ []) ns) tree.1 ∙ visits_whole tree.0 rs) fails;
  },
  says_wrong b rs loss c line why fails,
)

-- where no check fails the certificate is right
pub is_good : (b : Problem) (rs : List Ranges) (loss : Option ℕ) (c : Certificate) → IsTree c.nodes.items → c.loss ≡ loss → IsFloor b c.floor → All (Passes b c.floor loss) (visits_from (rs ∷ []) c.nodes.items)
    → c.left ≡ length (visit_bounds b c.floor (visits_from (rs ∷ []) c.nodes.items)) → c.bound ≡ least_of loss (visit_bounds b c.floor (visits_from (rs ∷ []) c.nodes.items)) → IsGood b rs loss c
is_good b rs loss c tree same shown all left bound =
    let e : visits_from (rs ∷ []) c.nodes.items ≡ visits rs tree.0 = ap (λ (ns : List Node). visits_from (rs ∷ []) ns) tree.1 ∙ visits_whole tree.0 rs in
    let f = ap (λ (xs : List Visit). visit_bounds b c.floor xs) e in
    record {
      tree = tree.0;
      nodes_are = tree.1;
      loss_is = same;
      floor_is = shown;
      passes = subst (λ (xs : List Visit). All (Passes b c.floor loss) xs) e all;
      left_is = left ∙ ap (λ (ns : List ℕ). length ns) f;
      bound_is = bound ∙ ap (λ (ns : List ℕ). least_of loss ns) f;
    }

-- what is answered behind a whole walk, where a count is wrong
pub closes_wrong : (b : Problem) (rs : List Ranges) (loss : Option ℕ) (c : Certificate) (tally : NodeCounts) (why : Why) → IsTree c.nodes.items → c.loss ≡ loss
    → Finds b rs loss c (Walked.Whole tally) → Closes c tally (Some why) → Answers b rs loss c (Verdict.Refuse 1 why)
closes_wrong b rs loss c tally why tree same found (inl h) =
    refuses b rs loss c 1 why tree
    (inr (inr (inl (same, found.0, (λ e. h.0 (e ∙ sym found.2)), refl, h.1 ∙ ap (λ (m : ℕ). Why.WrongOpen c.left m) found.2))))
closes_wrong b rs loss c tally why tree same found (inr h) =
    refuses b rs loss c 1 why tree
    (inr (inr (inr (inl (same, found.0, h.0 ∙ found.2, (λ e. h.1 (e ∙ sym found.1)), refl, h.2 ∙ ap (λ (m : Option ℕ). Why.WrongBound c.bound m) found.1)))))

-- and where they are right, so that the floor is judged
closes_right : (b : Problem) (rs : List Ranges) (loss : Option ℕ) (c : Certificate) (tally : NodeCounts) (v : Verdict) → IsTree c.nodes.items → c.loss ≡ loss
    → Finds b rs loss c (Walked.Whole tally) → Closes c tally None → JudgesFloor b c v → Answers b rs loss c v
closes_right b rs loss c tally (Verdict.Accept bound left) tree same found h f =
    (is_good b rs loss c tree same f.0 found.0 (h.0 ∙ found.2) (h.1 ∙ found.1), f.1, f.2)
closes_right b rs loss c tally (Verdict.Refuse line why) tree same found h f =
    refuses b rs loss c line why tree (inr (inr (inr (inr (same, found.0, h.0 ∙ found.2, h.1 ∙ found.1, f)))))

pub closes_all : (b : Problem) (rs : List Ranges) (loss : Option ℕ) (c : Certificate) (tally : NodeCounts) (r : Result Verdict Memory) → IsTree c.nodes.items → c.loss ≡ loss
    → Finds b rs loss c (Walked.Whole tally) → Closes c tally None → IfOk r (JudgesFloor b c) → IfOk r (Answers b rs loss c)
closes_all b rs loss c tally (Ok v) tree same found h f = closes_right b rs loss c tally v tree same found h f
closes_all b rs loss c tally (Err e) tree same found h f = tt
