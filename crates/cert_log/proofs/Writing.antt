-- What writing one node changes, by the lists before and after it.
use Rattle.std.proofs.Common.{◌≡◌, ℕ, ◌+◌, List, [], ◌∷◌, ◌++◌, length, max, sym, ap, ◌∙◌, subst, refl, cond, Option, Result, Ok, Err, arith}
use Rattle.std.specs.Prelude.{count_by}
use Rattle.std.proofs.lemmas.List.Sums.{sum_by-cons, sum_by-append}
use Rattle.std.specs.Result.{OnOk}
use Rattle.std.specs.List.{Contains}
use Rattle.std.proofs.lemmas.List.{length_push, length-append}
use Rattle.plan_box.specs.declared.var.Var.{Var}
use Rattle.cert_log.specs.declared.history.Cause.{Cause}
use Rattle.cert_log.specs.declared.history.Act.{Act}
use Rattle.cert_log.specs.declared.history.Note.{Note}
use Rattle.cert_log.specs.declared.history.Left.{Left}
use Rattle.cert_log.specs.declared.history.History.{History}
use Rattle.cert_log.specs.declared.certificate.Node.{Node}
use Rattle.cert_log.specs.declared.assembling.CertGrowth.{CertGrowth}
use Rattle.cert_log.specs.Good.{lesser, version_for}
use Rattle.cert_log.specs.Levels.{lower_id, upper_id}
use Rattle.cert_log.specs.inner.Growth.{Twig, forks, ends, waits, bare, kept_bounds, AreDifferent, IsGrowing, IsMade}
use Rattle.cert_log.specs.Lawful.{loss_of}
use Rattle.cert_log.specs.Trees.{nodes_of, is_left}
use Rattle.cert_log.specs.declared.certificate.Certificate.{Certificate}
use Rattle.cert_log.specs.inner.Writing.{Writes}
use Rattle.cert_log.proofs.Walking.{write_split, write_closed, write_left, write_all}

pub ok_then : {A E : Type 0} {P Q : Type 0} (r : Result A E) → OnOk r P → (P → Q) → OnOk r Q
ok_then (Ok x) p f = f p
ok_then (Err e) p f = p

-- the state in which a tree is written, told by other lists that are the same
pub told : (h : History) (root : ℕ) (ws vs : List ℕ) (ns ms : List Node) (k j : Option ℕ) → ws ≡ vs → ns ≡ ms → k ≡ j → IsGrowing h root vs ms j → IsGrowing h root ws ns k
told h root ws vs ns ms k j w n b g =
    subst (λ (xs : List ℕ). IsGrowing h root xs ns k) (sym w) (subst (λ (xs : List Node). IsGrowing h root vs xs k) (sym n) (subst (λ (x : Option ℕ). IsGrowing h root vs ms x) (sym b) g))

module _ (h : History) (once : AreDifferent h) (next : ℕ) (old new : CertGrowth) where
  one_more : (n : Node) → new.nodes.items ≡ old.nodes.items ++ n ∷ [] → length new.nodes.items ≡ length old.nodes.items + 1
  one_more n e = ap length e ∙ length_push old.nodes.items n

  pub writes_split : (n : Note) (step : ℕ) (v : Var) → Contains h.log.items n → n.id ≡ next → n.act ≡ Act.Split step v
      → new.waiting.items ≡ (old.waiting.items ++ upper_id h.starts n.ticket ∷ []) ++ lower_id h.starts n.ticket ∷ []
      → new.nodes.items ≡ old.nodes.items ++ Node.Split step v ∷ [] → new.bound ≡ old.bound → Writes h next old new
  writes_split n step v at is acts w e b = record {
    one = one_more (Node.Split step v) e;
    keeps = λ root g. told h root new.waiting.items ((old.waiting.items ++ upper_id h.starts n.ticket ∷ []) ++ lower_id h.starts n.ticket ∷ []) new.nodes.items (old.nodes.items ++ Node.Split step v ∷ []) new.bound old.bound w e b
        (write_split h once root old.waiting.items next old.nodes.items old.bound n step v g at is acts);
  }

  pub writes_closed : (n : Note) (threshold : ℕ) (cause : Cause) → Contains h.log.items n → n.id ≡ next → n.act ≡ Act.Closed cause threshold
      → new.waiting.items ≡ old.waiting.items → new.nodes.items ≡ old.nodes.items ++ Node.Closed cause ∷ [] → new.bound ≡ old.bound → Writes h next old new
  writes_closed n threshold cause at is acts w e b = record {
    one = one_more (Node.Closed cause) e;
    keeps = λ root g. told h root new.waiting.items old.waiting.items new.nodes.items (old.nodes.items ++ Node.Closed cause ∷ []) new.bound old.bound w e b
        (write_closed h once root old.waiting.items next old.nodes.items old.bound n threshold cause g at is acts);
  }

  pub writes_left : (l : Left) (kept : ℕ) → Contains h.left.items l → l.bx.id ≡ next → l.bound ≡ kept
      → new.waiting.items ≡ old.waiting.items → new.nodes.items ≡ old.nodes.items ++ Node.Left ∷ [] → new.bound ≡ lesser old.bound (max h.floor kept) → Writes h next old new
  writes_left l kept at is bound_is w e b = record {
    one = one_more Node.Left e;
    keeps = λ root g. told h root new.waiting.items old.waiting.items new.nodes.items (old.nodes.items ++ Node.Left ∷ []) new.bound (lesser old.bound (max h.floor l.bound)) w e (b ∙ ap (λ (n : ℕ). lesser old.bound (max h.floor n)) (sym bound_is))
        (write_left h once root old.waiting.items next old.nodes.items old.bound l g at is);
  }

-- the open nodes of a tree
pub left_count : (t : Twig) → count_by is_left (nodes_of (bare t)) ≡ length (kept_bounds t)
left_count (forks n step v lower upper) =
    let c = sum_by-cons (λ (k : Node). cond (is_left k) 1 0) (Node.Split step v) (nodes_of (bare lower) ++ nodes_of (bare upper)) in
    let a = sum_by-append (λ (k : Node). cond (is_left k) 1 0) (nodes_of (bare lower)) (nodes_of (bare upper)) in
    let l = left_count lower in let u = left_count upper in let k = length-append (kept_bounds lower) (kept_bounds upper) in omega arith
left_count (ends n threshold cause) = refl
left_count (waits l) = refl

-- where nothing waits, the certificate tells the tree
pub made : (h : History) (id : ℕ) (c : Certificate) → IsGrowing h id [] c.nodes.items c.bound → c.version ≡ version_for h.floor → c.loss ≡ loss_of h.best → c.floor ≡ h.floor → c.left ≡ count_by is_left c.nodes.items → IsMade h id c
made h id c g version loss floor left =
    let w = write_all h id c.nodes.items c.bound g in
    record {
      twig = g.root.twig;
      grows = g.root.grows;
      version_is = version;
      loss_is = loss;
      floor_is = floor;
      nodes_are = w.0;
      left_is = left ∙ ap (λ (ns : List Node). count_by is_left ns) w.0 ∙ left_count g.root.twig;
      bound_is = w.1;
    }
