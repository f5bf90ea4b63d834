-- What a search finds, from its lawful history.
use Rattle.std.proofs.Common.{◌≡◌, ◌≢◌, ℕ, ◌<◌, ◌≤◌, ◌+◌, ◌*◌, List, [], ◌∷◌, ◌++◌, length, arith, refl, sym, ◌∙◌, subst, inl, inr, Bool, Option, Some, None, Result, Ok, Err}
use Rattle.std.specs.Prelude.{All, IfNone, IfOk, IfSome, nat_lt, sum_by}
use Rattle.std.specs.List.{AllZip}
use Rattle.std.proofs.lemmas.Bool.{cases_Bool}
use Rattle.std.proofs.lemmas.List.Elements.{All-head}
use Rattle.std.proofs.Math.Nat.{mul-le-mul_left}
use Rattle.glass_base.specs.Items.{area_of}
use Rattle.glass_base.specs.Problem.{Problem, IsProblem}
use Rattle.glass_base.specs.Run.{Listed}
use Rattle.cut_model.specs.declared.steps.Step.{Step}
use Rattle.cut_model.specs.declared.steps.Trace.{Trace}
use Rattle.cut_model.specs.Lawful.{IsLawful as IsLawfulPlan}
use Rattle.cut_model.specs.Loss.{loss_of as plan_loss}
use Rattle.cut_model.specs.Steps.{length_of}
use Rattle.cut_model.specs.Tree.{Forest}
use Rattle.plan_trace.specs.Canonical.{canonical}
use Rattle.plan_trace.proofs.Good.{canonical_loses}
use Rattle.plan_draft.specs.Drafts.{HasNoDraft, IsDraft, IsDraftPlan}
use Rattle.plan_draft.proofs.Complete.{draft_complete}
use Rattle.plan_draft.proofs.Ones.{draft_or_none}
use Rattle.first_plan.specs.FirstPlans.{IsFirstPlan}
use Rattle.plan_box.specs.Ranges.{PlainBox}
use Rattle.best_board.specs.declared.entry.Entry.{Entry}
use Rattle.cert_log.specs.declared.certificate.Certificate.{Certificate}
use Rattle.cert_log.specs.declared.history.History.{History}
use Rattle.cert_log.specs.declared.history.Left.{Left}
use Rattle.cert_log.specs.Good.{AreGood, IsGood, IsVersion, IsVersionFor, Reaches, version_for}
use Rattle.cert_log.specs.Lawful.{IsLawful, loss_of, no_loss, trace_loss}
use Rattle.cert_log.specs.Outcomes.{IsHead}
use Rattle.cert_log.specs.Splits.{AreSearched, IsSearched}
use Rattle.cert_log.specs.Texts.{head_of}
use Rattle.cert_log.proofs.Covers.{bounds_each_plan}
use Rattle.cert_log.proofs.GoodNodes.{good_counts}
use Rattle.cert_log.proofs.Versions.{has_version, two_or_three}
use Rattle.box_workers.specs.Runs.{first_loss}
use Rattle.run_search.specs.Plans.{AreTold, HasLoss, IsOfSearch, course, handled}
use Rattle.run_checks.specs.Checks.{root_ranges}
use Rattle.run_search.specs.inner.Searches.{AreWatched, Certifies, IsHistory, IsHistoryOf, IsNoGreater, IsSaidByItsText, IsShortToo, IsToldFound, IsWatchedHistory, all_plans}
use Rattle.run_search.proofs.StoredTexts.{both_said, cert_short, is_text}
use Rattle.glass_base.specs.declared.limits.TheConstants.{MOST_BUDGET}

-- a number that is a loss
pub known : (n : ℕ) → n < no_loss → loss_of n ≡ Some n
known n small = elim (cases_Bool (nat_lt n no_loss)) [
  | inl is ↦ rw is refl
  | inr isnt ↦ absurd (grind (arith, isnt, small))
]

unknown : loss_of no_loss ≡ None
unknown = refl

-- without a best trace there is neither a loss nor a plan
pub no_plan : (b : Problem) (best : ℕ) → best ≡ no_loss → HasLoss b (loss_of best) None
no_plan b best e = subst (λ (n : ℕ). HasLoss b (loss_of n) None) (sym e) tt

-- the canonical plan of the best trace has its loss
pub best_plan : (b : Problem) (best : ℕ) (steps : List Step) (plan : Forest) → best < no_loss → best ≡ trace_loss b steps → IsLawfulPlan b plan
    → plan_loss b plan + area_of b.items ≡ b.params.height * length_of b steps → HasLoss b (loss_of best) (Some plan)
best_plan b best steps plan small e lawful loses =
    subst (λ (o : Option ℕ). HasLoss b o (Some plan)) (sym (known best small)) (lawful, omega (arith, e, loses))

-- a draft's plan loses what its trace does
draft_loss : (b : Problem) (drafted : List Step) → IsProblem b → IsDraft b drafted → plan_loss b (canonical b drafted) ≡ trace_loss b drafted
draft_loss b drafted problem is =
    let loses = canonical_loses b problem drafted (draft_complete b drafted problem is) in omega (arith, loses)

-- a first trace loses no more than the draft
first_no_greater : (b : Problem) (t : Trace) → trace_loss b t.steps.items < no_loss → IsFirstPlan b t.steps.items → IsNoGreater b (first_loss b (Some t))
first_no_greater b t small first drafted is =
    let longer : b.params.height * length_of b t.steps.items ≤ b.params.height * length_of b drafted = mul-le-mul_left b.params.height (first.no_longer drafted is) in
    (omega (arith, longer), small)

none_no_greater : (b : Problem) (number : ℕ) → HasNoDraft b number → IsNoGreater b (first_loss b None)
none_no_greater b number none drafted is = absurd (draft_or_none b drafted number is none)

pub no_greater : (b : Problem) (first : Option Trace) → IfSome first (λ t. IsFirstPlan b t.steps.items) → IfNone first ((number : ℕ) × HasNoDraft b number)
    → IfSome first (λ _. first_loss b first < no_loss) → IsNoGreater b (first_loss b first)
no_greater b None plan none small = none_no_greater b none.0 none.1
no_greater b (Some t) plan none small = first_no_greater b t small plan

-- one box has one certificate
pub record IsOne (R : PlainBox → Certificate → Type 0) (x : PlainBox) (cs : List Certificate) : Type 0 where
  pub c : Certificate
  pub only : cs ≡ c ∷ []
  pub is : R x c

pub one_of : (R : PlainBox → Certificate → Type 0) (x : PlainBox) (cs : List Certificate) → AllZip R (x ∷ []) cs → IsOne R x cs
one_of R x [] all = absurd all
one_of R x (c ∷ []) all = record { c = c; only = refl; is = all.0 }
one_of R x (c ∷ d ∷ ds) all = absurd all.1

-- what was taken from a list of one
pub taken : (c d : Certificate) (rest : List Certificate) → rest ++ d ∷ [] ≡ c ∷ [] → d ≡ c
taken c d [] e = cc e
taken c d (x ∷ []) e = cc e
taken c d (x ∷ y ∷ rest) e = cc e

-- the certificate of a lawful history, where it is the only one
certified_one : (b : Problem) (budget to_beat : ℕ) (h : History) (c : Certificate) → IsLawful b (course b to_beat budget h.floor) h
    → IsGood b (root_ranges b) (loss_of h.best) c → IsSearched b to_beat (root_ranges b) c → IsVersionFor h.floor c
    → length c.nodes.items ≡ length h.log.items + length h.left.items → c.left ≡ length h.left.items → Certifies b budget to_beat h c
certified_one b budget to_beat h c lawful good searched version nodes left =
    let counts = good_counts b (root_ranges b) (loss_of h.best) c good in
    let logged : handled c ≡ length h.log.items = omega (arith, counts, nodes, left) in
    record {
      good = good;
      handled_is = logged;
      left_is = left;
      version = version;
      in_budget = omega (arith, logged, lawful.in_budget);
      spent = λ some. logged ∙ lawful.spent (left_some (h.left.items) (omega (arith, some, left)));
      searched = searched;
    }
  where
    left_some : (xs : List Left) → 0 < length xs → xs ≢ []
    left_some [] some e = omega arith
    left_some (x ∷ xs) some e = cc e

-- the certificate of a lawful history from one box
pub certified : (b : Problem) (budget to_beat : ℕ) (h : History) (d : Certificate) (cs rest : List Certificate) → IsLawful b (course b to_beat budget h.floor) h
    → AreGood b (loss_of h.best) (course b to_beat budget h.floor).boxes cs → AreSearched b to_beat (course b to_beat budget h.floor).boxes cs
    → sum_by (λ (x : Certificate). length x.nodes.items) cs ≡ length h.log.items + length h.left.items → sum_by (λ (x : Certificate). x.left) cs ≡ length h.left.items
    → All (IsVersionFor h.floor) cs → cs ≡ rest ++ d ∷ [] → Certifies b budget to_beat h d
certified b budget to_beat h d [] rest lawful good searched nodes left version from = absurd good
certified b budget to_beat h d (c ∷ x ∷ cs) rest lawful good searched nodes left version from = absurd good.1
certified b budget to_beat h d (c ∷ []) rest lawful good searched nodes left version from =
    subst (Certifies b budget to_beat h) (sym (taken c d rest (sym from)))
    (certified_one b budget to_beat h c lawful good.0 searched.0 (All-head (IsVersionFor h.floor) c [] version) (omega (arith, nodes)) (omega (arith, left)))

-- the certificate of a lawful history is of a search
pub of_search : (b : Problem) (budget to_beat : ℕ) (h : History) (c : Certificate) → IsLawful b (course b to_beat budget h.floor) h → Certifies b budget to_beat h c → IsOfSearch b to_beat budget c
of_search b budget to_beat h c lawful certifies = record {
  history = h;
  lawful = subst (λ (n : ℕ). IsLawful b (course b to_beat budget n) h) (sym certifies.version.1) lawful;
  handled_is = certifies.handled_is;
  left_is = certifies.left_is;
  loss_is = certifies.good.loss_is;
}

-- it names the causes
pub names_causes : (floor : ℕ) (c : Certificate) → IsVersionFor floor c → 2 ≤ c.version
names_causes floor c is = omega (arith, is.0.0, two_or_three floor)

-- what the search found, and its improvements
pub found : (b : Problem) (budget : ℕ) (watch : Bool) (h : History) (c : Certificate) (plan : Option Forest) (told : Option (List ℕ)) → IsProblem b → budget ≤ MOST_BUDGET → (is : IsHistory b budget h)
    → Certifies b budget is.to_beat h c → HasLoss b (loss_of h.best) plan → IsSaidByItsText b plan → IsShortToo b plan → IsHead (head_of c) → AreTold b is.to_beat c.loss watch told
    → IsToldFound b budget watch c plan told
found b budget watch h c plan told problem most is certifies has said short head improvements =
    let loss = certifies.good.loss_is in
    let good = subst (λ (o : Option ℕ). IsGood b (root_ranges b) o c) (sym loss) certifies.good in
    record {
      found = record {
        good = good;
        version = subst (λ (n : ℕ). IsVersion (version_for n) c) (sym certifies.version.1) certifies.version.0;
        plan_is = subst (λ (o : Option ℕ). HasLoss b o plan) (sym loss) has;
        said = both_said b plan c said (is_text b c problem good (has_version h.floor c certifies.version) (omega (arith, certifies.in_budget, most)) head);
        readable = record { plan_short = short; cert_short = cert_short b c budget problem good (names_causes h.floor c certifies.version) head certifies.in_budget most };
        bounds = bounds_each_plan b 0 (loss_of h.best) c problem certifies.good;
        in_budget = certifies.in_budget;
        spent = certifies.spent;
        to_beat = is.to_beat;
        searched = certifies.searched;
        of_search = of_search b budget is.to_beat h c is.lawful certifies;
        no_greater = λ draft drafted. (at_most draft drafted, (is.no_greater drafted.0 drafted.1).1);
        no_worse = λ draft drafted. subst (λ (o : Option ℕ). Reaches o (plan_loss b draft)) (sym loss) (reaches draft drafted);
      };
      improvements = improvements;
    }
  where
    at_most : (draft : Forest) → IsDraftPlan b draft → is.to_beat ≤ plan_loss b draft
    at_most draft drafted =
        let e = draft_loss b drafted.0 problem drafted.1 in
        let k = is.no_greater drafted.0 drafted.1 in
        subst (λ (f : Forest). is.to_beat ≤ plan_loss b f) (sym drafted.2) (omega (arith, e, k.0))

    reaches : (draft : Forest) → IsDraftPlan b draft → Reaches (loss_of h.best) (plan_loss b draft)
    reaches draft drafted =
        let k = is.no_greater drafted.0 drafted.1 in
        let a = at_most draft drafted in
        subst (λ (o : Option ℕ). Reaches o (plan_loss b draft)) (sym (known h.best (omega (arith, is.lawful.best_first, k.1)))) (omega (arith, is.lawful.best_first, a))

-- there is a certificate for the box of all plans
pub no_certificate : (b : Problem) (budget to_beat : ℕ) (h : History) (cs : List Certificate) → AreGood b (loss_of h.best) (course b to_beat budget h.floor).boxes cs → cs ≡ [] → ⊥
no_certificate b budget to_beat h [] good e = good
no_certificate b budget to_beat h (c ∷ cs) good e = cc e

-- what follows from two facts of one answer
pub from_both : {T E : Type 0} (r : Result T E) (P Q R : T → Type 0) → IfOk r P → IfOk r Q → ((x : T) → P x → Q x → R x) → IfOk r R
from_both (Ok x) P Q R p q f = f x p q
from_both (Err e) P Q R p q f = tt

-- a lawful history that goes on from the first plan, and its improvements
pub from_first : (b : Problem) (budget : ℕ) (watch : Bool) (first : Option Trace) (floor : ℕ) (h : History) (list : Option (Listed Entry)) → IfSome first (λ t. IsFirstPlan b t.steps.items)
    → IfNone first ((number : ℕ) × HasNoDraft b number) → IsHistoryOf b (all_plans b) first budget floor h → AreWatched b (first_loss b first) h.best watch list → IsWatchedHistory b budget watch h list
from_first b budget watch first floor h list plan none is watched = record {
  history = record {
    to_beat = first_loss b first;
    lawful = subst (λ (n : ℕ). IsLawful b (course b (first_loss b first) budget n) h) (sym is.lawful.floor_is) is.lawful;
    no_greater = no_greater b first plan none is.known;
  };
  watched = watched;
}
