-- What the plant may rely on is a part of what the laws say.
use Rattle.std.proofs.Common.{◌≡◌, ◌≢◌, ◌↔◌, ◌<◌, ◌+◌, ◌++◌, arith, ℕ, suc, List, Bool, true, false, append_assoc, if◌then◌else◌, refl, sym, ap, subst, ◌∙◌, Option, Some, None, is_some, option_map}
use Rattle.std.specs.Prelude.{◌==◌, codes}
use Rattle.glass_base.specs.Problem.{Problem}
use Rattle.glass_io.specs.Told.{Contents}
use Rattle.cut_model.specs.Lawful.{IsLawful}
use Rattle.cut_model.specs.Loss.{loss_of}
use Rattle.cut_model.specs.Tree.{Forest, neighbour_count}
use Rattle.cert_log.specs.declared.certificate.Certificate.{Certificate}
use Rattle.cert_log.specs.Good.{Reaches}
use Rattle.cert_log.specs.Texts.{cert_text}
use Rattle.command_line.specs.Grammar.{Line, count_in}
use Rattle.command_line.specs.declared.kinds.Count.TheVariants as count
use Rattle.command_line.specs.declared.kinds.Verb.TheVariants as verb
use Rattle.plan_freeze.specs.Rests.{frozen_loss}
use Rattle.glass_run.specs.FreezeHeadlines.{AcceptsBehind, AcceptsFrom, StoresFreeze, frozen_in, whole_of}
use Rattle.run_checks.specs.FrozenChecks.{raised}
use Rattle.glass_run.specs.Headlines.{Accepts, StoresResumed, StoresSearch}
use Rattle.run_search.specs.Plans.{HasLoss, counted_lines, ended_lines, ending, handled, history_lines, search_lines}
use Rattle.run_frame.specs.Runs.{Prints, World}
use Rattle.run_frame.specs.Codes.{word_of}
use Rattle.run_frame.specs.declared.status.Status.{Status}
use Rattle.run_frame.specs.declared.status.Status.TheVariants as status
use Rattle.glass_run.proofs.Headlines.{said_by}
use Rattle.plain_laws.specs.Plain.{AcceptsPlan, AcceptsPlanBehind, FindsPlan, FindsPlanBehind, IsBounded, PrintsEnd, ResumesPlan}

optimal_not_stopped : (result : Status) → result ≡ status.Optimal → result ≢ status.Stopped
optimal_not_stopped result optimal stopped = clash (sym optimal ∙ stopped)
  where
    clash : status.Optimal ≡ status.Stopped → ⊥
    clash e = cc e

infeasible_not_stopped : (result : Status) → result ≡ status.Infeasible → result ≢ status.Stopped
infeasible_not_stopped result infeasible stopped = clash (sym infeasible ∙ stopped)
  where
    clash : status.Infeasible ≡ status.Stopped → ⊥
    clash e = cc e

-- a search that found that there is no plan has no loss
no_loss : (c : Certificate) → ending c ≡ status.Infeasible → c.loss ≡ None
no_loss c e = by (c.left == 0) c.loss e
  where
    by : (closed : Bool) (loss : Option ℕ) → (if closed then (if is_some loss then status.Optimal else status.Infeasible) else status.Stopped) ≡ status.Infeasible → loss ≡ None
    by true None e = refl
    by true (Some n) e = cc e
    by false loss e = cc e

-- what is right of a plan and of a certificate's loss and bound
bounded : (b : Problem) (plan : Option Forest) (c : Certificate) (result : Status) → HasLoss b c.loss plan → ((other : Forest) → IsLawful b other → Reaches c.bound (loss_of b other))
    → result ≡ ending c → (result ≢ status.Stopped → c.bound ≡ c.loss) → IsBounded b plan c.loss c.bound result
bounded b plan c result has bounds ends exact = record {
  plan_is = has;
  bounds = bounds;
  optimal = λ optimal other lawful. subst (λ (o : Option ℕ). Reaches o (loss_of b other)) (exact (optimal_not_stopped result optimal)) (bounds other lawful);
  infeasible = λ infeasible other lawful.
      subst (λ (o : Option ℕ). Reaches o (loss_of b other)) (exact (infeasible_not_stopped result infeasible) ∙ no_loss c (sym ends ∙ infeasible)) (bounds other lawful);
}

-- the word for how a search ended is that of its status
word_said : (c : Certificate) (result : Status) → result ≡ ending c → word_of (ending c) ≡ word_of result
word_said c result ends = ap word_of (sym ends)

-- the lines of a search begin with how it ended
prints_end : (c : Certificate) (result : Status) (plates : Option ℕ) (told : Option (List ℕ)) (old new : World) → result ≡ ending c → Prints (search_lines c plates told) old.paper new.paper →
    PrintsEnd result c.loss c.bound old new
prints_end c result plates None old new ends prints =
    let counted : List ℕ = counted_lines plates (handled c) c.left in
    (counted, subst (λ (how : List ℕ). Prints (ended_lines how c.loss c.bound ++ counted) old.paper new.paper) (word_said c result ends) prints)
prints_end c result plates (Some losses) old new ends prints =
    let ended : List ℕ = ended_lines (word_of (ending c)) c.loss c.bound in
    let later : List ℕ = counted_lines plates (handled c) c.left ++ history_lines losses in (
      later,
      subst (λ (how : List ℕ). Prints (ended_lines how c.loss c.bound ++ later) old.paper new.paper) (word_said c result ends)
          (subst (λ (lines : List ℕ). Prints lines old.paper new.paper) (append_assoc ended (counted_lines plates (handled c) c.left) (history_lines losses)) prints),
    )

pub finds_plan : (line : Line) (held : Contents) (old new : World) (result : Status) → StoresSearch line held old new result → FindsPlan line held old new result
finds_plan line held old new result s = record {
  texts = s.texts;
  b = s.b;
  reads = s.reads;
  plan = s.plan;
  loss = s.certificate.loss;
  bound = s.certificate.bound;
  bounded = bounded s.b s.plan s.certificate result s.plan_is s.bounds s.ends s.exact;
  stored = (cert_text s.certificate, s.stored);
  prints = prints_end s.certificate result (option_map neighbour_count s.plan) s.told old new s.ends s.prints;
}

pub resumes_plan : (line : Line) (held : Contents) (old new : World) (result : Status) → line.verb ≡ verb.Resume → StoresResumed line held old new result → ResumesPlan line held old new result
resumes_plan line held old new result of s = record {
  found = record {
    texts = s.texts;
    b = s.b;
    reads = said_by line held s.texts s.b of s.right.reads;
    plan = s.plan;
    loss = s.joined.loss;
    bound = s.joined.bound;
    bounded = bounded s.b s.plan s.joined result s.resumed.plan_is s.resumed.bounds s.ends s.exact;
    stored = (cert_text s.joined, s.stored);
    prints = prints_end s.joined result (option_map neighbour_count s.plan) None old new s.ends s.prints;
  };
  before = s.right.plan;
  said = s.right.said.plan_is;
  lawful = s.right.lawful;
  no_worse = s.resumed.no_worse;
}

-- so where there is a plan in any case
word_behind : (closed : Bool) (loss : Option ℕ) (n : ℕ) (result : Status) → loss ≡ Some n → (closed ≡ true → result ≡ status.Optimal) → (closed ≡ false → result ≡ status.Stopped)
    → word_of (if closed then (if is_some loss then status.Optimal else status.Infeasible) else status.Stopped) ≡ word_of result
word_behind true loss n result is optimal stopped =
    subst (λ (o : Option ℕ). word_of (if is_some o then status.Optimal else status.Infeasible) ≡ word_of result) (sym is) (ap word_of (sym (optimal refl)))
word_behind false loss n result is optimal stopped = ap word_of (sym (stopped refl))

freeze_word : (more n : ℕ) (c : Certificate) (result : Status) → option_map (λ m. more + m) c.loss ≡ Some n → (result ≡ status.Stopped ↔ (0 < c.left)) → (result ≢ status.Stopped → result ≡ status.Optimal)
    → word_of (ending (raised more c)) ≡ word_of result
freeze_word more n c result loss left_open exact =
    word_behind (c.left == 0) (option_map (λ m. more + m) c.loss) n result loss (λ closed. exact (λ stopped. none_open closed (left_open.0 stopped))) (λ left. left_open.1 (some_open left))
  where
    none_open : (c.left == 0) ≡ true → 0 < c.left → ⊥
    none_open e h = grind (arith, e, h)

    some_open : (c.left == 0) ≡ false → 0 < c.left
    some_open e = grind (arith, e)

pub freezes_plan : (line : Line) (held : Contents) (old new : World) (result : Status) → StoresFreeze line held old new result → FindsPlanBehind line held old new result
freezes_plan line held old new result s =
    let more : ℕ = frozen_loss s.b s.plan (frozen_in line) in
    let whole : Forest = whole_of line s.plan s.tail in
    let c : Certificate = s.certificate in
    let counted : List ℕ = counted_lines (Some (neighbour_count whole)) (handled c) c.left in
    let bound : Option ℕ = option_map (λ n. more + n) c.bound in
    record {
      texts = s.texts;
      b = s.b;
      reads = s.reads;
      before = s.plan;
      said = s.said;
      lawful_before = s.lawful;
      plan = whole;
      lawful = s.whole_lawful;
      begins = s.begins;
      no_worse = s.no_worse;
      bound = bound;
      bounds = s.bounds;
      optimal = λ optimal other begins lawful.
          let exact = (s.exact (optimal_not_stopped result optimal)).1 in
          let least : Reaches (option_map (λ n. more + n) c.loss) (loss_of s.b other) =
          subst (λ (o : Option ℕ). Reaches (option_map (λ n. more + n) o) (loss_of s.b other)) exact (s.bounds other begins lawful) in
          subst (λ (o : Option ℕ). Reaches o (loss_of s.b other)) s.loss_is least;
      stored = (cert_text c, s.stored);
      prints = (
        counted,
        subst (λ (how : List ℕ). Prints (ended_lines how (Some (loss_of s.b whole)) bound ++ counted) old.paper new.paper) (freeze_word more (loss_of s.b whole) c result s.loss_is s.left_open (λ h. (s.exact h).0))
            (subst (λ (o : Option ℕ). Prints (ended_lines (word_of (ending (raised more c))) o bound ++ counted) old.paper new.paper) s.loss_is s.prints),
      );
    }

pub accepts_plan : (line : Line) (held : Contents) (old new : World) → count_in line count.Frozen ≡ 0 → AcceptsFrom (count_in line count.Frozen) line held old new → AcceptsPlan line held old new
accepts_plan line held old new none h =
    let s : Accepts line held old new = subst (λ (k : ℕ). AcceptsFrom k line held old new) none h in
    record {
      texts = s.texts;
      b = s.b;
      reads = s.right.reads;
      plan = s.right.plan;
      said = s.right.said.plan_is;
      lawful = s.right.lawful;
      bound = s.certificate.bound;
      bounds = s.right.bounds;
      unchanged = s.unchanged;
      prints = (s.certificate.left, s.prints);
    }

pub accepts_plan_behind : (k : ℕ) (line : Line) (held : Contents) (old new : World) → count_in line count.Frozen ≡ suc k → AcceptsFrom (count_in line count.Frozen) line held old new
    → AcceptsPlanBehind (suc k) line held old new
accepts_plan_behind k line held old new some h =
    let s : AcceptsBehind (suc k) line held old new = subst (λ (n : ℕ). AcceptsFrom n line held old new) some h in
    record {
      texts = s.texts;
      b = s.b;
      reads = s.reads;
      plan = s.plan;
      said = s.right.said.plan_is;
      lawful = s.right.lawful;
      bound = option_map (λ n. frozen_loss s.b s.plan (suc k) + n) s.certificate.bound;
      bounds = s.bounds;
      unchanged = s.unchanged;
      prints = (s.certificate.left, s.prints);
    }
