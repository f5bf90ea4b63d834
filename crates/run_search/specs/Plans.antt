-- What `plan` answers to an instance.
use Rattle.std.specs.Prelude.{◌≡◌, ◌≤◌, ◌<◌, ◌*◌, ◌==◌, ◌⊎◌, ◌++◌, ℕ, List, [], ◌∷◌, length, count_by, not, Bool, true, false, All, AllPairs, codes, if◌then◌else◌, is_some, option_map, IfSome, Option, Some, None}
use Rattle.std.specs.Fmt.{decimal}
use Rattle.glass_base.specs.Problem.{Problem}
use Rattle.glass_base.specs.declared.role.Role.TheVariants as role
use Rattle.cut_model.specs.Lawful.{IsLawful}
use Rattle.cut_model.specs.Loss.{loss_of}
use Rattle.cut_model.specs.Tree.{Forest, neighbour_count}
use Rattle.plan_box.specs.Frames.{frame_of}
use Rattle.plan_box.specs.Ranges.{PlainBox, root_of}
use Rattle.cert_log.specs.declared.certificate.Certificate.{Certificate}
use Rattle.cert_log.specs.Good.{IsGood, IsVersion, Reaches, version_for}
use Rattle.cert_log.specs.declared.history.History.{History}
use Rattle.cert_log.specs.Lawful.{Course, IsLawful as IsLawfulHistory, loss_of as known_loss, no_loss}
use Rattle.cert_log.specs.Splits.{IsSearched}
use Rattle.cert_log.specs.Texts.{cert_text, loss_text}
use Rattle.cert_log.specs.Trees.{is_left}
use Rattle.plan_draft.specs.Drafts.{IsDraftPlan}
use Rattle.plan_csv.specs.Solutions.{solution_text}
use Rattle.run_frame.specs.declared.status.Status.{Status}
use Rattle.run_frame.specs.declared.status.Status.TheVariants as status
use Rattle.run_frame.specs.Answers.{Answer, Store, bad_input}
use Rattle.run_frame.specs.Codes.{word_of}
use Rattle.cert_resume.specs.Joins.{IsAtMost}
use Rattle.run_checks.specs.Checks.{IsLawfulPlanIn, NoLawfulPlan, loss_in, root_ranges}
use Rattle.run_checks.specs.Said.{SayBoth}
use Rattle.run_frame.specs.Texts.{limit_of}
use Rattle.run_search.specs.declared.work.TheConstants.{MOST_WORK}

-- how many boxes a certificate tells of that were closed or split
abbrev pub handled : Certificate → ℕ
handled c = count_by (λ node. not (is_left node)) c.nodes.items

-- there is a plan exactly where there is a loss; it is lawful and has that loss
abbrev pub HasLoss : Problem → Option ℕ → Option Forest → Type 0
HasLoss b None None = Unit {0}
HasLoss b (Some loss) (Some plan) = IsLawful b plan × (loss_of b plan ≡ loss)
HasLoss b _ _ = ⊥

-- a search from these boxes, that is to beat this loss, may handle so many boxes, and has this floor
abbrev pub course_from : List PlainBox → ℕ → ℕ → ℕ → Course
course_from boxes to_beat budget floor = record { boxes = boxes; first = to_beat; budget = budget; floor = floor }

-- one from the box of all plans
abbrev pub course : Problem → ℕ → ℕ → ℕ → Course
course b to_beat budget floor = course_from (root_of (frame_of b) 0 ∷ []) to_beat budget floor

-- the certificate is that of a lawful history of a search of all plans, in which each box was handled once or is left open: it tells of as many
-- boxes as were handled, and of those that were left
pub record IsOfSearch (b : Problem) (to_beat budget : ℕ) (c : Certificate) : Type 0 where
  pub history : History
  pub lawful : IsLawfulHistory b (course b to_beat budget c.floor) history
  pub handled_is : handled c ≡ length history.log.items
  pub left_is : c.left ≡ length history.left.items
  pub loss_is : c.loss ≡ known_loss history.best

-- the texts of a plan, if there is one, and of a certificate have no more bytes than those that are read
pub record AreReadable (plan_text : Option (List ℕ)) (cert : List ℕ) : Type 0 where
  pub plan_short : IfSome plan_text (λ text. length text ≤ limit_of role.Plan)
  pub cert_short : length cert ≤ limit_of role.Cert

-- what a search found that may close or split this many boxes: a certificate, and the best plan
pub record IsFound (b : Problem) (budget : ℕ) (c : Certificate) (plan : Option Forest) : Type 0 where
  -- the certificate is right for the box that holds every lawful plan, and for the loss of the plan; each closed box has its cause
  pub good : IsGood b (root_ranges b) c.loss c
  -- its version is 2, or 3 where it has a floor
  pub version : IsVersion (version_for c.floor) c
  pub plan_is : HasLoss b c.loss plan
  -- the texts of both, if there is a plan, are read again as this plan and this certificate
  pub said : SayBoth b (option_map (solution_text b) plan) (cert_text c) plan c
  pub readable : AreReadable (option_map (solution_text b) plan) (cert_text c)
  -- every lawful plan loses at least the bound; where there is no bound, there is no lawful plan
  pub bounds : (other : Forest) → IsLawful b other → Reaches c.bound (loss_of b other)
  -- no more boxes were closed or split than that, and exactly so many where one was left open
  pub in_budget : handled c ≤ budget
  pub spent : 0 < c.left → handled c ≡ budget
  -- no box was split that is refuted, or whose bound reaches this loss; it is no greater than the draft's, where there is a draft
  pub to_beat : ℕ
  pub searched : IsSearched b to_beat (root_ranges b) c
  pub of_search : IsOfSearch b to_beat budget c
  pub no_greater : (draft : Forest) → IsDraftPlan b draft → (to_beat ≤ loss_of b draft) × (to_beat < no_loss)
  -- where there is a draft, there is a plan that loses no more
  pub no_worse : (draft : Forest) → IsDraftPlan b draft → Reaches c.loss (loss_of b draft)

-- how a search ended: a box is left open, or else there is a plan or there is none
abbrev pub ending : Certificate → Status
ending c = if c.left == 0 then (if is_some c.loss then status.Optimal else status.Infeasible) else status.Stopped

-- how a search ended, its loss and its bound; what there is none of is `none`
abbrev pub ended_lines : List ℕ → Option ℕ → Option ℕ → List ℕ
ended_lines how loss bound = codes "status " ++ how ++ codes "\nloss " ++ loss_text loss ++ codes "\nbound " ++ loss_text bound ++ codes "\n"

-- how many plates its plan uses, how many boxes were closed or split, and how many are left open
abbrev pub counted_lines : Option ℕ → ℕ → ℕ → List ℕ
counted_lines plates boxes left = codes "plates " ++ loss_text plates ++ codes "\nboxes " ++ decimal boxes ++ codes "\nopen " ++ decimal left ++ codes "\n"

-- the six lines that are printed of a search
abbrev pub search_summary : Certificate → Option ℕ → List ℕ
search_summary c plates = ended_lines (word_of (ending c)) c.loss c.bound ++ counted_lines plates (handled c) c.left

-- the loss of the first of these, if there is one
abbrev pub first_of : List ℕ → Option ℕ
first_of [] = None
first_of (loss ∷ losses) = Some loss

-- the loss of the last of these, if there is one
abbrev pub last_of : List ℕ → Option ℕ
last_of [] = None
last_of (loss ∷ []) = Some loss
last_of (loss ∷ next ∷ losses) = last_of (next ∷ losses)

-- the improvements of a search, by their losses: each is that of a lawful plan, and less than those before it; the first one is that of the
-- plan from which the search went on, where there was one, so that it was to beat that loss; the last one is that of the search's plan, and
-- where there is no plan there are none
pub record AreImprovements (b : Problem) (to_beat : ℕ) (loss : Option ℕ) (losses : List ℕ) : Type 0 where
  pub lawful : All (λ (n : ℕ). (plan : Forest) × IsLawful b plan × (loss_of b plan ≡ n)) losses
  pub falling : AllPairs (λ (earlier : ℕ) (later : ℕ). later < earlier) losses
  pub first : to_beat < no_loss → first_of losses ≡ Some to_beat
  pub last : last_of losses ≡ loss

-- the improvements are told exactly where that is asked for
abbrev pub AreTold : Problem → ℕ → Option ℕ → Bool → Option (List ℕ) → Type 0
AreTold b to_beat loss false told = told ≡ None
AreTold b to_beat loss true None = ⊥
AreTold b to_beat loss true (Some losses) = AreImprovements b to_beat loss losses

-- the lines of the improvements, one for each loss
abbrev pub entry_lines : List ℕ → List ℕ
entry_lines [] = []
entry_lines (loss ∷ losses) = (codes "entry " ++ decimal loss ++ codes "\n") ++ entry_lines losses

-- before them a line that tells how many there are
abbrev pub history_lines : List ℕ → List ℕ
history_lines losses = (codes "history " ++ decimal (length losses) ++ codes "\n") ++ entry_lines losses

-- what is printed of a search: the six lines, and behind them those of its improvements, where they are told
abbrev pub search_lines : Certificate → Option ℕ → Option (List ℕ) → List ℕ
search_lines c plates None = search_summary c plates
search_lines c plates (Some losses) = search_summary c plates ++ history_lines losses

-- a plan is stored under this name, if there is one
abbrev pub plan_stores : Problem → List ℕ → Option Forest → List Store
plan_stores b name None = []
plan_stores b name (Some plan) = record { name = name; bytes = solution_text b plan } ∷ []

-- the plan is stored, if there is one, then the certificate
abbrev pub both_stores : Problem → List ℕ → List ℕ → Certificate → Option Forest → List Store
both_stores b out cert c plan = plan_stores b out plan ++ record { name = cert; bytes = cert_text c } ∷ []

-- both are stored; the six lines are printed, and the improvements, where they are told
abbrev pub planned : Problem → List ℕ → List ℕ → Certificate → Option Forest → Option (List ℕ) → Answer
planned b out cert c plan told = record {
  status = ending c;
  stores = both_stores b out cert c plan;
  lines = search_lines c (option_map neighbour_count plan) told;
}

-- what a search found is stored under these names and told, with its improvements where they are watched; where fronts are not asked, it has
-- no floor; where a plan was known before, what is found loses no more
pub record Plans (b : Problem) (budget : ℕ) (watch fronts : Bool) (before : Option Forest) (out cert : List ℕ) (answer : Answer) : Type 0 where
  pub certificate : Certificate
  pub plan : Option Forest
  pub told : Option (List ℕ)
  pub found : IsFound b budget certificate plan
  pub improvements : AreTold b found.to_beat certificate.loss watch told
  pub unasked : fronts ≡ false → certificate.floor ≡ 0
  pub no_worse : IsAtMost certificate.loss (loss_in b before)
  pub answer_is : answer ≡ planned b out cert certificate plan told

-- the answer to the text of a plan that is known before, if there is one: what a search found, or what is told where the text says no lawful plan
abbrev pub PlansFrom : Problem → ℕ → Bool → Bool → Option (List ℕ) → List ℕ → List ℕ → Answer → Type 0
PlansFrom b budget watch fronts text out cert answer =
    ((before : Option Forest) × IsLawfulPlanIn b text before × Plans b budget watch fronts before out cert answer) ⊎ NoLawfulPlan b text answer

-- the answer to an instance, or a refusal where the search would be too much work
abbrev pub PlansWithin : Problem → ℕ → Bool → Bool → Option (List ℕ) → List ℕ → List ℕ → Answer → Type 0
PlansWithin b budget watch fronts text out cert answer =
    ((length b.items * budget ≤ MOST_WORK) × PlansFrom b budget watch fronts text out cert answer)
    ⊎ ((MOST_WORK < length b.items * budget) × (answer ≡ bad_input role.Batch 9 (length b.items) budget))
