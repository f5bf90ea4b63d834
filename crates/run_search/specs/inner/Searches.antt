-- The parts of what a search found.
use Rattle.std.specs.Prelude.{◌≡◌, ◌≤◌, ◌<◌, ◌*◌, ℕ, length, List, [], ◌∷◌, Bool, true, false, map, option_map, IfSome, Option, Some, None}
use Rattle.glass_base.specs.Problem.{Problem}
use Rattle.glass_base.specs.Run.{Listed}
use Rattle.glass_base.specs.declared.role.Role.TheVariants as role
use Rattle.cut_model.specs.declared.steps.Step.{Step}
use Rattle.cut_model.specs.Loss.{loss_of as plan_loss}
use Rattle.cut_model.specs.Tree.{Forest, count}
use Rattle.cut_model.specs.declared.steps.Trace.{Trace}
use Rattle.plan_box.specs.Frames.{frame_of}
use Rattle.plan_box.specs.Ranges.{PlainBox, root_of}
use Rattle.plan_draft.specs.Drafts.{IsDraft}
use Rattle.best_board.specs.declared.entry.Entry.{Entry}
use Rattle.best_board.specs.Improvements.{AreImprovements, Found, found_in, last_loss}
use Rattle.cert_log.specs.declared.certificate.Certificate.{Certificate}
use Rattle.cert_log.specs.declared.history.History.{History}
use Rattle.cert_log.specs.Good.{IsGood, IsVersionFor}
use Rattle.cert_log.specs.Lawful.{IsLawful, loss_of, no_loss, trace_loss}
use Rattle.cert_log.specs.Outcomes.{IsHead}
use Rattle.cert_log.specs.Splits.{IsSearched}
use Rattle.cert_log.specs.Texts.{head_of}
use Rattle.box_workers.specs.Runs.{first_loss}
use Rattle.plan_csv.specs.Solutions.{solution_text}
use Rattle.plan_freeze.specs.Frozen.{later_plates}
use Rattle.plan_freeze.specs.Rests.{IsRest}
use Rattle.run_search.specs.Freezes.{IsFoundFrom}
use Rattle.run_search.specs.Plans.{AreTold, IsFound, course, course_from, handled}
use Rattle.run_checks.specs.Checks.{root_ranges}
use Rattle.run_checks.specs.Said.{IsPlanIn}
use Rattle.run_frame.specs.Texts.{limit_of}

-- the boxes that a search of all plans begins with
abbrev pub all_plans : Problem → List PlainBox
all_plans b = root_of (frame_of b) 0 ∷ []

-- a lawful history of a search of these boxes, which may handle so many and has this floor: it was to beat the loss of the first plan,
-- which is known where there is one
pub record IsHistoryOf (b : Problem) (boxes : List PlainBox) (first : Option Trace) (budget floor : ℕ) (h : History) : Type 0 where
  pub lawful : IsLawful b (course_from boxes (first_loss b first) budget floor) h
  pub known : IfSome first (λ _. first_loss b first < no_loss)

-- where there is a draft, the loss is known, and no greater than the draft's
abbrev pub IsNoGreater : Problem → ℕ → Type 0
IsNoGreater b to_beat = (drafted : List Step) → IsDraft b drafted → (to_beat ≤ trace_loss b drafted) × (to_beat < no_loss)

-- the losses of the improvements that were found, where they are watched
abbrev pub losses_in : Option (Listed Entry) → Option (List ℕ)
losses_in list = option_map (λ (r : Listed Entry). map (λ (e : Entry). e.loss) r.items) list

-- the loss of the first plan, if there is one
abbrev pub begun_with : List Found → Option ℕ
begun_with [] = None
begun_with (f ∷ fs) = Some f.loss

-- improvements were found exactly where they are watched: they fall, begin with the loss that was to be beaten, where there was one, and end
-- with the best loss
abbrev pub AreWatched : Problem → ℕ → ℕ → Bool → Option (Listed Entry) → Type 0
AreWatched b to_beat best false list = list ≡ None
AreWatched b to_beat best true None = ⊥
AreWatched b to_beat best true (Some list) =
    AreImprovements b (found_in list.items) × (to_beat < no_loss → begun_with (found_in list.items) ≡ Some to_beat) × (last_loss (found_in list.items) ≡ loss_of best)

-- a lawful history of a search that may handle so many boxes
pub record IsHistory (b : Problem) (budget : ℕ) (h : History) : Type 0 where
  pub to_beat : ℕ
  pub lawful : IsLawful b (course b to_beat budget h.floor) h
  pub no_greater : IsNoGreater b to_beat

-- such a history, and the improvements of the search, where they are watched
pub record IsWatchedHistory (b : Problem) (budget : ℕ) (watch : Bool) (h : History) (list : Option (Listed Entry)) : Type 0 where
  pub history : IsHistory b budget h
  pub watched : AreWatched b history.to_beat h.best watch list

-- what a search found, and its improvements, where they are told
pub record IsToldFound (b : Problem) (budget : ℕ) (watch : Bool) (c : Certificate) (plan : Option Forest) (told : Option (List ℕ)) : Type 0 where
  pub found : IsFound b budget c plan
  pub improvements : AreTold b found.to_beat c.loss watch told

-- a lawful history of a search that goes on from a plan, and is to beat a loss that is no greater
pub record IsHistoryFrom (b : Problem) (plan : Forest) (budget : ℕ) (fronts : Bool) (h : History) : Type 0 where
  pub to_beat : ℕ
  pub lawful : IsLawful b (course b to_beat budget h.floor) h
  pub no_greater : to_beat ≤ plan_loss b plan
  pub known : to_beat < no_loss
  pub unasked : fronts ≡ false → h.floor ≡ 0

-- what a search found that plans anew what stands behind the first plates
pub record IsFoundBehind (b : Problem) (plan : Forest) (k budget : ℕ) (fronts : Bool) (c : Certificate) (best : Forest) : Type 0 where
  pub left : Problem
  pub rest_is : IsRest b plan k left
  pub found : IsFoundFrom left (later_plates k plan) budget fronts c best
  pub few : count best ≤ 12 * length left.items
  pub head : IsHead (head_of c)

-- the certificate of a history
pub record Certifies (b : Problem) (budget to_beat : ℕ) (h : History) (c : Certificate) : Type 0 where
  pub good : IsGood b (root_ranges b) (loss_of h.best) c
  pub handled_is : handled c ≡ length h.log.items
  pub left_is : c.left ≡ length h.left.items
  pub version : IsVersionFor h.floor c
  pub in_budget : handled c ≤ budget
  pub spent : 0 < c.left → handled c ≡ budget
  pub searched : IsSearched b to_beat (root_ranges b) c

-- the text of a plan says this plan, if there is one
abbrev pub IsSaidByItsText : Problem → Option Forest → Type 0
IsSaidByItsText b plan = IsPlanIn b (option_map (solution_text b) plan) plan

-- the text of a plan, if there is one, has no more bytes than one that is read
abbrev pub IsShortToo : Problem → Option Forest → Type 0
IsShortToo b plan = IfSome (option_map (solution_text b) plan) (λ text. length text ≤ limit_of role.Plan)
