-- What a user may conclude from how `freeze` ended.
use Rattle.std.specs.Prelude.{◌≡◌, ◌≢◌, ◌↔◌, ◌+◌, ◌<◌, ◌≤◌, ℕ, zero, suc, false, Some, Ok, option_map, codes}
use Rattle.glass_base.specs.Problem.{Problem}
use Rattle.glass_base.specs.declared.role.Role.TheVariants as role
use Rattle.glass_io.specs.Told.{Contents}
use Rattle.cut_model.specs.Lawful.{IsLawful}
use Rattle.cut_model.specs.Loss.{loss_of}
use Rattle.cut_model.specs.Tree.{Forest, neighbour_count}
use Rattle.cert_log.specs.declared.certificate.Certificate.{Certificate}
use Rattle.cert_log.specs.Good.{IsGood, Reaches}
use Rattle.cert_log.specs.Splits.{IsSearched}
use Rattle.plan_csv.specs.PlanTexts.{plan_said}
use Rattle.plan_freeze.specs.Frozen.{BeginsWith, first_plates, joined, later_plates}
use Rattle.plan_freeze.specs.Rests.{IsRest, frozen_loss}
use Rattle.command_line.specs.Grammar.{Line, count_in, flag_in, lead_in}
use Rattle.command_line.specs.declared.kinds.Count.TheVariants as count
use Rattle.command_line.specs.declared.kinds.Flag.TheVariants as flag
use Rattle.command_line.specs.declared.kinds.Lead.TheVariants as lead
use Rattle.command_line.specs.declared.kinds.Verb.{Verb}
use Rattle.command_line.specs.declared.kinds.Verb.TheVariants as verb
use Rattle.cert_log.specs.Texts.{cert_text}
use Rattle.plan_csv.specs.Solutions.{solution_text}
use Rattle.cert_check.specs.declared.verdict.Why.{Why}
use Rattle.cert_check.specs.Faults.{IsFirstFault, SaysWrong}
use Rattle.glass_io.specs.Told.{SameContents}
use Rattle.run_checks.specs.Checks.{bound_line, refused_line, root_ranges}
use Rattle.glass_run.specs.Commands.{cert_name, plan_name}
use Rattle.run_checks.specs.FrozenChecks.{IsAcceptedBehind, loss_behind, raised}
use Rattle.glass_run.specs.Headlines.{Accepts, FindsWrong, ReadBy}
use Rattle.run_checks.specs.Said.{SayBoth}
use Rattle.run_search.specs.Plans.{AreReadable, IsOfSearch, both_stores, handled, search_summary}
use Rattle.run_frame.specs.Runs.{Prints, Stands, World}
use Rattle.run_frame.specs.Texts.{Texts, text_or_empty}
use Rattle.run_frame.specs.declared.status.Status.{Status}
use Rattle.run_frame.specs.declared.status.Status.TheVariants as status

-- the number of plates that are cut already
abbrev pub frozen_in : Line → ℕ
frozen_in line = lead_in line lead.Frozen

-- the first plates of a plan, and then the plates of another one
abbrev pub whole_of : Line → Forest → Forest → Forest
whole_of line plan tail = joined (first_plates (frozen_in line) plan) tail

-- the plan that PLAN says is lawful and has more than these first plates; a search planned anew what stands behind them, and what it found is stored
-- and printed: OUT holds the text of the whole plan, CERT that of the certificate, and the six lines on them are printed
pub record StoresWhole (line : Line) (held : Contents) (old new : World) : Type 0 where
  pub texts : Texts
  pub b : Problem
  pub plan : Forest
  pub rest : Problem
  pub tail : Forest
  pub certificate : Certificate
  pub reads : ReadBy line held texts b
  pub said : plan_said b (text_or_empty texts role.Plan) ≡ Ok plan
  pub lawful : IsLawful b plan
  pub fewer : frozen_in line < neighbour_count plan
  pub rest_is : IsRest b plan (frozen_in line) rest
  pub stored : Stands (both_stores b (plan_name line) (cert_name line) certificate (Some (whole_of line plan tail))) old.shelf.contents new.shelf.contents
  pub prints : Prints (search_summary (raised (frozen_loss b plan (frozen_in line)) certificate) (Some (neighbour_count (whole_of line plan tail)))) old.paper new.paper

-- and it is right
pub record StoresFreeze (line : Line) (held : Contents) (old new : World) (result : Status) : Type 0 where
  pub found : StoresWhole line held old new
  pub open found use *
  -- the whole plan begins with the first plates, is lawful, has the printed loss, and loses no more than the plan that PLAN says
  pub begins : BeginsWith (frozen_in line) plan (whole_of line plan tail)
  pub whole_lawful : IsLawful b (whole_of line plan tail)
  pub loss_is : option_map (λ n. frozen_loss b plan (frozen_in line) + n) certificate.loss ≡ Some (loss_of b (whole_of line plan tail))
  pub no_worse : loss_of b (whole_of line plan tail) ≤ loss_of b plan
  -- every lawful plan that begins with these plates loses at least the printed bound
  pub bounds : (other : Forest) → BeginsWith (frozen_in line) plan other → IsLawful b other → Reaches (option_map (λ n. frozen_loss b plan (frozen_in line) + n) certificate.bound) (loss_of b other)
  -- the certificate is right for the box of all plans of the instance that is left
  pub good : IsGood rest (root_ranges rest) certificate.loss certificate
  -- the texts say it and the whole plan, behind whose first plates the same instance is left, and which lose the same: so `verify`, where as many plates
  -- are said to be cut already, accepts them with the printed bound and this number of open boxes (`run_checks::laws`), or does not show the floor: never
  -- where that is 0, as without `--fronts`
  pub right : IsAcceptedBehind b (frozen_in line) (solution_text b (whole_of line plan tail)) (cert_text certificate) (whole_of line plan tail) rest certificate
  pub same_loss : frozen_loss b (whole_of line plan tail) (frozen_in line) ≡ frozen_loss b plan (frozen_in line)
  pub unasked : flag_in line flag.Fronts ≡ false → certificate.floor ≡ 0
  -- both texts are no longer than those that are read
  pub readable : AreReadable (Some (solution_text b (whole_of line plan tail))) (cert_text certificate)
  -- `stopped` is printed exactly where a box is left open, and then as many boxes were closed or split as the budget says; else `optimal`, and
  -- the bound is the loss
  pub left_open : result ≡ status.Stopped ↔ (0 < certificate.left)
  pub in_budget : handled certificate ≤ count_in line count.Budget
  pub spent : result ≡ status.Stopped → handled certificate ≡ count_in line count.Budget
  pub exact : result ≢ status.Stopped → (result ≡ status.Optimal) × (certificate.bound ≡ certificate.loss)

-- and each box was handled once or is left open
pub record HandlesEachBoxBehind (line : Line) (held : Contents) (old new : World) : Type 0 where
  pub found : StoresWhole line held old new
  pub open found use *
  -- the certificate is that of a lawful history of a search of all plans of the instance that is left
  pub to_beat : ℕ
  pub of_search : IsOfSearch rest to_beat (count_in line count.Budget) certificate
  -- no box was split that is refuted, or whose bound reaches what was to be beaten, which is no more than the plan that PLAN says loses behind the first
  -- plates
  pub searched : IsSearched rest to_beat (root_ranges rest) certificate
  pub no_greater : to_beat ≤ loss_of rest (later_plates (frozen_in line) plan)

-- the plan that PLAN says is lawful and has more than these first plates, and CERT says a certificate that is right for the instance that is left
-- behind them, and for what the plan loses there; so every lawful plan that begins with these plates loses at least its bound and what they lose,
-- and this bound and the certificate's number of open boxes are printed
pub record AcceptsBehind (k : ℕ) (line : Line) (held : Contents) (old new : World) : Type 0 where
  pub texts : Texts
  pub b : Problem
  pub plan : Forest
  pub rest : Problem
  pub certificate : Certificate
  pub reads : ReadBy line held texts b
  pub right : IsAcceptedBehind b k (text_or_empty texts role.Plan) (text_or_empty texts role.Cert) plan rest certificate
  pub bounds : (other : Forest) → BeginsWith k plan other → IsLawful b other → Reaches (option_map (λ n. frozen_loss b plan k + n) certificate.bound) (loss_of b other)
  pub unchanged : SameContents old.shelf.contents new.shelf.contents
  pub prints : Prints (bound_line (codes "accepted") (raised (frozen_loss b plan k) certificate)) old.paper new.paper

-- what holds where `verify` is done, by how many plates are said to be cut already
abbrev pub AcceptsFrom : ℕ → Line → Contents → World → World → Type 0
AcceptsFrom zero line held old new = Accepts line held old new
AcceptsFrom (suc k) line held old new = AcceptsBehind (suc k) line held old new

-- the plan that PLAN says is lawful and has more than these first plates, and the certificate that CERT says is not right for the instance that is
-- left behind them, and for what the plan loses there, or its floor is not shown; the first check that it fails is printed
pub record FindsWrongBehind (k : ℕ) (line : Line) (held : Contents) (old new : World) : Type 0 where
  pub texts : Texts
  pub b : Problem
  pub plan : Forest
  pub rest : Problem
  pub certificate : Certificate
  pub at : ℕ
  pub why : Why
  pub reads : ReadBy line held texts b
  pub said : SayBoth b (Some (text_or_empty texts role.Plan)) (text_or_empty texts role.Cert) (Some plan) certificate
  pub lawful : IsLawful b plan
  pub fewer : k < neighbour_count plan
  pub rest_is : IsRest b plan k rest
  pub wrong : SaysWrong rest (root_ranges rest) (loss_behind rest k plan) certificate why
  pub first : IsFirstFault rest (root_ranges rest) (loss_behind rest k plan) certificate at why
  pub unchanged : SameContents old.shelf.contents new.shelf.contents
  pub prints : Prints (refused_line at why) old.paper new.paper

abbrev pub FindsWrongFrom : ℕ → Line → Contents → World → World → Type 0
FindsWrongFrom zero line held old new = FindsWrong line held old new
FindsWrongFrom (suc k) line held old new = FindsWrongBehind (suc k) line held old new

-- how many plates a line of this command says to be cut already, of which it checks a certificate
abbrev pub cut_already : Verb → Line → ℕ
cut_already verb.Verify line = count_in line count.Frozen
cut_already _ line = 0
