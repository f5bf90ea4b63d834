-- What a user may conclude from how a run ended.
use Rattle.std.specs.Prelude.{◌≡◌, ◌≢◌, ◌↔◌, ◌+◌, ◌-◌, ◌^◌, ◌<◌, ◌≤◌, ℕ, List, length, Option, Some, Ok, option_map, codes, false}
use Rattle.glass_base.specs.Problem.{Problem}
use Rattle.glass_base.specs.declared.role.Role.TheVariants as role
use Rattle.glass_io.specs.Told.{Contents, SameContents, Stored}
use Rattle.cut_model.specs.declared.broken.Broken.{Broken}
use Rattle.cut_model.specs.Lawful.{IsLawful}
use Rattle.cut_model.specs.Loss.{loss_of}
use Rattle.cut_model.specs.Tree.{Forest, neighbour_count}
use Rattle.plan_box.specs.Frames.{frame_of}
use Rattle.plan_box.specs.Halves.{IsDepth}
use Rattle.cert_log.specs.declared.certificate.Certificate.{Certificate}
use Rattle.cert_log.specs.Good.{IsGood, Reaches}
use Rattle.cert_log.specs.Lawful.{no_loss}
use Rattle.cert_log.specs.Splits.{IsSearched}
use Rattle.cert_log.specs.Texts.{cert_text}
use Rattle.cert_check.specs.declared.verdict.Why.{Why}
use Rattle.cert_check.specs.Faults.{IsFirstFault, SaysWrong}
use Rattle.plan_draft.specs.Drafts.{HasNoDraft, IsDraftPlan}
use Rattle.plan_csv.specs.PlanTexts.{plan_said}
use Rattle.plan_csv.specs.Solutions.{solution_text}
use Rattle.cert_resume.specs.Joins.{IsAtMost}
use Rattle.run_checks.specs.Checks.{IsAccepted, IsConverted, IsLawfulPlanIn, IsLawfulToo, bound_line, loss_in, refused_line, root_ranges}
use Rattle.glass_run.specs.Commands.{Answers, HasInstance, cert_name, plan_name}
use Rattle.run_plans.specs.Drafts.{no_draft_line, summary}
use Rattle.run_plans.specs.Instances.{IsInstanceOf}
use Rattle.command_line.specs.Grammar.{Line, count_in, files_of, flag_in, line_of}
use Rattle.run_plans.specs.Judgements.{IsFirstBroken, lawful_line, unlawful_line}
use Rattle.run_search.specs.Plans.{AreReadable, AreTold, HasLoss, IsOfSearch, both_stores, ending, handled, search_lines, search_summary}
use Rattle.run_search.specs.Resumptions.{IsResumed, ResumesEachBox}
use Rattle.run_frame.specs.Runs.{LineRun, Prints, Stands, World}
use Rattle.run_checks.specs.Said.{SayBoth}
use Rattle.run_frame.specs.Texts.{Texts, limit_of, text_for, text_or_empty, texts_of}
use Rattle.command_line.specs.declared.kinds.Count.TheVariants as count
use Rattle.command_line.specs.declared.kinds.Flag.TheVariants as flag
use Rattle.command_line.specs.declared.kinds.Verb.{Verb}
use Rattle.command_line.specs.declared.kinds.Verb.TheVariants as verb
use Rattle.run_frame.specs.declared.status.Status.{Status}
use Rattle.run_frame.specs.declared.status.Status.TheVariants as status

-- these words are a line of this command, the files told what they held, and the run ended so
pub record Ended (words : List (List ℕ)) (verb : Verb) (line : Line) (held : Contents) (old new : World) (result : Status) : Type 0 where
  pub line_is : line_of words ≡ Some line
  pub verb_is : line.verb ≡ verb
  pub told : old.shelf.contents ≡ Some held
  pub runs : LineRun Answers line old new result

-- the instance of a line, and the texts of its files
pub record SaidBy (line : Line) (held : Contents) (texts : Texts) (b : Problem) : Type 0 where
  pub texts_are : texts_of held (files_of line) ≡ Ok texts
  pub instance_is : HasInstance line.verb line texts b

-- the texts of the files of a line say this instance, the defects among them
pub record ReadBy (line : Line) (held : Contents) (texts : Texts) (b : Problem) : Type 0 where
  pub texts_are : texts_of held (files_of line) ≡ Ok texts
  pub instance_is : IsInstanceOf texts (text_for texts role.Defects) b

-- OUT holds the text of a lawful plan of the instance, and its loss and its number of plates are printed
pub record StoresLawfulPlan (line : Line) (held : Contents) (old new : World) : Type 0 where
  pub texts : Texts
  pub b : Problem
  pub plan : Forest
  pub reads : SaidBy line held texts b
  pub lawful : IsLawful b plan
  pub stored : Stored (plan_name line) (solution_text b plan) old.shelf.contents new.shelf.contents
  pub prints : Prints (summary (loss_of b plan) (neighbour_count plan)) old.paper new.paper

-- the item of this number is the first without a place, and this is printed
pub record FindsNoDraft (line : Line) (held : Contents) (old new : World) : Type 0 where
  pub texts : Texts
  pub b : Problem
  pub number : ℕ
  pub reads : SaidBy line held texts b
  pub none : HasNoDraft b number
  pub unchanged : SameContents old.shelf.contents new.shelf.contents
  pub prints : Prints (no_draft_line number) old.paper new.paper

-- the plan that PLAN says is lawful for the instance, and its loss is printed
pub record FindsLawful (line : Line) (held : Contents) (old new : World) : Type 0 where
  pub texts : Texts
  pub b : Problem
  pub plan : Forest
  pub reads : ReadBy line held texts b
  pub said : plan_said b (text_or_empty texts role.Plan) ≡ Ok plan
  pub lawful : IsLawful b plan
  pub unchanged : SameContents old.shelf.contents new.shelf.contents
  pub prints : Prints (lawful_line (loss_of b plan)) old.paper new.paper

-- the plan that PLAN says is not lawful for the instance, and its first breach is printed
pub record FindsUnlawful (line : Line) (held : Contents) (old new : World) : Type 0 where
  pub texts : Texts
  pub b : Problem
  pub plan : Forest
  pub broken : Broken
  pub reads : ReadBy line held texts b
  pub said : plan_said b (text_or_empty texts role.Plan) ≡ Ok plan
  pub unlawful : ¬ IsLawful b plan
  pub first : IsFirstBroken b plan broken
  pub unchanged : SameContents old.shelf.contents new.shelf.contents
  pub prints : Prints (unlawful_line broken) old.paper new.paper

-- the command searches for a plan
abbrev pub IsSearch : Verb → Type 0
IsSearch verb.Plan = Unit {0}
IsSearch verb.Gen = Unit {0}
IsSearch _ = ⊥

-- the command judges a plan
abbrev pub IsJudging : Verb → Type 0
IsJudging verb.Plan = Unit {0}
IsJudging verb.Judge = Unit {0}
IsJudging verb.Verify = Unit {0}
IsJudging verb.Convert = Unit {0}
IsJudging verb.Resume = Unit {0}
IsJudging verb.Freeze = Unit {0}
IsJudging verb.Sheet = Unit {0}
IsJudging _ = ⊥

-- the command checks a certificate
abbrev pub IsCheck : Verb → Type 0
IsCheck verb.Verify = Unit {0}
IsCheck verb.Convert = Unit {0}
IsCheck verb.Resume = Unit {0}
IsCheck _ = ⊥

-- a search ended in one of these ways
abbrev pub IsSearchEnd : Status → Type 0
IsSearchEnd status.Optimal = Unit {0}
IsSearchEnd status.Stopped = Unit {0}
IsSearchEnd status.Infeasible = Unit {0}
IsSearchEnd _ = ⊥

-- what a search found is stored and printed: OUT holds the text of the plan, if there is one, CERT that of the certificate; the six lines on them are
-- printed, and with `--watch` the improvements
pub record StoresFound (line : Line) (held : Contents) (old new : World) : Type 0 where
  pub texts : Texts
  pub b : Problem
  pub plan : Option Forest
  pub certificate : Certificate
  pub told : Option (List ℕ)
  pub reads : SaidBy line held texts b
  pub stored : Stands (both_stores b (plan_name line) (cert_name line) certificate plan) old.shelf.contents new.shelf.contents
  pub prints : Prints (search_lines certificate (option_map neighbour_count plan) told) old.paper new.paper

-- and it is right
pub record StoresSearch (line : Line) (held : Contents) (old new : World) (result : Status) : Type 0 where
  pub found : StoresFound line held old new
  pub open found use *
  -- a printed plan is lawful and has the printed loss
  pub plan_is : HasLoss b certificate.loss plan
  -- every lawful plan loses at least the printed bound; where none is printed, there is no lawful plan
  pub bounds : (other : Forest) → IsLawful b other → Reaches certificate.bound (loss_of b other)
  -- the certificate is right for the box of all plans and for the printed loss; the texts say it and the plan, so that `verify` accepts them with this
  -- bound and this number of open boxes (`run_checks::laws`), or does not show the floor: never where that is 0, as without `--fronts`
  pub good : IsGood b (root_ranges b) certificate.loss certificate
  pub right : IsAccepted b (option_map (solution_text b) plan) (cert_text certificate) plan certificate
  pub unasked : flag_in line flag.Fronts ≡ false → certificate.floor ≡ 0
  -- both texts are no longer than those that are read
  pub readable : AreReadable (option_map (solution_text b) plan) (cert_text certificate)
  -- the status says whether a box is left open, and else whether there is a plan
  pub ends : result ≡ ending certificate
  -- `stopped` is printed exactly where a box is left open, and then as many boxes were closed or split as the budget says; else the
  -- bound is the loss
  pub left_open : result ≡ status.Stopped ↔ (0 < certificate.left)
  pub in_budget : handled certificate ≤ count_in line count.Budget
  pub spent : result ≡ status.Stopped → handled certificate ≡ count_in line count.Budget
  pub exact : result ≢ status.Stopped → certificate.bound ≡ certificate.loss
  -- with a budget of all boxes that a tree of the instance's depth can have, no box is left open
  pub enough : (depth : ℕ) → IsDepth (frame_of b) depth → 2 ^ (depth + 1) - 1 ≤ count_in line count.Budget → result ≢ status.Stopped
  -- never worse than the draft, nor than the plan that the file behind `--from=` says, which is lawful, if there is one
  pub no_worse : (draft : Forest) → IsDraftPlan b draft → Reaches certificate.loss (loss_of b draft)
  pub before : Option Forest
  pub said_before : IsLawfulPlanIn b (text_for texts role.Plan) before
  pub no_worse_than_before : IsAtMost certificate.loss (loss_in b before)

-- and each box was handled once or is left open
pub record HandlesEachBox (line : Line) (held : Contents) (old new : World) : Type 0 where
  pub found : StoresFound line held old new
  pub open found use *
  -- the certificate is that of a lawful history of a search of all plans
  pub to_beat : ℕ
  pub of_search : IsOfSearch b to_beat (count_in line count.Budget) certificate
  -- no box was split that is refuted, or whose bound reaches the loss that was to be beaten: that of the plan from which the search went on,
  -- which is no greater than the draft's, where there is a draft
  pub searched : IsSearched b to_beat (root_ranges b) certificate
  pub no_greater : (draft : Forest) → IsDraftPlan b draft → (to_beat ≤ loss_of b draft) × (to_beat < no_loss)
  -- each printed improvement is the loss of a lawful plan and less than those before it; the first one is the loss that was to be beaten, where
  -- there was one, and the last one is the printed loss
  pub improvements : AreTold b to_beat certificate.loss (flag_in line flag.Watch) told

-- the plan that PLAN says is lawful, if there is one, and CERT says a certificate that is right for the box of all plans and for this plan's
-- loss; so every lawful plan loses at least its bound, and where it has none, there is no lawful plan
pub record FindsRight (line : Line) (held : Contents) (texts : Texts) (b : Problem) (certificate : Certificate) : Type 0 where
  pub plan : Option Forest
  pub reads : ReadBy line held texts b
  pub said : SayBoth b (text_for texts role.Plan) (text_or_empty texts role.Cert) plan certificate
  pub lawful : IsLawfulToo b plan
  pub good : IsGood b (root_ranges b) (loss_in b plan) certificate
  pub bounds : (other : Forest) → IsLawful b other → Reaches certificate.bound (loss_of b other)

-- it is so, and the certificate's bound and its number of open boxes are printed
pub record Accepts (line : Line) (held : Contents) (old new : World) : Type 0 where
  pub texts : Texts
  pub b : Problem
  pub certificate : Certificate
  pub right : FindsRight line held texts b certificate
  pub unchanged : SameContents old.shelf.contents new.shelf.contents
  pub prints : Prints (bound_line (codes "accepted") certificate) old.paper new.paper

-- it is so, and NEW holds the text of the certificate of version 2 that says the same and names the causes, and is right as well; its bound
-- and its number of open boxes are printed
pub record StoresConverted (line : Line) (held : Contents) (old new : World) : Type 0 where
  pub texts : Texts
  pub b : Problem
  pub certificate : Certificate
  pub converted : Certificate
  pub right : FindsRight line held texts b certificate
  pub names : IsConverted b certificate converted
  -- the text of NEW is no longer than one that is read
  pub readable : length (cert_text converted) ≤ limit_of role.Cert
  pub stored : Stored (cert_name line) (cert_text converted) old.shelf.contents new.shelf.contents
  pub prints : Prints (bound_line (codes "converted") converted) old.paper new.paper

-- it is so, and a search of the boxes that CERT leaves open went on; what it made of both, a joined certificate and the best plan, is stored and
-- printed: OUT holds the text of the plan, if there is one, NEW that of the certificate; the six lines on them are printed
pub record StoresJoined (line : Line) (held : Contents) (old new : World) : Type 0 where
  pub texts : Texts
  pub b : Problem
  pub certificate : Certificate
  pub right : FindsRight line held texts b certificate
  pub joined : Certificate
  pub plan : Option Forest
  pub stored : Stands (both_stores b (plan_name line) (cert_name line) joined plan) old.shelf.contents new.shelf.contents
  pub prints : Prints (search_summary joined (option_map neighbour_count plan)) old.paper new.paper

-- and it is right
pub record StoresResumed (line : Line) (held : Contents) (old new : World) (result : Status) : Type 0 where
  pub found : StoresJoined line held old new
  pub open found use *
  -- the plan loses no more than that of PLAN
  pub resumed : IsResumed b (count_in line count.Budget) (flag_in line flag.Fronts) right.plan certificate joined plan
  -- the texts say the certificate and the plan, so that `verify` accepts them with this bound and this number of open boxes (`run_checks::laws`), or
  -- does not show the floor of CERT again: never where that is 0, as before version 3
  pub accepted : IsAccepted b (option_map (solution_text b) plan) (cert_text joined) plan joined
  -- both texts are no longer than those that are read
  pub readable : AreReadable (option_map (solution_text b) plan) (cert_text joined)
  -- the status says whether a box is left open, and else whether there is a plan
  pub ends : result ≡ ending joined
  -- `stopped` is printed exactly where a box is left open, and then the budget is spent; else the bound is the loss
  pub left_open : result ≡ status.Stopped ↔ (0 < joined.left)
  pub spent : result ≡ status.Stopped → handled joined ≡ handled certificate + count_in line count.Budget
  pub exact : result ≢ status.Stopped → joined.bound ≡ joined.loss

-- and each box that CERT leaves open, and each of its parts, was handled once or is left open
pub record HandlesOpenBoxes (line : Line) (held : Contents) (old new : World) : Type 0 where
  pub found : StoresJoined line held old new
  pub open found use *
  pub resumed : ResumesEachBox b (count_in line count.Budget) (flag_in line flag.Fronts) right.plan certificate joined plan

-- the plan that PLAN says is lawful, if there is one, and the certificate that CERT says is not right for the box of all plans and for this
-- plan's loss, or its floor is not shown; the first check that it fails is printed
pub record FindsWrong (line : Line) (held : Contents) (old new : World) : Type 0 where
  pub texts : Texts
  pub b : Problem
  pub plan : Option Forest
  pub certificate : Certificate
  pub at : ℕ
  pub why : Why
  pub reads : ReadBy line held texts b
  pub said : SayBoth b (text_for texts role.Plan) (text_or_empty texts role.Cert) plan certificate
  pub lawful : IsLawfulToo b plan
  pub wrong : SaysWrong b (root_ranges b) (loss_in b plan) certificate why
  pub first : IsFirstFault b (root_ranges b) (loss_in b plan) certificate at why
  pub unchanged : SameContents old.shelf.contents new.shelf.contents
  pub prints : Prints (refused_line at why) old.paper new.paper
