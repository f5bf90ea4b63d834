-- What is told where a search is not begun.
use Rattle.std.proofs.Common.{◌≡◌, ℕ, ◌+◌, ◌*◌, ◌<◌, ◌≤◌, List, Bool, length, inl, inr, Option}
use Rattle.glass_base.specs.Problem.{Problem}
use Rattle.glass_base.specs.declared.role.Role.TheVariants as role
use Rattle.cut_model.specs.Tree.{Forest}
use Rattle.cert_log.specs.declared.certificate.Certificate.{Certificate}
use Rattle.plan_csv.specs.PlanTexts.{plan_said}
use Rattle.run_frame.specs.Answers.{Answer, bad_input}
use Rattle.run_frame.specs.Forms.{OnTold, Tells, notice_in}
use Rattle.run_frame.specs.declared.notices.Stop.{Stop}
use Rattle.run_frame.specs.declared.notices.Stop.TheVariants as stop
use Rattle.run_checks.specs.Checks.{IsAccepted, NoLawfulPlan, NotAccepted}
use Rattle.run_checks.proofs.Accepting.{told_is}
use Rattle.run_search.specs.Freezes.{FreezesSaid, FreezesWithin}
use Rattle.run_search.specs.Plans.{PlansWithin}
use Rattle.run_search.specs.Resumptions.{Resumes}
use Rattle.run_search.specs.declared.work.TheConstants.{MOST_WORK}

-- the search would be too much work
pub plans_too_much : (b : Problem) (budget : ℕ) (watch fronts : Bool) (text : Option (List ℕ)) (items boxes : ℕ) (s : Stop) → items ≡ length b.items → boxes ≡ budget
    → OnTold (λ answer. (MOST_WORK < items * boxes) × (answer ≡ bad_input role.Batch 9 items boxes)) s → OnTold (λ answer. (out cert : List ℕ) → PlansWithin b budget watch fronts text out cert answer) s
plans_too_much b budget watch fronts text items boxes stop.Memory same_items same_boxes refused = tt
plans_too_much b budget watch fronts text items boxes (stop.Told notice) same_items same_boxes refused = λ out cert. inr (rw (same_items, same_boxes) at refused)

pub freezes_too_much : (b : Problem) (k budget : ℕ) (fronts : Bool) (text : List ℕ) (items boxes : ℕ) (s : Stop) → items ≡ length b.items → boxes ≡ budget
    → OnTold (λ answer. (MOST_WORK < items * boxes) × (answer ≡ bad_input role.Batch 9 items boxes)) s → OnTold (λ answer. (out cert : List ℕ) → FreezesWithin b k budget fronts text out cert answer) s
freezes_too_much b k budget fronts text items boxes stop.Memory same_items same_boxes refused = tt
freezes_too_much b k budget fronts text items boxes (stop.Told notice) same_items same_boxes refused = λ out cert. inr (rw (same_items, same_boxes) at refused)

pub resumes_too_much : (b : Problem) (plan_text : Option (List ℕ)) (text : List ℕ) (budget : ℕ) (fronts : Bool) (plan : Option Forest) (c : Certificate) (items boxes : ℕ) (s : Stop) → IsAccepted b plan_text text plan c
    → items ≡ length b.items → boxes ≡ budget + c.left → OnTold (λ answer. (MOST_WORK < items * boxes) × (answer ≡ bad_input role.Cert 15 items boxes)) s
    → OnTold (λ answer. (out new : List ℕ) → Resumes b plan_text text budget fronts out new answer) s
resumes_too_much b plan_text text budget fronts plan c items boxes stop.Memory accepts same_items same_boxes refused = tt
resumes_too_much b plan_text text budget fronts plan c items boxes (stop.Told notice) accepts same_items same_boxes refused =
    λ out new. inl (plan, c, accepts, inr (rw (same_items, same_boxes) at refused))

-- the text of a plan says no lawful one
pub plans_none : (b : Problem) (budget : ℕ) (watch fronts : Bool) (text : Option (List ℕ)) (s : Stop) → length b.items * budget ≤ MOST_WORK → OnTold (NoLawfulPlan b text) s
    → OnTold (λ answer. (out cert : List ℕ) → PlansWithin b budget watch fronts text out cert answer) s
plans_none b budget watch fronts text stop.Memory work refused = tt
plans_none b budget watch fronts text (stop.Told notice) work refused = λ out cert. inl (work, inr refused)

-- a plan and a certificate are not accepted
pub resumes_none : (b : Problem) (plan_text : Option (List ℕ)) (text : List ℕ) (budget : ℕ) (fronts : Bool) (s : Stop) → OnTold (NotAccepted b plan_text text) s
    → OnTold (λ answer. (out new : List ℕ) → Resumes b plan_text text budget fronts out new answer) s
resumes_none b plan_text text budget fronts stop.Memory refused = tt
resumes_none b plan_text text budget fronts (stop.Told notice) refused = λ out new. inr refused

-- this is told of the text of a plan, or of the plan
pub freezes_told : (b : Problem) (k budget : ℕ) (fronts : Bool) (text : List ℕ) (P : Answer → Type 0) (s : Stop) → length b.items * budget ≤ MOST_WORK
    → ((answer : Answer) (out cert : List ℕ) → P answer → FreezesSaid b k budget fronts (plan_said b text) out cert answer) → OnTold P s
    → OnTold (λ answer. (out cert : List ℕ) → FreezesWithin b k budget fronts text out cert answer) s
freezes_told b k budget fronts text P stop.Memory work more told = tt
freezes_told b k budget fronts text P (stop.Told notice) work more told = λ out cert. inl (work, more (notice_in notice) out cert told)

-- what is told is the answer
pub plans_stopped : (b : Problem) (budget : ℕ) (watch fronts : Bool) (text : Option (List ℕ)) (out cert : List ℕ) (answer : Answer) (s : Stop)
    → OnTold (λ answer. (out cert : List ℕ) → PlansWithin b budget watch fronts text out cert answer) s → Tells s answer → PlansWithin b budget watch fronts text out cert answer
plans_stopped b budget watch fronts text out cert answer s told is =
    told_is (λ (answer : Answer). (out cert : List ℕ) → PlansWithin b budget watch fronts text out cert answer) s answer told is out cert

pub resumes_stopped : (b : Problem) (plan_text : Option (List ℕ)) (text : List ℕ) (budget : ℕ) (fronts : Bool) (out new : List ℕ) (answer : Answer) (s : Stop)
    → OnTold (λ answer. (out new : List ℕ) → Resumes b plan_text text budget fronts out new answer) s → Tells s answer → Resumes b plan_text text budget fronts out new answer
resumes_stopped b plan_text text budget fronts out new answer s told is =
    told_is (λ (answer : Answer). (out new : List ℕ) → Resumes b plan_text text budget fronts out new answer) s answer told is out new
