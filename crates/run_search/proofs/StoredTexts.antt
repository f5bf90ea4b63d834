-- What a search stores is read again, and accepted.
use Rattle.std.proofs.Common.{◌≡◌, ℕ, ◌≤◌, length, arith, refl, sym, ap, subst, Option, Some, None, Ok}
use Rattle.std.specs.Prelude.{option_map}
use Rattle.std.proofs.lemmas.List.Elements.{All-weaker}
use Rattle.glass_base.specs.Problem.{Problem, IsProblem}
use Rattle.glass_base.specs.declared.role.Role.TheVariants as role
use Rattle.cut_model.specs.declared.plan.Plan.{Plan}
use Rattle.cut_model.specs.Families.{families_of}
use Rattle.cut_model.specs.Rules.{AddsUp, KeepsCutRules}
use Rattle.cut_model.specs.Tree.{Forest, tree}
use Rattle.plan_trace.specs.Claims.{IsGoodPlan}
use Rattle.plan_box.specs.Frames.{frame_of}
use Rattle.plan_box.proofs.Shared.{root_is_box}
use Rattle.plan_csv.specs.PlanTexts.{IsWritable, plan_said}
use Rattle.plan_csv.specs.Solutions.{solution_text}
use Rattle.plan_csv.proofs.AddedUp.{plan_within}
use Rattle.plan_csv.proofs.ReadAgain.{read_again}
use Rattle.plan_csv.proofs.ShortTexts.{short_text}
use Rattle.cert_log.specs.declared.certificate.Certificate.{Certificate}
use Rattle.cert_log.specs.declared.certificate.Node.{Node}
use Rattle.cert_log.specs.Good.{HasVersion, IsGood, IsVersion, StepsBelow}
use Rattle.cert_log.specs.Outcomes.{IsHead}
use Rattle.cert_log.specs.Readings.{IsTextOf}
use Rattle.cert_log.specs.Texts.{cert_text, head_of}
use Rattle.cert_log.specs.Trees.{StepBelow}
use Rattle.cert_log.specs.Values.{IsNumber}
use Rattle.cert_log.proofs.GoodNodes.{good_counts, good_left}
use Rattle.cert_log.proofs.Naming.{good_steps}
use Rattle.cert_log.proofs.ShortTexts.{short_texts}
use Rattle.cert_log.proofs.Whole.{written_is_read}
use Rattle.run_checks.specs.Checks.{IsAccepted, IsLawfulToo, loss_in, root_ranges}
use Rattle.run_search.specs.Plans.{HasLoss, handled}
use Rattle.run_search.specs.declared.work.TheConstants.{MOST_WORK}
use Rattle.run_checks.specs.Said.{IsPlanIn, SayBoth}
use Rattle.run_frame.specs.Texts.{limit_of}
use Rattle.glass_base.specs.declared.limits.TheConstants.{MOST_BUDGET, MOST_ITEMS}

-- the canonical plan of a trace is writable
writable : (b : Problem) (plan : Plan) → IsProblem b → IsGoodPlan b (tree plan) → IsWritable b (tree plan)
writable b plan problem good =
    let adds_up = All-weaker (KeepsCutRules b) (λ f. AddsUp f f.sort) (λ f keeps. keeps.l1) (families_of b (tree plan)) good.lawful.cuts in
    record { fits = good.fits; within = plan_within b plan good.fits adds_up; few = omega (arith, good.few, problem.few_items) }

-- so its text is read again as this plan
pub plan_again : (b : Problem) (plan : Plan) → IsProblem b → IsGoodPlan b (tree plan) → plan_said b (solution_text b (tree plan)) ≡ Ok (tree plan)
plan_again b plan problem good = read_again b plan problem (writable b plan problem good)

-- and is no longer than one that is read
pub plan_short : (b : Problem) (plan : Plan) → IsProblem b → IsGoodPlan b (tree plan) → length (solution_text b (tree plan)) ≤ limit_of role.Plan
plan_short b plan problem good =
    let short = short_text b plan problem (writable b plan problem good) in omega (arith, short, good.few, problem.few_items)

-- the text of a certificate of a search is no longer than one that is read
pub cert_short : (b : Problem) (c : Certificate) (budget : ℕ) → IsProblem b → IsGood b (root_ranges b) c.loss c → 2 ≤ c.version → IsHead (head_of c) → handled c ≤ budget → budget ≤ MOST_BUDGET
    → length (cert_text c) ≤ limit_of role.Cert
cert_short b c budget problem good names head in_budget most =
    let short = short_texts b c.loss c problem good names head in omega (arith, short, in_budget, most)

few_steps : (steps : ℕ) → steps ≤ MOST_ITEMS → (node : Node) → StepBelow steps node → StepBelow MOST_ITEMS node
few_steps steps few (Node.Split step v) below = omega arith
few_steps steps few (Node.Closed cause) below = tt
few_steps steps few Node.Left below = tt

-- a certificate that is right for the box of all plans splits at steps below 800
steps_below : (b : Problem) (loss : Option ℕ) (c : Certificate) → IsProblem b → IsGood b (root_ranges b) loss c → StepsBelow MOST_ITEMS c
steps_below b loss c problem good =
    let steps = length (root_ranges b) in
    let few : steps ≤ MOST_ITEMS = omega (arith, (root_is_box (frame_of b) 0).each_step, problem.few_items) in
    All-weaker (StepBelow steps) (StepBelow MOST_ITEMS) (few_steps steps few) c.nodes.items (good_steps b (root_ranges b) loss c good)

-- a certificate of version 2 has a version
pub second_version : (c : Certificate) → IsVersion 2 c → HasVersion c
second_version c is = (omega (arith, is.0), subst (λ (version : ℕ). IsVersion version c) (sym is.0) is)

-- and no floor
pub second_floor : (c : Certificate) → IsVersion 2 c → c.floor ≡ 0
second_floor c is = is.2 (omega arith)

-- the text of a certificate whose numbers fit in 64 bits is one that can be read again
pub is_text_of : (b : Problem) (c : Certificate) → IsProblem b → IsGood b (root_ranges b) c.loss c → HasVersion c → IsNumber (length c.nodes.items) → IsHead (head_of c) → IsTextOf (cert_text c) c
is_text_of b c problem good version few head = record {
  tree = (good.tree, good.nodes_are);
  version = version;
  steps = steps_below b c.loss c problem good;
  numbers = record { loss = head.loss; bound = head.bound; left = head.left; floor = head.floor.0; nodes = few };
  text_is = refl;
}

-- so is that of one that tells of few boxes
pub is_text : (b : Problem) (c : Certificate) → IsProblem b → IsGood b (root_ranges b) c.loss c → HasVersion c → handled c ≤ MOST_WORK → IsHead (head_of c) → IsTextOf (cert_text c) c
is_text b c problem good version few head =
    let counts = good_counts b (root_ranges b) c.loss c good in let left = good_left b (root_ranges b) c.loss c good in
    is_text_of b c problem good version (omega arith) head

-- such texts say what they were written of
pub both_said : (b : Problem) (plan : Option Forest) (c : Certificate) → IsPlanIn b (option_map (solution_text b) plan) plan → IsTextOf (cert_text c) c → SayBoth b (option_map (solution_text b) plan) (cert_text c) plan c
both_said b plan c said text = record { plan_is = said; reading = written_is_read (cert_text c) c text }

lawful_too : (b : Problem) (loss : Option ℕ) (plan : Option Forest) → HasLoss b loss plan → IsLawfulToo b plan
lawful_too b loss None has = tt
lawful_too b None (Some plan) has = absurd has
lawful_too b (Some loss) (Some plan) has = has.0

its_loss : (b : Problem) (loss : Option ℕ) (plan : Option Forest) → HasLoss b loss plan → loss ≡ loss_in b plan
its_loss b None None has = refl
its_loss b None (Some plan) has = absurd has
its_loss b (Some loss) None has = absurd has
its_loss b (Some loss) (Some plan) has = ap Some (sym has.1)

-- so they are accepted
pub is_accepted : (b : Problem) (plan : Option Forest) (c : Certificate) → SayBoth b (option_map (solution_text b) plan) (cert_text c) plan c → HasLoss b c.loss plan → IsGood b (root_ranges b) c.loss c
    → IsAccepted b (option_map (solution_text b) plan) (cert_text c) plan c
is_accepted b plan c said has good = record {
  said = said;
  lawful = lawful_too b c.loss plan has;
  good = subst (λ (loss : Option ℕ). IsGood b (root_ranges b) loss c) (its_loss b c.loss plan has) good;
}
