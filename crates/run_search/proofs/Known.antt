-- What a search begins with, where a plan is known before.
use Rattle.std.proofs.Common.{◌≡◌, ℕ, ◌<◌, ◌≤◌, ◌+◌, ◌*◌, arith, refl, sym, ◌∙◌, subst, Bool, false, Option, Some, None, is_some}
use Rattle.std.specs.Prelude.{IfSome, IsSome, option_map}
use Rattle.std.proofs.Math.Nat.{mul-le-mul_left}
use Rattle.glass_base.specs.Items.{area_of}
use Rattle.glass_base.specs.Problem.{Problem}
use Rattle.cut_model.specs.declared.plan.Plan.{Plan}
use Rattle.cut_model.specs.declared.steps.Trace.{Trace}
use Rattle.cut_model.specs.Loss.{loss_of as plan_loss}
use Rattle.cut_model.specs.Steps.{length_of}
use Rattle.cut_model.specs.Tree.{Forest, tree}
use Rattle.cert_log.specs.declared.history.History.{History}
use Rattle.cert_log.specs.Lawful.{IsLawful, no_loss}
use Rattle.cert_resume.specs.Joins.{IsAtMost}
use Rattle.first_plan.specs.FirstPlans.{IsImproved, IsNoWorse}
use Rattle.box_workers.specs.Runs.{first_loss}
use Rattle.run_checks.specs.Checks.{loss_in}
use Rattle.run_search.specs.Plans.{course}
use Rattle.run_search.specs.inner.Searches.{IsHistoryFrom, IsHistoryOf, all_plans}

-- a trace that is no worse than one loses no more than the plan that this one tells of
pub at_most_known : (b : Problem) (plan : Option Plan) (known first : Option Trace) → is_some known ≡ is_some plan → IsAtMost (Some (first_loss b known)) (loss_in b (option_map tree plan)) → IsNoWorse b known first
    → IsAtMost (Some (first_loss b first)) (loss_in b (option_map tree plan))
at_most_known b None known first e at_most no_worse = tt
at_most_known b (Some plan) None first e at_most no_worse = cc e
at_most_known b (Some plan) (Some known) None e at_most no_worse = absurd no_worse
at_most_known b (Some plan) (Some known) (Some first) e at_most no_worse =
    let longer : b.params.height * length_of b first.steps.items ≤ b.params.height * length_of b known.steps.items = mul-le-mul_left b.params.height no_worse in
    omega (arith, longer, at_most)

-- and where there is a plan, there is one
pub has_first : (b : Problem) (plan : Option Plan) (known first : Option Trace) → is_some known ≡ is_some plan → IsNoWorse b known first → IfSome plan (λ _. IsSome first)
has_first b None known first e no_worse = tt
has_first b (Some plan) None first e no_worse = cc e
has_first b (Some plan) (Some known) None e no_worse = absurd no_worse
has_first b (Some plan) (Some known) (Some first) e no_worse = refl

-- what is no worse than nothing known, and what more work makes of what is no worse
pub itself_no_worse : (b : Problem) (known : Option Trace) → IsNoWorse b known known
itself_no_worse b None = tt
itself_no_worse b (Some known) = omega arith

pub improved_no_worse : (b : Problem) (known : Option Trace) (first better : Trace) → IsNoWorse b known (Some first) → IsImproved b first.steps.items better.steps.items → IsNoWorse b known (Some better)
improved_no_worse b None first better no_worse improved = tt
improved_no_worse b (Some known) first better no_worse improved = omega (arith, no_worse, improved.no_longer)

-- a history that begins with what is no worse than the trace of a plan
pub behind_known : (b : Problem) (plan : Forest) (budget : ℕ) (fronts : Bool) (known : Trace) (first : Option Trace) (floor : ℕ) (h : History)
    → b.params.height * length_of b known.steps.items ≤ plan_loss b plan + area_of b.items → IsNoWorse b (Some known) first → (fronts ≡ false → floor ≡ 0)
    → IsHistoryOf b (all_plans b) first budget floor h → IsHistoryFrom b plan budget fronts h
behind_known b plan budget fronts known None floor h long no_worse unasked is = absurd no_worse
behind_known b plan budget fronts known (Some first) floor h long no_worse unasked is =
    let longer : b.params.height * length_of b first.steps.items ≤ b.params.height * length_of b known.steps.items = mul-le-mul_left b.params.height no_worse in
    record {
      to_beat = first_loss b (Some first);
      lawful = subst (λ (n : ℕ). IsLawful b (course b (first_loss b (Some first)) budget n) h) (sym is.lawful.floor_is) is.lawful;
      no_greater = omega (arith, longer, long);
      known = is.known;
      unasked = λ asked. is.lawful.floor_is ∙ unasked asked;
    }
