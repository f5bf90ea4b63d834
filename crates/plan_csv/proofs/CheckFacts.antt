-- What the checks of a row say.
use Rattle.std.proofs.Common.{◌≡◌, ◌∙◌, ℕ, List, [], ◌∷◌, Bool, true, false, cond, refl, sym}
use Rattle.std.specs.Prelude.{find, Option, Some, None, ◌==◌, ◌||◌}
use Rattle.std.specs.List.{list_any}
use Rattle.std.specs.Option.{is_some}
use Rattle.glass_base.specs.Problem.{Problem}
use Rattle.cut_model.specs.declared.family.Row.{Row}
use Rattle.plan_csv.specs.declared.bad_plan.BadPlan.TheVariants as bad
use Rattle.plan_csv.specs.declared.nodes.KeptRow.{KeptRow}
use Rattle.plan_csv.specs.PlanTexts.{place_refusal, row_refusal}
use Rattle.plan_csv.specs.inner.ReadNodes.{IsNamed, row_with}

-- an element passes the test exactly where one is found
pub any-find : {X : Type 0} (test : X → Bool) (xs : List X) → list_any test xs ≡ is_some (find test xs)
any-find test [] = refl
any-find test (x ∷ xs) = elim (test x) as (λ b. (b || list_any test xs) ≡ is_some (cond b (Some x) (find test xs))) [ true ↦ refl | false ↦ any-find test xs ]

-- what is kept of a number says whether a row has it
some_named : (rows : List Row) (number : ℕ) (o : Option KeptRow) → IsNamed rows number o → is_some o ≡ is_some (row_with number rows)
some_named rows number None n = rw n.0 refl
some_named rows number (Some node) n = rw n.found refl

-- a row whose number was used
pub used : (b : Problem) (row : ℕ) (rows : List Row) (r : Row) (o : Option KeptRow) → IsNamed rows r.node o → is_some o ≡ true
    → Some (bad.Parent row) ≡ row_refusal b row rows r
used b row rows r o n h =
    let any : list_any (λ e. e.node == r.node) rows ≡ true = any-find (λ e. e.node == r.node) rows ∙ sym (some_named rows r.node o n) ∙ h in
    rw any refl

-- a row whose number is new
pub unused : (b : Problem) (row : ℕ) (rows : List Row) (r : Row) (o : Option KeptRow) → IsNamed rows r.node o → is_some o ≡ false
    → place_refusal b row rows r r.cut r.parent ≡ row_refusal b row rows r
unused b row rows r o n h =
    let any : list_any (λ e. e.node == r.node) rows ≡ false = any-find (λ e. e.node == r.node) rows ∙ sym (some_named rows r.node o n) ∙ h in
    rw any refl
