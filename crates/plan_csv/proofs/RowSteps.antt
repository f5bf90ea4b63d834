-- What the rows say that were read so far, and those that are left.
use Rattle.std.proofs.Common.{◌≡◌, ◌+◌, ◌∙◌, ℕ, List, [], ◌∷◌, ◌++◌, refl, sym, ap}
use Rattle.std.specs.Prelude.{Result, Ok, Err}
use Rattle.glass_base.specs.Problem.{Problem}
use Rattle.cut_model.specs.declared.family.Row.{Row}
use Rattle.cut_model.specs.Tree.{Forest}
use Rattle.plan_csv.specs.declared.bad_plan.BadPlan.{BadPlan}
use Rattle.plan_csv.specs.declared.bad_plan.BadPlan.TheVariants as bad
use Rattle.csv_table.specs.Readings.{◌>>=◌}
use Rattle.plan_csv.specs.PlanRows.{row_in}
use Rattle.plan_csv.specs.PlanTexts.{or_refusal, plan_said, row_refusal, rows_behind, rows_said, tree_of}
use Rattle.plan_csv.specs.inner.ReadNodes.{Refused, rows_with}

-- what is refused first is refused
pub refused_then : {A B : Type 0} (e : BadPlan) (said : Result A BadPlan) (more : A → Result B BadPlan) → Refused e said → Refused e (said >>= more)
refused_then bad.Memory said more h = tt
refused_then (bad.Record row fields) said more h = rw h refl
refused_then (bad.Number row column) said more h = rw h refl
refused_then (bad.Parent row) said more h = rw h refl
refused_then (bad.Level row cut) said more h = rw h refl
refused_then (bad.Size row column) said more h = rw h refl
refused_then (bad.Kind row) said more h = rw h refl

-- the first of the rows that are left, and then the others
rows_behind-step : (b : Problem) (row : ℕ) (before : List Row) (fields : List (List ℕ)) (rest : List (List (List ℕ)))
    → rows_behind b row before (fields ∷ rest) ≡ (rows_with b row before fields >>= λ rows. rows_behind b (row + 1) rows rest)
rows_behind-step b row before fields rest = by (row_in row fields)
  where
    by : (said : Result Row BadPlan) → (said >>= λ r. or_refusal (before ++ r ∷ []) (row_refusal b row before r) >>= λ rows. rows_behind b (row + 1) rows rest)
        ≡ ((said >>= λ r. or_refusal (before ++ r ∷ []) (row_refusal b row before r)) >>= λ rows. rows_behind b (row + 1) rows rest)
    by (Ok r) = refl
    by (Err e) = refl

-- where the first of them is read, the others decide
pub rows_behind-more : (b : Problem) (row : ℕ) (before after : List Row) (fields : List (List ℕ)) (rest : List (List (List ℕ)))
    → rows_with b row before fields ≡ Ok after → rows_behind b (row + 1) after rest ≡ rows_behind b row before (fields ∷ rest)
rows_behind-more b row before after fields rest h = sym (rows_behind-step b row before fields rest ∙ ap (λ said. said >>= λ rows. rows_behind b (row + 1) rows rest) h)

-- where it is refused, all are
pub rows_behind-refused : (e : BadPlan) (b : Problem) (row : ℕ) (before : List Row) (fields : List (List ℕ)) (rest : List (List (List ℕ)))
    → Refused e (rows_with b row before fields) → Refused e (rows_behind b row before (fields ∷ rest))
rows_behind-refused e b row before fields rest h =
    rw (rows_behind-step b row before fields rest) (refused_then e (rows_with b row before fields) (λ rows. rows_behind b (row + 1) rows rest) h)

-- the plan that rows say is the tree of these rows
pub plan_is : (b : Problem) (bytes : List ℕ) (rows : List Row) (plan : Forest) → rows_said b bytes ≡ Ok rows → plan ≡ tree_of rows → plan_said b bytes ≡ Ok plan
plan_is b bytes rows plan said is =
    ap (λ (s : Result (List Row) BadPlan). s >>= λ xs. Ok (tree_of xs)) said ∙ ap (λ (f : Forest). Ok f) (sym is)
