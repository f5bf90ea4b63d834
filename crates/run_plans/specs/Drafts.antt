-- What `draft` answers to an instance.
use Rattle.std.specs.Prelude.{◌≡◌, ◌⊎◌, ◌++◌, ℕ, List, [], ◌∷◌, codes}
use Rattle.std.specs.Fmt.{decimal}
use Rattle.glass_base.specs.Problem.{Problem}
use Rattle.cut_model.specs.Lawful.{IsLawful}
use Rattle.cut_model.specs.Loss.{loss_of}
use Rattle.cut_model.specs.Tree.{Forest, neighbour_count}
use Rattle.plan_draft.specs.Drafts.{HasNoDraft, IsDraftPlan}
use Rattle.plan_csv.specs.Solutions.{solution_text}
use Rattle.run_frame.specs.declared.status.Status.TheVariants as status
use Rattle.run_frame.specs.Answers.{Answer, only_lines}

abbrev pub no_draft_line : ℕ → List ℕ
no_draft_line number = codes "no draft " ++ decimal number ++ codes "\n"

abbrev pub no_draft : ℕ → Answer
no_draft number = only_lines status.NoDraft (no_draft_line number)

-- the loss of a plan and the number of its plates
abbrev pub summary : ℕ → ℕ → List ℕ
summary loss plates = codes "loss " ++ decimal loss ++ codes "\nplates " ++ decimal plates ++ codes "\n"

-- a plan is stored under a name, and its loss and the number of its plates are printed
abbrev pub drafted : Problem → List ℕ → Forest → Answer
drafted b name plan = record {
  status = status.Done;
  stores = record { name = name; bytes = solution_text b plan } ∷ [];
  lines = summary (loss_of b plan) (neighbour_count plan);
}

-- the answer to an instance: the plan of its draft, which is lawful and stored under this name, or the first item without a place
abbrev pub Drafts : Problem → List ℕ → Answer → Type 0
Drafts b name answer =
    ((plan : Forest) × IsDraftPlan b plan × IsLawful b plan × (answer ≡ drafted b name plan))
    ⊎ ((number : ℕ) × HasNoDraft b number × (answer ≡ no_draft number))
