-- What is said of printed texts, on worked ones.
use Rattle.std.proofs.Common.{◌≡◌, ◌++◌, ℕ, List, get_or, arith, refl, ap, subst, Option, Some, None}
use Rattle.std.proofs.lemmas.List.{append_cancel_left}
use Rattle.std.specs.Prelude.{codes}
use Rattle.glass_io.specs.Told.{Appended}
use Rattle.run_frame.specs.Runs.{World}
use Rattle.run_frame.specs.declared.status.Status.TheVariants as status
use Rattle.run_search.specs.Plans.{ended_lines}
use Rattle.plain_laws.specs.Plain.{PrintsEnd}
use Rattle.run_frame.specs.Codes.{word_of}

-- the lines of a search that found that there is no plan
infeasible_ended : (later : List ℕ) × (codes "status infeasible\nloss none\nbound none\nplates none\nboxes 1\nopen 0\n" ≡ ended_lines (word_of status.Infeasible) None None ++ later)
infeasible_ended = (codes "plates none\nboxes 1\nopen 0\n", refl)

-- where it is said how such a search ended, it has not printed that a plan is the best one
no_lie : (loss bound : Option ℕ) (before later : List ℕ) (old new : World) → old.paper.printed ≡ Some before → new.paper.printed ≡ Some (before ++ (codes "status optimal\n" ++ later))
    → PrintsEnd status.Infeasible loss bound old new → ⊥
no_lie loss bound before later old new told printed said =
    let lines : List ℕ = ended_lines (word_of status.Infeasible) loss bound ++ said.0 in
    let from : Appended lines (Some before) new.paper.printed = subst (λ (p : Option (List ℕ)). Appended lines p new.paper.printed) told said.1.printed in
    let both : before ++ (codes "status optimal\n" ++ later) ≡ before ++ lines = subst (λ (p : Option (List ℕ)). Appended lines (Some before) p) printed from in
    -- the eighth letter would be an o and an i
    let letter : 111 ≡ 105 = ap (λ (l : List ℕ). get_or l 7 0) (append_cancel_left before (codes "status optimal\n" ++ later) lines both) in
    omega (arith, letter)
