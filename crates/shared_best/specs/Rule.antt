-- The rule that the two words keep, with the views of all seats.
use Rattle.std.specs.Prelude.{◌≡◌, ℕ, ◌≤◌, false, true, List, [], ◌∷◌, ◌++◌, length, min, replicate, sum_by}
use mathlib.Core.Option.{some}
use lib.ListN.{get_elem?}
use Rattle.atomic_table.specs.Table.{State}
use Rattle.shared_best.specs.declared.view.View.{View}
use Rattle.shared_best.specs.Words.{none_known, all_draws, times, once_below, share, seat_view}

-- the view of a seat that was joined into another one
abbrev pub spent_view : View
spent_view = seat_view false 0 none_known none_known [] [] 0

-- the least of a number and of all that the seats announced
abbrev pub least : ℕ → List View → ℕ
least n [] = n
least n (v ∷ vs) = min v.announced (least n vs)

-- a view beside the best loss: it knows the first value, saw nothing below the best, and announced nothing where it has no share
pub record Fits (first best : ℕ) (v : View) : Type 0 where
  pub of_first : v.live ≡ true → v.first ≡ first
  pub seen : best ≤ v.seen
  pub quiet : v.allowance ≡ 0 → v.tickets ≡ [] → v.announced ≡ none_known

-- the best loss is the least of the first value and all announced, the tickets are those below the next one, each once, and no draw is lost
pub record Sound (first best next : ℕ) (views : List View) : Type 0 where
  pub small : first ≤ none_known
  pub best_is : best ≡ least first views
  pub tickets : (x : ℕ) → sum_by (λ v. times x v.tickets) views ≡ once_below x next
  pub count : sum_by (λ v. length v.tickets) views ≡ next
  pub shares : sum_by share views ≡ all_draws
  pub each : (j : ℕ) (v : View) → get_elem? views j ≡ some v → Fits first best v

-- the words of the table: the best loss and the next ticket, with 16 words before them and 14 behind them that are not used
abbrev pub all_words : ℕ → ℕ → List ℕ
all_words best next = replicate 16 0 ++ best ∷ next ∷ replicate 14 0

-- the words are the best loss and the next ticket
pub record Kept (first : ℕ) (s : State ℕ View) : Type 0 where
  pub best : ℕ
  pub next : ℕ
  pub words : s.words ≡ all_words best next
  pub sound : Sound first best next s.views
