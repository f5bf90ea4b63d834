-- Rows that lanes have made.
use Rattle.std.proofs.Common.{◌≡◌, ℕ, ◌<◌, inl, inr, List, ◌++◌, All, Contains, length, get_or, set, get_or-set_other, get_or-set_same, length-set, sym, ap, ◌∙◌, subst, arith, Option, Some, None, IfSome}
use Rattle.std.specs.Prelude.{option_to_list}
use Rattle.std.proofs.lemmas.Bool.{cases_eq}
use Rattle.std.proofs.lemmas.List.Elements.{All-contains, Contains-append_left, Contains-get_or, Contains-push}
use Rattle.glass_base.specs.Problem.{Problem}
use Rattle.front_table.specs.declared.lanes.RowLane.{RowLane}
use Rattle.front_table.specs.declared.lanes.MadeRow.{MadeRow}
use Rattle.front_table.specs.declared.levels.RowFacts.{RowFacts}
use Rattle.front_table.specs.declared.rows.FrontRow.{FrontRow}
use Rattle.front_table.specs.Lanes.{InLanes, IsReady}
use Rattle.front_table.specs.Ready.{IsKnown}

-- what is taken off the end of a list was in it, and so was what is left
pub made_taken : (lanes : List RowLane) (n : ℕ) (d : RowLane) (left : List MadeRow) (taken : Option MadeRow) → n < length lanes → (get_or lanes n d).made.items ≡ left ++ option_to_list taken → IfSome taken (InLanes lanes)
unfolding InLanes
made_taken lanes n d left None lt whole = tt
made_taken lanes n d left (Some m) lt whole = (get_or lanes n d, Contains-get_or lanes n d lt, subst (λ l. Contains l m) (sym whole) (Contains-push left m))

pub made_left : (lanes : List RowLane) (n : ℕ) (d new : RowLane) (taken : Option MadeRow) → n < length lanes → (get_or lanes n d).made.items ≡ new.made.items ++ option_to_list taken → (m : MadeRow) → InLanes (set lanes n new) m → InLanes lanes m
unfolding InLanes
made_left lanes n d new taken lt whole m (other, (k, within, there), has) =
    elim (cases_eq k n) [
      | inl same ↦
          let own : new ≡ other = sym (ap (λ i. get_or (set lanes n new) i other) same ∙ get_or-set_same lanes n new other lt) ∙ there in
          (get_or lanes n d, Contains-get_or lanes n d lt, subst (λ l. Contains l m) (sym whole) (Contains-append_left new.made.items (option_to_list taken) m (subst (λ (l : RowLane). Contains l.made.items m) (sym own) has)))
      | inr apart ↦ (other, (k, omega (arith, within, length-set lanes n new), sym (get_or-set_other lanes n k new other apart) ∙ there), has)
    ]

-- where no lane halted, all is known of what they made, and they are ready again
module _ (b : Problem) (rows : List FrontRow) (tops : List ℕ) (cover : ℕ) (levels : List RowFacts) (lanes : List RowLane)
    (each : (i : ℕ) (d : RowLane) → i < length lanes → (get_or lanes i d).halt ≡ None → IsReady (length rows) (get_or lanes i d) × All (λ m. IsKnown b rows tops cover levels m.row m.facts) (get_or lanes i d).made.items)
    (none : (i : ℕ) (d : RowLane) → i < length lanes → (get_or lanes i d).halt ≡ None) where
  pub lanes_made : (m : MadeRow) → InLanes lanes m → IsKnown b rows tops cover levels m.row m.facts
  unfolding InLanes
  lanes_made m (lane, (k, lt, is), has) =
      let Known : MadeRow → Type 0 = λ m. IsKnown b rows tops cover levels m.row m.facts in
      All-contains Known lane.made.items m (subst (λ (l : RowLane). All Known l.made.items) is ((each k lane lt) (none k lane lt)).1) has

  pub lanes_ready : All (IsReady (length rows)) lanes
  lanes_ready i d lt = ((each i d lt) (none i d lt)).0
