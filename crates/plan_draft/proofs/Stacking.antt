-- The items of a stack, one after another.
use Rattle.std.proofs.Common.{◌≡◌, ℕ, zero, suc, ◌+◌, ◌-◌, ◌<◌, ◌==◌, inl, inr, List, [], ◌∷◌, ◌++◌, Bool, true, false, cond, length, replicate, slice_index_or, get_or, Some, refl, sym, ap, ◌∙◌, subst, arith, add-one}
use Rattle.std.specs.Prelude.{slice_get, option_and_then}
use Rattle.std.specs.List.{count_by}
use Rattle.std.proofs.lemmas.Bool.{cases_Bool}
use Rattle.std.proofs.lemmas.Bool.Decides.{nat_tests}
use Rattle.std.proofs.lemmas.List.Elements.{Contains-get_or}
use Rattle.std.proofs.lemmas.List.Sums.{sum_by-cons}
use Rattle.std.proofs.lemmas.Option.{slice_get-get_or}
use Rattle.glass_base.specs.declared.item.Item.{Item}
use Rattle.glass_base.specs.Problem.{Problem, IsProblem, item_at, stack_at}
use Rattle.glass_base.specs.Stacks.{IsStack, stack_numbers}
use Rattle.glass_base.proofs.Found.{zip_at}
use Rattle.cut_model.specs.declared.steps.Step.{Step}
use Rattle.plan_trace.specs.Marks.{Draw, draw_of, drawn}
use Rattle.plan_trace.specs.inner.Laid.{draws_before, draws_of}
use Rattle.plan_draft.specs.Drafts.{AreDrafted, HasNoNext, IsDueItem, StopsAt}
use Rattle.plan_draft.specs.inner.Drafting.{AreMore, IsOneMore, StopsIn, drawn_in}
use Rattle.plan_draft.proofs.Taking.{drawn_more}

-- a place of a stack is one of the batch
pub place_known : (b : Problem) (stack n : ℕ) → IsProblem b → stack < length b.stacks → n < length (stack_at b stack) → slice_index_or (stack_at b stack) n 0 < length b.items
place_known b stack n rules lt within =
    let is : IsStack b.items (get_or (stack_numbers b.items) stack 0) (stack_at b stack) = (zip_at (IsStack b.items) (stack_numbers b.items) b.stacks stack 0 [] rules.stacks.each lt).1 in
    ((is.members (slice_index_or (stack_at b stack) n 0) (record { id = 0; length = 0; width = 0; stack = 0; sequence = 0 })).0 (Contains-get_or (stack_at b stack) n 0 within)).0

-- the item there is the one that is due
pub due_item : (b : Problem) (stack n : ℕ) (d : Item) → IsProblem b → stack < length b.stacks → n < length (stack_at b stack) →
    item_at b stack n ≡ Some (slice_index_or b.items (slice_index_or (stack_at b stack) n 0) d)
due_item b stack n d rules lt within =
    ap (option_and_then (λ position. slice_get b.items position)) (slice_get-get_or (stack_at b stack) n 0 within)
    ∙ slice_get-get_or b.items (slice_index_or (stack_at b stack) n 0) d (place_known b stack n rules lt within)

-- a stack that stands alone in a list
pub in_own : (stack n : ℕ) → drawn_in (replicate n stack) stack ≡ n
in_own stack zero = refl
in_own stack (suc n) = let same : (stack == stack) ≡ true = grind (arith, nat_tests) in rw same (ap suc (in_own stack n))

one_behind : (stack n : ℕ) (later : List ℕ) → replicate (suc n) stack ++ later ≡ replicate n stack ++ stack ∷ later
one_behind stack zero later = refl
one_behind stack (suc n) later = ap (λ l. stack ∷ l) (one_behind stack n later)

-- one more step from the stack
pub more_step : (b : Problem) (start steps more : List Step) (stack n plates right then end : ℕ) → AreMore b start (replicate n stack) steps plates right → IsOneMore b steps stack more then end →
    AreMore b start (replicate (n + 1) stack) more then end
more_step b start steps more stack n plates right then end h one =
    subst (λ m. AreMore b start (replicate m stack) more then end) (sym (add-one n)) (record {
      goes_on = λ final later rest.
          subst (λ l. AreDrafted b start l final) (sym (one_behind stack n later))
          (h.goes_on final (stack ∷ later) (one.step, one.next, subst (λ l. AreDrafted b l later final) one.more_is rest));
      stops = λ number later rest.
          subst (λ l. StopsAt b start l number) (sym (one_behind stack n later))
          (h.stops number (stack ∷ later) (inr (one.step, one.next, subst (λ l. StopsAt b l later number) one.more_is rest)));
      under_way = one.under_way;
      draws = λ k. draws k;
    })
  where
    by : (k taken before : ℕ) → drawn (draws_of steps) k ≡ before + taken → cond (stack == k) (suc (drawn (draws_of steps) k)) (drawn (draws_of steps) k) ≡ before + cond (stack == k) (suc taken) taken
    by k taken before e = elim (cases_Bool (stack == k)) [ inl is ↦ rw is (omega (arith, e)) | inr isnt ↦ rw isnt e ]

    draws : (k : ℕ) → drawn (draws_of more) k ≡ drawn (draws_of start) k + drawn_in (replicate (suc n) stack) k
    draws k =
        ap (λ l. drawn (draws_of l) k) one.more_is
        ∙ drawn_more steps one.step k
        ∙ ap (λ m. cond (m == k) (suc (drawn (draws_of steps) k)) (drawn (draws_of steps) k)) one.next.may.alone.from_stack
        ∙ by k (drawn_in (replicate n stack) k) (drawn (draws_of start) k) (h.draws k)

-- draws are counted by the steps
drawn_counted : (ss : List Step) (done : List Draw) (n : ℕ) → drawn (draws_before ss done) n ≡ count_by (λ s. s.stack == n) ss + drawn done n
drawn_counted [] done n = omega arith
drawn_counted (s ∷ ss) done n =
    let here : ℕ = count_by (λ t. t.stack == n) ss in
    drawn_counted ss (draw_of s ∷ done) n ∙ by (s.stack == n) here
    ∙ ap (λ m. m + drawn done n) (sym (sum_by-cons (λ (t : Step). cond (t.stack == n) 1 0) s ss))
  where
    by : (is : Bool) (here : ℕ) → here + cond is (suc (drawn done n)) (drawn done n) ≡ (cond is 1 0 + here) + drawn done n
    by true here = omega arith
    by false here = omega arith

all_behind : (stack n len : ℕ) (later : List ℕ) → n < len → replicate len stack ++ later ≡ replicate n stack ++ stack ∷ (replicate (len - n - 1) stack ++ later)
all_behind stack zero zero later lt = absurd (omega (arith, lt))
all_behind stack zero (suc len) later lt = ap (λ m. stack ∷ (replicate m stack ++ later)) (omega arith)
all_behind stack (suc n) zero later lt = absurd (omega (arith, lt))
all_behind stack (suc n) (suc len) later lt = ap (λ l. stack ∷ l) (all_behind stack n len later (omega (arith, lt)) ∙ ap (λ m. replicate n stack ++ stack ∷ (replicate m stack ++ later)) (omega arith))

-- an item that has no step stops the draft
pub stopped_here : (b : Problem) (start steps : List Step) (stack n len plates right number : ℕ) (item : Item) → AreMore b start (replicate n stack) steps plates right → n < len → HasNoNext b steps stack →
    item_at b stack (drawn (draws_of steps) stack) ≡ Some item → item.id ≡ number → StopsIn b start (replicate len stack) number
stopped_here b start steps stack n len plates right number item h lt none due is later =
    let due_is : IsDueItem b steps stack number = (item, ap (item_at b stack) (sym (drawn_counted steps [] stack ∙ zero_behind (count_by (λ s. s.stack == stack) steps))) ∙ due, is) in
    subst (λ l. StopsAt b start l number) (sym (all_behind stack n len later lt)) (h.stops number (stack ∷ (replicate (len - n - 1) stack ++ later)) (inl (none, due_is)))
  where
    zero_behind : (n : ℕ) → n + 0 ≡ n
    zero_behind n = omega arith

-- the stack was drawn once for each turn of the loop
pub turns : (b : Problem) (start steps : List Step) (stack n plates right : ℕ) → AreMore b start (replicate n stack) steps plates right → drawn (draws_of start) stack ≡ 0 → drawn (draws_of steps) stack ≡ n
turns b start steps stack n plates right h fresh = omega (arith, h.draws stack, fresh, in_own stack n)

-- the item at a turn of the loop, as the code reads it
pub read_item : (b : Problem) (start steps : List Step) (stack n plates right : ℕ) (places : List ℕ) (items : List Item) (d : Item) → IsProblem b → stack < length b.stacks → AreMore b start (replicate n stack) steps plates right →
    drawn (draws_of start) stack ≡ 0 → places ≡ stack_at b stack → items ≡ b.items → n < length places → item_at b stack (drawn (draws_of steps) stack) ≡ Some (slice_index_or items (slice_index_or places n 0) d)
read_item b start steps stack n plates right places items d rules lt h fresh places_are items_are within =
    ap (item_at b stack) (turns b start steps stack n plates right h fresh)
    ∙ due_item b stack n d rules lt (rw places_are at within)
    ∙ ap (λ l. Some (slice_index_or l (slice_index_or (stack_at b stack) n 0) d)) (sym items_are)
    ∙ ap (λ l. Some (slice_index_or items (slice_index_or l n 0) d)) (sym places_are)
