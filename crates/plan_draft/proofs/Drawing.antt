-- The stacks, one after another.
use Rattle.std.proofs.Common.{◌≡◌, ℕ, zero, suc, ◌+◌, ◌-◌, ◌<◌, ◌≤◌, ◌==◌, List, [], ◌∷◌, ◌++◌, Bool, true, false, cond, length, replicate, refl, sym, ap, ◌∙◌, subst, arith, append_assoc, append-nil}
use Rattle.std.specs.List.{flat_map}
use Rattle.std.proofs.lemmas.Bool.Decides.{nat_tests}
use Rattle.glass_base.specs.Problem.{Problem, stack_at}
use Rattle.cut_model.specs.declared.steps.Step.{Step}
use Rattle.cut_model.specs.Numbers.{numbers_from}
use Rattle.plan_trace.specs.Marks.{drawn}
use Rattle.plan_trace.specs.inner.Laid.{draws_of}
use Rattle.plan_draft.specs.Drafts.{AreDrafted, HasNoDraft, IsDraft, StopsAt, drawing_order}
use Rattle.plan_draft.specs.inner.Drafting.{AreMore, StopsIn, drawn_in, order_from}

abbrev items_of : Problem → ℕ → List ℕ
items_of b stack = replicate (length (stack_at b stack)) stack

-- nothing is drafted yet
pub none_yet : (b : Problem) → AreMore b [] [] [] 0 0
none_yet b = record {
  goes_on = λ final later rest. rest;
  stops = λ number later rest. rest;
  under_way = record { meets = tt; plates_are = refl; right_is = refl };
  draws = λ n. refl;
}

drawn_in_both : (xs ys : List ℕ) (n : ℕ) → drawn_in (xs ++ ys) n ≡ drawn_in xs n + drawn_in ys n
drawn_in_both [] ys n = none (drawn_in ys n)
  where
    none : (n : ℕ) → n ≡ 0 + n
    none n = omega arith
drawn_in_both (x ∷ xs) ys n = by (x == n) (drawn_in xs n) (drawn_in_both xs ys n)
  where
    by : (is : Bool) (here : ℕ) → drawn_in (xs ++ ys) n ≡ here + drawn_in ys n → cond is (suc (drawn_in (xs ++ ys) n)) (drawn_in (xs ++ ys) n) ≡ cond is (suc here) here + drawn_in ys n
    by true here e = omega (arith, e)
    by false here e = e

-- steps behind steps
pub joined : (b : Problem) (start mid end : List Step) (xs ys : List ℕ) (plates right then last : ℕ) → AreMore b start xs mid plates right → AreMore b mid ys end then last → AreMore b start (xs ++ ys) end then last
joined b start mid end xs ys plates right then last first second = record {
  goes_on = λ final later rest. subst (λ l. AreDrafted b start l final) (sym (append_assoc xs ys later)) (first.goes_on final (ys ++ later) (second.goes_on final later rest));
  stops = λ number later rest. subst (λ l. StopsAt b start l number) (sym (append_assoc xs ys later)) (first.stops number (ys ++ later) (second.stops number later rest));
  under_way = second.under_way;
  draws = λ n. omega (arith, first.draws n, second.draws n, drawn_in_both xs ys n);
}

order_grows : (b : Problem) (k n : ℕ) → order_from b k (suc n) ≡ order_from b k n ++ items_of b (k + n)
order_grows b k zero = append-nil (items_of b k) ∙ ap (items_of b) (plus_none k)
  where
    plus_none : (k : ℕ) → k ≡ k + 0
    plus_none k = omega arith
order_grows b k (suc n) =
    ap (λ l. items_of b k ++ l) (order_grows b (k + 1) n ∙ ap (λ m. order_from b (k + 1) n ++ items_of b m) (one_over k n))
    ∙ sym (append_assoc (items_of b k) (order_from b (k + 1) n) (items_of b (k + suc n)))
  where
    one_over : (k n : ℕ) → (k + 1) + n ≡ k + suc n
    one_over k n = omega arith

none_first : (n : ℕ) → 0 + n ≡ n
none_first n = omega arith

-- the stacks before this one, and then it
one_stack_more : (b : Problem) (n : ℕ) → order_from b 0 (suc n) ≡ order_from b 0 n ++ items_of b n
one_stack_more b n = order_grows b 0 n ∙ ap (λ m. order_from b 0 n ++ items_of b m) (none_first n)

none_of : (count stack n : ℕ) → stack < n → drawn_in (replicate count stack) n ≡ 0
none_of zero stack n lt = refl
none_of (suc count) stack n lt = let other : (stack == n) ≡ false = grind (arith, nat_tests, lt) in rw other (none_of count stack n lt)

-- a stack that is still to come
none_before : (b : Problem) (n k : ℕ) → n ≤ k → drawn_in (order_from b 0 n) k ≡ 0
none_before b zero k le = refl
none_before b (suc n) k le =
    ap (λ l. drawn_in l k) (one_stack_more b n)
    ∙ drawn_in_both (order_from b 0 n) (items_of b n) k
    ∙ omega (arith, none_before b n k (omega (arith, le)), none_of (length (stack_at b n)) n k (omega (arith, le)))

pub still_fresh : (b : Problem) (steps : List Step) (n plates right : ℕ) → AreMore b [] (order_from b 0 n) steps plates right → drawn (draws_of steps) n ≡ 0
still_fresh b steps n plates right h = omega (arith, h.draws n, none_before b n n (omega arith))

-- one more stack
pub more_stack : (b : Problem) (steps more : List Step) (n plates right then last : ℕ) → AreMore b [] (order_from b 0 n) steps plates right → AreMore b steps (items_of b n) more then last →
    AreMore b [] (order_from b 0 (n + 1)) more then last
more_stack b steps more n plates right then last h one =
    subst (λ l. AreMore b [] l more then last) (sym (one_stack_more b n) ∙ ap (order_from b 0) (one_more n)) (joined b [] steps more (order_from b 0 n) (items_of b n) plates right then last h one)
  where
    one_more : (n : ℕ) → suc n ≡ n + 1
    one_more n = omega arith

-- behind the last stack it is the draft
pub all_stacks : (b : Problem) (steps : List Step) (n plates right : ℕ) → AreMore b [] (order_from b 0 n) steps plates right → n ≡ length b.stacks → IsDraft b steps
all_stacks b steps n plates right h all =
    subst (λ l. AreDrafted b [] l steps) (append-nil (order_from b 0 n) ∙ ap (order_from b 0) all) (h.goes_on steps [] refl)

numbers_split : (k n more : ℕ) → numbers_from k (n + more) ≡ numbers_from k n ++ numbers_from (k + n) more
numbers_split k zero more = rw (none more, none_behind k) refl
  where
    none : (n : ℕ) → 0 + n ≡ n
    none n = omega arith

    none_behind : (n : ℕ) → n + 0 ≡ n
    none_behind n = omega arith
numbers_split k (suc n) more =
    ap (numbers_from k) (one_up n more) ∙ ap (λ l. k ∷ l) (numbers_split (k + 1) n more ∙ ap (λ m. numbers_from (k + 1) n ++ numbers_from m more) (one_over k n))
  where
    one_up : (n more : ℕ) → suc n + more ≡ suc (n + more)
    one_up n more = omega arith

    one_over : (k n : ℕ) → (k + 1) + n ≡ k + suc n
    one_over k n = omega arith

flat_both : (f : ℕ → List ℕ) (xs ys : List ℕ) → flat_map f (xs ++ ys) ≡ flat_map f xs ++ flat_map f ys
flat_both f [] ys = refl
flat_both f (x ∷ xs) ys = ap (λ l. f x ++ l) (flat_both f xs ys) ∙ sym (append_assoc (f x) (flat_map f xs) (flat_map f ys))

-- the order before a stack, its own items, and those behind it
order_split : (b : Problem) (n : ℕ) → n < length b.stacks → drawing_order b ≡ order_from b 0 n ++ (items_of b n ++ order_from b (n + 1) (length b.stacks - n - 1))
order_split b n lt =
    ap (order_from b 0) split ∙ ap (flat_map (items_of b)) (numbers_split 0 n (suc (length b.stacks - n - 1)) ∙ ap (λ m. numbers_from 0 n ++ numbers_from m (suc (length b.stacks - n - 1))) (none_first n)) ∙ flat_both (items_of b) (numbers_from 0 n) (numbers_from n (suc (length b.stacks - n - 1)))
  where
    split : length b.stacks ≡ n + suc (length b.stacks - n - 1)
    split = omega (arith, lt)

-- a stack that stops ends the draft
pub has_none : (b : Problem) (steps : List Step) (n plates right number : ℕ) → AreMore b [] (order_from b 0 n) steps plates right → n < length b.stacks → StopsIn b steps (items_of b n) number → HasNoDraft b number
has_none b steps n plates right number h lt stops =
    subst (λ l. StopsAt b [] l number) (sym (order_split b n lt)) (h.stops number (items_of b n ++ order_from b (n + 1) (length b.stacks - n - 1)) (stops (order_from b (n + 1) (length b.stacks - n - 1))))
