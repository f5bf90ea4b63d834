-- What can be taken off the stacks of an instance can be taken off their homes: the same sides, in the same order.
use Rattle.std.proofs.Common.{◌≡◌, ◌≢◌, ℕ, zero, suc, ◌+◌, ◌-◌, ◌<◌, ◌≤◌, inl, inr, ◌==◌, Bool, true, false, cond, List, [], ◌∷◌, length, refl, sym, subst, arith, Option, Some, None, IsSome}
use Rattle.std.specs.Prelude.{slice_get, slice_index_or, option_and_then}
use Rattle.std.proofs.lemmas.Bool.Decides.{nat_tests}
use Rattle.glass_base.specs.declared.item.Item.{Item}
use Rattle.glass_base.specs.Problem.{Problem, stack_at, item_at}
use Rattle.plan_trace.specs.Marks.{item_width, item_height}
use Rattle.front_course.specs.Fronts.{Front, no_item, next, next_item}
use Rattle.front_course.specs.Cells.{Pick, pick_width, pick_height, IsThere}
use Rattle.joined_stacks.specs.inner.Homes.{items_in, home_of, at_home, AreAlike, AreHomes}
use Rattle.joined_stacks.proofs.Gathered.{same_or_not, at_home-room, at_home-one, at_home-next, at_home-other}

-- the same plates with their defects, and other stacks
abbrev pub in_stacks : Problem → List Item → List (List ℕ) → Problem
in_stacks b items stacks = record { params = b.params; items = items; defects = b.defects; widths = b.widths; stacks = stacks }

-- no more is taken of a stack than it has, and of each home as much as of all stacks that have it
pub record Mirrors (b : Problem) (homes : List ℕ) (f g : Front) : Type 0 where
  pub within : (stack : ℕ) → f stack ≤ items_in b stack
  pub gathered : (home : ℕ) → g home ≡ at_home homes f home (length b.stacks)

none_at : (homes : List ℕ) (home k : ℕ) → at_home homes no_item home k ≡ 0
none_at homes home zero = refl
none_at homes home (suc k) = omega (arith, none_at homes home k, nothing (home_of homes k == home))
  where
    nothing : (t : Bool) → cond t (no_item k) 0 ≡ no_item k
    nothing true = refl
    nothing false = refl

pub mirrors_first : (b : Problem) (homes : List ℕ) → Mirrors b homes no_item no_item
mirrors_first b homes = record { within = λ stack. omega arith; gathered = λ home. sym (none_at homes home (length b.stacks)) }

-- an item that is there is one of its stack, and the stack is one of the instance
here : (b : Problem) (stack place : ℕ) → IsSome (item_at b stack place) → place < items_in b stack
here b stack place some = inside (stack_at b stack) place some
  where
    inside : (places : List ℕ) (place : ℕ) → IsSome (option_and_then (λ position. slice_get b.items position) (slice_get places place)) → place < length places
    inside [] place some = cc
    inside (x ∷ places) zero some = omega arith
    inside (x ∷ places) (suc place) some = omega (arith, inside places place some)

stack_here : (stacks : List (List ℕ)) (stack place : ℕ) → place < length (slice_index_or stacks stack []) → stack < length stacks
stack_here [] stack place lt = absurd (omega (arith, lt))
stack_here (x ∷ stacks) zero place lt = omega arith
stack_here (x ∷ stacks) (suc stack) place lt = omega (arith, stack_here stacks stack place lt)

-- the front behind an item
next_own : (f : Front) (stack : ℕ) → next f stack stack ≡ suc (f stack)
next_own f stack = grind (arith, nat_tests)

next_else : (f : Front) (stack other : ℕ) → other ≢ stack → next f stack other ≡ f other
next_else f stack other apart = grind (arith, nat_tests)

-- the item that comes next off the home is like the one that comes next off the stack
pub alike_next : (b : Problem) (items : List Item) (stacks : List (List ℕ)) (homes : List ℕ) (f g : Front) (stack : ℕ) → AreHomes b (in_stacks b items stacks) homes → Mirrors b homes f g → IsSome (next_item b f stack) →
    AreAlike (next_item b f stack) (next_item (in_stacks b items stacks) g (home_of homes stack))
alike_next b items stacks homes f g stack are m some =
    let o : Problem = in_stacks b items stacks in
    let home : ℕ = home_of homes stack in
    let inside : f stack < items_in b stack = here b stack (f stack) some in
    let known : stack < length b.stacks = stack_here b.stacks stack (f stack) inside in
    let room : at_home homes f home (length b.stacks) + items_in b stack ≤ at_home homes (items_in b) home (length b.stacks) + f stack =
    at_home-room homes f (items_in b) home (length b.stacks) stack m.within known refl in
    let one : f stack ≤ at_home homes f home (length b.stacks) = at_home-one homes f home (length b.stacks) stack known refl in
    let whole = are.whole home (are.fit stack known).0 in
    subst (λ n. AreAlike (next_item b f stack) (item_at o home n)) (omega (arith, one, m.gathered home))
    ((are.fit stack known).1 (f stack) (g home - f stack) inside (omega (arith, room, one, whole, m.gathered home)))

-- and the fronts behind both mirror each other again
pub mirrors_next : (b : Problem) (homes : List ℕ) (f g : Front) (stack : ℕ) → Mirrors b homes f g → IsSome (next_item b f stack) → Mirrors b homes (next f stack) (next g (home_of homes stack))
mirrors_next b homes f g stack m some =
    let inside : f stack < items_in b stack = here b stack (f stack) some in
    let known : stack < length b.stacks = stack_here b.stacks stack (f stack) inside in
    record {
      within = λ s.
          elim (same_or_not s stack) [
            | inl e ↦ subst (λ n. next f stack n ≤ items_in b n) (sym e) (omega (arith, inside, next_own f stack))
            | inr ne ↦ omega (arith, next_else f stack s ne, m.within s)
          ];
      gathered = λ home.
          elim (same_or_not (home_of homes stack) home) [
            | inl e ↦
                subst (λ h. next g h home ≡ at_home homes (next f stack) home (length b.stacks)) (sym e)
                (omega (
                  arith,
                  next_own g home,
                  m.gathered home,
                  at_home-next homes f (next f stack) home (length b.stacks) stack known e (next_own f stack) (λ s ne. next_else f stack s ne),
                ))
            | inr ne ↦
                omega (
                  arith,
                  next_else g (home_of homes stack) home (λ same. ne (sym same)),
                  m.gathered home,
                  at_home-other homes f (next f stack) home (length b.stacks) stack ne (λ s apart. next_else f stack s apart),
                )
          ];
    }

-- items that are alike have the same sides, in each turn
pub alike_some : (x y : Option Item) → AreAlike x y → IsSome y
alike_some (Some a) (Some c) h = refl
alike_some (Some a) None h = absurd h
alike_some None y h = absurd h

pub alike_width : (turn : ℕ) (x y : Option Item) → AreAlike x y → item_width turn y ≡ item_width turn x
alike_width zero (Some a) (Some c) h = sym h.0
alike_width (suc turn) (Some a) (Some c) h = sym h.1
alike_width turn (Some a) None h = absurd h
alike_width turn None y h = absurd h

pub alike_height : (turn : ℕ) (x y : Option Item) → AreAlike x y → item_height turn y ≡ item_height turn x
alike_height zero (Some a) (Some c) h = sym h.1
alike_height (suc turn) (Some a) (Some c) h = sym h.0
alike_height turn (Some a) None h = absurd h
alike_height turn None y h = absurd h

-- the item that is picked instead
abbrev pub moved : List ℕ → Pick → Pick
moved homes p = record { stack = home_of homes p.stack; turn = p.turn }

-- what is known of an item that is picked, and of the one that is picked instead
pub record Picked (b other : Problem) (homes : List ℕ) (f g : Front) (p : Pick) : Type 0 where
  pub there : IsThere other g (moved homes p)
  pub wide : pick_width other g (moved homes p) ≡ pick_width b f p
  pub high : pick_height other g (moved homes p) ≡ pick_height b f p
  pub behind : Mirrors b homes (next f p.stack) (next g (home_of homes p.stack))

pub picked : (b : Problem) (items : List Item) (stacks : List (List ℕ)) (homes : List ℕ) (f g : Front) (p : Pick) → AreHomes b (in_stacks b items stacks) homes → Mirrors b homes f g → IsThere b f p → Picked b (in_stacks b items stacks) homes f g p
picked b items stacks homes f g p are m there =
    let o : Problem = in_stacks b items stacks in
    let like = alike_next b items stacks homes f g p.stack are m there in
    let x : Option Item = next_item b f p.stack in
    let y : Option Item = next_item o g (home_of homes p.stack) in
    record {
      there = alike_some x y like;
      wide = alike_width p.turn x y like;
      high = alike_height p.turn x y like;
      behind = mirrors_next b homes f g p.stack m there;
    }
