-- Each course is one of the other instance too, with the items of the homes.
use Rattle.std.proofs.Common.{◌≡◌, ℕ, zero, suc, ◌+◌, ◌<◌, ◌≤◌, ◌⊎◌, inl, inr, List, [], ◌∷◌, length, refl, sym, ap, subst, arith, Option, Some, None}
use Rattle.glass_base.specs.declared.item.Item.{Item}
use Rattle.glass_base.specs.Plates.{Before, Width}
use Rattle.glass_base.specs.Problem.{Problem, stack_at, item_at}
use Rattle.glass_base.specs.declared.params.Params.{Params}
use Rattle.glass_base.specs.declared.item.Defect.{Defect}
use Rattle.std.specs.Prelude.{slice_get, slice_index_or, option_and_then}
use Rattle.std.proofs.lemmas.List.{get_or_past}
use Rattle.plan_trace.specs.TraceRules.{Gap}
use Rattle.front_course.specs.Fronts.{Front, no_item, next_item, IsFull}
use Rattle.front_course.specs.Strips.{after_bands}
use Rattle.front_course.specs.Courses.{Strip, left_of, Follows, AreStrips, after_strips, last_plate, last_right, IsCourse}
use Rattle.joined_stacks.specs.Bounds.{BoundsToo}
use Rattle.joined_stacks.specs.inner.Homes.{items_in, home_of, AreAlike, AreHomes, SamePlates}
use Rattle.joined_stacks.proofs.Gathered.{at_home-one, at_home-same}
use Rattle.joined_stacks.proofs.Mirrors.{in_stacks, Mirrors, mirrors_first}
use Rattle.joined_stacks.proofs.Copies.{moved_bands, Copied, copied}

abbrev moved_strip : List ℕ → Strip → Strip
moved_strip homes s = record { plate = s.plate; width = s.width; right = s.right; bands = moved_bands homes s.bands }

abbrev moved_strips : List ℕ → List Strip → List Strip
moved_strips homes [] = []
moved_strips homes (s ∷ strips) = moved_strip homes s ∷ moved_strips homes strips

follows : (b : Problem) (items : List Item) (stacks : List (List ℕ)) (homes : List ℕ) (f g : Front) (plate from : ℕ) (s : Strip) → Follows b f plate from s → Copied b (in_stacks b items stacks) homes s.width f g s.bands →
    Follows (in_stacks b items stacks) g plate from (moved_strip homes s)
unfolding Width
follows b items stacks homes f g plate from s h copy = record {
  is_strip = copy.is_strip;
  behind = h.behind;
  within = h.within;
  few = h.few;
  places = copy.placed s.plate (left_of s) s.right 0 h.places;
  begin = h.begin;
  end = h.end;
}

record Course (b other : Problem) (homes : List ℕ) (f g : Front) (plate from : ℕ) (strips : List Strip) : Type 0 where
  are : AreStrips other g plate from (moved_strips homes strips)
  behind : Mirrors b homes (after_strips f strips) (after_strips g (moved_strips homes strips))
  ends : last_plate plate (moved_strips homes strips) ≡ last_plate plate strips
  right : last_right from (moved_strips homes strips) ≡ last_right from strips

copied_course : (b : Problem) (items : List Item) (stacks : List (List ℕ)) (homes : List ℕ) (f g : Front) (plate from : ℕ) (strips : List Strip) → AreHomes b (in_stacks b items stacks) homes → Mirrors b homes f g → AreStrips b f plate from strips →
    Course b (in_stacks b items stacks) homes f g plate from strips
copied_course b items stacks homes f g plate from [] are m each = record { are = tt; behind = m; ends = refl; right = refl }
copied_course b items stacks homes f g plate from (s ∷ strips) are m each =
    let o : Problem = in_stacks b items stacks in
    let copy : Copied b o homes s.width f g s.bands = copied b items stacks homes s.width f g s.bands are m each.0.is_strip in
    let rest : Course b o homes (after_bands f s.bands) (after_bands g (moved_bands homes s.bands)) s.plate s.right strips =
    copied_course b items stacks homes (after_bands f s.bands) (after_bands g (moved_bands homes s.bands)) s.plate s.right strips are copy.behind each.1 in
    record {
      are = (follows b items stacks homes f g plate from s each.0 copy, rest.are);
      behind = rest.behind;
      ends = rest.ends;
      right = rest.right;
    }

below_or_not : (m n : ℕ) → (m < n) ⊎ (n ≤ m)
below_or_not m n = grind arith

-- where an item is left in no stack, all are taken
taken_all : (b : Problem) (items : List Item) (stacks : List (List ℕ)) (homes : List ℕ) (f g : Front) → AreHomes b (in_stacks b items stacks) homes → Mirrors b homes f g → IsFull b f → (stack : ℕ) → stack < length b.stacks → f stack ≡ items_in b stack
taken_all b items stacks homes f g are m full stack lt =
    elim (below_or_not (f stack) (items_in b stack)) [
      | inl inside ↦
          let home : ℕ = home_of homes stack in
          let room : items_in b stack ≤ items_in (in_stacks b items stacks) home = omega (arith, at_home-one homes (items_in b) home (length b.stacks) stack lt refl, are.whole home (are.fit stack lt).0) in
          absurd (nothing (next_item b f stack) (item_at (in_stacks b items stacks) home (f stack + 0)) ((are.fit stack lt).1 (f stack) 0 inside (omega (arith, room))) (full stack))
      | inr past ↦ omega (arith, past, m.within stack)
    ]
  where
    nothing : (x y : Option Item) → AreAlike x y → x ≡ None → ⊥
    nothing None y like none = like
    nothing (Some a) y like none = cc

-- no item stands behind the last place of a stack
none_past : (b : Problem) (stack place : ℕ) → items_in b stack ≤ place → item_at b stack place ≡ None
none_past b stack place past = outside (stack_at b stack) place past
  where
    outside : (places : List ℕ) (place : ℕ) → length places ≤ place → option_and_then (λ position. slice_get b.items position) (slice_get places place) ≡ None
    outside [] place past = refl
    outside (x ∷ places) zero past = absurd (omega arith)
    outside (x ∷ places) (suc place) past = outside places place (omega (arith, past))

full_too : (b : Problem) (items : List Item) (stacks : List (List ℕ)) (homes : List ℕ) (f g : Front) → AreHomes b (in_stacks b items stacks) homes → Mirrors b homes f g → IsFull b f → IsFull (in_stacks b items stacks) g
full_too b items stacks homes f g are m full home =
    elim (below_or_not home (length stacks)) [
      | inl lt ↦
          none_past o home (g home)
          (omega (arith, m.gathered home, at_home-same homes f (items_in b) home (length b.stacks) (taken_all b items stacks homes f g are m full), are.whole home lt))
      | inr past ↦ none_past o home (g home) (omega (arith, ap length (get_or_past stacks home [] past)))
    ]
  where
    o : Problem
    o = in_stacks b items stacks

before_same : (b : Problem) (items : List Item) (stacks : List (List ℕ)) (plate : ℕ) → Before (in_stacks b items stacks) plate ≡ Before b plate
unfolding Before Width
before_same b items stacks zero = refl
before_same b items stacks (suc plate) = ap (λ n. n + slice_index_or b.widths plate b.params.width) (before_same b items stacks plate)

gap_same : (b : Problem) (items : List Item) (stacks : List (List ℕ)) (right right' plate plate' : ℕ) → right' ≡ right → plate' ≡ plate → Gap b.params.waste right (Width b plate) → Gap b.params.waste right' (Width (in_stacks b items stacks) plate')
unfolding Width
gap_same b items stacks right right' plate plate' e1 e2 gap = rw (e1, e2) gap

bounds_stacks : (b : Problem) (items : List Item) (stacks : List (List ℕ)) (homes : List ℕ) → AreHomes b (in_stacks b items stacks) homes → BoundsToo b (in_stacks b items stacks)
bounds_stacks b items stacks homes are least none course is =
    let o : Problem = in_stacks b items stacks in
    let copy : Course b o homes no_item no_item 0 0 course = copied_course b items stacks homes no_item no_item 0 0 course are (mirrors_first b homes) is.strips in
    let other : List Strip = moved_strips homes course in
    let whole : IsCourse o other = record {
      strips = copy.are;
      full = full_too b items stacks homes (after_strips no_item course) (after_strips no_item other) are copy.behind is.full;
      rest = gap_same b items stacks (last_right 0 course) (last_right 0 other) (last_plate 0 course) (last_plate 0 other) copy.right copy.ends is.rest;
    } in
    omega (arith, none other whole, copy.right, before_same b items stacks (last_plate 0 other), ap (Before b) copy.ends)

-- an instance on the same plates has these items in these stacks
on_same : (other : Problem) (params : Params) (defects : List Defect) (widths : List ℕ) → other.params ≡ params → other.defects ≡ defects → other.widths ≡ widths →
    record { params = params; items = other.items; defects = defects; widths = widths; stacks = other.stacks } ≡ other
on_same other params defects widths e1 e2 e3 = rw (sym e1, sym e2, sym e3) refl

-- where each stack has a home on the same plates, what no course of the other instance is shorter than, none of this one is
pub bounds_too : (b other : Problem) (homes : List ℕ) → SamePlates b other → AreHomes b other homes → BoundsToo b other
bounds_too b other homes same are =
    let e : in_stacks b other.items other.stacks ≡ other = on_same other b.params b.defects b.widths same.params_are same.defects_are same.widths_are in
    subst (BoundsToo b) e (bounds_stacks b other.items other.stacks homes (subst (λ (o : Problem). AreHomes b o homes) (sym e) are))
