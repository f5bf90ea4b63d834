-- A complete trace takes every item.
use Rattle.std.proofs.Common.{◌≡◌, ◌≢◌, ℕ, ◌≤◌, List, [], ◌∷◌, ◌++◌, length, length-append, map, refl, sym, subst, arith, Option, Some, None, IsSome, All, Contains}
use Rattle.std.proofs.lemmas.List.Elements.{All-map, All-weaker}
use Rattle.glass_base.specs.declared.item.Item.{Item}
use Rattle.glass_base.specs.Problem.{Problem, IsProblem, item_at}
use Rattle.glass_base.proofs.Found.{Distinct}
use Rattle.glass_base.proofs.Pairs.{contained_map, pairs_map}
use Rattle.cut_model.specs.declared.steps.Step.{Step}
use Rattle.plan_trace.specs.declared.level.Level.{Level}
use Rattle.plan_trace.specs.declared.level.Level.TheVariants.{NewPlate}
use Rattle.plan_trace.specs.Marks.{Draw, draw_of, drawn, begins, place_of, marks, attach, spots, Cut, cut, no_cut}
use Rattle.plan_trace.specs.Claims.{IsComplete}
use Rattle.plan_trace.proofs.Inside.{sizes_of}
use Rattle.plan_trace.proofs.Items.{items_all, item_here}
use Rattle.plan_trace.proofs.Served.{Items, taken, taken_count, taken_known, taken_kept, kept_apart, length_within, spots_count, ids_count}
use Rattle.front_course.specs.Fronts.{IsFull}

-- the draws of some steps behind earlier ones, the newest first
abbrev pub all_draws : List Draw → List Step → List Draw
all_draws before [] = before
all_draws before (s ∷ ss) = all_draws (draw_of s ∷ before) ss

-- one more step, of which it is known only that its stack has an item left
one_more : (b : Problem) → IsProblem b → (before : List Draw) (m : Level) (t : Cut) (ss : List Step) (x : Step) → IsSome (item_at b x.stack (drawn (all_draws before ss) x.stack)) →
    Items b m t (attach (marks b before t.place (map draw_of ss)) ss) → Items b m t (attach (marks b before t.place (map draw_of (ss ++ x ∷ []))) (ss ++ x ∷ []))
one_more b rules before m t [] x some h = (item_here b rules before t.place (draw_of x) some, tt)
one_more b rules before m t (s ∷ ss) x some h =
    (h.0, one_more b rules (draw_of s ∷ before) (begins before s.kind) (cut (place_of b before t.place (draw_of s)) s) ss x some h.1)

-- steps draw no more items than there are
few_steps : (b : Problem) → IsProblem b → (ss : List Step) → Items b NewPlate no_cut (spots b ss) → length ss ≤ length b.items
few_steps b rules ss h =
    let xs : List Item = taken (spots b ss) in
    let known = taken_known b NewPlate no_cut (spots b ss) h in
    let apart = kept_apart b.items xs rules.ids known (taken_kept b rules [] NewPlate no_cut ss h) in
    let distinct : Distinct (map (λ (item : Item). item.id) xs) = pairs_map (λ a c. a ≢ c) (λ (item : Item). item.id) xs apart in
    let within : All (Contains (map (λ (item : Item). item.id) b.items)) (map (λ (item : Item). item.id) xs) =
    All-map (Contains (map (λ (item : Item). item.id) b.items)) (λ (item : Item). item.id) xs
    (All-weaker (Contains b.items) (λ (item : Item). Contains (map (λ (item : Item). item.id) b.items) item.id) (λ item has. contained_map (λ (t : Item). t.id) b.items item has) xs known) in
    omega (
      arith,
      length_within (map (λ (item : Item). item.id) xs) (map (λ (item : Item). item.id) b.items) distinct within,
      ids_count xs,
      ids_count b.items,
      taken_count b NewPlate no_cut (spots b ss) h,
      spots_count b [] no_cut ss,
    )

abbrev draw_from : ℕ → Step
draw_from stack = record { stack = stack; turn = 0; kind = 0; lift = 0; a = 0; b = 0; c = 0; d = 0; e = 0 }

pub full : (b : Problem) → IsProblem b → (ss : List Step) → IsComplete b ss → IsFull b (drawn (all_draws [] ss))
full b rules ss whole stack = by (item_at b stack (drawn (all_draws [] ss) stack)) refl
  where
    by : (o : Option Item) → item_at b stack (drawn (all_draws [] ss) stack) ≡ o → o ≡ None
    by None e = refl
    by (Some item) e =
        let h = items_all b rules [] NewPlate no_cut ss (sizes_of b NewPlate no_cut (spots b ss) whole.meets) in
        let more = one_more b rules [] NewPlate no_cut ss (draw_from stack) (subst IsSome (sym e) cc) h in
        absurd (omega (arith, few_steps b rules (ss ++ draw_from stack ∷ []) more, length-append ss (draw_from stack ∷ []), whole.each_item))
