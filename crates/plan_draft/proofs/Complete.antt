-- The draft is complete: a step for each item, and all rules are met.
use Rattle.std.proofs.Common.{◌≡◌, ◌≢◌, ℕ, suc, ◌+◌, ◌<◌, List, [], ◌∷◌, ◌++◌, length, map, slice_index_or, replicate, refl, sym, ap, ◌∙◌, subst, arith, append_assoc, length-append, Some, Contains}
use Rattle.std.specs.Prelude.{slice_get}
use Rattle.std.specs.List.{AllZip, cons_option, flat_map}
use Rattle.std.proofs.Math.Seq.{get_or-append_seam}
use Rattle.std.proofs.lemmas.List.{length-map, length-replicate}
use Rattle.std.proofs.lemmas.List.Elements.{All-map, All-weaker}
use Rattle.std.proofs.lemmas.Option.{slice_get-get_or}
use Rattle.glass_base.specs.declared.item.Item.{Item}
use Rattle.glass_base.specs.Problem.{Problem, IsProblem}
use Rattle.glass_base.specs.Stacks.{IsStack, stack_numbers}
use Rattle.glass_base.proofs.Pairs.{contained_first, contained_later, contained_map, pairs_map}
use Rattle.cut_model.specs.declared.steps.Step.{Step}
use Rattle.cut_model.specs.Lawful.{CutsEachOnce, IsLawful}
use Rattle.cut_model.specs.Numbers.{numbers_from}
use Rattle.cut_model.specs.Tree.{Forest}
use Rattle.plan_trace.specs.Claims.{IsComplete}
use Rattle.plan_trace.specs.TraceRules.{Meets}
use Rattle.plan_trace.proofs.Good.{canonical_good}
use Rattle.plan_trace.proofs.Lawful.{order_counted}
use Rattle.plan_trace.proofs.Served.{kept_apart}
use Rattle.plan_draft.specs.Drafts.{AreDrafted, IsDraft, IsDraftPlan, drawing_order}
use Rattle.plan_draft.proofs.Gathered.{are_gathered, by_stacks, gathered, picked}

-- a step for each draw
drafted_counted : (b : Problem) (done : List Step) (order : List ℕ) (steps : List Step) → AreDrafted b done order steps → length steps ≡ length done + length order
drafted_counted b done [] steps h = ap length h ∙ none (length done)
  where
    none : (n : ℕ) → n ≡ n + 0
    none n = omega arith
drafted_counted b done (stack ∷ later) steps (s, next, rest) = omega (arith, drafted_counted b (done ++ s ∷ []) later steps rest, length-append done (s ∷ []))

drafted_meets : (b : Problem) (done : List Step) (order : List ℕ) (steps : List Step) → AreDrafted b done order steps → Meets b done → Meets b steps
drafted_meets b done [] steps h meets = subst (Meets b) (sym h) meets
drafted_meets b done (stack ∷ later) steps (s, next, rest) meets = drafted_meets b (done ++ s ∷ []) later steps rest next.may.meets

picked_counted : (items : List Item) (number : ℕ) (places : List ℕ) → ((k : ℕ) → Contains places k → k < length items) → length (picked items places) ≡ length places
picked_counted items number [] known = refl
picked_counted items number (k ∷ places) known =
    let d : Item = record { id = 0; length = 0; width = 0; stack = 0; sequence = 0 } in
    let is : slice_get items k ≡ Some (slice_index_or items k d) = slice_get-get_or items k d (known k (contained_first k places)) in
    ap (λ o. length (cons_option o (picked items places))) is
    ∙ ap suc (picked_counted items number places (λ j has. known j (contained_later k places j has)))

-- the draws of some stacks, with these before them
draws_counted : (items : List Item) (numbers : List ℕ) (before stacks : List (List ℕ)) → AllZip (IsStack items) numbers stacks →
    length (flat_map (λ n. replicate (length (slice_index_or (before ++ stacks) n [])) n) (numbers_from (length before) (length stacks))) ≡ length (gathered items stacks)
draws_counted items [] before [] h = refl
draws_counted items [] before (places ∷ stacks) h = absurd h
draws_counted items (number ∷ numbers) before [] h = absurd h
draws_counted items (number ∷ numbers) before (places ∷ stacks) h =
    let all : List (List ℕ) = before ++ places ∷ stacks in
    let draws : ℕ → List ℕ = λ n. replicate (length (slice_index_or all n [])) n in
    let d : Item = record { id = 0; length = 0; width = 0; stack = 0; sequence = 0 } in
    let here : length (draws (length before)) ≡ length places = length-replicate (length (slice_index_or all (length before) [])) (length before) ∙ ap length (get_or-append_seam before places stacks []) in
    let rest : length (flat_map draws (numbers_from (length before + 1) (length stacks))) ≡ length (gathered items stacks) =
    subst (λ n. length (flat_map draws (numbers_from n (length stacks))) ≡ length (gathered items stacks)) (length-append before (places ∷ []))
    (subst
    (λ (l : List (List ℕ)). length (flat_map (λ n. replicate (length (slice_index_or l n [])) n) (numbers_from (length (before ++ places ∷ [])) (length stacks))) ≡ length (gathered items stacks))
    (append_assoc before (places ∷ []) stacks)
    (draws_counted items numbers (before ++ places ∷ []) stacks h.1)) in
    omega (
      arith,
      here,
      rest,
      length-append (draws (length before)) (flat_map draws (numbers_from (length before + 1) (length stacks))),
      length-append (picked items places) (gathered items stacks),
      picked_counted items number places (λ k has. ((h.0.members k d).0 has).0),
    )

abbrev ids_of : List Item → List ℕ
ids_of items = map (λ item. item.id) items

gathered_counted : (b : Problem) → IsProblem b → length (by_stacks b) ≡ length b.items
gathered_counted b rules =
    let g = are_gathered b rules in
    let each_once : CutsEachOnce b.items (ids_of (by_stacks b)) = record {
      known = All-map (Contains (ids_of b.items)) (λ item. item.id) (by_stacks b)
          (All-weaker (Contains b.items) (λ item. Contains (ids_of b.items) item.id) (λ item has. contained_map (λ (t : Item). t.id) b.items item has) (by_stacks b) g.known);
      once = pairs_map (λ a c. a ≢ c) (λ item. item.id) (by_stacks b) (kept_apart b.items (by_stacks b) rules.ids g.known g.kept);
      all = All-map (Contains (ids_of (by_stacks b))) (λ item. item.id) b.items
          (All-weaker (Contains (by_stacks b)) (λ item. Contains (ids_of (by_stacks b)) item.id) (λ item has. contained_map (λ (t : Item). t.id) (by_stacks b) item has) b.items g.all);
    } in
    sym (length-map (by_stacks b) (λ item. item.id)) ∙ order_counted b.items (ids_of (by_stacks b)) rules.ids each_once

pub draft_complete : (b : Problem) (steps : List Step) → IsProblem b → IsDraft b steps → IsComplete b steps
draft_complete b steps rules h = record {
  each_item = omega (arith, drafted_counted b [] (drawing_order b) steps h, draws_counted b.items (stack_numbers b.items) [] b.stacks rules.stacks.each, gathered_counted b rules);
  meets = drafted_meets b [] (drawing_order b) steps h tt;
}

pub draft_lawful : (b : Problem) (plan : Forest) → IsProblem b → IsDraftPlan b plan → IsLawful b plan
draft_lawful b plan rules (steps, drafted, is) = subst (IsLawful b) (sym is) (canonical_good b rules steps (draft_complete b steps rules drafted)).lawful
