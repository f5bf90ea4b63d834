-- The canonical plan of a whole trace is lawful, fits, and loses what the trace's length has beside the items.
use Rattle.std.proofs.Common.{◌≤◌, ◌*◌, List, [], ◌∷◌, length, map, refl, subst, arith, true, All, Contains}
use Rattle.std.proofs.lemmas.List.Elements.{All-map, All-weaker, All-contains}
use Rattle.glass_base.specs.declared.item.Item.{Item}
use Rattle.glass_base.specs.Items.{IsItemInRange}
use Rattle.glass_base.specs.Problem.{Problem, IsProblem}
use Rattle.cut_model.specs.declared.steps.Step.{Step}
use Rattle.cut_model.specs.Families.{families_of, first_plate}
use Rattle.cut_model.specs.Fits.{Fits}
use Rattle.cut_model.specs.Lawful.{IsLawful, CutsEachOnce}
use Rattle.cut_model.specs.Rules.{KeepsCutRules}
use Rattle.cut_model.specs.Sized.{on_plates}
use Rattle.cut_model.specs.Tree.{Forest, count, neighbour_count}
use Rattle.cut_model.proofs.Cutting.{items_in, rows_cut}
use Rattle.cut_model.proofs.OnPlates.{neighbour_count-on_plates}
use Rattle.loss_area.proofs.Conserved.{KeepsSum}
use Rattle.plan_trace.specs.Marks.{NewPlate, Cut, cut, no_cut, draw_of, place_of, no_place, marks, attach, Spot}
use Rattle.plan_trace.specs.TraceRules.{Meets}
use Rattle.plan_trace.specs.Canonical.{canonical}
use Rattle.plan_trace.specs.Claims.{IsComplete, CanonicalIsGood, CanonicalLoses}
use Rattle.plan_trace.proofs.Inside.{meets_sound}
use Rattle.plan_trace.proofs.Cuts.{canonical_cuts}
use Rattle.plan_trace.proofs.Served.{canonical_each_once, canonical_stacks, spots_count}
use Rattle.plan_trace.proofs.UsedPlates.{all_used, holds_sized, plate_count}
use Rattle.plan_trace.proofs.Shapes.{canonical_shaped, canonical_count, canonical_holds}
use Rattle.plan_trace.proofs.Ranges.{plates_in_range}
use Rattle.plan_trace.proofs.Losses.{canonical_loss, last_few, last_plates}
use Rattle.glass_base.specs.declared.limits.TheConstants.{MOST_NUMBER, MOST_ROWS}

-- no plate too many is begun
pub few_begun : (b : Problem) (ss : List Step) → Meets b ss → neighbour_count (canonical b ss) ≤ b.params.plates
few_begun b [] m = omega arith
few_begun b (s ∷ ss) m =
    let first : Cut = cut (place_of b [] no_place (draw_of s)) s in
    let later : List Spot = attach (marks b (draw_of s ∷ []) first.place (map draw_of ss)) ss in
    let ok = meets_sound b (s ∷ ss) m in
    omega (arith, last_plates b NewPlate first later m.1 ok.1, last_few b NewPlate first later m.0.tr1.1 m.1, m.0.tr1.0, ok.0.follows.counts)

canonical_lawful : (b : Problem) → IsProblem b → (ss : List Step) → IsComplete b ss → IsLawful b (canonical b ss)
canonical_lawful b rules ss h = record {
  shape = canonical_shaped b ss;
  cuts = canonical_cuts b rules ss h.meets;
  order = record {
    each_once = canonical_each_once b rules ss h.meets h.each_item;
    each_plate = all_used (first_plate b) true 0 (on_plates b (canonical b ss)) refl (holds_sized b 0 (canonical b ss) (canonical_holds b ss));
    few_plates = omega (arith, plate_count (first_plate b) true 0 (on_plates b (canonical b ss)) refl, neighbour_count-on_plates b (canonical b ss), few_begun b ss h.meets);
    stacks = canonical_stacks b rules ss h.meets;
  };
}

-- the numbers of the batch's items are small
small_numbers : (b : Problem) → IsProblem b → (plan : Forest) → IsLawful b plan → All (λ number. number ≤ MOST_NUMBER) (items_in plan)
small_numbers b rules plan lawful =
    let cut : CutsEachOnce b.items (items_in plan) = subst (CutsEachOnce b.items) (rows_cut b plan) lawful.order.each_once in
    let small : All (λ number. number ≤ MOST_NUMBER) (map (λ item. item.id) b.items) =
    All-map (λ number. number ≤ MOST_NUMBER) (λ (item : Item). item.id) b.items (All-weaker IsItemInRange (λ (item : Item). item.id ≤ MOST_NUMBER) (λ item h. h.2) b.items rules.items_in_range) in
    All-weaker (Contains (map (λ item. item.id) b.items)) (λ number. number ≤ MOST_NUMBER) (λ number has. All-contains (λ n. n ≤ MOST_NUMBER) (map (λ item. item.id) b.items) number small has) (items_in plan) cut.known

-- a lawful plan is in range
lawful_fits : (b : Problem) → IsProblem b → (plan : Forest) → IsLawful b plan → count plan ≤ MOST_ROWS → Fits plan
lawful_fits b rules plan lawful few = record {
  in_range = plates_in_range b 0 (first_plate b) true 0 plan rules refl b.params.accepted.height_limit lawful.shape
      (All-weaker (KeepsCutRules b) KeepsSum (λ f keeps. keeps.l1) (families_of b plan) lawful.cuts)
      (small_numbers b rules plan lawful);
  few = few;
}

-- the canonical plan of a whole trace is lawful, and fits
pub canonical_good : CanonicalIsGood
canonical_good b rules ss h =
    let lawful = canonical_lawful b rules ss h in
    let few : count (canonical b ss) ≤ 12 * length b.items = omega (arith, canonical_count b ss, spots_count b [] no_cut ss, h.each_item) in
    record {
      lawful = lawful;
      fits = lawful_fits b rules (canonical b ss) lawful (omega (arith, few, rules.few_items));
      few = few;
    }

-- it loses what the trace's length has beside the items
pub canonical_loses : CanonicalLoses
canonical_loses b rules [] h = absurd (omega (arith, h.each_item, rules.some))
canonical_loses b rules (s ∷ ss) h = canonical_loss b rules s ss h.meets (canonical_lawful b rules (s ∷ ss) h)
