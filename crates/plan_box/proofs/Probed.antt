-- A box that is a point is refuted, or its least values are a trace that meets the rules; the bound is at least the loss of these.
use Rattle.std.proofs.Common.{◌≡◌, eqb-true, ℕ, suc, ◌+◌, ◌-◌, ◌*◌, ◌≤◌, ◌==◌, List, [], ◌∷◌, true, false, cond, IsTrue, refl, sym, ap, ◌∙◌, subst, arith, length, inl, inr, mul-le-mul_left}
use Rattle.std.proofs.lemmas.Bool.Decides.{nat_tests}
use Rattle.glass_base.specs.Items.{area_of}
use Rattle.glass_base.specs.Plates.{Before}
use Rattle.glass_base.specs.Problem.{Problem}
use Rattle.cut_model.specs.Steps.{length_of, plates_after, plates_begun}
use Rattle.plan_trace.specs.Marks.{Draw, Place, marks, no_place, place_of, begins}
use Rattle.plan_trace.specs.TraceRules.{Meets}
use Rattle.plan_box.specs.declared.var.Var.{Var}
use Rattle.plan_box.specs.Ranges.{Ranges, PlainBox, IsBox}
use Rattle.plan_box.specs.Frames.{frame_of}
use Rattle.plan_box.specs.Decisions.{is_drawn, draw_at, decided, all_decided, is_free_from, IsPoint, numbers_of}
use Rattle.plan_box.specs.Leasts.{Known, no_known, Fixed, fixed, next_known, known_so_far, settle_at, settle, known, last_known, least_step, least_steps}
use Rattle.plan_box.specs.Bounds.{end_of_strip, reached, least_length, bound}
use Rattle.plan_box.specs.declared.reason.Reason.{Reason}
use Rattle.plan_box.specs.Reasons.{IsRefuted}
use Rattle.plan_trace.specs.Claims.{IsComplete}
use Rattle.plan_box.proofs.Decided.{meets_decided}
use Rattle.plan_box.proofs.Counts.{known_count}
use Rattle.plan_box.proofs.Lengths.{plates_sum, right_after, right_is}
use Rattle.plan_box.proofs.Points.{is_decided}
use Rattle.plan_box.proofs.Probe.{copies, later_point, place_known, point_least}

-- in a point all steps are decided
each_decided : (before : List Draw) (rs : List Ranges) → ((step : ℕ) (v : Var) → is_free_from before rs step v ≡ false) → length (decided rs) ≡ length rs
each_decided before [] point = refl
each_decided before (r ∷ rs) point =
    let drawn : is_drawn r ≡ true = is_decided before r rs point (is_drawn r) refl in
    let rest : length (decided rs) ≡ length rs = each_decided (draw_at r ∷ before) rs (λ step v. later_point (is_drawn r) drawn (point (suc step) v)) in
    subst (λ yes. length (cond yes (draw_at r ∷ decided rs) []) ≡ length (r ∷ rs)) (sym drawn) (ap suc rest)

same_test : (m n : ℕ) → m ≡ n → IsTrue (m == n)
same_test m n e = grind (arith, nat_tests)

pub point_decided : (rs : List Ranges) → IsPoint rs → length (decided rs) ≡ length rs
point_decided rs point = each_decided [] rs point

pub point_whole : (rs : List Ranges) → IsPoint rs → IsTrue (all_decided rs)
point_whole rs point = same_test (length (decided rs)) (length rs) (point_decided rs point)

-- the right side of the last step, at its least
right_least : (k : Known) (ks : List Fixed) → right_after k.least_b (least_steps ks) ≡ (last_known k ks).least_b
right_least k [] = refl
right_least k (fixed l n ∷ ks) = right_least n ks

-- the plate of the last step
record Counted (k : Known) (t : Place) (ks : List Fixed) : Type 0 where
  plates : (last_known k ks).plates ≡ t.plates + plates_begun (least_steps ks)
  plate : (last_known k ks).plate ≡ (last_known k ks).plates - 1

one_plate : (k : Known) (t : Place) → k.place ≡ t → t.plate ≡ t.plates - 1 → Counted k t []
one_plate k t e is = record { plates = omega (arith, ap (λ p. p.plates) e); plate = omega (arith, is, ap (λ p. p.plates) e, ap (λ p. p.plate) e) }

counted : (b : Problem) (before : List Draw) (t : Place) (k j : Known) (ds : List Draw) (rs : List Ranges) → k.place ≡ t → t.plate ≡ t.plates - 1 → Counted k t (settle (known_so_far b j (marks b before t ds) rs))
counted b before t k j [] rs e is = one_plate k t e is
counted b before t k j (d ∷ ds) [] e is = one_plate k t e is
counted b before t k j (d ∷ ds) (r ∷ rs) e is =
    let p : Place = place_of b before t d in
    let n : Known = next_known b (begins before d.kind) p j r in
    let rest : List Fixed = settle (known_so_far b n (marks b (d ∷ before) p ds) rs) in
    let N : Known = settle_at n rest in
    let same : N.place ≡ p = (copies b n (marks b (d ∷ before) p ds) rs).place ∙ place_known b (begins before d.kind) p j r in
    let inner : Counted N p rest = counted b (d ∷ before) p N n ds rs same refl in
    let kind : N.draw.kind ≡ d.kind = ap (λ q. q.draw.kind) same in
    record {
      plates = inner.plates ∙ plates_sum d.kind t.plates (plates_begun (least_steps rest)) ∙ ap (λ x. t.plates + plates_after x (plates_begun (least_steps rest))) (sym kind);
      plate = inner.plate;
    }

-- the least values of decided steps end where their last strip ends at least
least_end : (b : Problem) (ks : List Fixed) (l : _) (k : Known) → Counted no_known no_place (fixed l k ∷ ks) → length_of b (least_steps (fixed l k ∷ ks)) ≡ end_of_strip b (last_known k ks)
least_end b ks l k c =
    let plate : (last_known k ks).plate ≡ plates_begun (least_steps (fixed l k ∷ ks)) - 1 = omega (arith, c.plate, c.plates) in
    ap (λ n. Before b (plates_begun (least_steps (fixed l k ∷ ks)) - 1) + n) (right_is (least_step k) (least_steps ks) ∙ right_least k ks)
    ∙ ap (λ n. Before b n + (last_known k ks).least_b) (sym plate)

within_reach : (b : Problem) (total : ℕ) (ks : List Fixed) → 1 ≤ length ks → Counted no_known no_place ks → length_of b (least_steps ks) ≤ reached b total ks
within_reach b total [] some c = absurd (omega (arith, some))
within_reach b total (fixed l k ∷ ks) some c = omega (arith, least_end b ks l k c)

-- the bound is at least the loss of the least values
pub least_bound : (b : Problem) (rs : List Ranges) → 1 ≤ length (known b rs) → b.params.height * length_of b (least_steps (known b rs)) - area_of b.items ≤ bound b rs
least_bound b rs some =
    let fits : length_of b (least_steps (known b rs)) ≤ least_length b rs =
    omega (arith, within_reach b (area_of b.items) (known b rs) some (counted b [] no_place no_known no_known (decided rs) rs refl refl)) in
    omega (arith, mul-le-mul_left b.params.height fits)

-- a point that is not refuted meets the rules with its least values
pub point_meets : (b : Problem) (rs : List Ranges) → IsPoint rs → ¬ IsRefuted b rs → Meets b (least_steps (known b rs))
point_meets b rs point free =
    let same : least_steps (known b rs) ≡ numbers_of rs = point_least b rs point (λ h. free (Reason.R1, inl h)) in
    elim (meets_decided b (least_steps (known b rs))) [
      | inl meets ↦ meets
      | inr broken ↦ absurd (free (Reason.R7, (point, point_whole rs point, λ m. broken (subst (Meets b) (sym same) m))))
    ]

least_count : (ks : List Fixed) → length (least_steps ks) ≡ length ks
least_count [] = refl
least_count (fixed l k ∷ ks) = ap suc (least_count ks)

-- the least values of a box of an instance in which all steps are decided are a whole trace, where they meet the rules
pub whole_probed : (b : Problem) (x : PlainBox) → IsBox x → x.frame ≡ frame_of b → IsTrue (all_decided x.ranges) → Meets b (least_steps (known b x.ranges)) → IsComplete b (least_steps (known b x.ranges))
whole_probed b x box frame whole meets = record {
  each_item =
      least_count (known b x.ranges)
      ∙ known_count b x.ranges
      ∙ eqb-true (length (decided x.ranges)) (length x.ranges) whole
      ∙ box.each_step
      ∙ ap (λ f. f.items) frame;
  meets = meets;
}
