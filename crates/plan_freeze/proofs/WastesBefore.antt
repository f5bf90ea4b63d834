-- The wastes on the first plates, one more piece at a time.
use Rattle.std.proofs.Common.{◌≡◌, ℕ, zero, suc, ◌+◌, ◌<◌, ◌≤◌, ◌^◌, List, [], ◌∷◌, ◌++◌, filter, length, length-append, map, true, nat_lt, refl, ap, ◌∙◌, arith, mul-le-mul}
use Rattle.std.specs.Prelude.{ℤ, pos, negsuc}
use Rattle.std.proofs.lemmas.Bool.Decides.{nat_tests}
use Rattle.std.proofs.lemmas.List.{map-append}
use Rattle.std.proofs.lemmas.List.Elements.{filter-append}
use Rattle.cut_model.specs.declared.family.Family.{Family}
use Rattle.cut_model.specs.declared.family.Row.{Row}
use Rattle.cut_model.specs.Loss.{area_wasted, waste_of}
use Rattle.cut_model.specs.Visits.{IsSmall}
use Rattle.loss_area.proofs.Wasting.{waste_of-append}
use Rattle.plan_freeze.specs.inner.Wasted.{IsWasted, wasted}
use Rattle.glass_base.specs.declared.limits.TheConstants.{MOST_ROWS, MOST_SIDE}

area_small : (kind : ℤ) (r : Row) → r.width ≤ MOST_SIDE → r.height ≤ MOST_SIDE → area_wasted kind r ≤ 400000000
area_small (negsuc zero) r w h = mul-le-mul w h
area_small (negsuc (suc n)) r w h = omega arith
area_small (pos n) r w h = omega arith

-- the rows on the first plates with one more row
kept_more : (k : ℕ) (seen : List Family) (f : Family) →
    filter (λ row. nat_lt row.plate k) (map (λ g. g.row) (seen ++ f ∷ [])) ≡ filter (λ row. nat_lt row.plate k) (map (λ g. g.row) seen) ++ filter (λ row. nat_lt row.plate k) (f.row ∷ [])
kept_more k seen f =
    ap (filter (λ (r : Row). nat_lt r.plate k)) (map-append (λ (g : Family). g.row) seen (f ∷ []))
    ∙ filter-append (λ (r : Row). nat_lt r.plate k) (map (λ (g : Family). g.row) seen) (f.row ∷ [])

wasted_here : (k : ℕ) (seen : List Family) (f : Family) → f.row.plate < k → wasted k (seen ++ f ∷ []) ≡ wasted k seen + area_wasted f.row.kind f.row
wasted_here k seen f lt =
    let test : nat_lt f.row.plate k ≡ true = grind (arith, nat_tests) in
    let one : filter (λ (r : Row). nat_lt r.plate k) (f.row ∷ []) ≡ f.row ∷ [] = rw test refl in
    omega (
      arith,
      ap waste_of (kept_more k seen f),
      waste_of-append (filter (λ (r : Row). nat_lt r.plate k) (map (λ (g : Family). g.row) seen)) (filter (λ (r : Row). nat_lt r.plate k) (f.row ∷ [])),
      ap waste_of one,
    )

-- a piece on the first plates
pub wasted_more : {k start now next : ℕ} {seen : List Family} (f : Family) → f.row.plate < k → IsSmall f →
    (now + area_wasted f.row.kind f.row < 2 ^ 64 → next ≡ now + area_wasted f.row.kind f.row) → IsWasted k start now seen → IsWasted k start next (seen ++ f ∷ [])
wasted_more {k} {start} {now} {next} {seen} f lt small added h =
    let sum = wasted_here k seen f lt in
    record {
      small = omega (arith, sum, area_small f.row.kind f.row small.width small.height, h.small, length-append seen (f ∷ []));
      exact = λ fits.
          let before : now ≡ start + wasted k seen = h.exact (omega (arith, fits, sum)) in
          omega (arith, before, sum, added (omega (arith, before, sum, fits)));
    }

pub wasted_none : {k start : ℕ} → IsWasted k start start []
wasted_none = record { small = omega arith; exact = λ fits. omega arith }

-- few pieces have little waste, so the sum is exact
pub wasted_end : {k now count : ℕ} {seen : List Family} → IsWasted k 0 now seen → length seen ≡ count → count ≤ MOST_ROWS → now ≡ wasted k seen
wasted_end {seen = seen} h is few = omega (arith, h.exact (omega (arith, h.small, is, few)))
