-- How large least lengths and areas can be, and which step a least length comes from.
use Rattle.std.proofs.Common.{◌≡◌, ℕ, suc, ◌+◌, ◌-◌, ◌*◌, ◌/◌, ◌≤◌, List, [], ◌∷◌, length, map, get_or, max, refl, ap, sym, arith, All}
use Rattle.std.proofs.Math.Nat.{div-le_self, mul-le-mul_left}
use Rattle.std.proofs.lemmas.List.Sums.{sum_by-le}
use Rattle.glass_base.specs.declared.item.Item.{Item}
use Rattle.glass_base.specs.Items.{area_of}
use Rattle.glass_base.specs.Problem.{Problem, IsProblem}
use Rattle.plan_trace.specs.declared.level.Level.{Level}
use Rattle.plan_box.specs.Bounds.{reached, end_of_strip, end_of_items}
use Rattle.plan_box.specs.Leasts.{Fixed, fixed, Known, last_known, no_known}
use Rattle.plan_box.proofs.Sizes.{area_small}
use Rattle.glass_base.specs.declared.limits.TheConstants.{MOST_LENGTH}

pub ceil_small : (n d : ℕ) → 1 ≤ d → (n + (d - 1)) / d ≤ n + d
ceil_small n d some = omega (arith, div-le_self (n + (d - 1)) d)

pub product_small : (wide c : ℕ) → wide ≤ 20000000 → c ≤ MOST_LENGTH → wide * c ≤ 800000000000000
product_small wide c w h = omega (arith, mul-le-mul_left wide h)

pub area_most : (b : Problem) → IsProblem b → area_of b.items ≤ 320000000000
area_most b rules =
    let each : All (λ (item : Item). item.length * item.width ≤ 400000000) b.items = λ k d lt. area_small _ _ (rules.items_in_range k d lt).0 (rules.items_in_range k d lt).1 in
    omega (arith, sum_by-le (λ (item : Item). item.length * item.width) 400000000 b.items each, rules.few_items)

-- the last of steps that code keeps, each with its level and what is known of it
pub last_at : {X : Type 0} (level : X → Level) (known : X → Known) (k : Known) (steps : List X) (d : X) → 1 ≤ length steps →
    last_known k (map (λ x. fixed (level x) (known x)) steps) ≡ known (get_or steps (length steps - 1) d)
last_at level known k [] d some = absurd (omega (arith, some))
last_at level known k (x ∷ []) d some = refl
last_at level known k (x ∷ y ∷ steps) d some =
    let e : length (x ∷ y ∷ steps) - 1 ≡ suc (length (y ∷ steps) - 1) = omega arith in
    rw e (last_at level known (known x) (y ∷ steps) d (omega arith))

-- the least length by the last decided step
pub reached_by : (b : Problem) (total : ℕ) (ks : List Fixed) (k : Known) → 1 ≤ length ks → last_known no_known ks ≡ k → max (end_of_strip b k) (end_of_items b total k) ≡ reached b total ks
reached_by b total [] k some last = absurd (omega (arith, some))
reached_by b total (fixed l j ∷ later) k some last = ap (λ (i : Known). max (end_of_strip b i) (end_of_items b total i)) (sym last)

pub none_reached : (b : Problem) (total : ℕ) (ks : List Fixed) → length ks ≡ 0 → reached b total ks ≡ 0
none_reached b total [] e = refl
none_reached b total (x ∷ ks) e = absurd (omega (arith, e))
