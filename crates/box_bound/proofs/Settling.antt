-- Steps take over the values of the step behind them, from the last one on.
use Rattle.std.proofs.Common.{◌≡◌, ℕ, ◌+◌, ◌-◌, ◌<◌, ◌≤◌, List, ◌∷◌, length, map, take, drop, get_or, ap, sym, ◌∙◌, subst}
use Rattle.std.proofs.Math.ListN.{set}
use Rattle.std.proofs.lemmas.List.{map-set, set-get_or}
use Rattle.plan_box.specs.Leasts.{Known, Fixed, fixed, settle, settle_at}
use Rattle.plan_box.proofs.Segments.{segment_set}
use Rattle.box_bound.specs.declared.kept.Kept.{Kept}
use Rattle.box_bound.specs.Kept.{early, late, early_fixed, late_fixed}

settle_cons : (new : Kept) (later : List Kept) → map late_fixed later ≡ settle (map early_fixed later) → late new ≡ settle_at (early new) (map late_fixed later) →
    map late_fixed (new ∷ later) ≡ settle (map early_fixed (new ∷ later))
settle_cons new later e h =
    ap (λ (k : Known). fixed new.level k ∷ map late_fixed later) h
    ∙ ap (λ (ks : List Fixed). fixed new.level (settle_at (early new) ks) ∷ ks) e

-- one more step is settled
pub settle_more : (xs : List Kept) (i n : ℕ) (d new : Kept) → i < n → n ≤ length xs →
    map late_fixed (take (n - (i + 1)) (drop (i + 1) xs)) ≡ settle (map early_fixed (take (n - (i + 1)) (drop (i + 1) xs))) →
    late new ≡ settle_at (early new) (map late_fixed (take (n - (i + 1)) (drop (i + 1) xs))) →
    map late_fixed (take (n - i) (drop i (set xs i new))) ≡ settle (map early_fixed (take (n - i) (drop i (set xs i new))))
settle_more xs i n d new lt le e h =
    subst (λ (ys : List Kept). map late_fixed ys ≡ settle (map early_fixed ys)) (sym (segment_set xs i n d new lt le)) (settle_cons new (take (n - (i + 1)) (drop (i + 1) xs)) e h)

-- a fact of each step that the new one shares
pub same_map : {X : Type 0} (f : Kept → X) (xs : List Kept) (i : ℕ) (d new : Kept) → f new ≡ f (get_or xs i d) → map f (set xs i new) ≡ map f xs
same_map f xs i d new e = map-set f xs i new ∙ ap (set (map f xs) i) e ∙ sym (map-set f xs i (get_or xs i d)) ∙ ap (map f) (set-get_or xs i d)
