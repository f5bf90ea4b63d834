-- Steps take over the values of the step behind them, from the last one on.
use Rattle.std.proofs.Common.{◌≡◌, ℕ, zero, suc, ◌+◌, ◌-◌, ◌<◌, ◌≤◌, List, ◌∷◌, length, map, take, drop, get_or, refl, ap, sym, ◌∙◌, subst, arith}
use Rattle.std.proofs.Math.ListN.{set}
use Rattle.std.proofs.lemmas.List.{get_or-take, take-set-le, take-take}
use Rattle.plan_box.specs.Leasts.{Fixed, fixed, settle, settle_at}
use Rattle.plan_box.proofs.Segments.{segment_more, segment_set}
use Rattle.cert_check.specs.declared.steps.Decided.{Decided}
use Rattle.cert_check.specs.inner.Knowns.{fixed_of, known_in}

settle_cons : (old new : Decided) (later before : List Decided) → map fixed_of later ≡ settle (map fixed_of before) → fixed_of new ≡ fixed old.level (settle_at (known_in old) (map fixed_of later)) →
    map fixed_of (new ∷ later) ≡ settle (map fixed_of (old ∷ before))
settle_cons old new later before e h =
    ap (λ (z : Fixed). z ∷ map fixed_of later) h ∙ ap (λ (ks : List Fixed). fixed old.level (settle_at (known_in old) ks) ∷ ks) e

-- one more step is settled
pub settle_more : (xs first : List Decided) (i n : ℕ) (d new : Decided) → i < n → n ≤ length xs → length xs ≡ length first → get_or xs i d ≡ get_or first i d →
    map fixed_of (take (n - (i + 1)) (drop (i + 1) xs)) ≡ settle (map fixed_of (take (n - (i + 1)) (drop (i + 1) first))) →
    fixed_of new ≡ fixed (get_or xs i d).level (settle_at (known_in (get_or xs i d)) (map fixed_of (take (n - (i + 1)) (drop (i + 1) xs)))) →
    map fixed_of (take (n - i) (drop i (set xs i new))) ≡ settle (map fixed_of (take (n - i) (drop i first)))
settle_more xs first i n d new lt le many same e h =
    ap (map fixed_of) (segment_set xs i n d new lt le)
    ∙ settle_cons (get_or xs i d) new (take (n - (i + 1)) (drop (i + 1) xs)) (take (n - (i + 1)) (drop (i + 1) first)) e h
    ∙ ap (λ (x : Decided). settle (map fixed_of (x ∷ take (n - (i + 1)) (drop (i + 1) first)))) same
    ∙ ap (λ (ys : List Decided). settle (map fixed_of ys)) (sym (segment_more first i n d lt (omega (arith, le, many))))

-- the steps before are those from the first
pub front_at : (xs first : List Decided) (i : ℕ) (d : Decided) → take (i + 1) xs ≡ take (i + 1) first → get_or xs i d ≡ get_or first i d
front_at xs first i d e =
    sym (get_or-take (i + 1) xs i d (omega arith)) ∙ ap (λ (ys : List Decided). get_or ys i d) e ∙ get_or-take (i + 1) first i d (omega arith)

pub front_less : (xs first : List Decided) (i : ℕ) (new : Decided) → take (i + 1) xs ≡ take (i + 1) first → take i (set xs i new) ≡ take i first
front_less xs first i new e =
    take-set-le i xs i new (omega arith) ∙ sym (take-take i (i + 1) xs (omega arith)) ∙ ap (take i) e ∙ take-take i (i + 1) first (omega arith)

-- behind the last one
pub none_left : (xs first : List Decided) (n : ℕ) → map fixed_of (take (n - n) (drop n xs)) ≡ settle (map fixed_of (take (n - n) (drop n first)))
none_left xs first n = by (n - n) (omega arith)
  where
    by : (m : ℕ) → m ≡ 0 → map fixed_of (take m (drop n xs)) ≡ settle (map fixed_of (take m (drop n first)))
    by zero e = refl
    by (suc m) e = absurd (omega (arith, e))

-- from the first one on
pub all_left : (xs first : List Decided) (i n : ℕ) → i ≤ 0 → map fixed_of (take (n - i) (drop i xs)) ≡ settle (map fixed_of (take (n - i) (drop i first))) →
    map fixed_of (take n xs) ≡ settle (map fixed_of (take n first))
all_left xs first zero n le e = subst (λ (m : ℕ). map fixed_of (take m xs) ≡ settle (map fixed_of (take m first))) (let same : n - 0 ≡ n = omega arith in same) e
all_left xs first (suc i) n le e = absurd (omega (arith, le))
