-- Right sides that lanes have offered, and joined.
use Rattle.std.proofs.Common.{◌≡◌, ℕ, ◌+◌, ◌-◌, ◌%◌, ◌<◌, ◌≤◌, inl, inr, List, [], ◌∷◌, length, get_or, refl, subst, arith}
use Rattle.std.proofs.Math.Nat.{mod-lt}
use Rattle.std.proofs.lemmas.Bool.{cases_lt}
use Rattle.glass_base.specs.Problem.{Problem}
use Rattle.front_table.specs.declared.labels.FrontLabel.{FrontLabel}
use Rattle.front_table.specs.declared.rows.FrontRow.{FrontRow}
use Rattle.front_table.specs.Pools.{row_at, HeldAt, Spreads}
use Rattle.front_table.proofs.Each.{below_next}
use Rattle.front_bound.specs.declared.side_lanes.SideLane.{SideLane}
use Rattle.front_bound.specs.Sides.{RowGoesOn, SidesGoOn}
use Rattle.front_bound.proofs.SideLemmas.{row_kept, sides_joined}

-- one row of a lane more
pub rows_next : (b : Problem) (rows : List FrontRow) (to_go : ℕ → ℕ) (most first many number : ℕ) (sides old new : List (List FrontLabel)) (row : ℕ) → Spreads row old new →
    ((n : ℕ) → first ≤ n → n < row → (n - first) % many ≡ number → RowGoesOn b rows to_go most (row_at sides n) old n) → ((row - first) % many ≡ number → RowGoesOn b rows to_go most (row_at sides row) new row) →
    (n : ℕ) → first ≤ n → n < row + 1 → (n - first) % many ≡ number → RowGoesOn b rows to_go most (row_at sides n) new n
rows_next b rows to_go most first many number sides old new row s before here n from lt =
    below_next (λ k. first ≤ k → (k - first) % many ≡ number → RowGoesOn b rows to_go most (row_at sides k) new k) row
    (λ k less low own. row_kept b rows to_go most row (row_at sides k) old new k s (before k low less own))
    (λ low own. here own) n lt from

-- each row of a level is that of one of the lanes
pub level_joined : (b : Problem) (rows : List FrontRow) (to_go : ℕ → ℕ) (most first end count : ℕ) (old new : List (List FrontLabel)) → Spreads first old new → (lanes : List SideLane) → count ≡ length lanes → 1 ≤ count →
    ((i : ℕ) (d : SideLane) → i < length lanes → (n : ℕ) → first ≤ n → n < end → (n - first) % count ≡ i → RowGoesOn b rows to_go most (row_at old n) (get_or lanes i d).offered n) →
    ((i : ℕ) (d : SideLane) → i < length lanes → (m x y : ℕ) → HeldAt (get_or lanes i d).offered m x y → HeldAt new m x y) →
    (n : ℕ) → first ≤ n → n < end → SidesGoOn b rows to_go most new n
level_joined b rows to_go most first end count old new s [] len some each held n from lt = absurd (omega (arith, len, some))
level_joined b rows to_go most first end count old new s (lane ∷ lanes) len some each held n from lt =
    let i : ℕ = (n - first) % count in
    let inside : i < length (lane ∷ lanes) = omega (arith, len, mod-lt (n - first) {m = count} some) in
    sides_joined b rows to_go most first old (get_or (lane ∷ lanes) i lane).offered new n s from (held i lane inside) (each i lane inside n from lt refl)
