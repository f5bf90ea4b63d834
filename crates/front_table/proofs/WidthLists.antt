-- Bands by rising width of their strips.
use Rattle.std.proofs.Common.{◌≡◌, ℕ, ◌+◌, ◌-◌, ◌<◌, ◌≤◌, inl, inr, List, length, get_or, sym, ap, subst, arith, Contains}
use Rattle.std.proofs.lemmas.Bool.{cases_lt}
use Rattle.std.proofs.lemmas.List.{get_or-map}
use Rattle.front_table.specs.declared.moves.Move.{Move}
use Rattle.front_table.specs.Widths.{Rises, wide_in}

pub wide_is : (bands : List Move) (at : ℕ) (d : Move) → at < length bands → (get_or bands at d).label.across.least ≡ wide_in bands at
wide_is bands at d lt = sym (get_or-map (λ (m : Move). m.label.across.least) bands at d 0 lt)

pub rises_by : (bands : List Move) → ((i j : ℕ) → i ≤ j → j < length bands → wide_in bands i ≤ wide_in bands j) → Rises bands
unfolding Rises
rises_by bands each = each

pub rises_at : (bands : List Move) (i j : ℕ) → Rises bands → i ≤ j → j < length bands → wide_in bands i ≤ wide_in bands j
unfolding Rises
rises_at bands i j rises le lt = rises i j le lt

-- one band more
pub rises_next : (bands : List Move) (at : ℕ) → 1 ≤ at → ((i j : ℕ) → i ≤ j → j < at → wide_in bands i ≤ wide_in bands j) → wide_in bands (at - 1) ≤ wide_in bands at → (i j : ℕ) → i ≤ j → j < at + 1 → wide_in bands i ≤ wide_in bands j
rises_next bands at some before step i j le lt =
    elim (cases_lt j at) [
      | inl below ↦ before i j le below
      | inr ge ↦
          let last : j ≡ at = omega (arith, ge, lt) in
          elim (cases_lt i at) [
            | inl earlier ↦ omega (arith, before i (at - 1) (omega (arith, earlier)) (omega (arith, some)), step, ap (wide_in bands) last)
            | inr same ↦ let both : i ≡ j = omega (arith, same, le, last) in omega (arith, ap (wide_in bands) both)
          ]
    ]

-- bands that are narrow enough stand before the first that is too wide
pub before_wide : (bands : List Move) (at top : ℕ) (P : Move → Type 0) → Rises bands → at < length bands → top < wide_in bands at → ((k : ℕ) (d : Move) → k < at → P (get_or bands k d)) → (m : Move) → Contains bands m → m.label.across.least ≤ top → P m
before_wide bands at top P rises lt wide before m (k, within, is) narrow =
    elim (cases_lt k at) [
      | inl earlier ↦ subst P is (before k m earlier)
      | inr later ↦ absurd (omega (arith, rises_at bands at k rises later within, wide_is bands k m within, ap (λ (x : Move). x.label.across.least) is, narrow, wide))
    ]
