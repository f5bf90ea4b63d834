-- Staircases of ends.
use Rattle.std.proofs.Common.{◌≡◌, ℕ, ◌+◌, ◌-◌, ◌<◌, ◌≤◌, inl, inr, List, [], ◌∷◌, ◌++◌, length, get_or, sym, ap, arith}
use Rattle.std.proofs.lemmas.Bool.{cases_lt}
use Rattle.std.proofs.lemmas.List.{get_or-map}
use Rattle.std.proofs.lemmas.List.Elements.{Contains-get_or, Contains-append_left, Contains-push, Contains-push_cases}
use Rattle.std.proofs.lemmas.List.Sorted.{Contains-permutation}
use Rattle.std.specs.Prelude.{IsPermutation}
use Rattle.front_table.specs.declared.ends.End.{End}
use Rattle.front_table.specs.Ends.{Ended, Falls, area_of, to_go_of}
use Rattle.front_table.proofs.Each.{seen_at}

pub area_is : (ends : List End) (at : ℕ) (d : End) → at < length ends → (get_or ends at d).area ≡ area_of ends at
area_is ends at d lt = sym (get_or-map (λ (e : End). e.area) ends at d 0 lt)

pub to_go_is : (ends : List End) (at : ℕ) (d : End) → at < length ends → (get_or ends at d).to_go ≡ to_go_of ends at
to_go_is ends at d lt = sym (get_or-map (λ (e : End). e.to_go) ends at d 0 lt)

-- the place of an end that serves
pub record Corner (ends : List End) (area to_go : ℕ) : Type 0 where
  pub at : ℕ
  pub within : at < length ends
  pub less : area_of ends at ≤ area
  pub low : to_go_of ends at ≤ to_go

pub place_of : (ends : List End) (area to_go : ℕ) → Ended ends area to_go → Corner ends area to_go
unfolding Ended
place_of ends area to_go (e, (k, lt, is), less, low) = record {
  at = k;
  within = lt;
  less = omega (arith, seen_at ends (λ (e : End). e.area) k e 0 lt (sym is), less);
  low = omega (arith, seen_at ends (λ (e : End). e.to_go) k e 0 lt (sym is), low);
}

pub falls_at : (ends : List End) (i j : ℕ) → Falls ends → i ≤ j → j < length ends → (area_of ends i ≤ area_of ends j) × (to_go_of ends j ≤ to_go_of ends i)
unfolding Falls
falls_at ends i j falls le lt = falls i j le lt

pub falls_by : (ends : List End) → ((i j : ℕ) → i ≤ j → j < length ends → (area_of ends i ≤ area_of ends j) × (to_go_of ends j ≤ to_go_of ends i)) → Falls ends
unfolding Falls
falls_by ends each = each

-- one end more
pub falls_next : (ends : List End) (at : ℕ) → 1 ≤ at → ((i j : ℕ) → i ≤ j → j < at → (area_of ends i ≤ area_of ends j) × (to_go_of ends j ≤ to_go_of ends i)) →
    area_of ends (at - 1) ≤ area_of ends at → to_go_of ends at ≤ to_go_of ends (at - 1) → (i j : ℕ) → i ≤ j → j < at + 1 → (area_of ends i ≤ area_of ends j) × (to_go_of ends j ≤ to_go_of ends i)
falls_next ends at some before area to_go i j le lt =
    elim (cases_lt j at) [
      | inl below ↦ before i j le below
      | inr ge ↦
          let last : j ≡ at = omega (arith, ge, lt) in
          elim (cases_lt i at) [
            | inl earlier ↦
                let b = before i (at - 1) (omega (arith, earlier)) (omega (arith, some)) in
                (omega (arith, b.0, area, ap (area_of ends) last), omega (arith, b.1, to_go, ap (to_go_of ends) last))
            | inr same ↦
                let both : i ≡ j = omega (arith, same, le, last) in
                (omega (arith, ap (area_of ends) both), omega (arith, ap (to_go_of ends) both))
          ]
    ]

pub ended_at : (ends : List End) (at : ℕ) (d : End) (area to_go : ℕ) → at < length ends → (get_or ends at d).area ≤ area → (get_or ends at d).to_go ≤ to_go → Ended ends area to_go
unfolding Ended
ended_at ends at d area to_go lt less low = (get_or ends at d, Contains-get_or ends at d lt, less, low)

pub ended_old : (ends : List End) (e : End) (area to_go : ℕ) → Ended ends area to_go → Ended (ends ++ e ∷ []) area to_go
unfolding Ended
ended_old ends e area to_go (x, has, less, low) = (x, Contains-append_left ends (e ∷ []) x has, less, low)

pub ended_new : (ends : List End) (e : End) → Ended (ends ++ e ∷ []) e.area e.to_go
unfolding Ended
ended_new ends e = (e, Contains-push ends e, omega arith, omega arith)

pub ended_more : (ends : List End) (area to_go more far : ℕ) → area ≤ more → to_go ≤ far → Ended ends area to_go → Ended ends more far
unfolding Ended
ended_more ends area to_go more far le low (x, has, less, few) = (x, has, omega (arith, less, le), omega (arith, few, low))

-- other ends serve for each of these
pub ended_each : (ends other : List End) → ((k : ℕ) (d : End) → k < length ends → Ended other (get_or ends k d).area (get_or ends k d).to_go) → (area to_go : ℕ) → Ended ends area to_go → Ended other area to_go
unfolding Ended
ended_each ends other each area to_go (x, (k, lt, is), less, low) =
    ended_more other (get_or ends k x).area (get_or ends k x).to_go area to_go (omega (arith, ap (λ (e : End). e.area) is, less)) (omega (arith, ap (λ (e : End). e.to_go) is, low)) (each k x lt)

-- the same with more area before them, as far as that is not too much
pub ended_behind : (ends other : List End) (more most : ℕ) → ((k : ℕ) (d : End) → k < length ends → (get_or ends k d).area + more ≤ most → Ended other ((get_or ends k d).area + more) (get_or ends k d).to_go) →
    (area to_go : ℕ) → Ended ends area to_go → area + more ≤ most → Ended other (area + more) to_go
unfolding Ended
ended_behind ends other more most each area to_go (x, (k, lt, is), less, low) few =
    ended_more other ((get_or ends k x).area + more) (get_or ends k x).to_go (area + more) to_go (omega (arith, ap (λ (e : End). e.area) is, less)) (omega (arith, ap (λ (e : End). e.to_go) is, low))
    (each k x lt (omega (arith, ap (λ (e : End). e.area) is, less, few)))

pub ended_permuted : (ends other : List End) (area to_go : ℕ) → IsPermutation ends other → Ended ends area to_go → Ended other area to_go
unfolding Ended
ended_permuted ends other area to_go p (x, has, less, low) = (x, Contains-permutation ends other x p has, less, low)

-- the last of the ends is taken away, and one stands there that serves for it
pub ended_merged : (rest other : List End) (last : End) (less low area to_go : ℕ) → less ≤ last.area → low ≤ last.to_go → ((area to_go : ℕ) → Ended rest area to_go → Ended other area to_go) → Ended other less low →
    Ended (rest ++ last ∷ []) area to_go → Ended other area to_go
unfolding Ended
ended_merged rest other last less low area to_go small near kept own (x, has, before, few) =
    elim (Contains-push_cases rest last x has) [
      | inl held ↦ kept area to_go (x, held, before, few)
      | inr is ↦ ended_more other less low area to_go (omega (arith, small, ap (λ (e : End). e.area) is, before)) (omega (arith, near, ap (λ (e : End). e.to_go) is, few)) own
    ]
