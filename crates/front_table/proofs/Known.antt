-- What the facts that a record keeps say. A record keeps a fact that has one proof at the most, so one that says which of several bands, ends or moves it is about is kept truncated. Which one it is can be looked up again,
-- since it is decided for each of a list whether it is the one: so all that is known of rows is known outright, but for the lattice, from which bands and ends follow.
use Rattle.std.proofs.Common.{◌≡◌, ℕ, zero, suc, ◌+◌, ◌<◌, ◌≤◌, ◌⊎◌, inl, inr, ⊎_elim, List, [], ◌∷◌, length, refl, arith, Contains}
use Rattle.std.proofs.Math.Logic.{∥∥₁_elim, ∥∥₁_map}
use Rattle.std.proofs.lemmas.Bool.{cases_lt}
use Rattle.std.specs.Coded.{le_prop, ×_prop}
use mathlib.Core.HLevel.{⊥_prop}
use Rattle.glass_base.specs.Problem.{Problem}
use Rattle.front_course.specs.Fronts.{Front}
use Rattle.front_course.specs.Cells.{after_cells}
use Rattle.front_table.specs.declared.ends.End.{End}
use Rattle.front_table.specs.declared.labels.FrontLabel.{FrontLabel}
use Rattle.front_table.specs.declared.levels.RowFacts.{RowFacts}
use Rattle.front_table.specs.declared.moves.Move.{Move}
use Rattle.front_table.specs.declared.rows.FrontRow.{FrontRow}
use Rattle.front_table.specs.declared.sets.SizeSet.{SizeSet}
use Rattle.front_table.specs.declared.fronts.Fronts.{Fronts}
use Rattle.front_table.specs.Ends.{Ended, Falls, EndsBehind}
use Rattle.front_table.specs.Lattice.{At, LeadDown, area_at, count_at}
use Rattle.front_table.specs.Leads.{BandsLead, Moved, cells_area}
use Rattle.front_table.specs.Levels.{bands_at, ends_at, to_go_at}
use Rattle.front_table.specs.Widths.{Rises}
use Rattle.front_table.specs.Packed.{unpacked_all}
use Rattle.front_table.specs.Ready.{AreFronts, Built, IsKnown, IsLevel, IsOpen, Opened}
use Rattle.front_table.specs.Sets.{Has, Fits, Held}
use Rattle.front_table.proofs.Each.{below_next}

-- it holds or it does not
abbrev Decided : Type 0 → Type 0
Decided A = A ⊎ (A → ⊥)

known : {A : Type 0} → Decided A → ∥ A ∥₁ → A
known (inl holds) h = holds
known (inr not) h = absurd (∥∥₁_elim h ⊥_prop not)

both : {A B : Type 0} → Decided A → Decided B → Decided (A × B)
both (inl a) (inl b) = inl (a, b)
both (inl a) (inr not) = inr (λ p. not p.1)
both (inr not) other = inr (λ p. not p.0)

le_decided : (m n : ℕ) → Decided (m ≤ n)
le_decided m n =
    elim (cases_lt n m) [
      | inl less ↦ inr (λ le. omega (arith, le, less))
      | inr le ↦ inl le
    ]

same_decided : (m n : ℕ) → Decided (m ≡ n)
same_decided m n =
    elim (cases_lt m n) [
      | inl less ↦ inr (λ same. omega (arith, same, less))
      | inr le ↦
          elim (cases_lt n m) [
            | inl less ↦ inr (λ same. omega (arith, same, less))
            | inr other ↦ inl (omega (arith, le, other))
          ]
    ]

below_decided : (P : ℕ → Type 0) → ((k : ℕ) → Decided (P k)) → (n : ℕ) → Decided ((k : ℕ) → k < n → P k)
below_decided P each zero = inl (λ k lt. absurd (omega (arith, lt)))
below_decided P each (suc n) =
    elim (each n) [
      | inr not ↦ inr (λ all. not (all n (omega arith)))
      | inl here ↦
          elim (below_decided P each n) [
            | inr not ↦ inr (λ all. not (λ k lt. all k (omega (arith, lt))))
            | inl before ↦ inl (λ k lt. below_next P n before here k (omega (arith, lt)))
          ]
    ]

-- one of a list
module _ {A : Type 0} (P : A → Type 0) where
  Found : List A → Type 0
  Found xs = (x : A) × Contains xs x × P x

  found_first : (x : A) (xs : List A) → P x → Found (x ∷ xs)
  unfolding Found
  found_first x xs holds = (x, (0, omega arith, refl), holds)

  found_later : (x : A) (xs : List A) → Found xs → Found (x ∷ xs)
  unfolding Found
  found_later x xs (y, (k, lt, is), holds) = (y, (suc k, omega (arith, lt), is), holds)

  found_none : (x : A) (xs : List A) → (P x → ⊥) → (Found xs → ⊥) → Found (x ∷ xs) → ⊥
  unfolding Found
  found_none x xs first later (y, (zero, lt, is), holds) = first (rw is holds)
  found_none x xs first later (y, (suc k, lt, is), holds) = later (y, (k, omega (arith, lt), is), holds)

  found_empty : Found [] → ⊥
  unfolding Found
  found_empty (y, (k, lt, is), holds) = omega (arith, lt)

  found_decided : ((x : A) → Decided (P x)) → (xs : List A) → Decided (Found xs)
  found_decided each [] = inr found_empty
  found_decided each (x ∷ xs) =
      elim (each x) [
        | inl holds ↦ inl (found_first x xs holds)
        | inr not ↦
            elim (found_decided each xs) [
              | inl later ↦ inl (found_later x xs later)
              | inr none ↦ inr (found_none x xs not none)
            ]
      ]

ended_known : (ends : List End) (area to_go : ℕ) → ∥ Ended ends area to_go ∥₁ → Ended ends area to_go
unfolding Ended Found
ended_known ends area to_go h =
    let Is : End → Type 0 = λ e. (e.area ≤ area) × (e.to_go ≤ to_go) in
    let one = known (found_decided Is (λ e. both (le_decided e.area area) (le_decided e.to_go to_go)) ends) (∥∥₁_map h (λ l. (l.0, l.1, (l.2, l.3)))) in
    (one.0, one.1, one.2.0, one.2.1)

falls_known : (ends : List End) → ∥ Falls ends ∥₁ → Falls ends
unfolding Falls
falls_known ends h i j le lt = ∥∥₁_elim h (×_prop le_prop le_prop) (λ falls. falls i j le lt)

rises_known : (bands : List Move) → ∥ Rises bands ∥₁ → Rises bands
unfolding Rises
rises_known bands h i j le lt = ∥∥₁_elim h le_prop (λ rises. rises i j le lt)

pub down_known : (rows : List FrontRow) → ∥ LeadDown rows ∥₁ → LeadDown rows
unfolding LeadDown
down_known rows h n lt k d at = ∥∥₁_elim h le_prop (λ down. down n lt k d at)

has_decided : (s : SizeSet) (x : ℕ) → Decided (Has s x)
has_decided s x =
    elim (same_decided x s.least) [
      | inl same ↦ inl (inl same)
      | inr other ↦
          elim (le_decided (s.least + s.more) x) [
            | inl above ↦ inl (inr above)
            | inr below ↦ inr (⊎_elim other below)
          ]
    ]

fits_decided : (l : FrontLabel) (x y : ℕ) → Decided (Fits l x y)
fits_decided l x y = both (has_decided l.along x) (has_decided l.across y)

pub held_known : (labels : List FrontLabel) (x y : ℕ) → ∥ Held labels x y ∥₁ → Held labels x y
unfolding Held Found
held_known labels x y h = known (found_decided (λ (l : FrontLabel). Fits l x y) (λ l. fits_decided l x y) labels) h

at_decided : (b : Problem) (rows : List FrontRow) (n : ℕ) (f : Front) → Decided (At b rows n f)
at_decided b rows n f =
    elim (both (le_decided (suc n) (length rows)) (below_decided (λ stack. count_at rows n stack ≡ f stack) (λ stack. same_decided (count_at rows n stack) (f stack)) (length b.stacks))) [
      | inl is ↦ inl (record { within = is.0; counts = is.1 })
      | inr not ↦ inr (λ at. not (at.within, at.counts))
    ]

moved_known : (b : Problem) (rows : List FrontRow) (n : ℕ) (moves : List Move) (to : Front) (along across area : ℕ) → ∥ Moved b rows n moves to along across area ∥₁ → Moved b rows n moves to along across area
unfolding Found
moved_known b rows n moves to along across area h =
    let Leads : Move → Type 0 = λ m. At b rows m.to to × ((m.to < n) × (area_at rows n ≡ area_at rows m.to + area)) in
    let Is : Move → Type 0 = λ m. Leads m × Fits m.label along across in
    let decided : (m : Move) → Decided (Is m) = λ m.
    both (both (at_decided b rows m.to to) (both (le_decided (suc m.to) n) (same_decided (area_at rows n) (area_at rows m.to + area)))) (fits_decided m.label along across) in
    let one = known (found_decided Is decided moves) (∥∥₁_map h (λ m. (m.move, m.has, ((m.at, (m.down, m.left)), m.fits)))) in
    record { move = one.0; has = one.1; at = one.2.0.0; down = one.2.0.1.0; fits = one.2.1; left = one.2.0.1.1 }

pub bands_lead_known : (b : Problem) (rows : List FrontRow) (n : ℕ) (bands : List Move) → ∥ BandsLead b rows n bands ∥₁ → BandsLead b rows n bands
bands_lead_known b rows n bands h f at width band narrow low is = moved_known b rows n bands (after_cells f band.cells) band.high width (cells_area b f band.cells) (∥∥₁_map h (λ lead. lead f at width band narrow low is))

pub ends_behind_known : (b : Problem) (rows : List FrontRow) (most : ℕ) (to_go : ℕ → ℕ) (n : ℕ) (ends : List End) → ∥ EndsBehind b rows most to_go n ends ∥₁ → EndsBehind b rows most to_go n ends
ends_behind_known b rows most to_go n ends h f at stacks some takes m to area left few = ended_known ends area (to_go m) (∥∥₁_map h (λ behind. behind f at stacks some takes m to area left few))

level_known : (b : Problem) (rows : List FrontRow) (levels : List RowFacts) (n : ℕ) → ∥ IsLevel b rows levels n ∥₁ → IsLevel b rows levels n
level_known b rows levels n h = record {
  falls = falls_known (ends_at levels n) (∥∥₁_map h (λ is. is.falls));
  rises = rises_known (bands_at levels n) (∥∥₁_map h (λ is. is.rises));
  bands = bands_lead_known b rows n (bands_at levels n) (∥∥₁_map h (λ is. is.bands));
}

pub built_known : (b : Problem) (rows : List FrontRow) (tops : List ℕ) (cover : ℕ) (levels : List RowFacts) → ∥ Built b rows tops cover levels ∥₁ → Built b rows tops cover levels
built_known b rows tops cover levels h = record {
  each = λ n lt. level_known b rows levels n (∥∥₁_map h (λ built. built.each n lt));
  ends = λ n lt f at stacks takes m to area left few. ended_known (ends_at levels n) area (to_go_at levels m) (∥∥₁_map h (λ built. built.ends n lt f at stacks takes m to area left few));
  to_go = λ n lt f at w bands is m to. ∥∥₁_elim h le_prop (λ built. built.to_go n lt f at w bands is m to);
  tails = λ n lt k d few f at w bands are narrow most within m to j below. ∥∥₁_elim h le_prop (λ built. built.tails n lt k d few f at w bands are narrow most within m to j below);
}

pub row_known : (b : Problem) (rows : List FrontRow) (tops : List ℕ) (cover : ℕ) (levels : List RowFacts) (n : ℕ) (level : RowFacts) → ∥ IsKnown b rows tops cover levels n level ∥₁ → IsKnown b rows tops cover levels n level
row_known b rows tops cover levels n level h = record {
  falls = falls_known level.ends.items (∥∥₁_map h (λ is. is.falls));
  rises = rises_known (unpacked_all level.bands.items) (∥∥₁_map h (λ is. is.rises));
  bands = bands_lead_known b rows n (unpacked_all level.bands.items) (∥∥₁_map h (λ is. is.bands));
  ends = λ to_go goes f at stacks takes m to area left few. ended_known level.ends.items area (to_go m) (∥∥₁_map h (λ is. is.ends to_go goes f at stacks takes m to area left few));
  to_go = λ to_go goes f at w bands is m to. ∥∥₁_elim h le_prop (λ known. known.to_go to_go goes f at w bands is m to);
  tails = λ to_go goes k d few f at w bands are narrow most within m to j below. ∥∥₁_elim h le_prop (λ is. is.tails to_go goes k d few f at w bands are narrow most within m to j below);
}

pub open_known : (b : Problem) (rows : List FrontRow) (tops : List ℕ) (cover : ℕ) (to_go : ℕ → ℕ) (n : ℕ) (level : RowFacts) → ∥ IsOpen b rows tops cover to_go n level ∥₁ → IsOpen b rows tops cover to_go n level
open_known b rows tops cover to_go n level h = record {
  falls = falls_known level.ends.items (∥∥₁_map h (λ is. is.falls));
  rises = rises_known (unpacked_all level.bands.items) (∥∥₁_map h (λ is. is.rises));
  bands = bands_lead_known b rows n (unpacked_all level.bands.items) (∥∥₁_map h (λ is. is.bands));
  behind = ends_behind_known b rows cover to_go n level.ends.items (∥∥₁_map h (λ is. is.behind));
  tails = λ k d few f at w bands some are narrow most within m to j below. ∥∥₁_elim h le_prop (λ is. is.tails k d few f at w bands some are narrow most within m to j below);
}

pub opened_known : (b : Problem) (rows : List FrontRow) (tops : List ℕ) (cover : ℕ) (levels : List RowFacts) (start : ℕ) (level : RowFacts) → ∥ Opened b rows tops cover levels start level ∥₁ → Opened b rows tops cover levels start level
opened_known b rows tops cover levels start level h = record {
  low = ∥∥₁_elim h le_prop (λ opened. opened.low);
  built = built_known b rows tops cover levels (∥∥₁_map h (λ opened. opened.built));
  beneath = λ f at stacks some takes m to. ∥∥₁_elim h le_prop (λ opened. opened.beneath f at stacks some takes m to);
  is = open_known b rows tops cover (to_go_at levels) start level (∥∥₁_map h (λ opened. opened.is));
}

-- what is known of each of the fronts
pub fronts_built : (fronts : Fronts) → ∥ AreFronts fronts ∥₁ → Built fronts.instance.now fronts.rows.now fronts.tops.now fronts.cover fronts.levels.now
fronts_built fronts h = built_known fronts.instance.now fronts.rows.now fronts.tops.now fronts.cover fronts.levels.now (∥∥₁_map h (λ are. are.built))
