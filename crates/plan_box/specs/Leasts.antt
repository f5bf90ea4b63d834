-- The least values and the high ends of the cuts of decided steps. A value is the greatest of what is known so far, from the
-- first step on; the least `b` of a strip and the least `d` of a band are then taken from their last decided step.
use Rattle.std.specs.Prelude.{◌≡◌, ℕ, ◌+◌, ◌≤◌, List, [], ◌∷◌, max, min}
use Rattle.glass_base.specs.Plates.{Width}
use Rattle.glass_base.specs.Problem.{Problem}
use Rattle.cut_model.specs.declared.steps.Step.{Step}
use Rattle.plan_trace.specs.declared.level.Level.{Level}
use Rattle.plan_trace.specs.declared.level.Level.TheVariants.{NewPlate, NewStrip, NewBand, NewCell, Over}
use Rattle.plan_trace.specs.Marks.{Place, Mark, mark, marks, no_place, Cut, Spot, spot}
use Rattle.plan_box.specs.Ranges.{Ranges}
use Rattle.plan_box.specs.Decisions.{decided}

-- what is known of a decided step: its place, and the least value and the high end of each cut
pub record Known : Type 0 where
  pub place : Place
  pub open place use *
  pub least_a : ℕ
  pub high_a : ℕ
  pub least_b : ℕ
  pub high_b : ℕ
  pub least_c : ℕ
  pub high_c : ℕ
  pub least_d : ℕ
  pub high_d : ℕ
  pub least_e : ℕ
  pub high_e : ℕ

-- a decided step: its level and what is known of it
pub data Fixed : Type 0 where
  fixed : Level → Known → Fixed

-- a cut along x lies on its plate
abbrev pub high_on : Problem → Place → ℕ → ℕ
high_on b p high = min high (Width b p.plate)

-- a cell whose left side is at `from` at least, in a strip and a band of which `k` tells
abbrev pub cell_known : Problem → Place → Known → ℕ → Ranges → Known
cell_known b p k from r =
    let left : ℕ = max r.e.low from in
    record k {
      place = p;
      least_b = max k.least_b (left + p.cell_w);
      least_d = max k.least_d (k.least_c + p.cell_h);
      least_e = left;
      high_e = high_on b p r.e.high;
    }

-- with the ends of a new band whose lower side is at `low` at least
abbrev pub begin_band : Problem → Known → ℕ → Ranges → Known
begin_band b k low r =
    record k { least_c = low; high_c = r.c.high; least_d = max r.d.low (low + b.params.min2); high_d = r.d.high }

-- with the ends of a new strip whose left side is at `left` at least
abbrev pub begin_strip : Problem → Place → Known → ℕ → Ranges → Known
begin_strip b p k left r =
    record k { least_a = left; high_a = high_on b p r.a.high; least_b = max r.b.low (left + b.params.min1); high_b = high_on b p r.b.high }

-- a band whose lower side is at `from` at least, and its first cell, in a strip of which `k` tells
abbrev pub band_known : Problem → Place → Known → ℕ → Ranges → Known
band_known b p k from r = cell_known b p (begin_band b k (max r.c.low from) r) k.least_a r

-- a strip whose left side is at `from` at least, and its first band and cell
abbrev pub strip_known : Problem → Place → Known → ℕ → Ranges → Known
strip_known b p k from r = band_known b p (begin_strip b p k (max r.a.low from) r) 0 r

-- what is known of a step from what is known of the step before it
abbrev pub next_known : Problem → Level → Place → Known → Ranges → Known
next_known b NewPlate p k r = strip_known b p k 0 r
next_known b NewStrip p k r = strip_known b p k k.least_b r
next_known b NewBand p k r = band_known b p k k.least_d r
next_known b NewCell p k r = cell_known b p k (k.least_e + k.cell_w) r
next_known b Over p k r = record k { place = p; least_d = max k.least_d (k.least_c + p.cell_h) }

-- stands before the first step
abbrev pub no_known : Known
no_known = record {
  place = no_place;
  least_a = 0;
  high_a = 0;
  least_b = 0;
  high_b = 0;
  least_c = 0;
  high_c = 0;
  least_d = 0;
  high_d = 0;
  least_e = 0;
  high_e = 0;
}

-- step by step, each with the values that its own step and the earlier ones give
abbrev pub known_so_far : Problem → Known → List Mark → List Ranges → List Fixed
known_so_far b k [] _ = []
known_so_far b k (_ ∷ _) [] = []
known_so_far b k (mark l p ∷ ms) (r ∷ rs) =
    let n : Known = next_known b l p k r in
    fixed l n ∷ known_so_far b n ms rs

-- a step with the values that the next step, of this level, has for the same strip and band
abbrev pub settled : Level → Known → Known → Known
settled NewPlate k n = k
settled NewStrip k n = k
settled NewBand k n = record k { least_b = n.least_b }
settled NewCell k n = record k { least_b = n.least_b; least_d = n.least_d }
settled Over k n = record k { least_b = n.least_b; least_d = n.least_d }

abbrev pub settle_at : Known → List Fixed → Known
settle_at k [] = k
settle_at k (fixed l n ∷ _) = settled l k n

-- each step with the values of the last decided step of its strip and of its band
abbrev pub settle : List Fixed → List Fixed
settle [] = []
settle (fixed l k ∷ rest) = let later : List Fixed = settle rest in fixed l (settle_at k later) ∷ later

-- the decided steps of a box, each with what is known of it
abbrev pub known : Problem → List Ranges → List Fixed
known b rs = settle (known_so_far b no_known (marks b [] no_place (decided rs)) rs)

-- the last decided step
abbrev pub last_known : Known → List Fixed → Known
last_known k [] = k
last_known _ (fixed _ k ∷ later) = last_known k later

-- the step that a decided step stands for at its least values
abbrev pub least_step : Known → Step
least_step k = record {
  stack = k.draw.stack;
  turn = k.draw.turn;
  kind = k.draw.kind;
  lift = k.draw.lift;
  a = k.least_a;
  b = k.least_b;
  c = k.least_c;
  d = k.least_d;
  e = k.least_e;
}

abbrev pub least_steps : List Fixed → List Step
least_steps [] = []
least_steps (fixed _ k ∷ later) = least_step k ∷ least_steps later

-- each cut of the step lies between its least value and its high end
pub record Holds (k : Known) (s : Cut) : Type 0 where
  pub place : k.place ≡ s.place
  pub a : (k.least_a ≤ s.a) × (s.a ≤ k.high_a)
  pub b : (k.least_b ≤ s.b) × (s.b ≤ k.high_b)
  pub c : (k.least_c ≤ s.c) × (s.c ≤ k.high_c)
  pub d : (k.least_d ≤ s.d) × (s.d ≤ k.high_d)
  pub e : (k.least_e ≤ s.e) × (s.e ≤ k.high_e)

-- the decided steps are the first steps of the trace, by their levels and places, and each cut lies between its ends
abbrev pub HoldAll : List Fixed → List Spot → Type 0
HoldAll [] _ = Unit {0}
HoldAll (_ ∷ _) [] = ⊥
HoldAll (fixed l k ∷ ks) (spot m s ∷ ss) = (l ≡ m) × Holds k s × HoldAll ks ss
