-- How large the numbers of decided steps can be.
use Rattle.std.specs.Prelude.{ℕ, ◌+◌, ◌*◌, ◌≤◌, ◌<◌, List, [], ◌∷◌}
use Rattle.plan_box.specs.Leasts.{Known, Fixed, fixed}
use Rattle.plan_box.specs.Ranges.{Ranges}
use Rattle.glass_base.specs.declared.limits.TheConstants.{MOST_ITEMS, MOST_REACH, MOST_SIDE}

-- numbers that stay below a limit, which grows with each step
pub record AreWithin (n : ℕ) (k : Known) : Type 0 where
  pub w : k.w ≤ MOST_SIDE
  pub h : k.h ≤ MOST_SIDE
  pub cell_w : k.cell_w ≤ MOST_SIDE
  pub plates : MOST_REACH * k.plates ≤ n
  pub cell_h : k.cell_h ≤ n
  pub band_w : 2 * k.band_w ≤ n
  pub strip_w : 2 * k.strip_w ≤ n
  pub band_area : k.band_area ≤ 10000 * n
  pub area : k.area ≤ 10000 * n
  pub a : k.least_a ≤ n
  pub b : k.least_b ≤ n
  pub c : k.least_c + k.cell_h ≤ n
  pub d : k.least_d ≤ n
  pub e : k.least_e + k.cell_w ≤ n
  pub high_a : k.high_a ≤ MOST_SIDE
  pub high_b : k.high_b ≤ MOST_SIDE
  pub high_c : k.high_c ≤ MOST_SIDE
  pub high_d : k.high_d ≤ MOST_SIDE
  pub high_e : k.high_e ≤ MOST_SIDE

-- the limit behind this many steps
abbrev pub limit : ℕ → ℕ
limit count = MOST_SIDE + MOST_REACH * count

-- all steps stay below a limit
abbrev pub AllFixed : ℕ → List Fixed → Type 0
AllFixed n [] = Unit {0}
AllFixed n (fixed l k ∷ ks) = AreWithin n k × AllFixed n ks

-- ranges of stacks that there can be, and of which no other end is above 20,000
pub record AreRangesWithin (r : Ranges) : Type 0 where
  pub stack : r.stack.low < MOST_ITEMS
  pub lift : r.lift.low ≤ 1
  pub low_a : r.a.low ≤ MOST_SIDE
  pub low_b : r.b.low ≤ MOST_SIDE
  pub low_c : r.c.low ≤ MOST_SIDE
  pub low_d : r.d.low ≤ MOST_SIDE
  pub low_e : r.e.low ≤ MOST_SIDE
  pub high_a : r.a.high ≤ MOST_SIDE
  pub high_b : r.b.high ≤ MOST_SIDE
  pub high_c : r.c.high ≤ MOST_SIDE
  pub high_d : r.d.high ≤ MOST_SIDE
  pub high_e : r.e.high ≤ MOST_SIDE
