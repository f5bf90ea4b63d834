-- How large the numbers of a decided step can be.
use Rattle.std.proofs.Common.{◌≡◌, ℕ, zero, suc, ◌+◌, ◌*◌, ◌≤◌, Option, Some, None, IfSome, arith, List}
use Rattle.std.proofs.Math.Nat.{mul-le-mul_left, mul-le-mul_right}
use Rattle.glass_base.specs.declared.item.Item.{Item}
use Rattle.glass_base.specs.Items.{IsItemInRange}
use Rattle.glass_base.specs.Problem.{Problem, IsProblem, item_at}
use Rattle.cut_model.specs.Steps.{plates_after}
use Rattle.plan_trace.specs.declared.level.Level.{Level}
use Rattle.plan_trace.specs.declared.level.Level.TheVariants.{NewPlate, NewStrip, NewBand, NewCell, Over}
use Rattle.plan_trace.specs.Marks.{Draw, Place, begins, drawn, place_of, item_width, item_height, cell_height}
use Rattle.plan_box.specs.Leasts.{Known, next_known}
use Rattle.plan_box.specs.Ranges.{Ranges}
use Rattle.plan_box.specs.Follows.{grown_place}
use Rattle.plan_box.specs.Within.{AreRangesWithin, AreWithin}
use Rattle.glass_base.specs.declared.limits.TheConstants.{MOST_LENGTH, MOST_REACH, MOST_SIDE}

pub times_bit : (bit n : ℕ) → bit ≤ 1 → bit * n ≤ n
times_bit bit n le = omega (arith, mul-le-mul_right n le)

pub area_small : (w h : ℕ) → w ≤ MOST_SIDE → h ≤ MOST_SIDE → w * h ≤ 400000000
area_small w h small low = omega (arith, mul-le-mul_left w low)

pub width_small : (turn : ℕ) (item : Option Item) → IfSome item IsItemInRange → item_width turn item ≤ MOST_SIDE
width_small turn None h = omega arith
width_small zero (Some item) h = h.0
width_small (suc turn) (Some item) h = h.1

pub height_small : (turn : ℕ) (item : Option Item) → IfSome item IsItemInRange → item_height turn item ≤ MOST_SIDE
height_small turn None h = omega arith
height_small zero (Some item) h = h.1
height_small (suc turn) (Some item) h = h.0

plates_more : (kind before : ℕ) → plates_after kind before ≤ before + 1
plates_more zero before = omega arith
plates_more (suc kind) before = omega arith

-- a step of these sizes behind one that is within a limit
grown_within : (b : Problem) → IsProblem b → (n : ℕ) (l : Level) (q : Place) (own : ℕ) (k : Known) (r : Ranges) → AreWithin n k → AreRangesWithin r → MOST_SIDE ≤ n →
    q.w ≤ MOST_SIDE → q.h ≤ MOST_SIDE → own ≤ MOST_REACH → q.plates ≤ k.plates + 1 → q.w * q.h ≤ 400000000 → AreWithin (n + MOST_REACH) (next_known b l (grown_place l k.place q own) k r)
grown_within b rules n NewPlate q own k r h ranges some w high small plates area =
    let min1 = b.params.accepted.min1_max1 in
    let max1 = b.params.accepted.max1_limit in
    let min2 = b.params.accepted.min2_height in
    let height = b.params.accepted.height_limit in
    record {
      w = omega arith;
      h = omega arith;
      cell_w = omega arith;
      plates = omega arith;
      cell_h = omega arith;
      band_w = omega arith;
      strip_w = omega arith;
      band_area = omega arith;
      area = omega arith;
      a = omega arith;
      b = omega arith;
      c = omega arith;
      d = omega arith;
      e = omega arith;
      high_a = omega arith;
      high_b = omega arith;
      high_c = omega arith;
      high_d = omega arith;
      high_e = omega arith;
    }
grown_within b rules n NewStrip q own k r h ranges some w high small plates area =
    let min1 = b.params.accepted.min1_max1 in
    let max1 = b.params.accepted.max1_limit in
    let min2 = b.params.accepted.min2_height in
    let height = b.params.accepted.height_limit in
    record {
      w = omega arith;
      h = omega arith;
      cell_w = omega arith;
      plates = omega arith;
      cell_h = omega arith;
      band_w = omega arith;
      strip_w = omega arith;
      band_area = omega arith;
      area = omega arith;
      a = omega arith;
      b = omega arith;
      c = omega arith;
      d = omega arith;
      e = omega arith;
      high_a = omega arith;
      high_b = omega arith;
      high_c = omega arith;
      high_d = omega arith;
      high_e = omega arith;
    }
grown_within b rules n NewBand q own k r h ranges some w high small plates area =
    let min2 = b.params.accepted.min2_height in
    let height = b.params.accepted.height_limit in
    record {
      w = omega arith;
      h = omega arith;
      cell_w = omega arith;
      plates = omega arith;
      cell_h = omega arith;
      band_w = omega arith;
      strip_w = omega arith;
      band_area = omega arith;
      area = omega arith;
      a = omega arith;
      b = omega arith;
      c = omega arith;
      d = omega arith;
      e = omega arith;
      high_a = omega arith;
      high_b = omega arith;
      high_c = omega arith;
      high_d = omega arith;
      high_e = omega arith;
    }
grown_within b rules n NewCell q own k r h ranges some w high small plates area = record {
  w = omega arith;
  h = omega arith;
  cell_w = omega arith;
  plates = omega arith;
  cell_h = omega arith;
  band_w = omega arith;
  strip_w = omega arith;
  band_area = omega arith;
  area = omega arith;
  a = omega arith;
  b = omega arith;
  c = omega arith;
  d = omega arith;
  e = omega arith;
  high_a = omega arith;
  high_b = omega arith;
  high_c = omega arith;
  high_d = omega arith;
  high_e = omega arith;
}
grown_within b rules n Over q own k r h ranges some w high small plates area = record {
  w = omega arith;
  h = omega arith;
  cell_w = omega arith;
  plates = omega arith;
  cell_h = omega arith;
  band_w = omega arith;
  strip_w = omega arith;
  band_area = omega arith;
  area = omega arith;
  a = omega arith;
  b = omega arith;
  c = omega arith;
  d = omega arith;
  e = omega arith;
  high_a = omega arith;
  high_b = omega arith;
  high_c = omega arith;
  high_d = omega arith;
  high_e = omega arith;
}

-- the next step is within the next limit
pub next_within : (b : Problem) → IsProblem b → (n : ℕ) (before : List Draw) (d : Draw) (k : Known) (r : Ranges) → AreWithin n k → AreRangesWithin r → MOST_SIDE ≤ n → d.lift ≤ 1 →
    IfSome (item_at b d.stack (drawn before d.stack)) IsItemInRange → AreWithin (n + MOST_REACH) (next_known b (begins before d.kind) (place_of b before k.place d) k r)
next_within b rules n before d k r h ranges some lift item =
    let i : Option Item = item_at b d.stack (drawn before d.stack) in
    let w = width_small d.turn i item in
    let high = height_small d.turn i item in
    let waste = b.params.accepted.waste_min2 in
    let min2 = b.params.accepted.min2_height in
    let height = b.params.accepted.height_limit in
    grown_within b rules n (begins before d.kind) (place_of b before k.place d) (item_height d.turn i + d.lift * b.params.waste) k r h ranges some w high
    (omega (arith, times_bit d.lift b.params.waste lift)) (plates_more d.kind k.plates) (area_small _ _ w high)

pub cell_high : (l : Level) (before own : ℕ) → before + own ≤ MOST_LENGTH → cell_height l before own ≤ MOST_LENGTH
cell_high NewPlate before own h = omega arith
cell_high NewStrip before own h = omega arith
cell_high NewBand before own h = omega arith
cell_high NewCell before own h = omega arith
cell_high Over before own h = omega arith

pub within_same : (n m : ℕ) (k j : Known) → k ≡ j → n ≡ m → AreWithin m j → AreWithin n k
within_same n m k j e f h = rw (e, f) h

pub item_small : (b : Problem) (before : List Draw) (d : Draw) → d.lift ≤ 1 → IfSome (item_at b d.stack (drawn before d.stack)) IsItemInRange →
    item_height d.turn (item_at b d.stack (drawn before d.stack)) + d.lift * b.params.waste ≤ MOST_REACH
item_small b before d lift item =
    let high = height_small d.turn (item_at b d.stack (drawn before d.stack)) item in
    let waste = b.params.accepted.waste_min2 in
    let min2 = b.params.accepted.min2_height in
    let height = b.params.accepted.height_limit in
    omega (arith, times_bit d.lift b.params.waste lift)

-- a greater limit
pub within_more : (n m : ℕ) (k : Known) → n ≤ m → AreWithin n k → AreWithin m k
within_more n m k le h = record {
  w = h.w;
  h = h.h;
  cell_w = h.cell_w;
  plates = omega (arith, h.plates);
  cell_h = omega (arith, h.cell_h);
  band_w = omega (arith, h.band_w);
  strip_w = omega (arith, h.strip_w);
  band_area = omega (arith, h.band_area);
  area = omega (arith, h.area);
  a = omega (arith, h.a);
  b = omega (arith, h.b);
  c = omega (arith, h.c);
  d = omega (arith, h.d);
  e = omega (arith, h.e);
  high_a = h.high_a;
  high_b = h.high_b;
  high_c = h.high_c;
  high_d = h.high_d;
  high_e = h.high_e;
}
