-- Decided steps, one after another, stay below their limits.
use Rattle.std.proofs.Common.{◌≡◌, ℕ, zero, suc, ◌+◌, ◌*◌, ◌≤◌, List, [], ◌∷◌, length, map, take, refl, arith, All, IfSome, Option, Some, None}
use Rattle.std.specs.Prelude.{slice_get, option_and_then}
use Rattle.std.proofs.lemmas.List.{length-map}
use Rattle.std.proofs.lemmas.List.Elements.{All-cons, All-head, All-map, All-nil, All-tail, All-take, All-weaker}
use Rattle.glass_base.specs.declared.item.Item.{Item}
use Rattle.glass_base.specs.Items.{IsItemInRange}
use Rattle.glass_base.specs.Problem.{Problem, IsProblem, item_at, stack_at}
use Rattle.glass_base.proofs.PlateLemmas.{widest_within}
use Rattle.glass_base.proofs.StackLemmas.{few_stacks}
use Rattle.plan_trace.specs.declared.level.Level.{Level}
use Rattle.plan_trace.specs.declared.level.Level.TheVariants.{NewPlate, NewStrip, NewBand, NewCell, Over}
use Rattle.plan_trace.specs.Marks.{Draw, begins, drawn, place_of}
use Rattle.plan_box.specs.declared.packed.Packed.{Packed}
use Rattle.plan_box.specs.declared.var.Var.{Var}
use Rattle.plan_box.specs.Decisions.{draw_at}
use Rattle.plan_box.specs.Frames.{frame_of}
use Rattle.plan_box.specs.Leasts.{Known, Fixed, fixed, last_known, next_known, no_known, settle, settle_at, settled}
use Rattle.plan_box.specs.Packed.{unpacked}
use Rattle.plan_box.specs.Ranges.{AreInFrame, Ranges}
use Rattle.plan_box.specs.Follows.{follow}
use Rattle.plan_box.specs.Within.{AllFixed, AreRangesWithin, AreWithin, limit}
use Rattle.plan_box.proofs.Sizes.{next_within, within_more, within_same}
use Rattle.glass_base.specs.declared.limits.TheConstants.{MOST_ITEMS, MOST_LENGTH, MOST_REACH, MOST_SIDE}

got_within : (items : List Item) (i : ℕ) → All IsItemInRange items → IfSome (slice_get items i) IsItemInRange
got_within [] i h = tt
got_within (x ∷ items) zero h = All-head IsItemInRange x items h
got_within (x ∷ items) (suc i) h = got_within items i (All-tail IsItemInRange x items h)

pub item_within : (b : Problem) → IsProblem b → (stack place : ℕ) → IfSome (item_at b stack place) IsItemInRange
item_within b rules stack place = by (slice_get (stack_at b stack) place)
  where
    by : (o : Option ℕ) → IfSome (option_and_then (λ position. slice_get b.items position) o) IsItemInRange
    by None = tt
    by (Some position) = got_within b.items position rules.items_in_range

-- the last of steps that follow one another is within the limit behind them
last_within : (b : Problem) → IsProblem b → (before : List Draw) (k : Known) (n : ℕ) (rs : List Ranges) → AreWithin n k → MOST_SIDE ≤ n → All AreRangesWithin rs →
    AreWithin (n + MOST_REACH * length rs) (last_known k (follow b before k rs))
last_within b rules before k n [] h some ranges = within_same _ _ _ _ refl (omega arith) h
last_within b rules before k n (r ∷ rs) h some ranges =
    let d : Draw = draw_at r in
    let here = All-head AreRangesWithin r rs ranges in
    let next = next_within b rules n before d k r h here some here.lift (item_within b rules d.stack (drawn before d.stack)) in
    within_same _ _ _ _ refl (omega arith) (last_within b rules (d ∷ before) (next_known b (begins before d.kind) (place_of b before k.place d) k r) (n + MOST_REACH) rs next (omega arith) (All-tail AreRangesWithin r rs ranges))

no_within : AreWithin MOST_SIDE no_known
no_within = record {
  w = omega arith;
  h = omega arith;
  cell_w = omega arith;
  plates = omega arith;
  cell_h = omega arith;
  band_w = omega arith;
  strip_w = omega arith;
  band_area = omega arith;
  area = omega arith;
  a = omega arith;
  b = omega arith;
  c = omega arith;
  d = omega arith;
  e = omega arith;
  high_a = omega arith;
  high_b = omega arith;
  high_c = omega arith;
  high_d = omega arith;
  high_e = omega arith;
}

-- a step behind these ones is within the limit behind them
pub known_within : (b : Problem) → IsProblem b → (ranges : List Packed) (i : ℕ) (k : Known) → k ≡ last_known no_known (follow b [] no_known (map unpacked (take i ranges))) →
    All (λ x. AreRangesWithin (unpacked x)) ranges → AreWithin (limit (length (take i ranges))) k
known_within b rules ranges i k last within =
    let rs : List Ranges = map unpacked (take i ranges) in
    let count : limit (length (take i ranges)) ≡ MOST_SIDE + MOST_REACH * length rs = omega (arith, length-map (take i ranges) unpacked) in
    let each : All AreRangesWithin rs = All-map AreRangesWithin unpacked (take i ranges) (All-take (λ x. AreRangesWithin (unpacked x)) i ranges within) in
    within_same _ _ _ _ last count (last_within b rules [] no_known MOST_SIDE rs no_within (omega arith) each)

pub follow_within : (b : Problem) → IsProblem b → (before : List Draw) (k : Known) (n m : ℕ) (rs : List Ranges) → AreWithin n k → MOST_SIDE ≤ n → All AreRangesWithin rs → n + MOST_REACH * length rs ≤ m → AllFixed m (follow b before k rs)
follow_within b rules before k n m [] h some ranges le = tt
follow_within b rules before k n m (r ∷ rs) h some ranges le =
    let d : Draw = draw_at r in
    let here = All-head AreRangesWithin r rs ranges in
    let l : Level = begins before d.kind in
    let next = next_within b rules n before d k r h here some here.lift (item_within b rules d.stack (drawn before d.stack)) in (
      within_more (n + MOST_REACH) m (next_known b l (place_of b before k.place d) k r) (omega (arith, le)) next,
      follow_within b rules (d ∷ before) (next_known b l (place_of b before k.place d) k r) (n + MOST_REACH) m rs next (omega (arith, some)) (All-tail AreRangesWithin r rs ranges) (omega (arith, le)),
    )

-- with another least `b`, and with another least `d`
with_b : (n : ℕ) (k : Known) (b : ℕ) → AreWithin n k → b ≤ n → AreWithin n (record k { least_b = b })
with_b n k b h le = record {
  w = h.w;
  h = h.h;
  cell_w = h.cell_w;
  plates = h.plates;
  cell_h = h.cell_h;
  band_w = h.band_w;
  strip_w = h.strip_w;
  band_area = h.band_area;
  area = h.area;
  a = h.a;
  b = le;
  c = h.c;
  d = h.d;
  e = h.e;
  high_a = h.high_a;
  high_b = h.high_b;
  high_c = h.high_c;
  high_d = h.high_d;
  high_e = h.high_e;
}

with_d : (n : ℕ) (k : Known) (d : ℕ) → AreWithin n k → d ≤ n → AreWithin n (record k { least_d = d })
with_d n k d h le = record {
  w = h.w;
  h = h.h;
  cell_w = h.cell_w;
  plates = h.plates;
  cell_h = h.cell_h;
  band_w = h.band_w;
  strip_w = h.strip_w;
  band_area = h.band_area;
  area = h.area;
  a = h.a;
  b = h.b;
  c = h.c;
  d = le;
  e = h.e;
  high_a = h.high_a;
  high_b = h.high_b;
  high_c = h.high_c;
  high_d = h.high_d;
  high_e = h.high_e;
}

settled_within : (n : ℕ) (m : Level) (k j : Known) → AreWithin n k → AreWithin n j → AreWithin n (settled m k j)
settled_within n NewPlate k j h g = h
settled_within n NewStrip k j h g = h
settled_within n NewBand k j h g = with_b n k j.least_b h g.b
settled_within n NewCell k j h g = with_d n (record k { least_b = j.least_b }) j.least_d (with_b n k j.least_b h g.b) g.d
settled_within n Over k j h g = with_d n (record k { least_b = j.least_b }) j.least_d (with_b n k j.least_b h g.b) g.d

settle_at_within : (n : ℕ) (k : Known) (ks : List Fixed) → AreWithin n k → AllFixed n ks → AreWithin n (settle_at k ks)
settle_at_within n k [] h g = h
settle_at_within n k (fixed m j ∷ ks) h g = settled_within n m k j h g.0

pub settle_within : (n : ℕ) (ks : List Fixed) → AllFixed n ks → AllFixed n (settle ks)
settle_within n [] h = tt
settle_within n (fixed l k ∷ ks) h = let later = settle_within n ks h.1 in (settle_at_within n k (settle ks) h.0 later, later)

-- 800 steps are within the last limit
pub few_within : (b : Problem) → IsProblem b → (ranges : List Packed) → All (λ x. AreRangesWithin (unpacked x)) ranges → length ranges ≤ MOST_ITEMS → AllFixed MOST_LENGTH (settle (follow b [] no_known (map unpacked ranges)))
few_within b rules ranges within few =
    settle_within MOST_LENGTH (follow b [] no_known (map unpacked ranges))
    (follow_within b rules [] no_known MOST_SIDE MOST_LENGTH (map unpacked ranges) no_within (omega arith) (All-map AreRangesWithin unpacked ranges within) (omega (arith, length-map ranges unpacked, few)))

-- the same of steps that code keeps, each with its level and what is known of it
pub all_within : {X : Type 0} (level : X → Level) (known : X → Known) (n : ℕ) (steps : List X) → AllFixed n (map (λ x. fixed (level x) (known x)) steps) → All (λ x. AreWithin n (known x)) steps
all_within level known n [] h = All-nil (λ x. AreWithin n (known x))
all_within level known n (x ∷ steps) h = All-cons (λ y. AreWithin n (known y)) x steps h.0 (all_within level known n steps h.1)

-- ranges in the frame of an instance
frame_within : (b : Problem) → IsProblem b → (r : Ranges) → AreInFrame (frame_of b) r → AreRangesWithin r
frame_within b rules r h =
    let width = widest_within b rules in
    let height = b.params.accepted.height_limit in
    record {
      stack = omega (arith, (h Var.Stack).0, (h Var.Stack).1, few_stacks b.items b.stacks rules.stacks, rules.few_items);
      lift = omega (arith, (h Var.Lift).0, (h Var.Lift).1);
      low_a = omega (arith, (h Var.A).0, (h Var.A).1);
      low_b = omega (arith, (h Var.B).0, (h Var.B).1);
      low_c = omega (arith, (h Var.C).0, (h Var.C).1);
      low_d = omega (arith, (h Var.D).0, (h Var.D).1);
      low_e = omega (arith, (h Var.E).0, (h Var.E).1);
      high_a = omega (arith, (h Var.A).1);
      high_b = omega (arith, (h Var.B).1);
      high_c = omega (arith, (h Var.C).1);
      high_d = omega (arith, (h Var.D).1);
      high_e = omega (arith, (h Var.E).1);
    }

-- the ranges of the first steps of a box
pub taken_within : (b : Problem) → IsProblem b → (stored : List Packed) (n : ℕ) → All (λ x. AreInFrame (frame_of b) (unpacked x)) stored → All (λ x. AreRangesWithin (unpacked x)) (take n stored)
taken_within b rules stored n h =
    All-take (λ x. AreRangesWithin (unpacked x)) n stored (All-weaker (λ x. AreInFrame (frame_of b) (unpacked x)) (λ x. AreRangesWithin (unpacked x)) (λ x. frame_within b rules (unpacked x)) stored h)
