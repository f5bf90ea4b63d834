-- How often a box can be halved.
use Rattle.std.proofs.Common.{◌≡◌, ℕ, zero, suc, ◌+◌, ◌*◌, ◌^◌, ◌<◌, ◌≤◌, inl, inr, List, [], ◌∷◌, Bool, true, false, length, replicate, refl, sym, ap, ◌∙◌, subst, arith, All, pow-suc, zero-mul, suc-mul, mul-le-mul_left, ◌⊎◌}
use Rattle.std.proofs.lemmas.Bool.{cases_lt}
use Rattle.plan_box.specs.declared.frame.Frame.{Frame}
use Rattle.plan_box.specs.declared.var.Var.{Var}
use Rattle.plan_box.specs.Halves.{half_of, half_at, Choice, IsPath, AreBits, IsDepth}
use Rattle.plan_box.specs.Frames.{IsFrame}
use Rattle.plan_box.specs.Ranges.{Span, Ranges, AreInFrame, span_of, with_span, full_ranges, root_of}
use Rattle.plan_box.proofs.Shared.{free_inside, free_wide, HoldsAt, Within, lower_within, upper_within, half_in_frame, root_is_box}

-- a range has at most so many numbers as this power of two
abbrev Fits : Span → ℕ → Type 0
Fits x bits = x.high + 1 ≤ x.low + 2 ^ bits

-- the exponents of the ranges of a step
record Exponents : Type 0 where
  stack : ℕ
  turn : ℕ
  kind : ℕ
  lift : ℕ
  a : ℕ
  b : ℕ
  c : ℕ
  d : ℕ
  e : ℕ

abbrev exponent : Var → Exponents → ℕ
exponent Var.Stack x = x.stack
exponent Var.Turn x = x.turn
exponent Var.Kind x = x.kind
exponent Var.Lift x = x.lift
exponent Var.A x = x.a
exponent Var.B x = x.b
exponent Var.C x = x.c
exponent Var.D x = x.d
exponent Var.E x = x.e

abbrev with_exponent : Var → ℕ → Exponents → Exponents
with_exponent Var.Stack k x = record x { stack = k }
with_exponent Var.Turn k x = record x { turn = k }
with_exponent Var.Kind k x = record x { kind = k }
with_exponent Var.Lift k x = record x { lift = k }
with_exponent Var.A k x = record x { a = k }
with_exponent Var.B k x = record x { b = k }
with_exponent Var.C k x = record x { c = k }
with_exponent Var.D k x = record x { d = k }
with_exponent Var.E k x = record x { e = k }

abbrev total : Exponents → ℕ
total x = x.stack + x.turn + x.kind + x.lift + x.a + x.b + x.c + x.d + x.e

record FitStep (r : Ranges) (x : Exponents) : Type 0 where
  stack : Fits r.stack x.stack
  turn : Fits r.turn x.turn
  kind : Fits r.kind x.kind
  lift : Fits r.lift x.lift
  a : Fits r.a x.a
  b : Fits r.b x.b
  c : Fits r.c x.c
  d : Fits r.d x.d
  e : Fits r.e x.e

fit_one : (v : Var) (r : Ranges) (x : Exponents) → FitStep r x → Fits (span_of v r) (exponent v x)
fit_one Var.Stack r x h = h.stack
fit_one Var.Turn r x h = h.turn
fit_one Var.Kind r x h = h.kind
fit_one Var.Lift r x h = h.lift
fit_one Var.A r x h = h.a
fit_one Var.B r x h = h.b
fit_one Var.C r x h = h.c
fit_one Var.D r x h = h.d
fit_one Var.E r x h = h.e

fit_with : (v : Var) (r : Ranges) (x : Exponents) (y : Span) (k : ℕ) → FitStep r x → Fits y k → FitStep (with_span v y r) (with_exponent v k x)
fit_with Var.Stack r x y k h w = record { stack = w; turn = h.turn; kind = h.kind; lift = h.lift; a = h.a; b = h.b; c = h.c; d = h.d; e = h.e }
fit_with Var.Turn r x y k h w = record { stack = h.stack; turn = w; kind = h.kind; lift = h.lift; a = h.a; b = h.b; c = h.c; d = h.d; e = h.e }
fit_with Var.Kind r x y k h w = record { stack = h.stack; turn = h.turn; kind = w; lift = h.lift; a = h.a; b = h.b; c = h.c; d = h.d; e = h.e }
fit_with Var.Lift r x y k h w = record { stack = h.stack; turn = h.turn; kind = h.kind; lift = w; a = h.a; b = h.b; c = h.c; d = h.d; e = h.e }
fit_with Var.A r x y k h w = record { stack = h.stack; turn = h.turn; kind = h.kind; lift = h.lift; a = w; b = h.b; c = h.c; d = h.d; e = h.e }
fit_with Var.B r x y k h w = record { stack = h.stack; turn = h.turn; kind = h.kind; lift = h.lift; a = h.a; b = w; c = h.c; d = h.d; e = h.e }
fit_with Var.C r x y k h w = record { stack = h.stack; turn = h.turn; kind = h.kind; lift = h.lift; a = h.a; b = h.b; c = w; d = h.d; e = h.e }
fit_with Var.D r x y k h w = record { stack = h.stack; turn = h.turn; kind = h.kind; lift = h.lift; a = h.a; b = h.b; c = h.c; d = w; e = h.e }
fit_with Var.E r x y k h w = record { stack = h.stack; turn = h.turn; kind = h.kind; lift = h.lift; a = h.a; b = h.b; c = h.c; d = h.d; e = w }

total_with : (v : Var) (x : Exponents) (k : ℕ) → exponent v x ≡ suc k → total (with_exponent v k x) + 1 ≡ total x
total_with Var.Stack x k e = omega (arith, e)
total_with Var.Turn x k e = omega (arith, e)
total_with Var.Kind x k e = omega (arith, e)
total_with Var.Lift x k e = omega (arith, e)
total_with Var.A x k e = omega (arith, e)
total_with Var.B x k e = omega (arith, e)
total_with Var.C x k e = omega (arith, e)
total_with Var.D x k e = omega (arith, e)
total_with Var.E x k e = omega (arith, e)

pow_some : (k : ℕ) → 1 ≤ 2 ^ k
pow_some zero = omega arith
pow_some (suc k) = omega (arith, pow-suc 2 k, pow_some k)

-- a half of a range with more than one number has half as many
half_fits : (upper : Bool) (x : Span) (k : ℕ) → x.low < x.high → Fits x k → (j : ℕ) × (k ≡ suc j) × Fits (half_of upper x) j
half_fits upper x zero wide fits = absurd (omega (arith, wide, fits))
half_fits false x (suc k) wide fits = (k, refl, omega (arith, wide, fits, pow-suc 2 k))
half_fits true x (suc k) wide fits = (k, refl, omega (arith, wide, fits, pow-suc 2 k))

abbrev FitAll : List Ranges → List Exponents → Type 0
FitAll [] [] = Unit {0}
FitAll [] (_ ∷ _) = ⊥
FitAll (_ ∷ _) [] = ⊥
FitAll (r ∷ rs) (x ∷ xs) = FitStep r x × FitAll rs xs

abbrev total_all : List Exponents → ℕ
total_all [] = 0
total_all (x ∷ xs) = total x + total_all xs

-- each split takes one from the sum of the exponents
record Less (rs : List Ranges) (xs : List Exponents) : Type 0 where
  left : List Exponents
  fits : FitAll rs left
  less : total_all left + 1 ≡ total_all xs

one_less : (a b c : ℕ) (d e : ℕ) → a + 1 ≡ b → d ≡ a + c → e ≡ b + c → d + 1 ≡ e
one_less a b c d e p q r = omega (arith, p, q, r)

one_more : (n a c : ℕ) → a + 1 ≡ c → n + a + 1 ≡ n + c
one_more n a c e = omega (arith, e)

split_less : (upper : Bool) (rs : List Ranges) (xs : List Exponents) (step : ℕ) (v : Var) → step < length rs → FitAll rs xs → HoldsAt (λ r. (span_of v r).low < (span_of v r).high) rs step → Less (half_at (half_of upper) rs step v) xs
split_less upper [] xs step v lt h wide = absurd (omega (arith, lt))
split_less upper (r ∷ rs) [] step v lt h wide = absurd h
split_less upper (r ∷ rs) (x ∷ xs) zero v lt h wide =
    let half = half_fits upper (span_of v r) (exponent v x) wide (fit_one v r x h.0) in
    record {
      left = with_exponent v half.0 x ∷ xs;
      fits = (fit_with v r x (half_of upper (span_of v r)) half.0 h.0 half.2, h.1);
      less = one_less _ _ (total_all xs) _ _ (total_with v x half.0 half.1) refl refl;
    }
split_less upper (r ∷ rs) (x ∷ xs) (suc step) v lt h wide =
    let rest = split_less upper rs xs step v (omega (arith, lt)) h.1 wide in
    record { left = x ∷ rest.left; fits = (h.0, rest.fits); less = one_more (total x) (total_all rest.left) (total_all xs) rest.less }

half_within : (upper : Bool) (x : Span) → x.low < x.high → Within (half_of upper x) x
half_within false x h = lower_within x h
half_within true x h = upper_within x h

path_short : (f : Frame) (rs : List Ranges) (xs : List Exponents) (path : List Choice) → All (AreInFrame f) rs → FitAll rs xs → IsPath rs path → length path ≤ total_all xs
path_short f rs xs [] all fit h = omega arith
path_short f rs xs (x ∷ path) all fit h =
    let wide = free_wide f [] rs x.step x.var all h.0 in
    let next = split_less x.upper rs xs x.step x.var (free_inside [] rs x.step x.var h.0) fit wide in
    omega (
      arith,
      next.less,
      path_short f (half_at (half_of x.upper) rs x.step x.var) next.left path (half_in_frame f (half_of x.upper) (half_within x.upper) rs x.step x.var all wide) next.fits h.1,
    )

abbrev full_exponents : ℕ → ℕ → ℕ → Exponents
full_exponents stacks widths heights =
    record { stack = stacks; turn = 1; kind = 3; lift = 1; a = widths; b = widths; c = heights; d = heights; e = widths }

full_fits : (f : Frame) (stacks widths heights : ℕ) → AreBits f.stacks stacks → AreBits (f.width + 1) widths → AreBits (f.height + 1) heights → FitStep (full_ranges f) (full_exponents stacks widths heights)
full_fits f stacks widths heights s w h = record {
  stack = omega (arith, s.reaches, pow_some stacks);
  turn = omega arith;
  kind = omega arith;
  lift = omega arith;
  a = omega (arith, w.reaches);
  b = omega (arith, w.reaches);
  c = omega (arith, h.reaches);
  d = omega (arith, h.reaches);
  e = omega (arith, w.reaches);
}

all_full : (r : Ranges) (x : Exponents) (n : ℕ) → FitStep r x → FitAll (replicate n r) (replicate n x)
all_full r x zero h = tt
all_full r x (suc n) h = (h, all_full r x n h)

total_full : (x : Exponents) (n : ℕ) → total_all (replicate n x) ≡ n * total x
total_full x zero = sym (zero-mul (total x))
total_full x (suc n) = omega (arith, total_full x n, suc-mul n (total x))

full_total : (items stacks widths heights depth : ℕ) → depth ≡ items * (stacks + 5 + 3 * widths + 2 * heights) → items * (stacks + 1 + 3 + 1 + widths + widths + heights + heights + widths) ≡ depth
full_total items stacks widths heights depth e = ap (λ n. items * n) (omega arith) ∙ sym e

-- no path of splits from the root is longer than the depth of its frame
pub paths_end : (f : Frame) (id depth : ℕ) → IsDepth f depth → (path : List Choice) → IsPath (root_of f id).ranges path → length path ≤ depth
paths_end f id depth h path is =
    let x : Exponents = full_exponents h.stacks h.widths h.heights in
    omega (
      arith,
      path_short f (root_of f id).ranges (replicate f.items x) path (root_is_box f id).in_frame (all_full (full_ranges f) x f.items (full_fits f h.stacks h.widths h.heights h.stacks_are h.widths_are h.heights_are)) is,
      total_full x f.items,
      full_total f.items h.stacks h.widths h.heights depth h.is,
    )

-- no more numbers than a power of two are halved no more often
bits_most : (numbers bits most : ℕ) → AreBits numbers bits → numbers ≤ 2 ^ most → bits ≤ most
bits_most numbers bits most h le =
    elim (cases_lt most bits) [
      | inl more ↦ absurd (omega (arith, h.least most more, le))
      | inr few ↦ few
    ]

-- the depth of an instance's frame is at most 90 for each item
pub depth_most : (f : Frame) (depth : ℕ) → IsFrame f → IsDepth f depth → depth ≤ 90 * f.items
depth_most f depth frame h =
    let stacks : h.stacks ≤ 10 = bits_most f.stacks h.stacks 10 h.stacks_are (omega (arith, frame.stacks)) in
    let widths : h.widths ≤ 15 = bits_most (f.width + 1) h.widths 15 h.widths_are (omega (arith, frame.width)) in
    let heights : h.heights ≤ 15 = bits_most (f.height + 1) h.heights 15 h.heights_are (omega (arith, frame.height)) in
    omega (arith, h.is, each_most f.items (h.stacks + 5 + 3 * h.widths + 2 * h.heights) (omega (arith, stacks, widths, heights)))
  where
    each_most : (items n : ℕ) → n ≤ 90 → items * n ≤ 90 * items
    each_most items n le = omega (arith, mul-le-mul_left items le)

under_power : (n : ℕ) → n ≤ 2 ^ n
under_power zero = omega arith
under_power (suc n) = omega (arith, under_power n, pow-suc 2 n, pow_some n)

least_bits : (numbers bits left : ℕ) → ((fewer : ℕ) → fewer < bits → 2 ^ fewer < numbers) → numbers ≤ 2 ^ (bits + left) → (k : ℕ) × AreBits numbers k
least_bits numbers bits zero below le = (bits, record { reaches = subst (λ n. numbers ≤ 2 ^ n) (omega arith) le; least = below })
least_bits numbers bits (suc left) below le =
    elim (cases_lt (2 ^ bits) numbers) [
      | inl more ↦ least_bits numbers (suc bits) left (λ fewer lt. next fewer lt (cases_lt fewer bits) more) (subst (λ n. numbers ≤ 2 ^ n) (omega arith) le)
      | inr few ↦ (bits, record { reaches = few; least = below })
    ]
  where
    next : (fewer : ℕ) → fewer < suc bits → (fewer < bits) ⊎ (bits ≤ fewer) → 2 ^ bits < numbers → 2 ^ fewer < numbers
    next fewer lt (inl less) more = below fewer less
    next fewer lt (inr same) more = subst (λ n. 2 ^ n < numbers) (omega (arith, lt, same)) more

bits_of : (numbers : ℕ) → (k : ℕ) × AreBits numbers k
bits_of numbers = least_bits numbers 0 numbers (λ fewer lt. absurd (omega (arith, lt))) (subst (λ n. numbers ≤ 2 ^ n) (omega arith) (under_power numbers))

-- each frame has a depth
pub depth_of : (f : Frame) → (depth : ℕ) × IsDepth f depth
depth_of f =
    let stacks = bits_of f.stacks in
    let widths = bits_of (f.width + 1) in
    let heights = bits_of (f.height + 1) in (
      f.items * (stacks.0 + 5 + 3 * widths.0 + 2 * heights.0),
      record { stacks = stacks.0; widths = widths.0; heights = heights.0; stacks_are = stacks.1; widths_are = widths.1; heights_are = heights.1; is = refl },
    )
