-- Stored ranges where one is replaced, and paths.
use Rattle.std.proofs.Common.{◌≡◌, ℕ, zero, suc, ◌+◌, ◌<◌, ◌≤◌, ◌↔◌, List, [], ◌∷◌, ◌++◌, length, map, take, replicate, slice_get, slice_set, slice_index_or, reverse, cond, nat_lt, None, Bool, true, false, Some, not, refl, sym, ap, ◌∙◌, subst, arith, All, IsTrue}
use Rattle.std.proofs.lemmas.List.{length-append, length-map, reverse-append}
use Rattle.std.proofs.lemmas.List.Elements.{All-append, All-cons, All-head, All-map, All-nil, All-tail}
use Rattle.plan_box.specs.declared.frame.Frame.{Frame}
use Rattle.plan_box.specs.declared.packed.Packed.{Packed}
use Rattle.plan_box.specs.declared.var.Var.{Var}
use Rattle.std.specs.List.{position_or_len, prefix_len}
use Rattle.std.proofs.lemmas.Bool.Decides.{nat_tests}
use Rattle.std.specs.Prelude.{position, unwrap_or, Option, IsNone, option_to_list}
use Rattle.plan_box.specs.Decisions.{is_free, is_drawn, draw_at, decided}
use Rattle.plan_box.specs.Halves.{half_at, lower_half, upper_half}
use Rattle.plan_box.specs.Packed.{unpacked}
use Rattle.plan_box.specs.Ranges.{Span, Ranges, AreInFrame, span_of, with_span, full_ranges}
use Rattle.plan_box.proofs.Freed.{same_half, free_open}
use Rattle.plan_box.proofs.Shared.{free_inside}
use Rattle.cert_check.specs.declared.path.Turn.{Turn}
use Rattle.cert_check.specs.inner.Paths.{AreStored, beside, restored, IsTurn, IsPathOf}

each : (p : Var → Type 0) → p Var.Stack → p Var.Turn → p Var.Kind → p Var.Lift → p Var.A → p Var.B → p Var.C → p Var.D → p Var.E → (v : Var) → p v
each p s t k l a b c d e Var.Stack = s
each p s t k l a b c d e Var.Turn = t
each p s t k l a b c d e Var.Kind = k
each p s t k l a b c d e Var.Lift = l
each p s t k l a b c d e Var.A = a
each p s t k l a b c d e Var.B = b
each p s t k l a b c d e Var.C = c
each p s t k l a b c d e Var.D = d
each p s t k l a b c d e Var.E = e

-- the range lies in the full one
abbrev pub IsRange : Frame → Var → Span → Type 0
IsRange f v x = (x.low ≤ x.high) × (x.high ≤ (span_of v (full_ranges f)).high)

put_in_frame : (f : Frame) (r : Ranges) (v : Var) (x : Span) → AreInFrame f r → IsRange f v x → AreInFrame f (with_span v x r)
put_in_frame f r Var.Stack x h w = each (λ u. ((span_of u (with_span Var.Stack x r)).low ≤ (span_of u (with_span Var.Stack x r)).high) × ((span_of u (with_span Var.Stack x r)).high ≤ (span_of u (full_ranges f)).high)) (w.0, w.1) (h Var.Turn) (h Var.Kind) (h Var.Lift) (h Var.A) (h Var.B) (h Var.C) (h Var.D) (h Var.E)
put_in_frame f r Var.Turn x h w = each (λ u. ((span_of u (with_span Var.Turn x r)).low ≤ (span_of u (with_span Var.Turn x r)).high) × ((span_of u (with_span Var.Turn x r)).high ≤ (span_of u (full_ranges f)).high)) (h Var.Stack) (w.0, w.1) (h Var.Kind) (h Var.Lift) (h Var.A) (h Var.B) (h Var.C) (h Var.D) (h Var.E)
put_in_frame f r Var.Kind x h w = each (λ u. ((span_of u (with_span Var.Kind x r)).low ≤ (span_of u (with_span Var.Kind x r)).high) × ((span_of u (with_span Var.Kind x r)).high ≤ (span_of u (full_ranges f)).high)) (h Var.Stack) (h Var.Turn) (w.0, w.1) (h Var.Lift) (h Var.A) (h Var.B) (h Var.C) (h Var.D) (h Var.E)
put_in_frame f r Var.Lift x h w = each (λ u. ((span_of u (with_span Var.Lift x r)).low ≤ (span_of u (with_span Var.Lift x r)).high) × ((span_of u (with_span Var.Lift x r)).high ≤ (span_of u (full_ranges f)).high)) (h Var.Stack) (h Var.Turn) (h Var.Kind) (w.0, w.1) (h Var.A) (h Var.B) (h Var.C) (h Var.D) (h Var.E)
put_in_frame f r Var.A x h w = each (λ u. ((span_of u (with_span Var.A x r)).low ≤ (span_of u (with_span Var.A x r)).high) × ((span_of u (with_span Var.A x r)).high ≤ (span_of u (full_ranges f)).high)) (h Var.Stack) (h Var.Turn) (h Var.Kind) (h Var.Lift) (w.0, w.1) (h Var.B) (h Var.C) (h Var.D) (h Var.E)
put_in_frame f r Var.B x h w = each (λ u. ((span_of u (with_span Var.B x r)).low ≤ (span_of u (with_span Var.B x r)).high) × ((span_of u (with_span Var.B x r)).high ≤ (span_of u (full_ranges f)).high)) (h Var.Stack) (h Var.Turn) (h Var.Kind) (h Var.Lift) (h Var.A) (w.0, w.1) (h Var.C) (h Var.D) (h Var.E)
put_in_frame f r Var.C x h w = each (λ u. ((span_of u (with_span Var.C x r)).low ≤ (span_of u (with_span Var.C x r)).high) × ((span_of u (with_span Var.C x r)).high ≤ (span_of u (full_ranges f)).high)) (h Var.Stack) (h Var.Turn) (h Var.Kind) (h Var.Lift) (h Var.A) (h Var.B) (w.0, w.1) (h Var.D) (h Var.E)
put_in_frame f r Var.D x h w = each (λ u. ((span_of u (with_span Var.D x r)).low ≤ (span_of u (with_span Var.D x r)).high) × ((span_of u (with_span Var.D x r)).high ≤ (span_of u (full_ranges f)).high)) (h Var.Stack) (h Var.Turn) (h Var.Kind) (h Var.Lift) (h Var.A) (h Var.B) (h Var.C) (w.0, w.1) (h Var.E)
put_in_frame f r Var.E x h w = each (λ u. ((span_of u (with_span Var.E x r)).low ≤ (span_of u (with_span Var.E x r)).high) × ((span_of u (with_span Var.E x r)).high ≤ (span_of u (full_ranges f)).high)) (h Var.Stack) (h Var.Turn) (h Var.Kind) (h Var.Lift) (h Var.A) (h Var.B) (h Var.C) (h Var.D) (w.0, w.1)

pub set_is : (xs : List Packed) (i : ℕ) (v : Var) (x : Span) (old new : Packed) → slice_get xs i ≡ Some old → unpacked new ≡ with_span v x (unpacked old) →
    map unpacked (slice_set xs i new) ≡ half_at (λ _. x) (map unpacked xs) i v
set_is [] i v x old new e is = absurd (cc e)
set_is (y ∷ xs) zero v x old new e is = let same : y ≡ old = cc in ap (λ (r : Ranges). r ∷ map unpacked xs) (is ∙ ap (λ (p : Packed). with_span v x (unpacked p)) (sym same))
set_is (y ∷ xs) (suc i) v x old new e is = ap (λ (l : List Ranges). unpacked y ∷ l) (set_is xs i v x old new e is)

pub set_count : (xs : List Packed) (i : ℕ) (new : Packed) → length (slice_set xs i new) ≡ length xs
set_count [] i new = refl
set_count (y ∷ xs) zero new = refl
set_count (y ∷ xs) (suc i) new = ap suc (set_count xs i new)

abbrev Fits : Frame → Packed → Type 0
Fits f x = AreInFrame f (unpacked x)

set_in_frame : (f : Frame) (xs : List Packed) (i : ℕ) (v : Var) (x : Span) (old new : Packed) → slice_get xs i ≡ Some old → unpacked new ≡ with_span v x (unpacked old) → IsRange f v x
    → All (Fits f) xs → All (Fits f) (slice_set xs i new)
set_in_frame f [] i v x old new e is within all = absurd (cc e)
set_in_frame f (y ∷ xs) zero v x old new e is within all =
    let same : y ≡ old = cc in
    All-cons (Fits f) new xs (subst (AreInFrame f) (sym is) (put_in_frame f (unpacked old) v x (subst (Fits f) same (All-head (Fits f) y xs all)) within)) (All-tail (Fits f) y xs all)
set_in_frame f (y ∷ xs) (suc i) v x old new e is within all =
    All-cons (Fits f) y (slice_set xs i new) (All-head (Fits f) y xs all) (set_in_frame f xs i v x old new e is within (All-tail (Fits f) y xs all))

pub set_are_stored : (f : Frame) (xs : List Packed) (i : ℕ) (v : Var) (x : Span) (old new : Packed) → slice_get xs i ≡ Some old → unpacked new ≡ with_span v x (unpacked old) → IsRange f v x
    → AreStored f xs → AreStored f (slice_set xs i new)
set_are_stored f xs i v x old new e is within h = record {
  frame = h.frame;
  few = omega (arith, h.few, set_count xs i new);
  in_frame = set_in_frame f xs i v x old new e is within h.in_frame;
}

-- full ranges one after the other
pub map_push : (xs : List Packed) (x : Packed) → map unpacked (xs ++ x ∷ []) ≡ map unpacked xs ++ unpacked x ∷ []
map_push [] x = refl
map_push (y ∷ xs) x = ap (λ (l : List Ranges). unpacked y ∷ l) (map_push xs x)

pub replicate_push : (n : ℕ) (r : Ranges) → replicate n r ++ r ∷ [] ≡ replicate (n + 1) r
replicate_push zero r = refl
replicate_push (suc n) r = ap (λ (l : List Ranges). r ∷ l) (replicate_push n r) ∙ ap (λ (m : ℕ). replicate m r) (let e : suc (n + 1) ≡ suc n + 1 = omega arith in e)

-- a range that is replaced twice
with_twice : (v : Var) (x y : Span) (r : Ranges) → with_span v y (with_span v x r) ≡ with_span v y r
with_twice v x y r = each (λ u. with_span u y (with_span u x r) ≡ with_span u y r) refl refl refl refl refl refl refl refl refl v

with_read : (v : Var) (x : Span) (r : Ranges) → span_of v (with_span v x r) ≡ x
with_read v x r = each (λ u. span_of u (with_span u x r) ≡ x) refl refl refl refl refl refl refl refl refl v

with_own : (v : Var) (r : Ranges) → with_span v (span_of v r) r ≡ r
with_own v r = each (λ u. with_span u (span_of u r) r ≡ r) refl refl refl refl refl refl refl refl refl v

pub half_twice : (half : Span → Span) (x : Span) (rs : List Ranges) (i : ℕ) (v : Var) → half_at half (half_at (λ _. x) rs i v) i v ≡ half_at (λ _. half x) rs i v
half_twice half x [] i v = refl
half_twice half x (r ∷ rs) zero v = ap (λ (q : Ranges). q ∷ rs) (ap (λ (y : Span). with_span v (half y) (with_span v x r)) (with_read v x r) ∙ with_twice v x (half x) r)
half_twice half x (r ∷ rs) (suc i) v = ap (λ (l : List Ranges). r ∷ l) (half_twice half x rs i v)

half_own : (rs : List Ranges) (i : ℕ) (v : Var) → half_at (λ y. y) rs i v ≡ rs
half_own [] i v = refl
half_own (r ∷ rs) zero v = ap (λ (q : Ranges). q ∷ rs) (with_own v r)
half_own (r ∷ rs) (suc i) v = ap (λ (l : List Ranges). r ∷ l) (half_own rs i v)

reverse_push : (ts : List Turn) (t : Turn) → reverse (ts ++ t ∷ []) ≡ t ∷ reverse ts
reverse_push ts t = reverse-append ts (t ∷ [])

-- behind an upper half nothing waits at its turn
pub beside_upper : (rs : List Ranges) (old ts : List Turn) (t : Turn) → old ≡ ts ++ t ∷ [] → t.upper ≡ true → beside rs (reverse old) ≡ beside (restored rs t) (reverse ts)
beside_upper rs old ts t e up =
    ap (λ (l : List Turn). beside rs l) (ap (λ (l : List Turn). reverse l) e ∙ reverse_push ts t)
    ∙ ap (λ (u : Bool). cond u (beside (restored rs t) (reverse ts)) (half_at upper_half (restored rs t) t.step t.var ∷ beside (restored rs t) (reverse ts))) up

-- behind a lower half the upper one waits
beside_lower : (rs : List Ranges) (old ts : List Turn) (t : Turn) → old ≡ ts ++ t ∷ [] → t.upper ≡ false
    → beside rs (reverse old) ≡ half_at upper_half (restored rs t) t.step t.var ∷ beside (restored rs t) (reverse ts)
beside_lower rs old ts t e up =
    ap (λ (l : List Turn). beside rs l) (ap (λ (l : List Turn). reverse l) e ∙ reverse_push ts t)
    ∙ ap (λ (u : Bool). cond u (beside (restored rs t) (reverse ts)) (half_at upper_half (restored rs t) t.step t.var ∷ beside (restored rs t) (reverse ts))) up

-- the turn of the upper half
abbrev pub turned : Turn → Turn
turned t = record { step = t.step; var = t.var; low = t.low; high = t.high; upper = true }

abbrev pub span_at : Turn → Span
span_at t = record { low = t.low; high = t.high }

-- from a lower half to the upper one
pub to_upper : (rs new : List Ranges) (old ts : List Turn) (t : Turn) → old ≡ ts ++ t ∷ [] → t.upper ≡ false
    → new ≡ half_at (λ _. upper_half (span_at t)) rs t.step t.var → new ∷ beside new (reverse (ts ++ turned t ∷ [])) ≡ beside rs (reverse old)
to_upper rs new old ts t e up is =
    let back : restored new t ≡ restored rs t = ap (λ (l : List Ranges). restored l t) is ∙ half_twice (λ _. span_at t) (upper_half (span_at t)) rs t.step t.var in
    let here : new ≡ half_at upper_half (restored rs t) t.step t.var = is ∙ sym (half_twice upper_half (span_at t) rs t.step t.var) in
    ap (λ (l : List Ranges). l ∷ beside new (reverse (ts ++ turned t ∷ []))) here
    ∙ ap (λ (l : List (List Ranges)). half_at upper_half (restored rs t) t.step t.var ∷ l)
    (beside_upper new (ts ++ turned t ∷ []) ts (turned t) refl refl ∙ ap (λ (l : List Ranges). beside l (reverse ts)) back)
    ∙ sym (beside_lower rs old ts t e up)

-- a box is split
pub to_lower : (rs new : List Ranges) (ts : List Turn) (t : Turn) (d : Ranges) → t.upper ≡ false → t.step < length rs → span_at t ≡ span_of t.var (slice_index_or rs t.step d)
    → new ≡ half_at (λ _. lower_half (span_at t)) rs t.step t.var
    → new ∷ beside new (reverse (ts ++ t ∷ [])) ≡ half_at lower_half rs t.step t.var ∷ half_at upper_half rs t.step t.var ∷ beside rs (reverse ts)
to_lower rs new ts t d up lt span is =
    let back : restored new t ≡ rs =
    ap (λ (l : List Ranges). restored l t) is ∙ half_twice (λ _. span_at t) (lower_half (span_at t)) rs t.step t.var
    ∙ same_half (λ y. y) (span_at t) rs t.step t.var d lt span ∙ half_own rs t.step t.var in
    let here : new ≡ half_at lower_half rs t.step t.var = is ∙ same_half lower_half (lower_half (span_at t)) rs t.step t.var d lt (ap lower_half span) in
    ap (λ (l : List Ranges). l ∷ beside new (reverse (ts ++ t ∷ []))) here
    ∙ ap (λ (l : List (List Ranges)). half_at lower_half rs t.step t.var ∷ l)
    (beside_lower new (ts ++ t ∷ []) ts t refl up ∙ ap (λ (l : List Ranges). half_at upper_half l t.step t.var ∷ beside l (reverse ts)) back)

all_front : {X : Type 0} (p : X → Type 0) (xs ys : List X) → All p (xs ++ ys) → All p xs
all_front p [] ys h = All-nil p
all_front p (x ∷ xs) ys h = All-cons p x xs (All-head p x (xs ++ ys) h) (all_front p xs ys (All-tail p x (xs ++ ys) h))

all_last : {X : Type 0} (p : X → Type 0) (xs : List X) (x : X) → All p (xs ++ x ∷ []) → p x
all_last p [] x h = All-head p x [] h
all_last p (y ∷ xs) x h = all_last p xs x (All-tail p y (xs ++ x ∷ []) h)

-- the last turn stands behind all others
pub last_is : (ts : List Turn) (n : ℕ) (t : Turn) → length ts ≡ suc n → slice_get ts n ≡ Some t → ts ≡ take n ts ++ t ∷ []
last_is [] n t count e = absurd (cc e)
last_is (u ∷ []) zero t count e = let same : u ≡ t = cc in ap (λ (x : Turn). x ∷ []) same
last_is (u ∷ []) (suc n) t count e = absurd (cc e)
last_is (u ∷ v ∷ ts) zero t count e = absurd (omega (arith, count))
last_is (u ∷ v ∷ ts) (suc n) t count e = ap (λ (l : List Turn). u ∷ l) (last_is (v ∷ ts) n t (omega (arith, count)) e)

pub last_set : (ts : List Turn) (n : ℕ) (t : Turn) → length ts ≡ suc n → slice_set ts n t ≡ take n ts ++ t ∷ []
last_set [] n t count = absurd (omega (arith, count))
last_set (u ∷ []) zero t count = refl
last_set (u ∷ []) (suc n) t count = absurd (omega (arith, count))
last_set (u ∷ v ∷ ts) zero t count = absurd (omega (arith, count))
last_set (u ∷ v ∷ ts) (suc n) t count = ap (λ (l : List Turn). u ∷ l) (last_set (v ∷ ts) n t (omega (arith, count)))

last_got : (ts : List Turn) (n : ℕ) (t : Turn) → length ts ≡ n → slice_get (ts ++ t ∷ []) n ≡ Some t
last_got [] zero t count = refl
last_got [] (suc n) t count = absurd (omega (arith, count))
last_got (u ∷ ts) zero t count = absurd (omega (arith, count))
last_got (u ∷ ts) (suc n) t count = last_got ts n t (omega (arith, count))

-- it is the one that is popped
pub last_popped : (old ts : List Turn) (popped : Option Turn) (n : ℕ) (t : Turn) → old ≡ ts ++ option_to_list popped → length old ≡ suc n → (IsNone popped ↔ (old ≡ [])) → slice_get old n ≡ Some t
    → old ≡ ts ++ t ∷ []
last_popped old ts None n t e count none is = let empty = ap (λ (l : List Turn). length l) (none.0 refl) in absurd (omega (arith, count, empty))
last_popped old ts (Some u) n t e count none is =
    let many = ap (λ (l : List Turn). length l) e ∙ length-append ts (u ∷ []) in
    let same : Some u ≡ Some t = sym (last_got ts n u (omega (arith, count, many))) ∙ sym (ap (λ (l : List Turn). slice_get l n) e) ∙ is in
    let alike : u ≡ t = cc in e ∙ ap (λ (x : Turn). ts ++ x ∷ []) alike

-- what is known of the last turn, and of those before it
pub last_turn : (f : Frame) (old ts : List Turn) (t : Turn) → old ≡ ts ++ t ∷ [] → All (IsTurn f) old → IsTurn f t
last_turn f old ts t e all = all_last (IsTurn f) ts t (subst (All (IsTurn f)) e all)

pub turns_before : (f : Frame) (old ts : List Turn) (t : Turn) → old ≡ ts ++ t ∷ [] → All (IsTurn f) old → All (IsTurn f) ts
turns_before f old ts t e all = all_front (IsTurn f) ts (t ∷ []) (subst (All (IsTurn f)) e all)

pub turns_push : (f : Frame) (ts new : List Turn) (t : Turn) → new ≡ ts ++ t ∷ [] → All (IsTurn f) ts → IsTurn f t → All (IsTurn f) new
turns_push f ts new t e all is = subst (All (IsTurn f)) (sym e) (All-append (IsTurn f) ts (t ∷ []) all (All-cons (IsTurn f) t [] is (All-nil (IsTurn f))))

-- what is stored at a step
pub in_frame_at : (f : Frame) (xs : List Packed) (i : ℕ) (x : Packed) → slice_get xs i ≡ Some x → All (Fits f) xs → AreInFrame f (unpacked x)
in_frame_at f [] i x e all = absurd (cc e)
in_frame_at f (y ∷ xs) zero x e all = let same : y ≡ x = cc in subst (Fits f) same (All-head (Fits f) y xs all)
in_frame_at f (y ∷ xs) (suc i) x e all = in_frame_at f xs i x e (All-tail (Fits f) y xs all)

pub read_at : (xs : List Packed) (i : ℕ) (x : Packed) (d : Ranges) → slice_get xs i ≡ Some x → slice_index_or (map unpacked xs) i d ≡ unpacked x
read_at [] i x d e = absurd (cc e)
read_at (y ∷ xs) zero x d e = let same : y ≡ x = cc in ap unpacked same
read_at (y ∷ xs) (suc i) x d e = read_at xs i x d e

pub free_within : (xs : List Packed) (step : ℕ) (v : Var) → IsTrue (is_free (map unpacked xs) step v) → step < length xs
free_within xs step v free = omega (arith, free_inside [] (map unpacked xs) step v free, length-map xs unpacked)

-- a free variable has more than one number
pub wide_at : (f : Frame) (xs : List Packed) (ts : List Turn) → IsPathOf f xs ts → (step : ℕ) (v : Var) (d : Ranges) → IsTrue (is_free (map unpacked xs) step v)
    → (span_of v (slice_index_or (map unpacked xs) step d)).low < (span_of v (slice_index_or (map unpacked xs) step d)).high
wide_at f xs ts path step v d free =
    (free_open (record { id = 0; frame = f; ranges = map unpacked xs }) (record { each_step = length-map xs unpacked ∙ path.each_step; in_frame = All-map (AreInFrame f) unpacked xs path.stored.in_frame }) step v free).wide d

prefix_few : {X : Type 0} (p : X → Bool) (xs : List X) → prefix_len p xs ≤ length xs
prefix_few p [] = omega arith
prefix_few p (x ∷ xs) = elim (p x) as (λ yes. cond yes (1 + prefix_len p xs) 0 ≤ length (x ∷ xs)) [ true ↦ omega (arith, prefix_few p xs) | false ↦ omega arith ]

found_or : (place count : ℕ) → place ≤ count → unwrap_or (cond (nat_lt place count) (Some place) None) count ≡ place
found_or place count le = go (nat_lt place count) refl
  where
    go : (less : Bool) → nat_lt place count ≡ less → unwrap_or (cond less (Some place) None) count ≡ place
    go true e = refl
    go false e = grind (arith, nat_tests, e, le)

decided_prefix : (xs : List Packed) → length (decided (map unpacked xs)) ≡ prefix_len (λ x. not (not (is_drawn (unpacked x)))) xs
decided_prefix [] = refl
decided_prefix (x ∷ xs) =
    elim (is_drawn (unpacked x)) as (λ yes. length (cond yes (draw_at (unpacked x) ∷ decided (map unpacked xs)) []) ≡ cond (not (not yes)) (1 + prefix_len (λ x. not (not (is_drawn (unpacked x)))) xs) 0) [
      | true ↦ omega (arith, decided_prefix xs)
      | false ↦ refl
    ]

-- the first open step is the first undecided one
pub undecided : (xs : List Packed) → unwrap_or (position (λ x. not (is_drawn (unpacked x))) xs) (length xs) ≡ length (decided (map unpacked xs))
undecided xs =
    found_or (position_or_len (λ x. not (is_drawn (unpacked x))) xs) (length xs) (prefix_few (λ x. not (not (is_drawn (unpacked x)))) xs) ∙ sym (decided_prefix xs)
