-- Stored ranges where one of them is replaced.
use Rattle.std.proofs.Common.{◌≡◌, ℕ, zero, suc, ◌+◌, ◌-◌, ◌<◌, ◌≤◌, List, [], ◌∷◌, ◌++◌, length, map, replicate, slice_get, slice_set, Some, refl, sym, ap, ◌∙◌, subst, arith, All, append_assoc, Bool, true, false, cond, ◌&&◌}
use Rattle.std.proofs.lemmas.Bool.Decides.{nat_tests}
use Rattle.std.proofs.lemmas.List.{length-append, length-map}
use Rattle.std.proofs.lemmas.List.Elements.{All-append, All-cons, All-head, All-nil, All-tail}
use Rattle.plan_box.specs.declared.frame.Frame.{Frame}
use Rattle.plan_box.specs.declared.packed.Packed.{Packed}
use Rattle.plan_box.specs.declared.var.Var.{Var}
use Rattle.plan_box.specs.Decisions.{is_single, is_drawn, draw_at, decided}
use Rattle.plan_box.specs.Halves.{half_at}
use Rattle.plan_box.proofs.Counts.{decided_append, last_decided}
use Rattle.plan_box.specs.Packed.{limit_of, unpacked}
use Rattle.plan_box.specs.inner.Stored.{AreStored}
use Rattle.plan_box.specs.Frames.{IsFrame}
use Rattle.plan_box.specs.Ranges.{Span, Ranges, AreInFrame, span_of, with_span, full_ranges}
use Rattle.plan_box.specs.Packed.{all_ranges}
use Rattle.plan_box.proofs.Shared.{full_in_frame, half_count, one_in_frame, Within}

-- full ranges can be stored
pub full_limit : (f : Frame) → IsFrame f → (v : Var) → (span_of v (full_ranges f)).high ≤ limit_of v
full_limit f h Var.Stack = omega (arith, h.stacks)
full_limit f h Var.Turn = omega arith
full_limit f h Var.Kind = omega arith
full_limit f h Var.Lift = omega arith
full_limit f h Var.A = omega (arith, h.width)
full_limit f h Var.B = omega (arith, h.width)
full_limit f h Var.C = omega (arith, h.height)
full_limit f h Var.D = omega (arith, h.height)
full_limit f h Var.E = omega (arith, h.width)

-- one list of full ranges behind the stored ones changes nothing
pub one_full : (f : Frame) (rs : List Ranges) → length rs < f.items → all_ranges f (rs ++ full_ranges f ∷ []) ≡ all_ranges f rs
one_full f rs lt =
    let less : f.items - length rs ≡ suc (f.items - length (rs ++ full_ranges f ∷ [])) = omega (arith, lt, length-append rs (full_ranges f ∷ [])) in
    append_assoc rs (full_ranges f ∷ []) (replicate (f.items - length (rs ++ full_ranges f ∷ [])) (full_ranges f)) ∙ ap (λ n. rs ++ replicate n (full_ranges f)) (sym less)

map_one : (xs : List Packed) (x : Packed) → map unpacked (xs ++ x ∷ []) ≡ map unpacked xs ++ unpacked x ∷ []
map_one [] x = refl
map_one (y ∷ xs) x = ap (λ l. unpacked y ∷ l) (map_one xs x)

-- how many steps are decided, by the last one that is stored
pub stored_last : (xs before : List Packed) (x : Packed) (drawn : Bool) → xs ≡ before ++ x ∷ [] → is_drawn (unpacked x) ≡ drawn → length xs ≤ length (decided (map unpacked xs)) + 1 →
    length (decided (map unpacked xs)) ≡ cond drawn (length before + 1) (length before)
stored_last xs before x drawn e known few =
    let split : map unpacked xs ≡ map unpacked before ++ unpacked x ∷ [] = ap (map unpacked) e ∙ map_one before x in
    let many : length xs ≡ length (map unpacked before ++ unpacked x ∷ []) = sym (length-map xs unpacked) ∙ ap length split in
    rw split (rw (length-map before unpacked) at (last_decided (map unpacked before) (unpacked x) drawn known (rw many at (rw split at few))))

-- stored ranges with full ones appended
pub one_stored : (f : Frame) (xs : List Packed) (x : Packed) → unpacked x ≡ full_ranges f → length xs < f.items → all_ranges f (map unpacked (xs ++ x ∷ [])) ≡ all_ranges f (map unpacked xs)
one_stored f xs x e lt =
    ap (all_ranges f) (map_one xs x ∙ ap (λ r. map unpacked xs ++ r ∷ []) e) ∙ one_full f (map unpacked xs) (omega (arith, lt, length-map xs unpacked))

pub one_are_stored : (f : Frame) (xs : List Packed) (x : Packed) → unpacked x ≡ full_ranges f → length xs < f.items → length xs ≤ length (decided (map unpacked xs)) → AreStored f xs → AreStored f (xs ++ x ∷ [])
one_are_stored f xs x e lt all h = record {
  frame = h.frame;
  few = omega (arith, lt, length-append xs (x ∷ []));
  in_frame =
      All-append (λ y. AreInFrame f (unpacked y)) xs (x ∷ []) h.in_frame
      (All-cons (λ y. AreInFrame f (unpacked y)) x [] (subst (AreInFrame f) (sym e) (full_in_frame f)) (All-nil (λ y. AreInFrame f (unpacked y))));
  few_open =
      omega (
        arith,
        all,
        length-append xs (x ∷ []),
        rw (sym (map_one xs x)) at (decided_append (map unpacked xs) (unpacked x ∷ [])),
      );
}

half_append : (half : Span → Span) (rs more : List Ranges) (i : ℕ) (v : Var) → i < length rs → half_at half (rs ++ more) i v ≡ half_at half rs i v ++ more
half_append half [] more i v lt = absurd (omega (arith, lt))
half_append half (r ∷ rs) more zero v lt = refl
half_append half (r ∷ rs) more (suc i) v lt = ap (λ l. r ∷ l) (half_append half rs more i v (omega (arith, lt)))

set_is : (xs : List Packed) (i : ℕ) (v : Var) (x : Span) (old new : Packed) → slice_get xs i ≡ Some old → unpacked new ≡ with_span v x (unpacked old) →
    map unpacked (slice_set xs i new) ≡ half_at (λ _. x) (map unpacked xs) i v
set_is [] i v x old new e is = absurd (cc e)
set_is (y ∷ xs) zero v x old new e is = let same : y ≡ old = cc in ap (λ r. r ∷ map unpacked xs) (is ∙ ap (λ p. with_span v x (unpacked p)) (sym same))
set_is (y ∷ xs) (suc i) v x old new e is = ap (λ l. unpacked y ∷ l) (set_is xs i v x old new e is)

-- the ranges of all steps where a stored one is replaced
pub set_ranges : (f : Frame) (xs : List Packed) (i : ℕ) (v : Var) (x : Span) (old new : Packed) → i < length xs → slice_get xs i ≡ Some old → unpacked new ≡ with_span v x (unpacked old) →
    all_ranges f (map unpacked (slice_set xs i new)) ≡ half_at (λ _. x) (all_ranges f (map unpacked xs)) i v
set_ranges f xs i v x old new lt e is =
    let rs : List Ranges = map unpacked xs in
    let inside : i < length rs = omega (arith, lt, length-map xs unpacked) in
    ap (all_ranges f) (set_is xs i v x old new e is)
    ∙ ap (λ n. half_at (λ _. x) rs i v ++ replicate (f.items - n) (full_ranges f)) (half_count (λ _. x) rs i v)
    ∙ sym (half_append (λ _. x) rs (replicate (f.items - length rs) (full_ranges f)) i v inside)

set_in_frame : (f : Frame) (xs : List Packed) (i : ℕ) (old new : Packed) → slice_get xs i ≡ Some old → (AreInFrame f (unpacked old) → AreInFrame f (unpacked new)) →
    All (λ y. AreInFrame f (unpacked y)) xs → All (λ y. AreInFrame f (unpacked y)) (slice_set xs i new)
set_in_frame f [] i old new e keeps all = absurd (cc e)
set_in_frame f (y ∷ xs) zero old new e keeps all =
    let same : y ≡ old = cc in
    All-cons (λ z. AreInFrame f (unpacked z)) new xs (keeps (subst (λ z. AreInFrame f (unpacked z)) same (All-head (λ z. AreInFrame f (unpacked z)) y xs all))) (All-tail (λ z. AreInFrame f (unpacked z)) y xs all)
set_in_frame f (y ∷ xs) (suc i) old new e keeps all =
    All-cons (λ z. AreInFrame f (unpacked z)) y (slice_set xs i new) (All-head (λ z. AreInFrame f (unpacked z)) y xs all)
    (set_in_frame f xs i old new e keeps (All-tail (λ z. AreInFrame f (unpacked z)) y xs all))

-- a single number stays one in a smaller range
single_kept : (x y : Span) → y.low ≤ x.low → x.low ≤ x.high → x.high ≤ y.high → is_single y ≡ true → is_single x ≡ true
single_kept x y from order to e = grind (arith, nat_tests, e, from, order, to)

both_kept : (p q s t : Bool) → (p ≡ true → s ≡ true) → (q ≡ true → t ≡ true) → (p && q) ≡ true → (s && t) ≡ true
both_kept true true s t f g e = rw (f refl, g refl) refl
both_kept true false s t f g e = absurd (cc e)
both_kept false q s t f g e = absurd (cc e)

-- a step that is decided stays so in a smaller range
drawn_kept : (r : Ranges) (v : Var) (x : Span) → (span_of v r).low ≤ x.low → x.low ≤ x.high → x.high ≤ (span_of v r).high → is_drawn r ≡ true → is_drawn (with_span v x r) ≡ true
drawn_kept r Var.Stack x from order to e =
    both_kept _ _ _ _ (single_kept x r.stack from order to) (λ h. h) e
drawn_kept r Var.Turn x from order to e =
    both_kept (is_single r.stack) _ _ _ (λ h. h) (both_kept _ _ _ _ (single_kept x r.turn from order to) (λ h. h)) e
drawn_kept r Var.Kind x from order to e =
    both_kept (is_single r.stack) _ _ _ (λ h. h) (both_kept (is_single r.turn) _ _ _ (λ h. h) (both_kept _ _ _ _ (single_kept x r.kind from order to) (λ h. h))) e
drawn_kept r Var.Lift x from order to e =
    both_kept (is_single r.stack) _ _ _ (λ h. h) (both_kept (is_single r.turn) _ _ _ (λ h. h) (both_kept (is_single r.kind) _ _ _ (λ h. h) (single_kept x r.lift from order to))) e
drawn_kept r Var.A x from order to e = e
drawn_kept r Var.B x from order to e = e
drawn_kept r Var.C x from order to e = e
drawn_kept r Var.D x from order to e = e
drawn_kept r Var.E x from order to e = e

-- so no step that is decided is lost
decided_kept : (xs : List Packed) (i : ℕ) (v : Var) (x : Span) (old new : Packed) → slice_get xs i ≡ Some old → unpacked new ≡ with_span v x (unpacked old) →
    (span_of v (unpacked old)).low ≤ x.low → Within x (span_of v (unpacked old)) → length (decided (map unpacked xs)) ≤ length (decided (map unpacked (slice_set xs i new)))
decided_kept [] i v x old new e is from within = absurd (cc e)
decided_kept (y ∷ xs) zero v x old new e is from within = go (is_drawn (unpacked y)) refl
  where
    same : y ≡ old
    same = cc

    go : (yes : Bool) → is_drawn (unpacked y) ≡ yes → length (cond yes (draw_at (unpacked y) ∷ decided (map unpacked xs)) []) ≤ length (decided (map unpacked (new ∷ xs)))
    go true h =
        let drawn : is_drawn (unpacked new) ≡ true = ap is_drawn is ∙ drawn_kept (unpacked old) v x from within.0 within.1 (ap (λ z. is_drawn (unpacked z)) (sym same) ∙ h) in
        rw drawn (omega arith)
    go false h = omega arith
decided_kept (y ∷ xs) (suc i) v x old new e is from within =
    elim (is_drawn (unpacked y)) as (λ yes. length (cond yes (draw_at (unpacked y) ∷ decided (map unpacked xs)) []) ≤ length (cond yes (draw_at (unpacked y) ∷ decided (map unpacked (slice_set xs i new))) [])) [
      | true ↦ omega (arith, decided_kept xs i v x old new e is from within)
      | false ↦ omega arith
    ]

set_count : (xs : List Packed) (i : ℕ) (new : Packed) → length (slice_set xs i new) ≡ length xs
set_count [] i new = refl
set_count (y ∷ xs) zero new = refl
set_count (y ∷ xs) (suc i) new = ap suc (set_count xs i new)

pub set_are_stored : (f : Frame) (xs : List Packed) (i : ℕ) (v : Var) (x : Span) (old new : Packed) → slice_get xs i ≡ Some old → unpacked new ≡ with_span v x (unpacked old) → (span_of v (unpacked old)).low ≤ x.low → Within x (span_of v (unpacked old)) →
    AreStored f xs → AreStored f (slice_set xs i new)
set_are_stored f xs i v x old new e is from within h = record {
  frame = h.frame;
  few = omega (arith, h.few, set_count xs i new);
  in_frame = set_in_frame f xs i old new e (λ keeps. subst (AreInFrame f) (sym is) (one_in_frame f (unpacked old) v x keeps within)) h.in_frame;
  few_open = omega (arith, h.few_open, set_count xs i new, decided_kept xs i v x old new e is from within);
}

-- a range that lies in a stored one can be stored
pub within_limit : (f : Frame) (xs : List Packed) (i : ℕ) (v : Var) (high : ℕ) (old : Packed) → IsFrame f → All (λ z. AreInFrame f (unpacked z)) xs → slice_get xs i ≡ Some old → high ≤ (span_of v (unpacked old)).high → high ≤ limit_of v
within_limit f [] i v high old frame all e le = absurd (cc e)
within_limit f (y ∷ xs) zero v high old frame all e le =
    let same : y ≡ old = cc in
    let here : AreInFrame f (unpacked old) = subst (λ z. AreInFrame f (unpacked z)) same (All-head (λ z. AreInFrame f (unpacked z)) y xs all) in
    omega (arith, le, (here v).1, full_limit f frame v)
within_limit f (y ∷ xs) (suc i) v high old frame all e le = within_limit f xs i v high old frame (All-tail (λ z. AreInFrame f (unpacked z)) y xs all) e le

-- what is read where nothing is stored
abbrev pub no_ranges : Packed
no_ranges = record { turn_lift = 0; kind = 0; stack = (0, 0); a = (0, 0); b = (0, 0); c = (0, 0); d = (0, 0); e = (0, 0) }
