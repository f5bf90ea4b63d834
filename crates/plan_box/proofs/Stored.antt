-- Stored ranges, with full ones behind them.
use Rattle.std.proofs.Common.{◌≡◌, ℕ, zero, suc, ◌-◌, ◌==◌, ◌&&◌, List, [], ◌∷◌, ◌++◌, length, map, replicate, slice_index_or, slice_get, Some, None, true, false, cond, refl, sym, ap, ◌∙◌, subst, arith}
use Rattle.std.proofs.lemmas.List.{length-append, length-map, length-replicate}
use Rattle.std.proofs.lemmas.List.Elements.{All-append, All-map, All-replicate}
use Rattle.plan_box.specs.declared.frame.Frame.{Frame}
use Rattle.plan_box.specs.declared.packed.Packed.{Packed}
use Rattle.plan_box.specs.Decisions.{is_drawn, draw_at, decided}
use Rattle.plan_box.specs.Packed.{unpacked}
use Rattle.plan_box.specs.inner.Stored.{AreStored, box_of}
use Rattle.plan_box.specs.Ranges.{Ranges, PlainBox, IsBox, AreInFrame, full_ranges}
use Rattle.plan_box.specs.Packed.{all_ranges}
use Rattle.plan_box.proofs.Shared.{full_in_frame}

-- behind the last element of a list lies what is repeated there
pub behind : {X : Type 0} (xs : List X) (n i : ℕ) (d : X) → slice_index_or (xs ++ replicate n d) i d ≡ slice_index_or xs i d
behind [] zero i d = refl
behind [] (suc n) zero d = refl
behind [] (suc n) (suc i) d = behind [] n i d
behind (x ∷ xs) n zero d = refl
behind (x ∷ xs) n (suc i) d = behind xs n i d

-- where nothing is stored the range is full
pub none_stored : (f : Frame) (stored : List Packed) (i : ℕ) → slice_get stored i ≡ None → slice_index_or (map unpacked stored) i (full_ranges f) ≡ full_ranges f
none_stored f [] i e = refl
none_stored f (x ∷ stored) zero e = absurd (cc e)
none_stored f (x ∷ stored) (suc i) e = none_stored f stored i e

pub some_stored : (f : Frame) (stored : List Packed) (i : ℕ) (x : Packed) → slice_get stored i ≡ Some x → slice_index_or (map unpacked stored) i (full_ranges f) ≡ unpacked x
some_stored f [] i x e = absurd (cc e)
some_stored f (y ∷ stored) zero x e = let same : y ≡ x = cc in ap unpacked same
some_stored f (y ∷ stored) (suc i) x e = some_stored f stored i x e

pub full_here : (f : Frame) (stored : List Packed) (i : ℕ) → slice_get stored i ≡ None → slice_index_or (all_ranges f (map unpacked stored)) i (full_ranges f) ≡ full_ranges f
full_here f stored i e = behind (map unpacked stored) (f.items - length (map unpacked stored)) i (full_ranges f) ∙ none_stored f stored i e

pub stored_here : (f : Frame) (stored : List Packed) (i : ℕ) (x : Packed) → slice_get stored i ≡ Some x → slice_index_or (all_ranges f (map unpacked stored)) i (full_ranges f) ≡ unpacked x
stored_here f stored i x e = behind (map unpacked stored) (f.items - length (map unpacked stored)) i (full_ranges f) ∙ some_stored f stored i x e

-- what is stored is a box
pub stored_is_box : (id : ℕ) (f : Frame) (stored : List Packed) → AreStored f stored → IsBox (box_of id f stored)
stored_is_box id f stored h = record {
  each_step =
      omega (
        arith,
        h.few,
        length-append (map unpacked stored) (replicate (f.items - length (map unpacked stored)) (full_ranges f)),
        length-map stored unpacked,
        length-replicate (f.items - length (map unpacked stored)) (full_ranges f),
      );
  in_frame =
      All-append (AreInFrame f) (map unpacked stored) (replicate (f.items - length (map unpacked stored)) (full_ranges f))
      (All-map (AreInFrame f) unpacked stored h.in_frame)
      (All-replicate (AreInFrame f) (f.items - length (map unpacked stored)) (full_ranges f) (full_in_frame f));
}

-- a step whose ranges are full is not decided
pub full_open : (f : Frame) → is_drawn (full_ranges f) ≡ false
full_open f = elim (0 == (f.stacks - 1)) as (λ one. (one && (false && (false && false))) ≡ false) [ true ↦ refl | false ↦ refl ]

full_undecided : (f : Frame) (n : ℕ) → decided (replicate n (full_ranges f)) ≡ []
full_undecided f zero = refl
full_undecided f (suc n) = ap (λ yes. cond yes (draw_at (full_ranges f) ∷ decided (replicate n (full_ranges f))) []) (full_open f)

-- full ranges behind others decide no more
pub decided_all : (f : Frame) (rs : List Ranges) → decided (all_ranges f rs) ≡ decided rs
decided_all f rs = go rs (f.items - length rs)
  where
    go : (xs : List Ranges) (n : ℕ) → decided (xs ++ replicate n (full_ranges f)) ≡ decided xs
    go [] n = full_undecided f n
    go (x ∷ xs) n = ap (λ l. cond (is_drawn x) (draw_at x ∷ l) []) (go xs n)

-- the decided steps of a box are those that it stores
pub decided_of_box : (id : ℕ) (f : Frame) (stored : List Packed) (x : PlainBox) → box_of id f stored ≡ x → length (decided (map unpacked stored)) ≡ length (decided x.ranges)
decided_of_box id f stored x e = ap length (sym (decided_all f (map unpacked stored))) ∙ ap (λ (y : PlainBox). length (decided y.ranges)) e

-- what is known of a box by what it stores
pub box_from : (id : ℕ) (f : Frame) (stored : List Packed) (x : PlainBox) → AreStored f stored → box_of id f stored ≡ x → IsBox x × (length x.ranges ≡ f.items)
box_from id f stored x h e =
    let box : IsBox x = subst IsBox e (stored_is_box id f stored h) in
    (box, box.each_step ∙ ap (λ (y : PlainBox). y.frame.items) (sym e))
