-- What the steps before a strip keep where the strip and all behind it change.
use Rattle.std.proofs.Common.{◌≡◌, ℕ, zero, suc, ◌+◌, ◌-◌, ◌<◌, ◌≤◌, ◌⊎◌, inl, inr, Bool, true, List, [], ◌∷◌, ◌++◌, length, map, take, drop, get_or, refl, ap, sym, ◌∙◌, subst, arith, Option, None}
use Rattle.std.proofs.lemmas.List.{length-map, length-take-le, map-append, take-take, get_or-take}
use Rattle.glass_base.specs.declared.params.Params.{Params}
use Rattle.glass_base.specs.Problem.{Problem}
use Rattle.plan_trace.specs.declared.level.Level.{Level}
use Rattle.plan_trace.specs.declared.level.Level.TheVariants.{NewPlate, NewStrip, NewBand, NewCell, Over}
use Rattle.plan_trace.specs.TraceRules.{is_last_strip, is_last_band, is_last_cell, is_last_in_cell}
use Rattle.plan_box.specs.declared.reason.Reason.{Reason}
use Rattle.plan_box.specs.Leasts.{Known, Fixed, fixed, no_known, settle, settle_at}
use Rattle.plan_box.specs.Reasons.{BandR2, CellR2, StripR2, TopR2, fixed_levels}
use Rattle.box_bound.specs.declared.kept.Kept.{Kept}
use Rattle.box_bound.specs.Kept.{blank, early_fixed, late, late_fixed}
use Rattle.box_bound.specs.Seen.{AmongFixed, AreSeen, AreShared, IsFirstIfAny, StartsStrip}
use Rattle.plan_box.specs.Facts.{FactOf}
use Rattle.box_bound.proofs.Seeing.{first_same}
use Rattle.plan_box.proofs.Segments.{segment_more}

-- a list in two parts
pub split_taken : {X : Type 0} (i m n : ℕ) (xs : List X) → n ≡ i + m → take n xs ≡ take i xs ++ take m (drop i xs)
split_taken zero m n xs e = let same : n ≡ m = omega (arith, e) in ap (λ (k : ℕ). take k xs) same
split_taken (suc i) m zero xs e = absurd (omega (arith, e))
split_taken (suc i) zero (suc n) [] e = refl
split_taken (suc i) (suc m) (suc n) [] e = refl
split_taken (suc i) m (suc n) (x ∷ xs) e = ap (λ ys. x ∷ ys) (split_taken i m n xs (omega (arith, e)))

abbrev pub Starts : List Fixed → Type 0
Starts [] = ⊥
Starts (fixed l k ∷ ks) = StartsStrip l

at_parts : (k : Known) (xs ys : List Fixed) → Starts ys → settle_at k (xs ++ ys) ≡ settle_at k xs
at_parts k [] [] h = absurd h
at_parts k [] (fixed NewPlate n ∷ ys) h = refl
at_parts k [] (fixed NewStrip n ∷ ys) h = refl
at_parts k [] (fixed NewBand n ∷ ys) h = absurd h
at_parts k [] (fixed NewCell n ∷ ys) h = absurd h
at_parts k [] (fixed Over n ∷ ys) h = absurd h
at_parts k (fixed l n ∷ xs) ys h = refl

starts_settled : (ks : List Fixed) → Starts ks → Starts (settle ks)
starts_settled [] h = h
starts_settled (fixed l k ∷ ks) h = h

settle_parts : (xs ys : List Fixed) → Starts ys → settle (xs ++ ys) ≡ settle xs ++ settle ys
settle_parts [] ys h = refl
settle_parts (fixed l k ∷ xs) ys h =
    let later = settle_parts xs ys h in
    ap (λ (ks : List Fixed). fixed l (settle_at k ks) ∷ ks) later
    ∙ ap (λ (j : Known). fixed l j ∷ (settle xs ++ settle ys)) (at_parts k (settle xs) (settle ys) (starts_settled ys h))

same_front : (xs ys more rest : List Fixed) → length xs ≡ length ys → xs ++ more ≡ ys ++ rest → xs ≡ ys
same_front [] [] more rest e f = refl
same_front [] (y ∷ ys) more rest e f = absurd (omega (arith, e))
same_front (x ∷ xs) [] more rest e f = absurd (omega (arith, e))
same_front (x ∷ xs) (y ∷ ys) more rest e f =
    let here : x ≡ y = cc in
    let later : xs ++ more ≡ ys ++ rest = cc in
    ap (λ (z : Fixed). z ∷ xs) here ∙ ap (λ (zs : List Fixed). y ∷ zs) (same_front xs ys more rest (omega (arith, e)) later)

settle_count : (ks : List Fixed) → length (settle ks) ≡ length ks
settle_count [] = refl
settle_count (fixed l k ∷ ks) = ap suc (settle_count ks)

abbrev pub AtStrip : ℕ → ℕ → List Kept → Type 0
AtStrip start count xs = (start ≡ 0) ⊎ ((start < count) × StartsStrip (get_or xs start blank).level)

early_starts : (xs : List Kept) (start count : ℕ) → count ≤ length xs → start < count → StartsStrip (get_or xs start blank).level → Starts (map early_fixed (take (count - start) (drop start xs)))
early_starts xs start count le lt h = subst (λ (ys : List Kept). Starts (map early_fixed ys)) (sym (segment_more xs start count blank lt le)) h

-- the settled steps before a strip are settled by themselves
pub settled_prefix : (xs : List Kept) (start count : ℕ) → count ≤ length xs → start ≤ count → AtStrip start count xs → map late_fixed (take count xs) ≡ settle (map early_fixed (take count xs)) →
    map late_fixed (take start xs) ≡ settle (map early_fixed (take start xs))
settled_prefix xs start count le before (inl none) h = subst (λ (n : ℕ). map late_fixed (take n xs) ≡ settle (map early_fixed (take n xs))) (sym none) refl
settled_prefix xs start count le before (inr at) h =
    let A : List Kept = take start xs in
    let B : List Kept = take (count - start) (drop start xs) in
    let parts : take count xs ≡ A ++ B = split_taken start (count - start) count xs (omega (arith, before)) in
    let lates : map late_fixed (take count xs) ≡ map late_fixed A ++ map late_fixed B = ap (map late_fixed) parts ∙ map-append late_fixed A B in
    let earlies : settle (map early_fixed (take count xs)) ≡ settle (map early_fixed A) ++ settle (map early_fixed B) =
    ap (λ (ys : List Kept). settle (map early_fixed ys)) parts ∙ ap settle (map-append early_fixed A B) ∙ settle_parts (map early_fixed A) (map early_fixed B) (early_starts xs start count le at.0 at.1) in
    same_front (map late_fixed A) (settle (map early_fixed A)) (map late_fixed B) (settle (map early_fixed B)) (omega (arith, length-map A late_fixed, length-map A early_fixed, settle_count (map early_fixed A)))
    (sym lates ∙ h ∙ earlies)

-- and together with those from the strip on
pub settled_whole : (xs : List Kept) (start count : ℕ) → count ≤ length xs → start ≤ count → AtStrip start count xs → map late_fixed (take start xs) ≡ settle (map early_fixed (take start xs)) →
    map late_fixed (take (count - start) (drop start xs)) ≡ settle (map early_fixed (take (count - start) (drop start xs))) → map late_fixed (take count xs) ≡ settle (map early_fixed (take count xs))
settled_whole xs start count le before (inl none) first later =
    let less : count - start ≡ count = omega (arith, none) in
    subst (λ (m : ℕ). map late_fixed (take m xs) ≡ settle (map early_fixed (take m xs))) less
    (subst (λ (n : ℕ). map late_fixed (take (count - start) (drop n xs)) ≡ settle (map early_fixed (take (count - start) (drop n xs)))) none later)
settled_whole xs start count le before (inr at) first later =
    let A : List Kept = take start xs in
    let B : List Kept = take (count - start) (drop start xs) in
    let parts : take count xs ≡ A ++ B = split_taken start (count - start) count xs (omega (arith, before)) in
    ap (map late_fixed) parts ∙ map-append late_fixed A B
    ∙ ap (λ (ks : List Fixed). ks ++ map late_fixed B) first
    ∙ ap (λ (ks : List Fixed). settle (map early_fixed A) ++ ks) later
    ∙ sym (ap (λ (ys : List Kept). settle (map early_fixed ys)) parts ∙ ap settle (map-append early_fixed A B) ∙ settle_parts (map early_fixed A) (map early_fixed B) (early_starts xs start count le at.0 at.1))

levels_parts : (xs ys : List Fixed) → fixed_levels (xs ++ ys) ≡ fixed_levels xs ++ fixed_levels ys
levels_parts [] ys = refl
levels_parts (fixed l k ∷ xs) ys = ap (λ (ls : List Level). l ∷ ls) (levels_parts xs ys)

strip_ahead : (e f : Bool) (ls : List Level) (l : Level) (ms ns : List Level) → StartsStrip l → is_last_strip e (ls ++ l ∷ ms) ≡ is_last_strip f (ls ++ l ∷ ns)
strip_ahead e f [] NewPlate ms ns h = refl
strip_ahead e f [] NewStrip ms ns h = refl
strip_ahead e f [] NewBand ms ns h = absurd h
strip_ahead e f [] NewCell ms ns h = absurd h
strip_ahead e f [] Over ms ns h = absurd h
strip_ahead e f (NewPlate ∷ ls) l ms ns h = refl
strip_ahead e f (NewStrip ∷ ls) l ms ns h = refl
strip_ahead e f (NewBand ∷ ls) l ms ns h = strip_ahead e f ls l ms ns h
strip_ahead e f (NewCell ∷ ls) l ms ns h = strip_ahead e f ls l ms ns h
strip_ahead e f (Over ∷ ls) l ms ns h = strip_ahead e f ls l ms ns h

band_ahead : (e f : Bool) (ls : List Level) (l : Level) (ms ns : List Level) → StartsStrip l → is_last_band e (ls ++ l ∷ ms) ≡ is_last_band f (ls ++ l ∷ ns)
band_ahead e f [] NewPlate ms ns h = refl
band_ahead e f [] NewStrip ms ns h = refl
band_ahead e f [] NewBand ms ns h = absurd h
band_ahead e f [] NewCell ms ns h = absurd h
band_ahead e f [] Over ms ns h = absurd h
band_ahead e f (NewPlate ∷ ls) l ms ns h = refl
band_ahead e f (NewStrip ∷ ls) l ms ns h = refl
band_ahead e f (NewBand ∷ ls) l ms ns h = refl
band_ahead e f (NewCell ∷ ls) l ms ns h = band_ahead e f ls l ms ns h
band_ahead e f (Over ∷ ls) l ms ns h = band_ahead e f ls l ms ns h

cell_ahead : (e f : Bool) (ls : List Level) (l : Level) (ms ns : List Level) → StartsStrip l → is_last_cell e (ls ++ l ∷ ms) ≡ is_last_cell f (ls ++ l ∷ ns)
cell_ahead e f [] NewPlate ms ns h = refl
cell_ahead e f [] NewStrip ms ns h = refl
cell_ahead e f [] NewBand ms ns h = absurd h
cell_ahead e f [] NewCell ms ns h = absurd h
cell_ahead e f [] Over ms ns h = absurd h
cell_ahead e f (NewPlate ∷ ls) l ms ns h = refl
cell_ahead e f (NewStrip ∷ ls) l ms ns h = refl
cell_ahead e f (NewBand ∷ ls) l ms ns h = refl
cell_ahead e f (NewCell ∷ ls) l ms ns h = refl
cell_ahead e f (Over ∷ ls) l ms ns h = cell_ahead e f ls l ms ns h

in_ahead : (e f : Bool) (ls : List Level) (l : Level) (ms ns : List Level) → StartsStrip l → is_last_in_cell e (ls ++ l ∷ ms) ≡ is_last_in_cell f (ls ++ l ∷ ns)
in_ahead e f [] NewPlate ms ns h = refl
in_ahead e f [] NewStrip ms ns h = refl
in_ahead e f [] NewBand ms ns h = absurd h
in_ahead e f [] NewCell ms ns h = absurd h
in_ahead e f [] Over ms ns h = absurd h
in_ahead e f (NewPlate ∷ ls) l ms ns h = refl
in_ahead e f (NewStrip ∷ ls) l ms ns h = refl
in_ahead e f (NewBand ∷ ls) l ms ns h = refl
in_ahead e f (NewCell ∷ ls) l ms ns h = refl
in_ahead e f (Over ∷ ls) l ms ns h = refl

strip_same : (b : Problem) (e f : Bool) (l : Level) (j k : Known) (later others : List Level) → is_last_strip e later ≡ is_last_strip f others → StripR2 b e l j k later → StripR2 b f l j k others
strip_same b e f NewPlate j k later others same h = rw (sym same) h
strip_same b e f NewStrip j k later others same h = rw (sym same) h
strip_same b e f NewBand j k later others same h = h
strip_same b e f NewCell j k later others same h = h
strip_same b e f Over j k later others same h = h

band_same : (p : Params) (e f : Bool) (l : Level) (j k : Known) (later others : List Level) → is_last_band e later ≡ is_last_band f others → BandR2 p e l j k later → BandR2 p f l j k others
band_same p e f NewPlate j k later others same h = rw (sym same) h
band_same p e f NewStrip j k later others same h = rw (sym same) h
band_same p e f NewBand j k later others same h = rw (sym same) h
band_same p e f NewCell j k later others same h = h
band_same p e f Over j k later others same h = h

cell_same : (p : Params) (e f : Bool) (l : Level) (j k : Known) (later others : List Level) → is_last_cell e later ≡ is_last_cell f others → CellR2 p e l j k later → CellR2 p f l j k others
cell_same p e f NewPlate j k later others same h = rw (sym same) h
cell_same p e f NewStrip j k later others same h = rw (sym same) h
cell_same p e f NewBand j k later others same h = rw (sym same) h
cell_same p e f NewCell j k later others same h = rw (sym same) h
cell_same p e f Over j k later others same h = h

top_over : (p : Params) (e f : Bool) (m : Level) (lift : ℕ) (j k : Known) (later others : List Level) → is_last_in_cell true later ≡ is_last_in_cell true others → TopR2 p e m Over lift j k later → TopR2 p f m Over lift j k others
top_over p e f NewPlate lift j k later others same h = rw (sym same) h
top_over p e f NewStrip lift j k later others same h = rw (sym same) h
top_over p e f NewBand lift j k later others same h = rw (sym same) h
top_over p e f NewCell lift j k later others same h = rw (sym same) h
top_over p e f Over lift j k later others same h = h

top_same : (p : Params) (e f : Bool) (m l : Level) (lift : ℕ) (j k : Known) (later others : List Level) → is_last_in_cell e later ≡ is_last_in_cell f others → is_last_in_cell true later ≡ is_last_in_cell true others →
    TopR2 p e m l lift j k later → TopR2 p f m l lift j k others
top_same p e f NewPlate NewPlate zero j k later others same here h = rw (sym same) h
top_same p e f NewPlate NewPlate (suc lift) j k later others same here h = h
top_same p e f NewPlate NewStrip zero j k later others same here h = rw (sym same) h
top_same p e f NewPlate NewStrip (suc lift) j k later others same here h = h
top_same p e f NewPlate NewBand zero j k later others same here h = rw (sym same) h
top_same p e f NewPlate NewBand (suc lift) j k later others same here h = h
top_same p e f NewPlate NewCell zero j k later others same here h = rw (sym same) h
top_same p e f NewPlate NewCell (suc lift) j k later others same here h = h
top_same p e f NewPlate Over lift j k later others same here h = top_over p e f NewPlate lift j k later others here h
top_same p e f NewStrip NewPlate zero j k later others same here h = rw (sym same) h
top_same p e f NewStrip NewPlate (suc lift) j k later others same here h = h
top_same p e f NewStrip NewStrip zero j k later others same here h = rw (sym same) h
top_same p e f NewStrip NewStrip (suc lift) j k later others same here h = h
top_same p e f NewStrip NewBand zero j k later others same here h = rw (sym same) h
top_same p e f NewStrip NewBand (suc lift) j k later others same here h = h
top_same p e f NewStrip NewCell zero j k later others same here h = rw (sym same) h
top_same p e f NewStrip NewCell (suc lift) j k later others same here h = h
top_same p e f NewStrip Over lift j k later others same here h = top_over p e f NewStrip lift j k later others here h
top_same p e f NewBand NewPlate zero j k later others same here h = rw (sym same) h
top_same p e f NewBand NewPlate (suc lift) j k later others same here h = h
top_same p e f NewBand NewStrip zero j k later others same here h = rw (sym same) h
top_same p e f NewBand NewStrip (suc lift) j k later others same here h = h
top_same p e f NewBand NewBand zero j k later others same here h = rw (sym same) h
top_same p e f NewBand NewBand (suc lift) j k later others same here h = h
top_same p e f NewBand NewCell zero j k later others same here h = rw (sym same) h
top_same p e f NewBand NewCell (suc lift) j k later others same here h = h
top_same p e f NewBand Over lift j k later others same here h = top_over p e f NewBand lift j k later others here h
top_same p e f NewCell NewPlate zero j k later others same here h = rw (sym same) h
top_same p e f NewCell NewPlate (suc lift) j k later others same here h = h
top_same p e f NewCell NewStrip zero j k later others same here h = rw (sym same) h
top_same p e f NewCell NewStrip (suc lift) j k later others same here h = h
top_same p e f NewCell NewBand zero j k later others same here h = rw (sym same) h
top_same p e f NewCell NewBand (suc lift) j k later others same here h = h
top_same p e f NewCell NewCell zero j k later others same here h = rw (sym same) h
top_same p e f NewCell NewCell (suc lift) j k later others same here h = h
top_same p e f NewCell Over lift j k later others same here h = top_over p e f NewCell lift j k later others here h
top_same p e f Over NewPlate zero j k later others same here h = rw (sym same) h
top_same p e f Over NewPlate (suc lift) j k later others same here h = h
top_same p e f Over NewStrip zero j k later others same here h = rw (sym same) h
top_same p e f Over NewStrip (suc lift) j k later others same here h = h
top_same p e f Over NewBand zero j k later others same here h = rw (sym same) h
top_same p e f Over NewBand (suc lift) j k later others same here h = h
top_same p e f Over NewCell zero j k later others same here h = rw (sym same) h
top_same p e f Over NewCell (suc lift) j k later others same here h = h
top_same p e f Over Over lift j k later others same here h = top_over p e f Over lift j k later others here h

-- a step looks ahead no further than to the next strip
step_same : (b : Problem) (e f : Bool) (r : Reason) (m : Level) (j : Known) (p : Level) (k : Known) (ls : List Level) (l : Level) (ms ns : List Level) → StartsStrip l → FactOf b e r m j p k (ls ++ l ∷ ms) → FactOf b f r m j p k (ls ++ l ∷ ns)
step_same b e f Reason.R1 m j p k ls l ms ns s h = h
step_same b e f Reason.R2 m j p k ls l ms ns s h =
    elim h [
      | inl strip ↦ inl (strip_same b e f p j k (ls ++ l ∷ ms) (ls ++ l ∷ ns) (strip_ahead e f ls l ms ns s) strip)
      | inr other ↦
          inr (elim other [
            | inl band ↦ inl (band_same b.params e f p j k (ls ++ l ∷ ms) (ls ++ l ∷ ns) (band_ahead e f ls l ms ns s) band)
            | inr rest ↦
                inr (elim rest [
                  | inl cell ↦ inl (cell_same b.params e f p j k (ls ++ l ∷ ms) (ls ++ l ∷ ns) (cell_ahead e f ls l ms ns s) cell)
                  | inr top ↦ inr (top_same b.params e f m p k.draw.lift j k (ls ++ l ∷ ms) (ls ++ l ∷ ns) (in_ahead e f ls l ms ns s) (in_ahead true true ls l ms ns s) top)
                ])
          ])
    ]
step_same b e f Reason.R3 m j p k ls l ms ns s h = h
step_same b e f Reason.R4 m j p k ls l ms ns s h = h
step_same b e f Reason.R5 m j p k ls l ms ns s h = h
step_same b e f Reason.R6 m j p k ls l ms ns s h = h
step_same b e f Reason.R7 m j p k ls l ms ns s h = h

-- so what is seen before a strip does not hang on it
pub among_same : (b : Problem) (e f : Bool) (r : Reason) (m : Level) (j : Known) (xs : List Fixed) (l : Level) (k i : Known) (ys zs : List Fixed) (n : ℕ) → StartsStrip l → n ≤ length xs →
    AmongFixed (FactOf b e r) m j (xs ++ fixed l k ∷ ys) n → AmongFixed (FactOf b f r) m j (xs ++ fixed l i ∷ zs) n
among_same b e f r m j xs l k i ys zs zero s le h = absurd h
among_same b e f r m j [] l k i ys zs (suc n) s le h = absurd (omega (arith, le))
among_same b e f r m j (fixed p q ∷ xs) l k i ys zs (suc n) s le h =
    elim h [
      | inl now ↦
          inl (subst (λ (ls : List Level). FactOf b f r m j p q ls) (sym (levels_parts xs (fixed l i ∷ zs)))
          (step_same b e f r m j p q (fixed_levels xs) l (fixed_levels ys) (fixed_levels zs) s (subst (λ (ls : List Level). FactOf b e r m j p q ls) (levels_parts xs (fixed l k ∷ ys)) now)))
      | inr later ↦ inr (among_same b e f r p q xs l k i ys zs n s (omega (arith, le)) later)
    ]

taken_from : {X : Type 0} (xs ys : List X) (i n : ℕ) (d : X) → i < n → take n xs ≡ take n ys → get_or xs i d ≡ get_or ys i d
taken_from {X = X} xs ys i n d lt e = sym (get_or-take n xs i d lt) ∙ ap (λ (zs : List X). get_or zs i d) e ∙ get_or-take n ys i d lt

early_level : (xs ys : List Kept) (i : ℕ) → map early_fixed xs ≡ map early_fixed ys → (get_or xs i blank).level ≡ (get_or ys i blank).level
early_level [] [] i e = refl
early_level [] (y ∷ ys) i e = absurd (cc e)
early_level (x ∷ xs) [] i e = absurd (cc e)
early_level (x ∷ xs) (y ∷ ys) zero e = cc
early_level (x ∷ xs) (y ∷ ys) (suc i) e = let later : map early_fixed xs ≡ map early_fixed ys = cc in early_level xs ys i later

-- what is new from a place on, and what is settled from the strip of the step before it on
pub shared_from : (old ext new : List Kept) (many from start count : ℕ) → from ≤ many → from ≤ count → start ≤ from →
    (start ≡ 0) ⊎ ((start < from) × StartsStrip (get_or (take from old) start blank).level) →
    take from ext ≡ take from old → take start new ≡ take start ext → map early_fixed new ≡ map early_fixed ext → AreShared start many count old new
shared_from old ext new many from start count le few before at kept same early =
    let shared : take start new ≡ take start old = same ∙ sym (take-take start from ext before) ∙ ap (take start) kept ∙ take-take start from old before in
    record {
      in_old = omega (arith, le, before);
      in_new = omega (arith, few, before);
      same = shared;
      strip = elim at [
        | inl none ↦ inl none
        | inr here ↦
            let there : get_or (take from old) start blank ≡ get_or old start blank = get_or-take from old start blank here.0 in
            let level : (get_or new start blank).level ≡ (get_or old start blank).level =
            early_level new ext start early ∙ ap (λ (k : Kept). k.level) (taken_from ext old start from blank here.0 kept) in
            inr (omega (arith, here.0, le), omega (arith, here.0, few), level, subst (λ (k : Kept). StartsStrip k.level) there here.1)
      ];
    }

pub late_from : (old new : List Kept) (start many count : ℕ) → AreShared start many count old new → many ≤ length old → count ≤ length new → map late_fixed (take many old) ≡ settle (map early_fixed (take many old)) →
    map late_fixed (take (count - start) (drop start new)) ≡ settle (map early_fixed (take (count - start) (drop start new))) → map late_fixed (take count new) ≡ settle (map early_fixed (take count new))
late_from old new start many count h le few settled later =
    let at_old : AtStrip start many old = elim h.strip [
      | inl none ↦ inl none
      | inr here ↦ inr (here.0, here.3)
    ] in
    let at_new : AtStrip start count new = elim h.strip [
      | inl none ↦ inl none
      | inr here ↦ inr (here.1, subst StartsStrip (sym here.2) here.3)
    ] in
    settled_whole new start count few h.in_new at_new
    (subst (λ (xs : List Kept). map late_fixed xs ≡ settle (map early_fixed xs)) (sym h.same) (settled_prefix old start many le h.in_old at_old settled)) later

parts_at : (xs : List Kept) (start count : ℕ) → count ≤ length xs → start < count →
    map late_fixed (take count xs) ≡ map late_fixed (take start xs) ++ (late_fixed (get_or xs start blank) ∷ map late_fixed (take (count - (start + 1)) (drop (start + 1) xs)))
parts_at xs start count le lt =
    ap (map late_fixed) (split_taken start (count - start) count xs (omega arith) ∙ ap (λ (ys : List Kept). take start xs ++ ys) (segment_more xs start count blank lt le))
    ∙ map-append late_fixed (take start xs) (get_or xs start blank ∷ take (count - (start + 1)) (drop (start + 1) xs))

-- what was seen before a strip is still seen
pub seen_kept : (b : Problem) (e f : Bool) (old new : List Kept) (start many count : ℕ) (seen : List (Option Reason)) → AreShared start many count old new → many ≤ length old → count ≤ length new →
    AreSeen b e (map late_fixed (take many old)) seen many → AreSeen b f (map late_fixed (take count new)) seen start
seen_kept b e f old new start many count seen h le few was i lt = elim h.strip [
  | inl none ↦ absurd (omega (arith, none, lt))
  | inr here ↦
      let xs : List Fixed = map late_fixed (take start old) in
      let k : Known = late (get_or old start blank) in
      let j : Known = late (get_or new start blank) in
      let l : Level = (get_or old start blank).level in
      let ys : List Fixed = map late_fixed (take (many - (start + 1)) (drop (start + 1) old)) in
      let zs : List Fixed = map late_fixed (take (count - (start + 1)) (drop (start + 1) new)) in
      let olds : map late_fixed (take many old) ≡ xs ++ (fixed l k ∷ ys) = parts_at old start many le here.0 in
      let news : map late_fixed (take count new) ≡ xs ++ (fixed l j ∷ zs) =
      parts_at new start count few here.1 ∙ ap (λ (ps : List Kept). map late_fixed ps ++ (late_fixed (get_or new start blank) ∷ zs)) h.same ∙ ap (λ (m : Level). xs ++ (fixed m j ∷ zs)) here.2 in
      let inside : suc i ≤ length xs = omega (arith, lt, length-map (take start old) late_fixed, length-take-le start old (omega (arith, here.0, le))) in
      let there = subst (λ (ks : List Fixed). IsFirstIfAny (λ r. AmongFixed (FactOf b e r) NewPlate no_known ks (suc i)) (get_or seen i None)) olds (was i (omega (arith, lt, here.0))) in
      subst (λ (ks : List Fixed). IsFirstIfAny (λ r. AmongFixed (FactOf b f r) NewPlate no_known ks (suc i)) (get_or seen i None)) (sym news)
      (first_same (λ r. AmongFixed (FactOf b e r) NewPlate no_known (xs ++ (fixed l k ∷ ys)) (suc i)) (λ r. AmongFixed (FactOf b f r) NewPlate no_known (xs ++ (fixed l j ∷ zs)) (suc i)) (get_or seen i None)
      (λ r. (among_same b e f r NewPlate no_known xs l k j ys zs (suc i) here.3 inside, among_same b f e r NewPlate no_known xs l j k zs ys (suc i) here.3 inside)) there)
]
