-- The first reason that is a fact at some decided step, step by step.
use Rattle.std.proofs.Common.{subst, ◌≡◌, ℕ, zero, suc, ◌+◌, ◌-◌, ◌<◌, ◌≤◌, ◌⊎◌, ◌↔◌, Bool, true, false, List, [], ◌∷◌, length, map, drop, take, get_or, refl, ap, sym, ◌∙◌, inl, inr, arith, Option, Some, None, cond, nat_lt, rules, tests}
use Rattle.std.proofs.Math.ListN.{set}
use Rattle.std.proofs.lemmas.Bool.{cases_lt}
use Rattle.std.proofs.lemmas.Grind.{get_or-set_at}
use Rattle.std.proofs.lemmas.List.{get_or-set_other, get_or-take, length-map, drop_more, drop-map}
use Rattle.glass_base.specs.Problem.{Problem}
use Rattle.plan_trace.specs.declared.level.Level.{Level}
use Rattle.plan_trace.specs.declared.level.Level.TheVariants.{NewPlate}
use Rattle.plan_trace.specs.Marks.{Draw, begins, level_of, place_of}
use Rattle.plan_box.specs.Decisions.{all_decided, draw_at}
use Rattle.plan_box.specs.Ranges.{Ranges}
use Rattle.plan_box.specs.declared.packed.Packed.{Packed}
use Rattle.plan_box.specs.declared.reason.Reason.{Reason}
use Rattle.plan_box.specs.Leasts.{Known, Fixed, fixed, known, next_known, no_known}
use Rattle.plan_box.specs.Packed.{unpacked}
use Rattle.plan_box.specs.Reasons.{AtSome, SomeFixed, fixed_levels, reason_number}
use Rattle.box_bound.specs.declared.kept.Kept.{Kept}
use Rattle.box_bound.specs.Kept.{early_fixed, late_fixed}
use Rattle.plan_box.specs.Follows.{follow}
use Rattle.box_bound.specs.inner.Drawn.{HaveLevels, levels_of}
use Rattle.box_bound.specs.Seen.{AmongFixed, AreSeen, before_fixed, IsFirstIfAny, earlier}
use Rattle.plan_box.specs.Facts.{FactOf}

abbrev pub Reasoning : Type 1
Reasoning = Level → Known → Level → Known → List Level → Type 0

follow_levels : (b : Problem) (d : Draw) (before : List Draw) (k : Known) (steps : List Kept) (ranges : List Packed) →
    map early_fixed steps ≡ follow b (d ∷ before) k (map unpacked ranges) → levels_of ranges ≡ map (λ (x : Kept). x.level) steps
follow_levels b d before k [] [] e = refl
follow_levels b d before k [] (r ∷ ranges) e = absurd (cc e)
follow_levels b d before k (x ∷ steps) [] e = absurd (cc e)
follow_levels b d before k (x ∷ steps) (r ∷ ranges) e =
    let l : Level = begins (d ∷ before) (unpacked r).kind.low in
    let n : Known = next_known b l (place_of b (d ∷ before) k.place (draw_at (unpacked r))) k (unpacked r) in
    let here : early_fixed x ≡ fixed l n = cc in
    let level : x.level ≡ l = cc in
    let later : map early_fixed steps ≡ follow b (draw_at (unpacked r) ∷ d ∷ before) n (map unpacked ranges) = cc in
    let rest = follow_levels b (draw_at (unpacked r)) (d ∷ before) n steps ranges later in
    ap (λ (ls : List Level). l ∷ ls) rest ∙ ap (λ (m : Level). m ∷ map (λ (y : Kept). y.level) steps) (sym level)

-- behind the first step each begins what its ranges say
pub have_levels : (b : Problem) (steps : List Kept) (ranges : List Packed) → map early_fixed steps ≡ follow b [] no_known (map unpacked ranges) → HaveLevels steps ranges
have_levels b steps ranges e = record { later = by steps ranges e }
  where
    by : (xs : List Kept) (rs : List Packed) → map early_fixed xs ≡ follow b [] no_known (map unpacked rs) → (i : ℕ) → 1 ≤ i → levels_of (drop i rs) ≡ map (λ (k : Kept). k.level) (drop i xs)
    by xs rs f zero some = absurd (omega (arith, some))
    by [] [] f (suc i) some = refl
    by [] (r ∷ rs) f (suc i) some = absurd (cc f)
    by (x ∷ xs) [] f (suc i) some = absurd (cc f)
    by (x ∷ xs) (r ∷ rs) f (suc i) some =
        let l : Level = begins [] (unpacked r).kind.low in
        let n : Known = next_known b l (place_of b [] no_known.place (draw_at (unpacked r))) no_known (unpacked r) in
        let later : map early_fixed xs ≡ follow b (draw_at (unpacked r) ∷ []) n (map unpacked rs) = cc in
        sym (drop-map (λ (q : Packed). level_of (unpacked q).kind.low) i rs)
        ∙ ap (drop i) (follow_levels b (draw_at (unpacked r)) [] n xs rs later)
        ∙ drop-map (λ (k : Kept). k.level) i xs

pub late_at : (steps : List Kept) (i : ℕ) (d : Kept) → i < length steps → drop i (map late_fixed steps) ≡ late_fixed (get_or steps i d) ∷ map late_fixed (drop (i + 1) steps)
late_at steps i d lt = drop-map late_fixed i steps ∙ ap (map late_fixed) (drop_more steps i d lt)

abbrev pub Between : Reasoning → Fixed → Fixed → List Level → Type 0
Between R (fixed m j) (fixed l k) later = R m j l k later

-- one more step
pub among_more : (R : Reasoning) (m : Level) (j : Known) (ks : List Fixed) (i : ℕ) (y : Fixed) (rest : List Fixed) → drop i ks ≡ y ∷ rest →
    (AmongFixed R m j ks i ⊎ Between R (before_fixed (fixed m j) ks i) y (fixed_levels rest)) ↔ AmongFixed R m j ks (suc i)
among_more R m j [] zero y rest e = absurd (cc e)
among_more R m j (fixed l k ∷ ks) zero y rest e =
    let here : y ≡ fixed l k = cc in
    let later : rest ≡ ks = cc in
    rw (here, later) (
      (λ h. elim h [
        | inl none ↦ absurd none
        | inr now ↦ inl now
      ]),
      (λ h. elim h [
        | inl now ↦ inr now
        | inr none ↦ absurd none
      ]),
    )
among_more R m j [] (suc i) y rest e = absurd (cc e)
among_more R m j (fixed l k ∷ ks) (suc i) y rest e =
    let more = among_more R l k ks i y rest e in (
      (λ h. elim h [
        | inl before ↦
            elim before [
              | inl now ↦ inl now
              | inr later ↦ inr (more.0 (inl later))
            ]
        | inr last ↦ inr (more.0 (inr last))
      ]),
      (λ h. elim h [
        | inl now ↦ inl (inl now)
        | inr later ↦
            elim (more.1 later) [
              | inl before ↦ inl (inr before)
              | inr last ↦ inr last
            ]
      ]),
    )

pub before_more : (x : Fixed) (ks : List Fixed) (i n : ℕ) (y : Fixed) (rest : List Fixed) → n ≡ suc i → drop i ks ≡ y ∷ rest → before_fixed x ks n ≡ y
before_more x ks i n y rest more e = rw more (by x ks i e)
  where
    by : (z : Fixed) (js : List Fixed) (j : ℕ) → drop j js ≡ y ∷ rest → before_fixed z js (suc j) ≡ y
    by z [] zero f = absurd (cc f)
    by z (k ∷ js) zero f = cc
    by z [] (suc j) f = absurd (cc f)
    by z (k ∷ js) (suc j) f = by k js j f

-- all steps
pub among_all : (R : Reasoning) (m : Level) (j : Known) (ks : List Fixed) → AmongFixed R m j ks (length ks) ↔ SomeFixed R m j ks
among_all R m j [] = ((λ h. h), (λ h. h))
among_all R m j (fixed l k ∷ ks) =
    let later = among_all R l k ks in (
      (λ h. elim h [
        | inl now ↦ inl now
        | inr more ↦ inr (later.0 more)
      ]),
      (λ h. elim h [
        | inl now ↦ inl now
        | inr more ↦ inr (later.1 more)
      ]),
    )

pub first_same : (P Q : Reason → Type 0) (x : Option Reason) → ((r : Reason) → P r ↔ Q r) → IsFirstIfAny P x → IsFirstIfAny Q x
first_same P Q None same h = λ r q. h r ((same r).1 q)
first_same P Q (Some reason) same h = ((same reason).0 h.0, λ other lt q. h.1 other lt ((same other).1 q))

pub first_or : (P Q : Reason → Type 0) (x y : Option Reason) → IsFirstIfAny P x → IsFirstIfAny Q y → IsFirstIfAny (λ r. P r ⊎ Q r) (earlier x y)
first_or P Q None None h g = λ r w. elim w [
  | inl p ↦ h r p
  | inr q ↦ g r q
]
first_or P Q None (Some y) h g = (
  inr g.0,
  λ other lt w. elim w [
    | inl p ↦ h other p
    | inr q ↦ g.1 other lt q
  ],
)
first_or P Q (Some x) None h g = (
  inl h.0,
  λ other lt w. elim w [
    | inl p ↦ h.1 other lt p
    | inr q ↦ g other q
  ],
)
first_or P Q (Some x) (Some y) h g = by (nat_lt (reason_number y) (reason_number x)) (λ e. search (rules, tests)) (λ e. search (rules, tests))
  where
    by : (less : Bool) → (less ≡ true → reason_number y < reason_number x) → (less ≡ false → reason_number x ≤ reason_number y) → IsFirstIfAny (λ r. P r ⊎ Q r) (cond less (Some y) (Some x))
    by true lt le = (
      inr g.0,
      λ other below w. elim w [
        | inl p ↦ h.1 other (omega (arith, below, lt refl)) p
        | inr q ↦ g.1 other below q
      ],
    )
    by false lt le = (
      inl h.0,
      λ other below w. elim w [
        | inl p ↦ h.1 other below p
        | inr q ↦ g.1 other (omega (arith, below, le refl)) q
      ],
    )

-- one more step is looked at
pub seen_more : (R : Reason → Reasoning) (ks : List Fixed) (i n : ℕ) (last y : Fixed) (rest : List Fixed) (later : List Level) (found seen : Option Reason) → n ≡ suc i → drop i ks ≡ y ∷ rest →
    last ≡ before_fixed (fixed NewPlate no_known) ks i → later ≡ fixed_levels rest → IsFirstIfAny (λ r. AmongFixed (R r) NewPlate no_known ks i) found →
    IsFirstIfAny (λ r. Between (R r) last y later) seen → IsFirstIfAny (λ r. AmongFixed (R r) NewPlate no_known ks n) (earlier found seen)
seen_more R ks i n last y rest later found seen more e before ahead h g =
    rw more (
    first_same (λ r. AmongFixed (R r) NewPlate no_known ks i ⊎ Between (R r) last y later) (λ r. AmongFixed (R r) NewPlate no_known ks (suc i)) (earlier found seen)
    (λ r. rw (before, ahead) (among_more (R r) NewPlate no_known ks i y rest e))
    (first_or (λ r. AmongFixed (R r) NewPlate no_known ks i) (λ r. Between (R r) last y later) found seen h g)
    )

-- none of the reasons before one of this number
pub none_below : (P : Reason → Type 0) (n : ℕ) → (1 < n → ¬ P Reason.R1) → (2 < n → ¬ P Reason.R2) → (3 < n → ¬ P Reason.R3) → (4 < n → ¬ P Reason.R4) → (5 < n → ¬ P Reason.R5) → (6 < n → ¬ P Reason.R6) → n ≤ 7 →
    (other : Reason) → reason_number other < n → ¬ P other
none_below P n r1 r2 r3 r4 r5 r6 le Reason.R1 lt = r1 lt
none_below P n r1 r2 r3 r4 r5 r6 le Reason.R2 lt = r2 lt
none_below P n r1 r2 r3 r4 r5 r6 le Reason.R3 lt = r3 lt
none_below P n r1 r2 r3 r4 r5 r6 le Reason.R4 lt = r4 lt
none_below P n r1 r2 r3 r4 r5 r6 le Reason.R5 lt = r5 lt
none_below P n r1 r2 r3 r4 r5 r6 le Reason.R6 lt = r6 lt
none_below P n r1 r2 r3 r4 r5 r6 le Reason.R7 lt = absurd (omega (arith, lt, le))

-- what is seen at one more step is put
pub seen_put : (b : Problem) (whole : Bool) (ks : List Fixed) (seen : List (Option Reason)) (i n : ℕ) (found : Option Reason) → i < length seen → n ≡ suc i → AreSeen b whole ks seen i →
    IsFirstIfAny (λ r. AmongFixed (FactOf b whole r) NewPlate no_known ks n) found → AreSeen b whole ks (set seen i found) n
seen_put b whole ks seen i n found lt more before here j below =
    elim (cases_lt j i) [
      | inl less ↦ subst (λ (o : Option Reason). IsFirstIfAny (λ r. AmongFixed (FactOf b whole r) NewPlate no_known ks (suc j)) o) (sym (get_or-set_other seen i j found None (omega (arith, less)))) (before j less)
      | inr last ↦
          let same : j ≡ i = omega (arith, last, below, more) in
          let value : get_or (set seen i found) j None ≡ found = get_or-set_at seen i j found None same lt in
          let count : n ≡ suc j = omega (arith, more, same) in
          subst (λ (o : Option Reason). IsFirstIfAny (λ r. AmongFixed (FactOf b whole r) NewPlate no_known ks (suc j)) o) (sym value)
          (subst (λ (m : ℕ). IsFirstIfAny (λ r. AmongFixed (FactOf b whole r) NewPlate no_known ks m) found) count here)
    ]

-- what was seen up to the step before one
pub seen_start : (b : Problem) (whole : Bool) (ks : List Fixed) (seen : List (Option Reason)) (start : ℕ) (found : Option Reason) → AreSeen b whole ks seen start → (start ≡ 0 → found ≡ None) → (1 ≤ start → found ≡ get_or seen (start - 1) None) →
    IsFirstIfAny (λ r. AmongFixed (FactOf b whole r) NewPlate no_known ks start) found
seen_start b whole ks seen zero found before none some = rw (none refl) (λ r h. h)
seen_start b whole ks seen (suc start) found before none some =
    let last : suc start - 1 ≡ start = omega arith in
    let value : found ≡ get_or seen start None = some (omega arith) ∙ ap (λ (i : ℕ). get_or seen i None) last in
    subst (λ (o : Option Reason). IsFirstIfAny (λ r. AmongFixed (FactOf b whole r) NewPlate no_known ks (suc start)) o) (sym value) (before start (omega arith))

-- what was seen up to the last step
pub seen_last : (b : Problem) (rs : List Ranges) (whole : Bool) (steps : List Kept) (seen : List (Option Reason)) (found : Option Reason) → whole ≡ all_decided rs → map late_fixed steps ≡ known b rs →
    AreSeen b whole (map late_fixed steps) seen (length steps) → (length steps ≡ 0 → found ≡ None) → (1 ≤ length steps → found ≡ get_or seen (length steps - 1) None) → IsFirstIfAny (λ r. AtSome (FactOf b (all_decided rs) r) b rs) found
seen_last b rs whole steps seen found is values before none some =
    let ks : List Fixed = map late_fixed steps in
    let up : IsFirstIfAny (λ r. AmongFixed (FactOf b whole r) NewPlate no_known ks (length steps)) found = seen_start b whole ks seen (length steps) found before none some in
    let all : IsFirstIfAny (λ r. SomeFixed (FactOf b whole r) NewPlate no_known ks) found =
    first_same (λ r. AmongFixed (FactOf b whole r) NewPlate no_known ks (length ks)) (λ r. SomeFixed (FactOf b whole r) NewPlate no_known ks) found (λ r. among_all (FactOf b whole r) NewPlate no_known ks)
    (subst (λ (n : ℕ). IsFirstIfAny (λ r. AmongFixed (FactOf b whole r) NewPlate no_known ks n) found) (sym (length-map steps late_fixed)) up) in
    subst (λ (js : List Fixed). IsFirstIfAny (λ r. SomeFixed (FactOf b (all_decided rs) r) NewPlate no_known js) found) values
    (subst (λ (w : Bool). IsFirstIfAny (λ r. SomeFixed (FactOf b w r) NewPlate no_known ks) found) is all)

-- reasons of which only some are kept
pub seen_taken : (b : Problem) (e f : Bool) (ks : List Fixed) (seen : List (Option Reason)) (count many : ℕ) → e ≡ f → many ≡ count → AreSeen b e ks (take count seen) many → AreSeen b f ks seen count
seen_taken b e f ks seen count many same is h i lt =
    subst (λ (w : Bool). IsFirstIfAny (λ r. AmongFixed (FactOf b w r) NewPlate no_known ks (suc i)) (get_or seen i None)) same
    (subst (λ (o : Option Reason). IsFirstIfAny (λ r. AmongFixed (FactOf b e r) NewPlate no_known ks (suc i)) o) (get_or-take count seen i None lt) (h i (omega (arith, lt, is))))
