-- Whether a trace meets the rules is decided.
use Rattle.std.proofs.Common.{◌≡◌, ℕ, zero, suc, ◌+◌, ◌-◌, ◌<◌, ◌≤◌, ◌⊎◌, inl, inr, List, [], ◌∷◌, Option, Some, None, IsSome, All, Bool, true, false, IsTrue, refl, sym, ◌∙◌, arith}
use Rattle.std.specs.List.{list_any}
use Rattle.std.proofs.lemmas.Bool.{cases_lt, cases_order, cases_Bool, false≢true}
use Rattle.std.proofs.lemmas.List.Folds.{list_any_at}
use Rattle.glass_base.specs.declared.params.Params.{Params}
use Rattle.glass_base.specs.declared.item.Defect.{Defect}
use Rattle.glass_base.specs.Defects.{hits, crosses_x, crosses_y}
use Rattle.glass_base.specs.Plates.{Width}
use Rattle.glass_base.specs.Problem.{Problem}
use Rattle.cut_model.specs.declared.steps.Step.{Step}
use Rattle.defect_map.specs.Queries.{CrossesNoneX, CrossesNoneY}
use Rattle.plan_trace.specs.declared.level.Level.{Level}
use Rattle.plan_trace.specs.declared.level.Level.TheVariants.{NewPlate, NewStrip, NewBand, NewCell, Over}
use Rattle.plan_trace.specs.Marks.{Cut, no_cut, Spot, spot, spots, levels}
use Rattle.plan_trace.specs.TraceRules.{Gap, TR4, TR5, TR6, TR7, TR9, Inherits, StripFits, BandFits, CellFits, AloneFits, LiftLine, bottom, Rules, EachStep, Meets, is_last_strip, is_last_band, is_last_cell, is_last_in_cell}
use Rattle.plan_box.proofs.Refute.{clash}

abbrev pub Dec : Type 0 → Type 0
Dec A = A ⊎ ¬ A

dec_le : (m n : ℕ) → Dec (m ≤ n)
dec_le m n =
    elim (cases_lt n m) [
      | inl less ↦ inr (λ le. omega (arith, less, le))
      | inr le ↦ inl le
    ]

dec_eq : (m n : ℕ) → Dec (m ≡ n)
dec_eq m n =
    elim (cases_order m n) [
      | inl same ↦ inl same
      | inr (inl less) ↦ inr (λ same. omega (arith, less, same))
      | inr (inr more) ↦ inr (λ same. omega (arith, more, same))
    ]

dec_true : (x : Bool) → Dec (IsTrue x)
dec_true true = inl refl
dec_true false = inr (λ e. cc)

dec_some : {A : Type 0} (o : Option A) → Dec (IsSome o)
dec_some None = inr (λ e. cc)
dec_some (Some x) = inl refl

dec_and : {A B : Type 0} → Dec A → Dec B → Dec (A × B)
dec_and (inl a) (inl b) = inl (a, b)
dec_and (inl a) (inr never) = inr (λ h. never h.1)
dec_and (inr never) b = inr (λ h. never h.0)

dec_or : {A B : Type 0} → Dec A → Dec B → Dec (A ⊎ B)
dec_or (inl a) b = inl (inl a)
dec_or (inr never) (inl b) = inl (inr b)
dec_or (inr never) (inr neither) = inr (λ h. elim h [ inl a ↦ never a | inr b ↦ neither b ])

dec_then : {A B : Type 0} → Dec A → Dec B → Dec (A → B)
dec_then a (inl b) = inl (λ _. b)
dec_then (inl a) (inr never) = inr (λ f. never (f a))
dec_then (inr none) (inr never) = inl (λ a. absurd (none a))

dec_not : {A : Type 0} → Dec A → Dec (¬ A)
dec_not (inl a) = inr (λ never. never a)
dec_not (inr never) = inl never

dec_by : {A B : Type 0} → (A → B) → (B → A) → Dec A → Dec B
dec_by f g (inl a) = inl (f a)
dec_by f g (inr never) = inr (λ b. never (g b))

dec_three : {A B C : Type 0} → Dec A → Dec B → Dec C → Dec (A × B × C)
dec_three a b c = dec_by (λ h. (h.0, h.1.0, h.1.1)) (λ h. (h.0, (h.1, h.2))) (dec_and a (dec_and b c))

dec_four : {A B C D : Type 0} → Dec A → Dec B → Dec C → Dec D → Dec (A × B × C × D)
dec_four a b c d = dec_by (λ h. (h.0.0, h.0.1, h.1.0, h.1.1)) (λ h. ((h.0, h.1), (h.2, h.3))) (dec_and (dec_and a b) (dec_and c d))

dec_five : {A B C D E : Type 0} → Dec A → Dec B → Dec C → Dec D → Dec E → Dec (A × B × C × D × E)
dec_five a b c d e = dec_by (λ h. (h.0.0, h.0.1, h.1.0, h.1.1.0, h.1.1.1)) (λ h. ((h.0, h.1), (h.2, (h.3, h.4)))) (dec_and (dec_and a b) (dec_and c (dec_and d e)))

dec_none : {A : Type 0} (p : A → Bool) (xs : List A) → Dec (All (λ x. ¬ IsTrue (p x)) xs)
dec_none p xs =
    elim (cases_Bool (list_any p xs)) [
      | inl some ↦ inr (clash p p xs (λ x h. h) some)
      | inr none ↦ inl (λ k d lt hit. false≢true (sym none ∙ list_any_at p xs k d lt hit))
    ]

dec_over : (m : Level) → Dec (m ≡ Over)
dec_over NewPlate = inr (λ e. cc)
dec_over NewStrip = inr (λ e. cc)
dec_over NewBand = inr (λ e. cc)
dec_over NewCell = inr (λ e. cc)
dec_over Over = inl refl

dec_gap : (waste from to : ℕ) → Dec (Gap waste from to)
dec_gap waste from to = dec_or (dec_eq from to) (dec_le (from + waste) to)

dec_inherits : (l : Level) (t s : Cut) → Dec (Inherits l t s)
dec_inherits NewPlate t s = inl tt
dec_inherits NewStrip t s = inl tt
dec_inherits NewBand t s = dec_and (dec_eq s.a t.a) (dec_eq s.b t.b)
dec_inherits NewCell t s = dec_four (dec_eq s.a t.a) (dec_eq s.b t.b) (dec_eq s.c t.c) (dec_eq s.d t.d)
dec_inherits Over t s = dec_five (dec_eq s.a t.a) (dec_eq s.b t.b) (dec_eq s.c t.c) (dec_eq s.d t.d) (dec_eq s.e t.e)

dec_strip : (b : Problem) (from : ℕ) (s : Cut) (later : List Spot) → Dec (StripFits b from s later)
dec_strip b from s later =
    dec_five (dec_gap b.params.waste from s.a) (dec_le (s.a + b.params.min1) s.b) (dec_le s.b (s.a + b.params.max1)) (dec_le s.b (Width b s.plate)) (dec_then (dec_true (is_last_strip true (levels later))) (dec_gap b.params.waste s.b (Width b s.plate)))

dec_band : (p : Params) (from : ℕ) (s : Cut) (later : List Spot) → Dec (BandFits p from s later)
dec_band p from s later =
    dec_four (dec_gap p.waste from s.c) (dec_le (s.c + p.min2) s.d) (dec_le s.d p.height) (dec_then (dec_true (is_last_band true (levels later))) (dec_gap p.waste s.d p.height))

dec_cell : (p : Params) (from : ℕ) (s : Cut) (later : List Spot) → Dec (CellFits p from s later)
dec_cell p from s later = dec_and (dec_gap p.waste from s.e) (dec_then (dec_true (is_last_cell true (levels later))) (dec_gap p.waste (s.e + s.cell_w) s.b))

dec_tr4 : (b : Problem) (l : Level) (t s : Cut) (later : List Spot) → Dec (TR4 b l t s later)
dec_tr4 b NewPlate t s later = dec_strip b 0 s later
dec_tr4 b NewStrip t s later = dec_strip b t.b s later
dec_tr4 b NewBand t s later = inl tt
dec_tr4 b NewCell t s later = inl tt
dec_tr4 b Over t s later = inl tt

dec_tr5 : (p : Params) (l : Level) (t s : Cut) (later : List Spot) → Dec (TR5 p l t s later)
dec_tr5 p NewPlate t s later = dec_band p 0 s later
dec_tr5 p NewStrip t s later = dec_band p 0 s later
dec_tr5 p NewBand t s later = dec_band p t.d s later
dec_tr5 p NewCell t s later = inl tt
dec_tr5 p Over t s later = inl tt

dec_tr6 : (p : Params) (l : Level) (t s : Cut) (later : List Spot) → Dec (TR6 p l t s later)
dec_tr6 p NewPlate t s later = dec_cell p s.a s later
dec_tr6 p NewStrip t s later = dec_cell p s.a s later
dec_tr6 p NewBand t s later = dec_cell p s.a s later
dec_tr6 p NewCell t s later = dec_cell p (t.e + t.cell_w) s later
dec_tr6 p Over t s later = inl tt

dec_alone : (p : Params) (lift : ℕ) (s : Cut) → Dec (AloneFits p lift s)
dec_alone p zero s = dec_or (dec_eq (s.c + s.h) s.d) (dec_and (dec_le (s.c + s.h + p.waste) s.d) (dec_le p.waste s.w))
dec_alone p (suc lift) s = dec_and (dec_le (s.c + s.h + p.waste) s.d) (dec_le p.waste s.w)

dec_last : (p : Params) (s : Cut) (later : List Spot) → Dec (IsTrue (is_last_in_cell true (levels later)) → AloneFits p s.draw.lift s)
dec_last p s later = dec_then (dec_true (is_last_in_cell true (levels later))) (dec_alone p s.draw.lift s)

dec_tr7 : (p : Params) (m l : Level) (t s : Cut) (later : List Spot) → Dec (TR7 p m l t s later)
dec_tr7 p m Over t s later = dec_five (dec_eq s.draw.lift 0) (dec_eq s.w t.w) (dec_eq t.draw.lift 0) (dec_not (dec_over m)) (dec_eq (s.c + (t.h + s.h)) s.d)
dec_tr7 p m NewPlate t s later = dec_last p s later
dec_tr7 p m NewStrip t s later = dec_last p s later
dec_tr7 p m NewBand t s later = dec_last p s later
dec_tr7 p m NewCell t s later = dec_last p s later

dec_x : (ds : List Defect) (plate x from to : ℕ) → Dec (CrossesNoneX ds plate x from to)
dec_x ds plate x from to = dec_none (crosses_x plate x from to) ds

dec_y : (ds : List Defect) (plate y from to : ℕ) → Dec (CrossesNoneY ds plate y from to)
dec_y ds plate y from to = dec_none (crosses_y plate y from to) ds

dec_upper : (ds : List Defect) (s : Cut) → Dec (s.c + s.h < s.d → CrossesNoneY ds s.plate (s.c + s.h) s.e (s.e + s.w))
dec_upper ds s = dec_then (dec_le (suc (s.c + s.h)) s.d) (dec_y ds s.plate (s.c + s.h) s.e (s.e + s.w))

dec_lift : (ds : List Defect) (l : Level) (lift : ℕ) (s : Cut) → Dec (LiftLine ds l lift s)
dec_lift ds Over zero s = inl tt
dec_lift ds NewPlate zero s = dec_upper ds s
dec_lift ds NewStrip zero s = dec_upper ds s
dec_lift ds NewBand zero s = dec_upper ds s
dec_lift ds NewCell zero s = dec_upper ds s
dec_lift ds NewPlate (suc lift) s = dec_y ds s.plate (s.d - s.h) s.e (s.e + s.w)
dec_lift ds NewStrip (suc lift) s = dec_y ds s.plate (s.d - s.h) s.e (s.e + s.w)
dec_lift ds NewBand (suc lift) s = dec_y ds s.plate (s.d - s.h) s.e (s.e + s.w)
dec_lift ds NewCell (suc lift) s = dec_y ds s.plate (s.d - s.h) s.e (s.e + s.w)
dec_lift ds Over (suc lift) s = dec_y ds s.plate (s.d - s.h) s.e (s.e + s.w)

dec_tr9 : (b : Problem) (ds : List Defect) (l : Level) (s : Cut) → Dec (TR9 b ds l s)
dec_tr9 b ds l s =
    dec_by
    (λ h. record { at_a = h.0; at_b = h.1.0; at_c = h.1.1.0; at_d = h.1.1.1.0; at_e = h.1.1.1.1.0; at_end = h.1.1.1.1.1.0; at_lift = h.1.1.1.1.1.1 })
    (λ r. (r.at_a, (r.at_b, (r.at_c, (r.at_d, (r.at_e, (r.at_end, r.at_lift)))))))
    (dec_and (dec_then (dec_le 1 s.a) (dec_x ds s.plate s.a 0 b.params.height))
    (dec_and (dec_then (dec_le (suc s.b) (Width b s.plate)) (dec_x ds s.plate s.b 0 b.params.height))
    (dec_and (dec_then (dec_le 1 s.c) (dec_y ds s.plate s.c s.a s.b))
    (dec_and (dec_then (dec_le (suc s.d) b.params.height) (dec_y ds s.plate s.d s.a s.b))
    (dec_and (dec_then (dec_le (suc s.a) s.e) (dec_x ds s.plate s.e s.c s.d))
    (dec_and (dec_then (dec_le (suc (s.e + s.w)) s.b) (dec_x ds s.plate (s.e + s.w) s.c s.d)) (dec_lift ds l s.draw.lift s)))))))

dec_rules : (b : Problem) (m : Level) (t : Cut) (l : Level) (s : Cut) (later : List Spot) → Dec (Rules b m t l s later)
dec_rules b m t l s later =
    dec_by
    (λ h. record { tr1 = h.0; tr2 = h.1.0; tr3 = h.1.1.0; tr4 = h.1.1.1.0; tr5 = h.1.1.1.1.0; tr6 = h.1.1.1.1.1.0; tr7 = h.1.1.1.1.1.1.0; tr8 = h.1.1.1.1.1.1.1.0; tr9 = h.1.1.1.1.1.1.1.1 })
    (λ r. (r.tr1, (r.tr2, (r.tr3, (r.tr4, (r.tr5, (r.tr6, (r.tr7, (r.tr8, r.tr9)))))))))
    (dec_and (dec_three (dec_le 1 s.plates) (dec_le s.plates b.params.plates) (dec_le s.draw.kind 4))
    (dec_and (dec_some s.item)
    (dec_and (dec_four (dec_le s.draw.turn 1) (dec_le s.draw.lift 1) (dec_then (dec_eq s.w s.h) (dec_eq s.draw.turn 0)) (dec_inherits l t s))
    (dec_and (dec_tr4 b l t s later)
    (dec_and (dec_tr5 b.params l t s later)
    (dec_and (dec_tr6 b.params l t s later)
    (dec_and (dec_tr7 b.params m l t s later)
    (dec_and (dec_none (hits s.plate s.e (bottom l s.draw.lift s.c s.d s.h) (s.e + s.w) (bottom l s.draw.lift s.c s.d s.h + s.h)) b.defects) (dec_tr9 b b.defects l s)))))))))

dec_each : (b : Problem) (m : Level) (t : Cut) (later : List Spot) → Dec (EachStep (Rules b) m t later)
dec_each b m t [] = inl tt
dec_each b m t (spot l s ∷ later) = dec_and (dec_rules b m t l s later) (dec_each b l s later)

pub meets_decided : (b : Problem) (ss : List Step) → Dec (Meets b ss)
meets_decided b ss = dec_each b NewPlate no_cut (spots b ss)
