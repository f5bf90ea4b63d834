-- A box in which nothing that is looked at is free is a point.
use Rattle.std.proofs.Common.{◌≡◌, ℕ, ◌<◌, List, length, inl, inr, Bool, true, false, cond, refl, ap, ◌∙◌, arith, slice_index_or}
use Rattle.std.proofs.lemmas.Bool.{cases_lt, cases_order}
use Rattle.plan_trace.specs.declared.level.Level.{Level}
use Rattle.plan_box.specs.declared.var.Var.{Var}
use Rattle.plan_box.specs.Decisions.{IsPoint, decided, is_discrete, is_free, is_single, level_at, opens}
use Rattle.plan_box.specs.Packed.{unpacked}
use Rattle.plan_box.specs.Ranges.{Ranges, span_of}
use Rattle.box_bound.specs.Kept.{blank}
use Rattle.plan_box.proofs.Freed.{decided_is, later_free, next_is, past_free}

none_either : (single : Bool) → cond single false false ≡ false
none_either true = refl
none_either false = refl

opens_no_discrete : (l : Level) (v : Var) → is_discrete v ≡ true → opens l v ≡ false
opens_no_discrete l Var.Stack e = refl
opens_no_discrete l Var.Turn e = refl
opens_no_discrete l Var.Kind e = refl
opens_no_discrete l Var.Lift e = refl
opens_no_discrete l Var.A e = absurd (cc e)
opens_no_discrete l Var.B e = absurd (cc e)
opens_no_discrete l Var.C e = absurd (cc e)
opens_no_discrete l Var.D e = absurd (cc e)
opens_no_discrete l Var.E e = absurd (cc e)

any_kind : (v : Var) (P : Type 0) → (is_discrete v ≡ true → P) → (is_discrete v ≡ false → P) → P
any_kind v P discrete cut = by (is_discrete v) refl
  where
    by : (b : Bool) → is_discrete v ≡ b → P
    by true e = discrete e
    by false e = cut e

decided_closed : (rs : List Ranges) (step : ℕ) (v : Var) → step < length (decided rs) → is_discrete v ≡ true → is_free rs step v ≡ false
decided_closed rs step v lt e =
    let d : Ranges = unpacked blank.ranges in
    let here : Ranges = slice_index_or rs step d in
    decided_is rs step v d lt ∙ ap (λ opened. cond (is_single (span_of v here)) false opened) (opens_no_discrete (level_at step here.kind.low) v e) ∙ none_either (is_single (span_of v here))

next_closed : (rs : List Ranges) (step : ℕ) (v : Var) → step < length rs → step ≡ length (decided rs) → is_discrete v ≡ false → is_free rs step v ≡ false
next_closed rs step v lt same e =
    let d : Ranges = unpacked blank.ranges in
    let here : Ranges = slice_index_or rs step d in
    next_is rs step v d lt same ∙ ap (λ discrete. cond (is_single (span_of v here)) false discrete) e ∙ none_either (is_single (span_of v here))

-- no discrete number of the first undecided step is free, and no cut of a decided one
pub point_of : (rs : List Ranges) (n : ℕ) → n ≡ length (decided rs) → ((v : Var) → is_discrete v ≡ true → is_free rs n v ≡ false) →
    ((step : ℕ) → step < n → (v : Var) → is_discrete v ≡ false → is_free rs step v ≡ false) → IsPoint rs
point_of rs n count next cuts step v =
    elim (cases_order step n) [
      | inl same ↦ rw same (any_kind v (is_free rs n v ≡ false) (next v) (λ cut. elim (cases_lt n (length rs)) [
        | inl inside ↦ next_closed rs n v inside count cut
        | inr past ↦ past_free rs n v past
      ]))
      | inr other ↦
          elim other [
            | inl before ↦ any_kind v (is_free rs step v ≡ false) (decided_closed rs step v (omega (arith, before, count))) (cuts step before v)
            | inr behind ↦ later_free rs step v (omega (arith, behind, count))
          ]
    ]

pub discrete_none : (rs : List Ranges) (step : ℕ) → is_free rs step Var.Stack ≡ false → is_free rs step Var.Turn ≡ false → is_free rs step Var.Kind ≡ false → is_free rs step Var.Lift ≡ false →
    (v : Var) → is_discrete v ≡ true → is_free rs step v ≡ false
discrete_none rs step s t k l Var.Stack e = s
discrete_none rs step s t k l Var.Turn e = t
discrete_none rs step s t k l Var.Kind e = k
discrete_none rs step s t k l Var.Lift e = l
discrete_none rs step s t k l Var.A e = absurd (cc e)
discrete_none rs step s t k l Var.B e = absurd (cc e)
discrete_none rs step s t k l Var.C e = absurd (cc e)
discrete_none rs step s t k l Var.D e = absurd (cc e)
discrete_none rs step s t k l Var.E e = absurd (cc e)

pub cut_none : (rs : List Ranges) (step : ℕ) → is_free rs step Var.A ≡ false → is_free rs step Var.B ≡ false → is_free rs step Var.C ≡ false → is_free rs step Var.D ≡ false → is_free rs step Var.E ≡ false →
    (v : Var) → is_discrete v ≡ false → is_free rs step v ≡ false
cut_none rs step a b c d e Var.Stack f = absurd (cc f)
cut_none rs step a b c d e Var.Turn f = absurd (cc f)
cut_none rs step a b c d e Var.Kind f = absurd (cc f)
cut_none rs step a b c d e Var.Lift f = absurd (cc f)
cut_none rs step a b c d e Var.A f = a
cut_none rs step a b c d e Var.B f = b
cut_none rs step a b c d e Var.C f = c
cut_none rs step a b c d e Var.D f = d
cut_none rs step a b c d e Var.E f = e
