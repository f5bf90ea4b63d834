-- The draws of decided steps, by their ranges.
use Rattle.std.proofs.Common.{◌≡◌, ℕ, ◌+◌, ◌<◌, ◌≤◌, List, [], ◌∷◌, ◌++◌, length, map, take, get_or, refl, ap, ◌∙◌, arith}
use Rattle.std.proofs.lemmas.List.{take_more}
use Rattle.plan_trace.specs.declared.level.Level.TheVariants.{NewPlate}
use Rattle.plan_trace.specs.Marks.{level_of, Draw, begins}
use Rattle.plan_box.specs.Decisions.{draw_at}
use Rattle.plan_box.specs.declared.packed.Packed.{Packed}
use Rattle.plan_box.specs.Packed.{unpacked}
use Rattle.plan_box.specs.Ranges.{Ranges}
use Rattle.plan_box.specs.Follows.{draws_before, draws_of}

-- one more step before others
push_draw : (ranges : List Packed) (r : Packed) (done : List Draw) → draws_before (ranges ++ r ∷ []) done ≡ draw_at (unpacked r) ∷ draws_before ranges done
push_draw [] r done = refl
push_draw (x ∷ ranges) r done = push_draw ranges r (draw_at (unpacked x) ∷ done)

pub draws_more : (ranges : List Packed) (i : ℕ) (d : Packed) → i < length ranges → draws_of (take (i + 1) ranges) ≡ draw_at (unpacked (get_or ranges i d)) ∷ draws_of (take i ranges)
draws_more ranges i d lt = ap draws_of (take_more ranges i d lt) ∙ push_draw (take i ranges) (get_or ranges i d) []

pub draws_none : (ranges : List Packed) (kind : ℕ) → length ranges ≡ 0 → begins (draws_of ranges) kind ≡ NewPlate
draws_none [] kind e = refl
draws_none (r ∷ ranges) kind e = absurd (omega (arith, e))

begun_later : (ranges : List Packed) (x : Draw) (done : List Draw) (kind : ℕ) → begins (draws_before ranges (x ∷ done)) kind ≡ level_of kind
begun_later [] x done kind = refl
begun_later (r ∷ ranges) x done kind = begun_later ranges (draw_at (unpacked r)) (x ∷ done) kind

pub draws_some : (ranges : List Packed) (kind : ℕ) → 1 ≤ length ranges → begins (draws_of ranges) kind ≡ level_of kind
draws_some [] kind e = absurd (omega (arith, e))
draws_some (r ∷ ranges) kind e = begun_later ranges (draw_at (unpacked r)) [] kind

-- the draws of ranges before others, the newest first
abbrev pub pushed : List Ranges → List Draw → List Draw
pushed [] before = before
pushed (r ∷ rs) before = pushed rs (draw_at r ∷ before)

pub draws_pushed : (ranges : List Packed) (done : List Draw) → draws_before ranges done ≡ pushed (map unpacked ranges) done
draws_pushed [] done = refl
draws_pushed (r ∷ ranges) done = draws_pushed ranges (draw_at (unpacked r) ∷ done)
