-- A fact at some of the decided steps, step by step.
use Rattle.std.proofs.Common.{◌≡◌, ℕ, zero, suc, ◌+◌, ◌-◌, ◌<◌, ◌≤◌, ◌⊎◌, ◌↔◌, inl, inr, List, [], ◌∷◌, length, map, drop, take, get_or, ap, sym, ◌∙◌, subst, arith, ◌==◌}
use Rattle.std.proofs.lemmas.List.{drop_more, length-drop, length-map, take_all}
use Rattle.glass_base.specs.Problem.{Problem}
use Rattle.plan_trace.specs.declared.level.Level.{Level}
use Rattle.plan_box.specs.declared.packed.Packed.{Packed}
use Rattle.plan_box.specs.Decisions.{all_decided, decided}
use Rattle.plan_box.specs.Leasts.{Known, Fixed, known}
use Rattle.plan_box.specs.Packed.{unpacked}
use Rattle.plan_box.specs.Reasons.{SomeFixed}
use Rattle.plan_box.proofs.Counts.{known_count}
use Rattle.cert_check.specs.declared.steps.Decided.{Decided}
use Rattle.cert_check.specs.inner.Knowns.{AreKnown, fixed_of, known_in, levels_in}
use Rattle.plan_box.proofs.Levels.{levels_are}

abbrev pub Reasoning : Type 1
Reasoning = Level → Known → Level → Known → List Level → Type 0

module _ (R : Reasoning) (m : Level) (j : Known) (steps : List Decided) (i : ℕ) (d : Decided) (lt : i < length steps) where
  -- it is one at this step
  pub some_here : R m j (get_or steps i d).level (known_in (get_or steps i d)) (levels_in (drop (i + 1) steps)) → SomeFixed R m j (map fixed_of (drop i steps))
  some_here h =
      subst (λ (xs : List Decided). SomeFixed R m j (map fixed_of xs)) (sym (drop_more steps i d lt))
      (inl (subst (λ (ls : List Level). R m j (get_or steps i d).level (known_in (get_or steps i d)) ls) (sym (levels_are (λ k. k.level) known_in (drop (i + 1) steps))) h))

  -- it is one at a later step
  some_later : SomeFixed R (get_or steps i d).level (known_in (get_or steps i d)) (map fixed_of (drop (i + 1) steps)) → SomeFixed R m j (map fixed_of (drop i steps))
  some_later h = subst (λ (xs : List Decided). SomeFixed R m j (map fixed_of xs)) (sym (drop_more steps i d lt)) (inr h)

  -- there is no other way
  some_either : SomeFixed R m j (map fixed_of (drop i steps)) → R m j (get_or steps i d).level (known_in (get_or steps i d)) (levels_in (drop (i + 1) steps)) ⊎ SomeFixed R (get_or steps i d).level (known_in (get_or steps i d)) (map fixed_of (drop (i + 1) steps))
  some_either h =
      elim (subst (λ (xs : List Decided). SomeFixed R m j (map fixed_of xs)) (drop_more steps i d lt) h) [
        | inl now ↦ inl (subst (λ (ls : List Level). R m j (get_or steps i d).level (known_in (get_or steps i d)) ls) (levels_are (λ k. k.level) known_in (drop (i + 1) steps)) now)
        | inr later ↦ inr later
      ]

  -- where it is none at this step
  pub some_next : (P : Type 0) → ¬ R m j (get_or steps i d).level (known_in (get_or steps i d)) (levels_in (drop (i + 1) steps)) → (SomeFixed R m j (map fixed_of (drop i steps)) ↔ P) →
      (SomeFixed R (get_or steps i d).level (known_in (get_or steps i d)) (map fixed_of (drop (i + 1) steps)) ↔ P)
  some_next P none h = (
    (λ later. h.0 (some_later later)),
    (λ p. elim (some_either (h.1 p)) [
      | inl now ↦ absurd (none now)
      | inr later ↦ later
    ]),
  )

-- the steps behind one
pub rest_is : (steps : List Decided) (n : ℕ) → take (length steps - n) (drop n steps) ≡ drop n steps
rest_is steps n = take_all (length steps - n) (drop n steps) (omega (arith, length-drop n steps))

-- no step is left
pub some_none : (R : Reasoning) (m : Level) (j : Known) (steps : List Decided) (i : ℕ) → length steps ≤ i → ¬ SomeFixed R m j (map fixed_of (drop i steps))
some_none R m j [] zero le h = h
some_none R m j [] (suc i) le h = h
some_none R m j (x ∷ steps) zero le h = absurd (omega (arith, le))
some_none R m j (x ∷ steps) (suc i) le h = some_none R m j steps i (omega (arith, le)) h

-- where there is a decided step for each range all steps are decided
pub whole_is : (b : Problem) (ranges : List Packed) (steps : List Decided) → AreKnown b (map unpacked ranges) steps → (length steps == length ranges) ≡ all_decided (map unpacked ranges)
whole_is b ranges steps known =
    let count : length steps ≡ length (decided (map unpacked ranges)) =
    sym (length-map steps fixed_of) ∙ ap (λ (ks : List Fixed). length ks) known.values ∙ known_count b (map unpacked ranges) in
    let items : length ranges ≡ length (map unpacked ranges) = sym (length-map ranges unpacked) in
    ap (λ (n : ℕ). n == length ranges) count ∙ ap (λ (n : ℕ). length (decided (map unpacked ranges)) == n) items
