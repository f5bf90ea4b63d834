-- Which version says a floor.
use Rattle.std.proofs.Common.{◌≡◌, ℕ, ◌<◌, ◌≤◌, ◌==◌, Bool, true, false, refl, sym, subst, inl, inr, arith, eqb-true}
use Rattle.std.specs.Prelude.{cond}
use Rattle.std.proofs.lemmas.Bool.{cases_lt}
use Rattle.glass_base.specs.Problem.{Problem}
use Rattle.cert_log.specs.declared.certificate.Certificate.{Certificate}
use Rattle.cert_log.specs.Good.{HasVersion, IsFloor, IsVersion, IsVersionFor, version_for}

-- a version that says the floor where there is one
pub two_or_three : (floor : ℕ) → 2 ≤ version_for floor
two_or_three floor = by (floor == 0)
  where
    by : (none : Bool) → 2 ≤ cond none 2 3
    by true = omega arith
    by false = omega arith

pub three : (floor : ℕ) → 0 < floor → 3 ≤ version_for floor
three floor some = by (floor == 0) refl
  where
    by : (none : Bool) → (floor == 0) ≡ none → 3 ≤ cond none 2 3
    by true is = absurd (let zero = eqb-true floor 0 is in omega arith)
    by false is = omega arith

-- before version 3 there is none
pub none_before : (floor : ℕ) → version_for floor < 3 → floor ≡ 0
none_before floor low = by (floor == 0) refl low
  where
    by : (none : Bool) → (floor == 0) ≡ none → cond none 2 3 < 3 → floor ≡ 0
    by true is low = eqb-true floor 0 is
    by false is low = absurd (omega (arith, low))

-- it is the first version that says it and names the causes
pub no_later : (floor version : ℕ) → 2 ≤ version → (version < 3 → floor ≡ 0) → version_for floor ≤ version
no_later floor version second none = by (floor == 0) refl
  where
    by : (is_none : Bool) → (floor == 0) ≡ is_none → cond is_none 2 3 ≤ version
    by true is = omega (arith, second)
    by false is = elim (cases_lt version 3) [
      | inl early ↦ absurd (let zero = none early in cc (is, subst (λ (n : ℕ). (n == 0) ≡ true) (sym zero) refl))
      | inr late ↦ late
    ]

-- such a certificate has a version
pub has_version : (floor : ℕ) (c : Certificate) → IsVersionFor floor c → HasVersion c
has_version floor c is =
    let version = is.0.0 in let least = two_or_three floor in let most = no_later floor 3 (omega arith) (λ low. absurd (omega (arith, low))) in
    (omega (arith, version, least, most), subst (λ (n : ℕ). IsVersion n c) (sym version) is.0)

-- no plan loses less than nothing
pub no_floor : (b : Problem) → IsFloor b 0
no_floor b = λ plan lawful. omega arith
