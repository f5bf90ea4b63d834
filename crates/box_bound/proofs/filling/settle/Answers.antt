use Rattle.std.proofs.Common.{◌≡◌, ◌+◌, ◌-◌, ◌<◌, ℕ, List, length, map, take, drop, get_or, refl, ap, sym, ◌∙◌, subst, arith}
use Rattle.std.proofs.Math.ListN.{set, length-set}
use Rattle.std.proofs.lemmas.List.{take-set-le}
use Rattle.plan_box.specs.Leasts.{settle, settle_at}
use Rattle.box_bound.specs.declared.kept.Kept.{Kept}
use Rattle.box_bound.specs.Kept.{blank, early, early_fixed, late, late_fixed, with_ends}
use Rattle.box_bound.proofs.Settling.{same_map, settle_more}
use Rattle.box_bound.proofs.filling.settle.Goals as goal

pub loop-i-preserved : goal.loop-i-preserved
loop-i-preserved c =
    let xs = c.loop-i.steps.items in
    let n = c.args.count in
    let i = c.loop-i.i - 1 in
    let new = with_ends c.ends_before-ends.result (get_or xs i blank) in
    let lt : i < n = omega arith in
    let back : c.loop-i.i ≡ i + 1 = omega arith in
    let is : c.set.new.self.items ≡ set xs i new = c.set.ensures.new ∙ ap (λ (ys : List Kept). set xs i (with_ends c.ends_before-ends.result (get_or ys i blank))) c.as_slice.ensures in
    let later = rw back at c.loop-i.invariant.late in
    let given : late (with_ends c.ends_before-ends.result (get_or c.as_slice.result.now i blank)) ≡ settle_at (early (get_or c.as_slice.result.now i blank)) (map late_fixed (take (n - (i + 1)) (drop (i + 1) c.as_slice-in-loop-i.result.now))) = c.ends_before-ends.ensures in
    let moved : late new ≡ settle_at (early (get_or xs i blank)) (map late_fixed (take (n - (i + 1)) (drop (i + 1) c.as_slice-in-loop-i.result.now))) =
    subst (λ (ys : List Kept). late (with_ends c.ends_before-ends.result (get_or ys i blank)) ≡ settle_at (early (get_or ys i blank)) (map late_fixed (take (n - (i + 1)) (drop (i + 1) c.as_slice-in-loop-i.result.now)))) c.as_slice.ensures given in
    let here : late new ≡ settle_at (early new) (map late_fixed (take (n - (i + 1)) (drop (i + 1) xs))) =
    subst (λ (ys : List Kept). late new ≡ settle_at (early new) (map late_fixed (take (n - (i + 1)) (drop (i + 1) ys)))) c.as_slice-in-loop-i.ensures moved in
    record {
      inside = (omega arith, omega arith);
      many = ap length is ∙ length-set xs i new ∙ c.loop-i.invariant.many;
      kept = ap (take c.args.start) is ∙ take-set-le c.args.start xs i new (omega arith) ∙ c.loop-i.invariant.kept;
      early = ap (map early_fixed) is ∙ same_map early_fixed xs i blank new refl ∙ c.loop-i.invariant.early;
      ranges = ap (map (λ (k : Kept). k.ranges)) is ∙ same_map (λ (k : Kept). k.ranges) xs i blank new refl ∙ c.loop-i.invariant.ranges;
      late =
          subst (λ (ys : List Kept). map late_fixed (take (n - i) (drop i ys)) ≡ settle (map early_fixed (take (n - i) (drop i ys)))) (sym is)
          (settle_more xs i n blank new lt (omega (arith, c.loop-i.invariant.many, c.requires)) later here);
    }

pub returns-clause-late : goal.returns-clause-late
returns-clause-late c =
    let xs = c.loop-i.steps.items in
    let at : c.loop-i.i ≡ c.args.start = omega arith in
    subst (λ (i : ℕ). map late_fixed (take (c.args.count - i) (drop i xs)) ≡ settle (map early_fixed (take (c.args.count - i) (drop i xs)))) at c.loop-i.invariant.late
