use Rattle.std.proofs.Common.{◌≡◌, ◌+◌, ◌-◌, ◌<◌, List, length, map, take, drop, get_or, refl, ap, sym, ◌∙◌, subst, arith}
use Rattle.std.proofs.Math.ListN.{set, length-set}
use Rattle.plan_box.specs.Leasts.{fixed, settle, settle_at}
use Rattle.cert_check.specs.declared.steps.Decided.{Decided}
use Rattle.cert_check.specs.inner.Knowns.{fixed_of, known_in, nothing}
use Rattle.cert_check.proofs.Settling.{all_left, front_at, front_less, none_left, settle_more}
use Rattle.cert_check.proofs.filling.settle.Goals as goal

pub loop-i-init : goal.loop-i-init
loop-i-init c = record {
  inside = omega arith;
  many = refl;
  front = refl;
  back = none_left c.args.steps.now.items c.args.steps.now.items c.args.count;
}

pub loop-i-preserved : goal.loop-i-preserved
loop-i-preserved c =
    let xs = c.loop-i.steps.items in
    let first = c.args.steps.now.items in
    let n = c.args.count in
    let i = c.loop-i.i - 1 in
    let new = c.settled_by-step.result in
    let lt : i < n = omega (arith, c.loop-i.invariant.inside, c.loop-i-test.true) in
    let back : c.loop-i.i ≡ i + 1 = omega (arith, c.loop-i-test.true) in
    let is : c.set.new.self.items ≡ set xs i new = c.set.ensures.new in
    let later = rw back at c.loop-i.invariant.back in
    let front : take (i + 1) xs ≡ take (i + 1) first = rw back at c.loop-i.invariant.front in
    let read : (ys zs : List Decided) → Type 0 = λ ys zs. fixed_of new ≡ fixed (get_or ys i nothing).level (settle_at (known_in (get_or ys i nothing)) (map fixed_of (take (n - (i + 1)) (drop (i + 1) zs)))) in
    let given : read c.as_slice.result.now c.as_slice-in-loop-i.result.now = c.settled_by-step.ensures in
    let here : read xs xs = subst (read xs) c.as_slice-in-loop-i.ensures (subst (λ (ys : List Decided). read ys c.as_slice-in-loop-i.result.now) c.as_slice.ensures given) in
    record {
      inside = omega (arith, lt);
      many = ap length is ∙ length-set xs i new ∙ c.loop-i.invariant.many;
      front = ap (take i) is ∙ front_less xs first i new front;
      back =
          subst (λ (ys : List Decided). map fixed_of (take (n - i) (drop i ys)) ≡ settle (map fixed_of (take (n - i) (drop i first)))) (sym is)
          (settle_more xs first i n nothing new lt (omega (arith, c.loop-i.invariant.many, c.requires)) c.loop-i.invariant.many (front_at xs first i nothing front) later here);
    }

pub returns-clause-steps : goal.returns-clause-steps
returns-clause-steps c =
    all_left c.loop-i.steps.items c.args.steps.now.items c.loop-i.i c.args.count (omega (arith, c.loop-i-test.false)) c.loop-i.invariant.back
