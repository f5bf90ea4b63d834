use Rattle.std.proofs.Common.{◌≡◌, ◌+◌, [], List, length, map, take, get_or, ap, sym, ◌∙◌, subst, arith}
use Rattle.std.proofs.Math.ListN.{set, length-set}
use Rattle.std.proofs.lemmas.List.Elements.{All-get_or}
use Rattle.plan_box.specs.Leasts.{no_known}
use Rattle.plan_box.specs.Packed.{unpacked}
use Rattle.plan_box.specs.Follows.{follow}
use Rattle.plan_box.specs.Within.{AreRangesWithin}
use Rattle.plan_box.proofs.Children.{no_ranges}
use Rattle.plan_box.proofs.Following.{followed_last, followed_more}
use Rattle.plan_box.proofs.Limits.{known_within}
use Rattle.cert_check.specs.declared.steps.Decided.{Decided}
use Rattle.cert_check.specs.inner.Knowns.{fixed_of, known_in}
use Rattle.cert_check.proofs.Counted.{count_at, counts_more, stack_in, taken_few}
use Rattle.cert_check.proofs.filling.follow.Goals as goal

pub draw-count-requires-clause-inside : goal.draw-count-requires-clause-inside
draw-count-requires-clause-inside c =
    omega (arith, c.loop-i.invariant.taken.many, (All-get_or (λ x. AreRangesWithin (unpacked x)) c.args.ranges.now c.loop-i.i no_ranges (omega arith) c.requires.within).stack)

pub draw-count-requires-clause-few : goal.draw-count-requires-clause-few
draw-count-requires-clause-few c =
    let ranges = c.args.ranges.now in
    omega (arith, count_at ranges c.loop-i.i c.loop-i.taken.items (omega arith) c.loop-i.invariant.taken, taken_few ranges c.loop-i.i (stack_in ranges c.loop-i.i) (omega arith), c.requires.few)

pub next-last-requires-clause-taken : goal.next-last-requires-clause-taken
next-last-requires-clause-taken c = c.draw-count.ensures.count ∙ count_at c.args.ranges.now c.loop-i.i c.loop-i.taken.items (omega arith) c.loop-i.invariant.taken

pub next-last-requires-clause-within : goal.next-last-requires-clause-within
next-last-requires-clause-within c =
    known_within c.args.instance.now c.items-items.ensures.rules c.args.ranges.now c.loop-i.i (known_in c.loop-i.last) c.loop-i.invariant.last c.requires.within

pub loop-i-preserved : goal.loop-i-preserved
loop-i-preserved c =
    let b = c.args.instance.now in
    let xs = c.loop-i.steps.items in
    let ranges = c.args.ranges.now in
    let i = c.loop-i.i in
    let y = c.next-last.result in
    let is : c.set.new.self.items ≡ set xs i y = c.set.ensures.new in
    let old = c.loop-i.taken.items in
    let counts : c.draw-count.new.taken.items ≡ set old (stack_in ranges i) (get_or old (stack_in ranges i) 0 + 1) =
    c.draw-count.ensures.counts ∙ ap (λ n. set old (stack_in ranges i) (n + 1)) c.draw-count.ensures.count in
    record {
      many = ap length is ∙ length-set xs i y ∙ c.loop-i.invariant.many;
      taken = rw counts (counts_more ranges i old (omega arith) c.requires.within c.loop-i.invariant.taken);
      steps =
          subst (λ (ys : List Decided). map fixed_of (take (i + 1) ys) ≡ follow b [] no_known (map unpacked (take (i + 1) ranges))) (sym is)
          (followed_more fixed_of b xs ranges i y (known_in c.loop-i.last) no_ranges (omega (arith, c.loop-i.invariant.many, c.requires.room)) (omega arith) c.loop-i.invariant.steps c.loop-i.invariant.last c.next-last.ensures);
      last = followed_last b ranges i no_ranges y.level (known_in y) (known_in c.loop-i.last) (omega arith) c.loop-i.invariant.last c.next-last.ensures;
    }
