use Rattle.std.proofs.Common.{rules, ◌≡◌, ◌∷◌, ◌++◌, [], ℕ, All, sym, ap, subst, arith}
use Rattle.std.specs.Prelude.{sum_by, Some}
use Rattle.std.proofs.lemmas.List.Elements.{All-pop, All-push}
use Rattle.std.proofs.lemmas.List.Sums.{sum_by_push}
use Rattle.plan_box.specs.Ranges.{PlainBox}
use Rattle.plan_box.specs.Bounds.{bound}
use Rattle.plan_box.specs.Frames.{frame_of}
use Rattle.cert_log.specs.declared.history.Left.{Left}
use Rattle.box_workers.proofs.finishing.leave.Goals as goal

pub fill-requires-clause-instance : goal.fill-requires-clause-instance
fill-requires-clause-instance c =
    let last : c.loop-bx.waiting.items ≡ c.pop.new.self.items ++ c.in-Some.bx ∷ [] = search rules in
    (All-pop (λ (x : PlainBox). x.frame ≡ frame_of c.args.instance.now) c.loop-bx.waiting.items c.pop.new.self.items (Some c.in-Some.bx) last c.loop-bx.invariant.frames).1

pub bound_at-bound-requires-clause-instance : goal.bound_at-bound-requires-clause-instance
bound_at-bound-requires-clause-instance c =
    let last : c.loop-bx.waiting.items ≡ c.pop.new.self.items ++ c.in-Some.bx ∷ [] = search rules in
    (All-pop (λ (x : PlainBox). x.frame ≡ frame_of c.args.instance.now) c.loop-bx.waiting.items c.pop.new.self.items (Some c.in-Some.bx) last c.loop-bx.invariant.frames).1

pub loop-bx-preserved : goal.loop-bx-preserved
loop-bx-preserved c =
    let i = c.loop-bx.invariant in
    let last : c.loop-bx.waiting.items ≡ c.pop.new.self.items ++ c.in-Some.bx ∷ [] = search rules in
    let l : Left = record { bx = c.in-Some.bx; bound = c.bound_at-bound.result } in
    let pushed : c.append.new.run.items ≡ c.loop-bx.left.items ++ l ∷ [] = search rules in
    record {
      leasts = c.fill.ensures.of_instance;
      frames = (All-pop (λ (x : PlainBox). x.frame ≡ frame_of c.args.instance.now) c.loop-bx.waiting.items c.pop.new.self.items (Some c.in-Some.bx) last i.frames).0;
      weighs = λ (h : PlainBox → ℕ). (
          let w = i.weighs h in let a = ap (sum_by (λ (x : Left). h x.bx)) pushed in let p = sum_by_push (λ (x : Left). h x.bx) c.loop-bx.left.items l in
          let b = ap (sum_by h) last in let q = sum_by_push h c.pop.new.self.items c.in-Some.bx in omega arith);
      bounds = subst (All (λ (x : Left). x.bound ≡ bound c.args.instance.now x.bx.ranges)) (sym pushed)
          (All-push (λ (x : Left). x.bound ≡ bound c.args.instance.now x.bx.ranges) c.loop-bx.left.items l i.bounds c.bound_at-bound.ensures);
    }
