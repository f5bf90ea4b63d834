use Rattle.std.proofs.Common.{◌∙◌, ◌++◌, ◌∷◌, [], ◌+◌, List, ap, sym, arith, append_assoc, take, drop, get_or}
use Rattle.plan_trace.specs.declared.laid.Laid.{Laid}
use Rattle.plan_trace.specs.inner.Laid.{draws_of, laid_list, no_step}
use Rattle.plan_trace.proofs.Laying.{laid_more}
use Rattle.plan_trace.proofs.Walks.{plates_few}
use Rattle.plan_trace.proofs.planning.lay_all.Goals as goal

pub loop-i-preserved : goal.loop-i-preserved
loop-i-preserved c =
    let b = c.args.instance.now in
    let ss = c.args.steps.now in
    let i = c.loop-i.i in
    let last = c.loop-i.last in
    let n = c.next-here.result in
    let old = c.loop-i.laid.items in
    let rest : List Laid = laid_list b (draws_of (take (i + 1) ss)) n (drop (i + 1) ss) in
    let more = laid_more b ss i no_step last (omega arith) in (
      ap (λ xs. xs ++ rest) c.in_ok-append.ensures.ok
          ∙ append_assoc old (n ∷ []) rest
          ∙ ap (λ xs. old ++ xs) (ap (λ (x : Laid). x ∷ laid_list b (draws_of (take (i + 1) ss)) x (drop (i + 1) ss)) c.next-here.ensures.value ∙ sym more)
          ∙ c.loop-i.invariant.0,
      rw c.next-here.ensures.value (plates_few (get_or ss i no_step).kind last.plates i c.loop-i.invariant.1),
    )
