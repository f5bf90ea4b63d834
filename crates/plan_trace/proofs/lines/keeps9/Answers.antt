use Rattle.plan_trace.specs.inner.Laid.{cut_of}
use Rattle.plan_trace.proofs.LaidLemmas.{lines_clear, not_both}
use Rattle.plan_trace.proofs.lines.keeps9.Goals as goal

pub returns-else-outer_clear : goal.returns-else-outer_clear
returns-else-outer_clear c =
    let s = c.args.s.now in
    let both = lines_clear c.args.ground.instance.now c.args.ground.instance.now.defects s.level (cut_of s) in
    ((λ yes. absurd (not_both c.outer_clear.result c.if-outer_clear.false yes)), (λ r. let h = both.1 r in c.outer_clear.ensures.1 (h.0, h.1)))

pub returns-then-outer_clear : goal.returns-then-outer_clear
returns-then-outer_clear c =
    let s = c.args.s.now in
    let b = c.args.ground.instance.now in
    let both = lines_clear b b.defects s.level (cut_of s) in
    let outer = c.outer_clear.ensures.0 c.if-outer_clear.true in
    ((λ yes. let inner = c.inner_clear.ensures.0 yes in both.0 (outer.0, outer.1, inner.0, inner.1)), (λ r. let h = both.1 r in c.inner_clear.ensures.1 (h.2, h.3)))
