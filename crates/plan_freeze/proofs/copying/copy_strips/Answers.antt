use Rattle.cut_model.specs.Tree.{inner1, nothing, sort1}
use Rattle.plan_freeze.proofs.Copied.{copied_more}
use Rattle.plan_freeze.proofs.copying.copy_strips.Goals as goal

pub loop-piece-preserved : goal.loop-piece-preserved
loop-piece-preserved c =
    copied_more (λ p. p.width) (λ p. sort1 p.body) (λ p. inner1 p.body) nothing c.append.new.run.items c.loop-piece.copy.items c.args.pieces.now c.loop-piece.piece-index c.in_ok-copy_strip.field-0 c.piece-item.result c.piece-item.result
    c.in_ok-append.ensures.ok c.loop-piece-test.true c.piece-item.is c.in_ok-copy_strip.ensures c.loop-piece.invariant
