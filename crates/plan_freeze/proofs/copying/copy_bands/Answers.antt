use Rattle.cut_model.specs.Tree.{inner2, nothing, sort2}
use Rattle.plan_freeze.proofs.Copied.{copied_more}
use Rattle.plan_freeze.proofs.copying.copy_bands.Goals as goal

pub loop-piece-preserved : goal.loop-piece-preserved
loop-piece-preserved c =
    copied_more (λ p. p.height) (λ p. sort2 p.body) (λ p. inner2 p.body) nothing c.append.new.run.items c.loop-piece.copy.items c.args.pieces.now c.loop-piece.piece-index c.in_ok-copy_band.field-0 c.piece-item.result c.piece-item.result
    c.in_ok-append.ensures.ok c.loop-piece-test.true c.piece-item.is c.in_ok-copy_band.ensures c.loop-piece.invariant
