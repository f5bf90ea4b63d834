use Rattle.std.proofs.Common.{rules, ◌≡◌, ◌<◌, ◌++◌, ◌∷◌, [], ℕ, List, length, take, sym, ap, ◌∙◌, arith}
use Rattle.best_board.proofs.Completing.{next_width}
use Rattle.best_board.proofs.copying.widths_of.Goals as goal

pub loop-plate-preserved : goal.loop-plate-preserved
loop-plate-preserved c =
    let b = c.args.instance.now in
    let many = c.params.ensures.rules.widths.many in
    let within : c.loop-plate.plate < length b.widths = search rules in
    c.in_ok-append.ensures.ok ∙ ap (λ (ws : List ℕ). ws ++ c.width.result ∷ []) c.loop-plate.invariant ∙ ap (λ (n : ℕ). take c.loop-plate.plate b.widths ++ n ∷ []) c.width.ensures.value ∙ sym (next_width b c.loop-plate.plate within)
