use Rattle.std.proofs.Common.{ℕ, arith, sym, subst, Contains}
use Rattle.std.proofs.lemmas.List.Elements.{Contains-append_left}
use Rattle.front_table.specs.declared.labels.FrontLabel.{FrontLabel}
use Rattle.front_table.specs.Sets.{Fits}
use Rattle.front_table.specs.Lattice.{Led}
use Rattle.front_table.proofs.Each.{up_to}
use Rattle.front_table.proofs.HeldLists.{held_each}
use Rattle.front_table.proofs.RowLemmas.{led_kept, led_push}
use Rattle.front_table.proofs.bands.append.Goals as goal

pub loop-label-preserved : goal.loop-label-preserved
loop-label-preserved c = record {
  kept = λ m has. subst (λ l. Contains l m) (sym c.in_ok-push.ensures.items) (Contains-append_left c.loop-label.moves.items _ m (c.loop-label.invariant.kept m has));
  new = up_to (λ (l : FrontLabel). (x y : ℕ) → Fits l x y → Led c.push.new.self.items c.args.to x y) c.args.labels.now c.loop-label.label-index _ c.loop-label-test.true
      (λ k d lt x y fits. led_kept c.loop-label.moves.items c.push.new.self.items c.args.to x y (λ m has. subst (λ l. Contains l m) (sym c.in_ok-push.ensures.items) (Contains-append_left c.loop-label.moves.items _ m has)) (c.loop-label.invariant.new k d lt x y fits))
      (λ x y fits. subst (λ l. Led l c.args.to x y) (sym c.in_ok-push.ensures.items) (led_push c.loop-label.moves.items _ x y fits));
}

pub returns-clause-new : goal.returns-clause-new
returns-clause-new c = held_each c.args.labels.now (Led c.loop-label.moves.items c.args.to) (λ k d lt. c.loop-label.invariant.new k d (omega (arith, lt, c.loop-label-test.false)))
