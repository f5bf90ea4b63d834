use Rattle.std.proofs.Common.{ℕ, ◌+◌, ◌≤◌, arith}
use Rattle.front_bound.specs.declared.places.Corner.{Corner}
use Rattle.front_table.specs.Pools.{row_at}
use Rattle.front_table.specs.Sets.{HeldTo, Stands}
use Rattle.front_table.proofs.Each.{up_to}
use Rattle.front_table.proofs.PoolRows.{spreads_then}
use Rattle.front_bound.proofs.PlacedRows.{covered_each}
use Rattle.front_bound.proofs.placed_cells.join_places.Goals as goal

pub loop-place-preserved : goal.loop-place-preserved
loop-place-preserved c = record {
  spreads = spreads_then (c.args.to + 1) c.args.pool.now c.loop-place.pool c.join_place.new.pool c.loop-place.invariant.spreads c.in_ok-join_place.ensures.spreads;
  held = up_to (λ (p : Corner). (x y left low top next : ℕ) → Stands c.args.joined.now x y next top → p.x ≤ left → left + c.args.piece.now.wide ≤ next → p.y ≤ low → low + c.args.piece.now.high ≤ top → HeldTo (row_at c.join_place.new.pool c.args.to) x y next top)
      c.args.places.now c.loop-place.place-index _ c.loop-place-test.true
      (λ k d lt x y left low top next stands beside end above sum. c.in_ok-join_place.ensures.spreads.kept c.args.to x y next top (c.loop-place.invariant.held k d lt x y left low top next stands beside end above sum))
      c.in_ok-join_place.ensures.held;
}

pub returns-clause-held : goal.returns-clause-held
returns-clause-held c = λ x y left low top next stands covered end sum.
    covered_each c.args.places.now (λ left low. left + c.args.piece.now.wide ≤ next → low + c.args.piece.now.high ≤ top → HeldTo (row_at c.loop-place.pool c.args.to) x y next top)
    (λ k d lt left low beside above end sum. c.loop-place.invariant.held k d (omega (arith, lt, c.loop-place-test.false)) x y left low top next stands beside end above sum) left low covered end sum
