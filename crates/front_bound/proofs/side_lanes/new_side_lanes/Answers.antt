use Rattle.std.proofs.Common.{All, sym, subst, rules}
use Rattle.std.proofs.lemmas.List.Elements.{All-push}
use Rattle.front_bound.specs.inner.SideLanes.{HasRoom}
use Rattle.front_bound.proofs.side_lanes.new_side_lanes.Goals as goal

pub loop-preserved : goal.loop-preserved
loop-preserved c =
    let P = HasRoom c.args.rows.now in
    record {
      some = search rules;
      room = subst (All P) (sym c.in_ok-push-2.ensures.items) (All-push P c.loop.lanes.items _ c.loop.invariant.room c.in_ok-lane.ensures);
    }
