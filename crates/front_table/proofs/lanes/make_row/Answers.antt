use Rattle.std.proofs.Common.{All, sym, subst}
use Rattle.std.proofs.lemmas.List.Elements.{All-push}
use Rattle.front_table.specs.Lanes.{IsMade}
use Rattle.front_table.proofs.lanes.make_row.Goals as goal

pub returns-clause-made : goal.returns-clause-made
returns-clause-made c =
    let P = IsMade c.args.level.now.fronts in
    subst (All P) (sym c.in_ok-push.ensures.items) (All-push P c.args.lane.now.made.items _ c.requires.made c.in_ok-facts.ensures.known)
