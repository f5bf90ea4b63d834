use Rattle.std.proofs.Common.{take, get_or, None, IsSome, sym, rules}
use Rattle.std.proofs.lemmas.List.{take_all}
use Rattle.std.proofs.lemmas.List.Elements.{All-more, All-same}
use Rattle.stack_order.specs.declared.cuts.ItemCut.{ItemCut}
use Rattle.stack_order.proofs.breaches.first_unknown.Goals as goal

pub loop-cut-preserved : goal.loop-cut-preserved
loop-cut-preserved c =
    let cut : ItemCut = get_or c.args.cuts.now c.loop-cut.cut-index record { plate = 0; node = 0; number = 0; item = None } in
    let here : IsSome cut.item = search rules in
    All-more (λ (cut : ItemCut). IsSome cut.item) c.args.cuts.now c.loop-cut.cut-index _ c.loop-cut-test.true c.loop-cut.invariant here

pub returns : goal.returns
returns c = All-same (λ (cut : ItemCut). IsSome cut.item) c.args.cuts.now (take c.loop-cut.cut-index c.args.cuts.now) (sym (take_all c.loop-cut.cut-index c.args.cuts.now c.loop-cut-test.false)) c.loop-cut.invariant
