use Rattle.std.proofs.Common.{◌≡◌, ◌∙◌, ap}
use Rattle.std.proofs.lemmas.Result.{on_ok_weaker}
use Rattle.glass_base.specs.Run.{Listed}
use Rattle.cut_model.specs.declared.family.Sort.{Sort}
use Rattle.cut_model.specs.declared.plan.Piece1.{Piece1}
use Rattle.cut_model.specs.Tree.{Forest, nothing, piece, sort1, inner1, strips}
use Rattle.plan_trace.specs.Canonical.{Grown, gap}
use Rattle.plan_trace.specs.inner.Piles.{grown_of, plates_pile, strips_pile}
use Rattle.plan_trace.proofs.Piling.{pile-turned, piled-push}
use Rattle.plan_trace.proofs.growing.add_plate.Goals as goal

pub returns : goal.returns
returns c =
    let g = c.args.growth.now in
    let was : Grown = grown_of g in
    on_ok_weaker c.append.result
    (λ is.
    let made : strips c.in_ok-pieces.pieces.items ≡ gap 0 g.left Sort.Waste was.strips =
    ap strips c.in_ok-pieces.ensures
    ∙ pile-turned (λ p. p.width) (λ p. sort1 p.body) (λ p. inner1 p.body) c.replace-strips.result.items
    ∙ ap (λ (r : Listed Piece1). strips_pile r.items) c.replace-strips.ensures.value
    ∙ c.in_ok-put_rest.ensures in
    let plates = ap plates_pile is ∙ piled-push (λ p. 0) (λ p. Sort.Branch) (λ p. strips p.pieces.items) g.plates.items _ nothing ∙ ap (λ (f : Forest). piece 0 Sort.Branch f was.plates) made in
    let none = ap (λ (r : Listed Piece1). strips_pile r.items) c.replace-strips.ensures.after ∙ ap strips_pile c.new.ensures in
    (λ j. record was { plates = plates j; strips = none j }))
    c.append.ensures.ok
