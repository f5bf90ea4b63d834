use Rattle.std.proofs.Common.{ℕ, List, [], ◌∷◌, ◌++◌, ap, ◌∙◌, subst, refl, sym, arith}
use Rattle.cert_log.specs.inner.Growth.{IsGrowing, IsMade}
use Rattle.cert_log.proofs.Walking.{write_none, write_more}
use Rattle.cert_log.proofs.Writing.{told, made}
use Rattle.cert_log.proofs.assembling.certificate_of.Goals as goal

pub loop-next-init : goal.loop-next-init
loop-next-init c =
    told c.args.history.now c.args.id _ _ _ _ _ _ (c.in_ok-append.ensures.ok ∙ ap (λ (ws : List ℕ). ws ++ c.args.id ∷ []) c.new.ensures) (c.reserve.ensures.items ∙ c.new-2.ensures) c.best_loss-loss.ensures (write_none c.args.history.now c.args.id c.requires.rooted)

pub loop-next-smaller : goal.loop-next-smaller
loop-next-smaller c =
    let g = subst (λ (ws : List ℕ). IsGrowing c.args.history.now c.args.id ws c.loop-next.growth.nodes.items c.loop-next.growth.bound) c.in-Some.ensures.last c.loop-next.invariant in
    let m = write_more c.args.history.now c.args.id _ c.in-Some.next c.loop-next.growth.nodes.items c.loop-next.growth.bound g in
    let o = c.in_ok-write_node.ensures.one in omega arith

pub returns-clause-made : goal.returns-clause-made
returns-clause-made c =
    let g = subst (λ (ws : List ℕ). IsGrowing c.args.history.now c.args.id ws c.loop-next.growth.nodes.items c.loop-next.growth.bound) (c.in_default.ensures.empty.0 refl) c.loop-next.invariant in
    subst (IsMade c.args.history.now c.args.id) (sym c.with_nodes.ensures.made) (made c.args.history.now c.args.id _ g refl c.best_loss-loss.ensures refl refl)
