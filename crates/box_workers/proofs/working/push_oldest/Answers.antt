use Rattle.std.proofs.Common.{rules, ◌≡◌, ◌∷◌, All, subst, sym}
use Rattle.std.proofs.lemmas.List.Elements.{All-tail}
use Rattle.plan_box.specs.declared.frame.Frame.{Frame}
use Rattle.plan_box.specs.Ranges.{PlainBox}
use Rattle.box_ring.specs.Arms.{frame}
use Rattle.box_workers.proofs.working.push_oldest.Goals as goal

pub returns-clause-frames : goal.returns-clause-frames
returns-clause-frames c =
    let bx = c.in-Some.bx in let rest = c.pop_front.new.self.items in
    let first : c.args.at_hand.now.items ≡ bx ∷ rest = search rules in
    let same : frame c.push.new.self ≡ frame c.args.arm.now = search rules in
    subst (λ (f : Frame). All (λ (x : PlainBox). x.frame ≡ f) rest) (sym same)
    (All-tail (λ (x : PlainBox). x.frame ≡ frame c.args.arm.now) bx rest (subst (All (λ (x : PlainBox). x.frame ≡ frame c.args.arm.now)) first c.requires.frames))

pub returns-clause-oldest : goal.returns-clause-oldest
returns-clause-oldest c = search rules
