use Rattle.std.proofs.Common.{rules, ◌≡◌, ◌-◌, ◌%◌, length, All, refl, ap}
use Rattle.std.specs.Prelude.{Some}
use Rattle.std.proofs.lemmas.List.Elements.{All-pop}
use Rattle.plan_box.specs.Ranges.{PlainBox}
use Rattle.box_ring.specs.Arms.{frame}
use Rattle.box_workers.specs.declared.member.Member.{Member}
use Rattle.box_workers.proofs.Dealt.{dealt_none_yet, dealt_more, dealt_all, dealt_frames, dealt_length}
use Rattle.box_workers.proofs.dealing.deal_slice.Goals as goal

pub loop-bx-init : goal.loop-bx-init
loop-bx-init c = record { frames = c.requires.frames; dealt = dealt_none_yet c.args.boxes.items c.args.members.now; long = refl }

pub deal_one-requires-clause-frame : goal.deal_one-requires-clause-frame
deal_one-requires-clause-frame c =
    let i = c.loop-bx.invariant in
    let p = All-pop (λ (x : PlainBox). All (λ (m : Member). x.frame ≡ frame m.arm) c.args.members.now) c.loop-bx.boxes.items c.pop.new.self.items (Some c.in-Some.bx) c.in-Some.ensures.last i.frames in
    dealt_frames c.in-Some.bx.frame c.args.members.now c.loop-bx.members i.dealt.each p.1

pub loop-bx-preserved : goal.loop-bx-preserved
loop-bx-preserved c =
    let i = c.loop-bx.invariant in
    let d = dealt_more c.args.boxes.items c.loop-bx.boxes.items c.pop.new.self.items c.in-Some.bx c.args.members.now c.loop-bx.members c.deal_one.new.members (length c.loop-bx.members - 1 - length c.pop.new.self.items % length c.loop-bx.members)
    c.in-Some.ensures.last i.long c.requires.some (ap (λ n. n - 1 - length c.pop.new.self.items % n) i.long) (search rules) i.dealt in record {
      frames = (All-pop (λ (x : PlainBox). All (λ (m : Member). x.frame ≡ frame m.arm) c.args.members.now) c.loop-bx.boxes.items c.pop.new.self.items (Some c.in-Some.bx) c.in-Some.ensures.last i.frames).0;
      dealt = d;
      long = dealt_length c.args.members.now c.deal_one.new.members d.each;
    }

pub returns : goal.returns
returns c = dealt_all c.args.boxes.items c.loop-bx.boxes.items c.args.members.now c.loop-bx.members (search rules) c.loop-bx.invariant.dealt
