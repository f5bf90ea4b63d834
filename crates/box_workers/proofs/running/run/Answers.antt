use Rattle.std.proofs.Common.{rules, ◌≡◌, ◌∷◌, ◌++◌, [], ◌≤◌, List, ℕ, inl, refl, add-zero, subst, arith}
use Rattle.std.specs.Prelude.{Some}
use Rattle.std.proofs.lemmas.List.Elements.{All-pop}
use Rattle.plan_box.specs.Frames.{frame_of}
use Rattle.plan_box.specs.Ranges.{PlainBox}
use Rattle.cert_log.specs.Lawful.{no_loss}
use Rattle.box_workers.specs.Handling.{Spends}
use Rattle.box_workers.specs.inner.Rounds.{HasRun, Turns}
use Rattle.box_workers.proofs.Worked.{draws_one, may_draw, turned, ended, worked_none}
use Rattle.box_workers.proofs.running.run.Goals as goal

pub loop-bx-init : goal.loop-bx-init
loop-bx-init g c = record {
  runs = (
    [],
    record {
      worked = worked_none c.args.desk.now.ground.instance.now c.args.desk.now.shared.now c.args.seat.now c.args.hand.now _ c.requires.seat (record { worker = refl; log = refl; plan = refl; loss = refl });
      left = refl;
      few = inl refl;
      scratch = c.requires.scratch;
      leasts = c.requires.leasts;
      weighs = λ (weight : PlainBox → ℕ). add-zero _;
      frames = c.requires.frames;
    },
  );
}

pub handle_waiting-requires-clause-frame : goal.handle_waiting-requires-clause-frame
handle_waiting-requires-clause-frame g c =
    let i = c.loop-bx.invariant.runs in
    let last : c.loop-bx.waiting.items ≡ c.pop.new.self.items ++ c.in-Some.bx ∷ [] = search rules in
    (All-pop (λ (x : PlainBox). x.frame ≡ frame_of c.args.desk.now.ground.instance.now) c.loop-bx.waiting.items c.pop.new.self.items (Some c.in-Some.bx) last i.1.frames).1

pub handle_waiting-requires-clause-frames : goal.handle_waiting-requires-clause-frames
handle_waiting-requires-clause-frames g c =
    let i = c.loop-bx.invariant.runs in
    let last : c.loop-bx.waiting.items ≡ c.pop.new.self.items ++ c.in-Some.bx ∷ [] = search rules in
    (All-pop (λ (x : PlainBox). x.frame ≡ frame_of c.args.desk.now.ground.instance.now) c.loop-bx.waiting.items c.pop.new.self.items (Some c.in-Some.bx) last i.1.frames).0

pub loop-bx-preserved : goal.loop-bx-preserved
loop-bx-preserved g c =
    let i = c.loop-bx.invariant.runs in
    let last : c.loop-bx.waiting.items ≡ c.pop.new.self.items ++ c.in-Some.bx ∷ [] = search rules in
    let u : Turns c.args.desk.now.ground.instance.now c.args.desk.now.shared.now c.args.desk.now.starts c.in-Some.bx c.loop-bx.seat c.handle_waiting.new.seat c.loop-bx.hand c.handle_waiting.new.hand c.pop.new.self.items c.handle_waiting.new.waiting.items = search rules in
    let r = subst (λ (xs : List PlainBox). HasRun c.args.desk.now.ground.instance.now c.args.desk.now.shared.now c.args.desk.now.starts c.args.waiting.now.items c.args.seat.now c.loop-bx.seat c.args.hand.now c.loop-bx.hand xs i.0 []) last i.1 in
    let small : c.args.hand.now.loss ≤ no_loss = search rules in
    let frames = All-pop (λ (x : PlainBox). x.frame ≡ frame_of c.args.desk.now.ground.instance.now) (c.pop.new.self.items ++ c.in-Some.bx ∷ []) c.pop.new.self.items (Some c.in-Some.bx) (λ _. c.pop.new.self.items ++ c.in-Some.bx ∷ []) r.frames in
    record {
      runs = (
        i.0 ++ u.event ∷ [],
        turned c.args.desk.now.ground.instance.now c.args.desk.now.shared.now c.args.desk.now.starts c.args.waiting.now.items c.args.seat.now c.loop-bx.seat c.handle_waiting.new.seat c.args.hand.now c.loop-bx.hand c.handle_waiting.new.hand c.pop.new.self.items c.in-Some.bx i.0
            r c.handle_waiting.ensures.seat c.handle_waiting.ensures.scratch c.handle_waiting.ensures.leasts c.requires.allowance c.handle_waiting.new.waiting.items u small frames.1 (search rules),
      );
    }

pub returns-then-not-branch : goal.returns-then-not-branch
returns-then-not-branch g c =
    let i = c.loop-bx.invariant.runs in
    let last : c.loop-bx.waiting.items ≡ c.pop.new.self.items ++ c.in-Some.bx ∷ [] = search rules in
    let p : Spends c.args.desk.now.shared.now c.loop-bx.seat c.handle_waiting.new.seat c.loop-bx.hand c.handle_waiting.new.hand × (c.handle_waiting.new.waiting.items ≡ c.pop.new.self.items ++ c.in-Some.bx ∷ []) = search rules in
    let r = subst (λ (xs : List PlainBox). HasRun c.args.desk.now.ground.instance.now c.args.desk.now.shared.now c.args.desk.now.starts c.args.waiting.now.items c.args.seat.now c.loop-bx.seat c.args.hand.now c.loop-bx.hand xs i.0 []) last i.1 in
    record {
      ends = ended c.args.desk.now.ground.instance.now c.args.desk.now.shared.now c.args.desk.now.starts c.args.waiting.now.items c.args.seat.now c.loop-bx.seat c.handle_waiting.new.seat c.args.hand.now c.loop-bx.hand c.handle_waiting.new.hand c.pop.new.self.items c.in-Some.bx i.0
          r c.handle_waiting.ensures.seat c.handle_waiting.ensures.scratch c.handle_waiting.ensures.leasts c.requires.allowance p.0 c.handle_waiting.new.waiting.items p.1;
    }

pub loop-bx-smaller : goal.loop-bx-smaller
loop-bx-smaller g c =
    let i = c.loop-bx.invariant.runs in
    let u : Turns c.args.desk.now.ground.instance.now c.args.desk.now.shared.now c.args.desk.now.starts c.in-Some.bx c.loop-bx.seat c.handle_waiting.new.seat c.loop-bx.hand c.handle_waiting.new.hand c.pop.new.self.items c.handle_waiting.new.waiting.items = search rules in
    let some = may_draw c.args.desk.now.shared.now.budget c.loop-bx.seat.view.allowance c.args.seat.now.view.allowance i.0 i.1.few i.1.worked.allowance c.requires.allowance in
    let d = draws_one c.args.desk.now.ground.instance.now c.args.desk.now.shared.now c.in-Some.bx c.loop-bx.seat c.handle_waiting.new.seat c.loop-bx.hand c.handle_waiting.new.hand u.event u.handles some in omega arith
