use Rattle.std.proofs.Common.{◌≡◌, ℕ, ◌+◌, ◌*◌, List, length, sym, ap, ◌∙◌, subst, arith}
use Rattle.std.proofs.lemmas.Option.{MatchOption-at_some}
use Rattle.std.proofs.lemmas.List.{length_push}
use Rattle.std.proofs.lemmas.List.Elements.{All-push}
use Rattle.std.specs.Prelude.{All}
use Rattle.cert_log.specs.declared.certificate.Certificate.{Certificate}
use Rattle.cert_log.specs.Outcomes.{IsHead}
use Rattle.cert_log.specs.Texts.{head_of}
use Rattle.cert_log.specs.inner.Growth.{AreMade, IsMade}
use Rattle.cert_log.proofs.Totals.{all_good, all_searched, all_nodes, all_left, all_version, start_rooted, made_push, ids_within}
use Rattle.cert_log.proofs.assembling.assemble.Goals as goal
use Rattle.cert_log.proofs.assembling.assemble.Goals.{In_ok-room}

abbrev HasHead : Certificate → Type 0
HasHead c = IsHead (head_of c)

room_is : (c : In_ok-room) → c.in_ok-room.room ≡ c.args.history.now.starts + 2 * length c.args.history.now.log.items
room_is c = MatchOption-at_some _ (λ n. n ≡ c.args.history.now.starts + 2 * length c.args.history.now.log.items) c.in_ok-room.room c.in_ok-room.ensures.ok_part c.identities.ensures

pub places-requires : goal.places-requires
places-requires c = record { known = ids_within c.args.instance.now c.args.history.now c.in_ok-room.room c.requires (room_is (goal.at.places-requires c).In_ok-room) }

pub certificate_of-requires-clause-within : goal.certificate_of-requires-clause-within
certificate_of-requires-clause-within c =
    ids_within c.args.instance.now c.args.history.now _ c.requires
    (let r = room_is (goal.at.certificate_of-requires-clause-within c).In_ok-room in c.as_slice.ensures.len ∙ c.in_ok-places.places.ok.0 ∙ c.in_ok-places.ensures.len ∙ r)

pub certificate_of-requires-clause-rooted : goal.certificate_of-requires-clause-rooted
certificate_of-requires-clause-rooted c =
    start_rooted c.args.instance.now c.requires.0 c.args.history.now c.requires.1 c.loop-start.start c.loop-start-test.true

pub loop-start-preserved : goal.loop-start-preserved
loop-start-preserved c =
    let cs = c.loop-start.certificates.items in let p = c.in_ok-append.ensures.ok in
    let m : IsMade c.args.history.now (0 + length cs) c.in_ok-certificate.certificate
    = subst (λ (i : ℕ). IsMade c.args.history.now i c.in_ok-certificate.certificate) (let e : c.loop-start.start ≡ 0 + length cs = (let l = c.loop-start.invariant.len in omega arith) in e) c.in_ok-certificate.ensures.made in
    record {
      len = ap length p ∙ length_push cs c.in_ok-certificate.certificate ∙ ap (λ (n : ℕ). n + 1) c.loop-start.invariant.len;
      made = subst (λ (xs : List Certificate). AreMade c.args.history.now 0 xs) (sym p) (made_push c.args.history.now 0 cs c.in_ok-certificate.certificate c.loop-start.invariant.made m);
      heads = subst (All HasHead) (sym p) (All-push HasHead cs c.in_ok-certificate.certificate c.loop-start.invariant.heads c.in_ok-certificate.ensures.head);
    }

pub returns-clause-good : goal.returns-clause-good
returns-clause-good c = λ s lawful. all_good c.args.instance.now s c.args.history.now lawful c.loop-start.certificates.items c.loop-start.invariant.made (omega arith)

pub returns-clause-searched : goal.returns-clause-searched
returns-clause-searched c = λ s lawful. all_searched c.args.instance.now s c.args.history.now lawful c.loop-start.certificates.items c.loop-start.invariant.made (omega arith)

pub returns-clause-nodes : goal.returns-clause-nodes
returns-clause-nodes c = all_nodes c.args.instance.now c.requires.0 c.args.history.now c.requires.1 c.loop-start.certificates.items c.loop-start.invariant.made (omega arith)

pub returns-clause-left : goal.returns-clause-left
returns-clause-left c = all_left c.args.instance.now c.requires.0 c.args.history.now c.requires.1 c.loop-start.certificates.items c.loop-start.invariant.made (omega arith)

pub returns-clause-version : goal.returns-clause-version
returns-clause-version c = all_version c.args.instance.now c.requires.0 c.args.history.now c.requires.1 c.loop-start.certificates.items c.loop-start.invariant.made (omega arith)
