use Rattle.std.proofs.Common.{[], ◌∷◌, ◌++◌, refl, subst}
use Rattle.std.specs.Prelude.{All}
use Rattle.std.proofs.lemmas.List.Elements.{All-contains, Contains-push}
use Rattle.cert_log.specs.declared.certificate.Certificate.{Certificate}
use Rattle.cert_log.specs.Outcomes.{IsHead}
use Rattle.cert_log.specs.Texts.{head_of}
use Rattle.run_search.specs.Plans.{course}
use Rattle.run_search.proofs.Searched.{certified, no_certificate}
use Rattle.run_search.proofs.planning.certificate_of.Goals as goal

abbrev HasHead : Certificate → Type 0
HasHead d = IsHead (head_of d)

pub unreachable-requires : goal.unreachable-requires
unreachable-requires c =
    let b = c.args.instance.now in
    no_certificate b c.requires.0 c.requires.1 c.args.history.now c.in_ok-certificates.certificates.items
    (c.in_ok-certificates.ensures.good (course b c.requires.1 c.requires.0 c.args.history.now.floor) c.requires.2) (c.in_default.ensures.empty.0 refl)

pub returns-clause-certifies : goal.returns-clause-certifies
returns-clause-certifies c = λ budget to_beat lawful.
    let b = c.args.instance.now in
    let s = course b to_beat budget c.args.history.now.floor in
    certified b budget to_beat c.args.history.now c.in-Some.certificate c.in_ok-certificates.certificates.items c.pop.new.self.items lawful
    (c.in_ok-certificates.ensures.good s lawful) (c.in_ok-certificates.ensures.searched s lawful)
    c.in_ok-certificates.ensures.nodes c.in_ok-certificates.ensures.left c.in_ok-certificates.ensures.version c.in-Some.ensures.last

pub returns-clause-head : goal.returns-clause-head
returns-clause-head c =
    let heads = subst (All HasHead) c.in-Some.ensures.last c.in_ok-certificates.ensures.heads in
    All-contains HasHead (c.pop.new.self.items ++ c.in-Some.certificate ∷ []) c.in-Some.certificate heads (Contains-push c.pop.new.self.items c.in-Some.certificate)
