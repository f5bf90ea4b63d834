use Rattle.std.proofs.Common.{ℕ, ◌-◌, ◌≤◌, List, length, map, take, replicate, ap, sym, ◌∙◌, subst, arith, All}
use Rattle.std.proofs.lemmas.List.{length-map, length-take-le, take-append-le, take-map}
use Rattle.plan_box.specs.Decisions.{decided}
use Rattle.plan_box.specs.Packed.{unpacked}
use Rattle.plan_box.specs.Ranges.{Ranges, AreInFrame, full_ranges}
use Rattle.plan_box.specs.declared.frame.Frame.{Frame}
use Rattle.plan_box.proofs.Limits.{taken_within}
use Rattle.box_bound.proofs.Filled.{decided_stored, stored_in_frame}
use Rattle.box_bound.proofs.filling.decided_ranges.Goals as goal

pub slice_bounds-result-end : goal.slice_bounds-result-end
slice_bounds-result-end c =
    let stored = c.stored-stored.result.now in
    let few : c.decided-decided.result ≤ length stored = omega (arith, c.decided-decided.ensures, ap (λ (rs : List Ranges). length (decided rs)) c.stored-stored.ensures, decided_stored c.args.bx.now.frame stored) in
    sym (length-take-le c.decided-decided.result stored few)

pub returns-clause-ranges : goal.returns-clause-ranges
returns-clause-ranges c =
    let f = c.args.bx.now.frame in
    let n = c.decided-decided.result in
    let stored = c.stored-stored.result.now in
    let few : n ≤ length stored = omega (arith, c.decided-decided.ensures, ap (λ (rs : List Ranges). length (decided rs)) c.stored-stored.ensures, decided_stored f stored) in
    let rest : List Ranges = replicate (f.items - length (map unpacked stored)) (full_ranges f) in
    sym (take-map unpacked n stored)
    ∙ sym (take-append-le n (map unpacked stored) rest (omega (arith, few, length-map stored unpacked)))
    ∙ ap (take n) c.stored-stored.ensures
    ∙ ap (λ (m : ℕ). take m c.args.bx.now.ranges) c.decided-decided.ensures

pub returns-clause-count : goal.returns-clause-count
returns-clause-count c =
    let stored = c.stored-stored.result.now in
    let few : c.decided-decided.result ≤ length stored = omega (arith, c.decided-decided.ensures, ap (λ (rs : List Ranges). length (decided rs)) c.stored-stored.ensures, decided_stored c.args.bx.now.frame stored) in
    length-take-le c.decided-decided.result stored few ∙ c.decided-decided.ensures

pub returns-clause-within : goal.returns-clause-within
returns-clause-within c =
    let f = c.args.bx.now.frame in
    let stored = c.stored-stored.result.now in
    let rest : List Ranges = replicate (f.items - length (map unpacked stored)) (full_ranges f) in
    let in_frame = stored_in_frame f stored rest (subst (λ (rs : List Ranges). All (AreInFrame f) rs) (sym c.stored-stored.ensures) c.frame-frame.ensures.rules.in_frame) in
    taken_within c.args.instance.now c.items-items.ensures.rules stored c.decided-decided.result (subst (λ (g : Frame). All (λ x. AreInFrame g (unpacked x)) stored) c.requires in_frame)
