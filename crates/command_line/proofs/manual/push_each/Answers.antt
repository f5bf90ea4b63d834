use Rattle.std.proofs.Common.{rules, ◌≡◌, ◌++◌, subst, ap, ◌∙◌}
use Rattle.std.specs.Prelude.{IfOk}
use Rattle.std.specs.List.{flat_map}
use Rattle.std.specs.String.{string_bytes}
use Rattle.std.proofs.lemmas.List.{take_all}
use Rattle.command_line.proofs.Told.{told_next}
use Rattle.command_line.proofs.manual.push_each.Goals as goal

pub loop-one-preserved : goal.loop-one-preserved
loop-one-preserved g c = λ say tells.
    let pushed : string_bytes c.push_str.new.self ≡ string_bytes c.loop-one.text ++ string_bytes c.in_ok-piece.piece = search rules in
    let told : string_bytes c.in_ok-piece.piece ≡ say c.one-item.result =
    subst (λ r. IfOk r (λ piece. string_bytes piece ≡ say c.one-item.result)) c.in_ok-piece.was (tells c.one-item.result c.told.result c.told.ensures) in
    pushed ∙ told_next say _ _ _ c.args.all.now c.loop-one.one-index c.one-item.result c.loop-one-test.true c.one-item.is (c.loop-one.invariant say tells) told

pub returns : goal.returns
returns g c = λ say tells.
    c.loop-one.invariant say tells ∙ ap (λ xs. string_bytes c.args.text.now ++ flat_map say xs) (take_all _ _ c.loop-one-test.false)
