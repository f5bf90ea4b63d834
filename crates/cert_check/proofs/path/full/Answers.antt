use Rattle.std.proofs.Common.{◌≡◌, ◌∷◌, ◌++◌, [], List, length, length-append, map, ap, sym, ◌∙◌, subst, arith, All}
use Rattle.std.proofs.lemmas.List.Elements.{All-push}
use Rattle.std.proofs.lemmas.List.{map-append, replicate_more}
use Rattle.plan_box.specs.Packed.{unpacked}
use Rattle.plan_box.specs.Ranges.{AreInFrame, Ranges, full_ranges}
use Rattle.plan_box.specs.declared.packed.Packed.{Packed}
use Rattle.plan_box.proofs.Shared.{full_in_frame}
use Rattle.cert_check.proofs.path.full.Goals as goal

pub loop-preserved : goal.loop-preserved
loop-preserved c =
    let i = c.loop.invariant in let pushed : c.append.new.run.items ≡ c.loop.run.items ++ c.full.result ∷ [] = c.in_ok-append.ensures.ok in record {
      stored = record {
        frame = c.requires;
        few = (let a = ap (λ (xs : List Packed). length xs) pushed in let m = length-append c.loop.run.items (c.full.result ∷ []) in let l = i.len in let t = c.loop-test.true in omega arith);
        in_frame = subst (All (λ (x : Packed). AreInFrame c.args.frame (unpacked x))) (sym pushed)
            (All-push (λ (x : Packed). AreInFrame c.args.frame (unpacked x)) c.loop.run.items c.full.result i.stored.in_frame
            (subst (AreInFrame c.args.frame) (sym c.full.ensures) (full_in_frame c.args.frame)));
      };
      len = (let a = ap (λ (xs : List Packed). length xs) pushed in let m = length-append c.loop.run.items (c.full.result ∷ []) in let l = i.len in omega arith);
      ranges = ap (λ (xs : List Packed). map unpacked xs) pushed ∙ map-append unpacked c.loop.run.items (c.full.result ∷ []) ∙ ap (λ (x : Ranges). map unpacked c.loop.run.items ++ x ∷ []) c.full.ensures
          ∙ ap (λ (xs : List Ranges). xs ++ full_ranges c.args.frame ∷ []) i.ranges ∙ replicate_more c.loop.counter (full_ranges c.args.frame);
    }
