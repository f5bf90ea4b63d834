use Rattle.std.proofs.Common.{◌≡◌, ◌+◌, ◌++◌, ◌∷◌, ◌==◌, ℕ, Bool, sym, ap, subst, ◌∙◌, refl, arith, length, drop}
use Rattle.cut_sheet.specs.declared.instr.Instr.{Instr}
use Rattle.cut_sheet.specs.Sheets.{finished, parted, parts_sheet}
use Rattle.cut_model.specs.Tree.{is_nothing, neighbours}
use Rattle.cut_model.proofs.Neighbours.{is_last, next}
use Rattle.cut_sheet.proofs.Putting.{put_more}
use Rattle.cut_sheet.proofs.parts.put_parts.Goals as goal

pub loop-place-preserved : goal.loop-place-preserved
loop-place-preserved g c =
    let P = g.P.Part in
    let p = c.index-parts-place.result in
    let rest = neighbours P.size P.sort P.inner (drop (c.loop-place.place + 1) c.args.parts.now) in
    let is = next P.size P.sort P.inner c.args.parts.now c.loop-place.place p p c.loop-place-test.true c.index-parts-place.is in
    let last = is_last P.size P.sort P.inner c.args.parts.now (c.loop-place.place + 1) (omega arith) in
    let instr : c.parted.result ≡ parted (is_nothing rest) (P.size p) =
    c.parted.ensures ∙ ap (λ (b : Bool). parted b c.size.result) last ∙ ap (λ (n : ℕ). parted (is_nothing rest) n) c.size.ensures in
    let written = rw is at c.loop-place.invariant.written in
    record {
      written = put_more c.loop-place.sheet.items c.append.new.run.items _ _ _ _ c.parted.result c.in_ok-append.ensures.ok c.in_ok-finish.ensures
          (subst
          (λ (i : Instr). c.loop-place.sheet.items ++ (i ∷ (finished (P.sort p) (parts_sheet (P.inner p)) ++ parts_sheet rest)) ≡ c.args.sheet.now.items ++ parts_sheet (neighbours P.size P.sort P.inner c.args.parts.now))
          (sym instr) written);
      number = refl;
    }
