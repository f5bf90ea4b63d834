use Rattle.std.proofs.Common.{inl, inr, refl, sym, ◌∙◌}
use Rattle.std.specs.Cmp.Lexicographic.{other_text, same_text}
use Rattle.cut_sheet.proofs.Spelling.{no_type, residual_text, waste_text}
use Rattle.cut_sheet.proofs.numbers.piece_type.Goals as goal

pub returns-then-eq : goal.returns-then-eq
returns-then-eq c = (inl refl, same_text c.args.text.now c.as_slice.result.now c.if-eq.ensures ∙ c.as_slice.ensures ∙ sym waste_text)

pub returns-then-eq-2 : goal.returns-then-eq-2
returns-then-eq-2 c = (inr refl, same_text c.args.text.now c.as_slice-2.result.now c.if-eq-2.ensures ∙ c.as_slice-2.ensures ∙ sym residual_text)

pub returns-in_err-count : goal.returns-in_err-count
returns-in_err-count c =
    rw c.from_residual.ensures (no_type c.args.text.now
    (λ is. other_text c.args.text.now c.as_slice.result.now c.if-eq.ensures (is ∙ sym c.as_slice.ensures))
    (λ is. other_text c.args.text.now c.as_slice-2.result.now c.if-eq-2.ensures (is ∙ sym c.as_slice-2.ensures))
    c.in_err-count.ensures)
