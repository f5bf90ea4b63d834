-- Instructions that are appended piece by piece.
use Rattle.std.proofs.Common.{◌≡◌, ℕ, List, [], ◌∷◌, ◌++◌, ap, ◌∙◌, append_assoc}
use Rattle.cut_sheet.specs.declared.instr.Instr.{Instr}

-- an instruction and some more are in front of what is still to come
pub put_more : (old mid new whole more later : List Instr) (instr : Instr) → mid ≡ old ++ instr ∷ [] → new ≡ mid ++ more → old ++ (instr ∷ (more ++ later)) ≡ whole → new ++ later ≡ whole
put_more old mid new whole more later instr one two was =
    ap (λ (s : List Instr). s ++ later) (two ∙ ap (λ (s : List Instr). s ++ more) one)
    ∙ append_assoc (old ++ instr ∷ []) more later
    ∙ append_assoc old (instr ∷ []) (more ++ later)
    ∙ was
