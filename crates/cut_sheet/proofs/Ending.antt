-- How the replay of a sheet ends.
use Rattle.std.proofs.Common.{◌≡◌, ℕ, ◌+◌, ◌<◌, List, [], ◌∷◌, length, drop, get_or, refl, sym, ap, ◌∙◌, Ok, Err}
use Rattle.std.specs.Prelude.{Result}
use Rattle.std.proofs.lemmas.List.{drop_more}
use Rattle.glass_base.specs.Problem.{Problem}
use Rattle.cut_sheet.specs.declared.instr.Instr.{Instr}
use Rattle.cut_sheet.specs.declared.instr.Made.{Made}
use Rattle.cut_sheet.specs.declared.instr.Stuck.{Stuck}
use Rattle.cut_sheet.specs.declared.piece.Piece.{Piece}
use Rattle.cut_sheet.specs.declared.why.Why.{Why}
use Rattle.cut_sheet.specs.Replays.{ended, replayed_from, stuck}
use Rattle.cut_sheet.specs.Table.{Table, done}
use Rattle.cut_sheet.proofs.Makes.{behind_step, step_is}

-- a piece is left on the table
pub ended_kept : (lines : ℕ) (made : List Made) (pile : List Piece) → (pile ≡ [] → ⊥) → ended lines made pile ≡ stuck lines Why.Kept
ended_kept lines made [] some = absurd (some refl)
ended_kept lines made (p ∷ pile) some = refl

-- the instruction at this index cannot be done
pub replay_stuck : (b : Problem) (lines : ℕ) (t : Table) (sheet : List Instr) (i : ℕ) (d : Instr) (why : Why) (whole : Result (List Made) Stuck) → i < length sheet → done b t (get_or sheet i d) ≡ Err why →
    replayed_from b lines t (drop i sheet) ≡ whole → stuck (lines + 1) why ≡ whole
replay_stuck b lines t sheet i d why whole within is was =
    sym (ap (replayed_from b lines t) (drop_more sheet i d within) ∙ step_is b lines t (get_or sheet i d) (drop (i + 1) sheet) ∙ ap (behind_step b lines (drop (i + 1) sheet)) is) ∙ was
