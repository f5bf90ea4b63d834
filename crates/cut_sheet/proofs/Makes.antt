-- Instructions that lead from one table to another, one behind the other.
use Rattle.std.proofs.Common.{◌≡◌, ℕ, ◌+◌, List, [], ◌∷◌, ◌++◌, refl, sym, ap, ◌∙◌, append_assoc, Ok, Err}
use Rattle.std.specs.Prelude.{Result}
use Rattle.glass_base.specs.Problem.{Problem}
use Rattle.cut_sheet.specs.declared.instr.Instr.{Instr}
use Rattle.cut_sheet.specs.declared.instr.Made.{Made}
use Rattle.cut_sheet.specs.declared.instr.Stuck.{Stuck}
use Rattle.cut_sheet.specs.declared.why.Why.{Why}
use Rattle.cut_sheet.specs.Replays.{replayed_from, stuck}
use Rattle.cut_sheet.specs.Table.{Table, done}

-- whatever comes behind these instructions goes on from the new table
pub record Makes (b : Problem) (old : Table) (sheet : List Instr) (new : Table) : Type 0 where
  pub goes : (lines : ℕ) (later : List Instr) → (n : ℕ) × (replayed_from b lines old (sheet ++ later) ≡ replayed_from b n new later)

-- what comes of a step, and of the instructions behind it
abbrev pub behind_step : Problem → ℕ → List Instr → Result Table Why → Result (List Made) Stuck
behind_step b lines later (Ok next) = replayed_from b (lines + 1) next later
behind_step b lines later (Err why) = stuck (lines + 1) why

pub step_is : (b : Problem) (lines : ℕ) (t : Table) (instr : Instr) (later : List Instr) → replayed_from b lines t (instr ∷ later) ≡ behind_step b lines later (done b t instr)
step_is b lines t instr later = by (done b t instr)
  where
    by : (r : Result Table Why) → (elim r [ Ok next ↦ replayed_from b (lines + 1) next later | Err why ↦ stuck (lines + 1) why ]) ≡ behind_step b lines later r
    by (Ok next) = refl
    by (Err why) = refl

-- one instruction that can be done
pub makes_one : (b : Problem) (old new : Table) (instr : Instr) → done b old instr ≡ Ok new → Makes b old (instr ∷ []) new
makes_one b old new instr is = record { goes = λ lines later. (lines + 1, step_is b lines old instr later ∙ ap (behind_step b lines later) is) }

pub makes_none : (b : Problem) (t : Table) → Makes b t [] t
makes_none b t = record { goes = λ lines later. (lines, refl) }

-- some instructions, and some more
pub makes_both : (b : Problem) (old mid new : Table) (first second : List Instr) → Makes b old first mid → Makes b mid second new → Makes b old (first ++ second) new
makes_both b old mid new first second h k = record {
  goes = λ lines later.
      let one = h.goes lines (second ++ later) in
      let two = k.goes one.0 later in
      (two.0, ap (λ (s : List Instr). replayed_from b lines old s) (append_assoc first second later) ∙ one.1 ∙ two.1);
}
