use Rattle.std.proofs.Common.{◌≡◌, ℕ, ◌<◌, inl, inr, [], length, map, refl, ◌∙◌, arith}
use Rattle.std.proofs.lemmas.Bool.{cases_lt}
use Rattle.std.proofs.lemmas.List.{length-set}
use Rattle.front_table.proofs.PoolRows.{rows_len, row_beyond, view_same, view_other}
use Rattle.front_table.proofs.pools.clear_rows.Goals as goal

pub returns-then-row-last-clause-empty : goal.returns-then-row-last-clause-empty
returns-then-row-last-clause-empty c = λ n.
    elim (cases_lt n c.loop-row.row) [
      | inl before ↦ c.loop-row.invariant.empty n before
      | inr behind ↦ c.loop-row.invariant.rest n behind ∙ c.requires n (inr (omega (arith, behind, c.if-row-last.true)))
    ]

pub returns-clause-empty : goal.returns-clause-empty
returns-clause-empty c = λ n.
    elim (cases_lt n c.loop-row.row) [
      | inl before ↦ c.loop-row.invariant.empty n before
      | inr behind ↦ row_beyond (map (λ r. r.items) c.loop-row.rows.items) n (omega (arith, behind, c.loop-row-test.false, c.loop-row.invariant.len, rows_len c.loop-row.rows.items (λ r. r.items)))
    ]

pub loop-row-init : goal.loop-row-init
loop-row-init c = record { len = refl; empty = λ n lt. c.requires n (inl lt); rest = λ n le. refl }

pub loop-row-preserved : goal.loop-row-preserved
loop-row-preserved c =
    let rows = c.loop-row.rows.items in
    let row : ℕ = c.loop-row.row in
    let cleared = c.clear.new.self in
    let none : cleared.items ≡ [] = c.clear.ensures.items in
    let lt : row < length rows = omega (arith, c.loop-row-test.true, c.loop-row.invariant.len) in
    record {
      len = length-set rows row cleared ∙ c.loop-row.invariant.len;
      empty = λ n before.
          elim (cases_lt n row) [
            | inl below ↦ view_other rows (λ r. r.items) row cleared lt n (λ e. absurd (omega (arith, e, below))) ∙ c.loop-row.invariant.empty n below
            | inr above ↦ view_same rows (λ r. r.items) row cleared lt n (omega (arith, above, before)) ∙ none
          ];
      rest = λ n behind. view_other rows (λ r. r.items) row cleared lt n (λ e. absurd (omega (arith, e, behind))) ∙ c.loop-row.invariant.rest n (omega (arith, behind));
    }
