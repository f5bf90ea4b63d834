use Rattle.std.proofs.Common.{◌≡◌, ℕ, ◌<◌, ◌≤◌, [], length, map}
use Rattle.front_table.specs.Pools.{row_at}
use Rattle.front_table.proofs.pools.clear_rows.Given as goal

abbrev pub invariant-loop-row : goal.invariant-loop-row
invariant-loop-row l = record {
  len : length l.rows.items ≡ length l.fn.rows.items;
  empty : (n : ℕ) → n < l.row → row_at (map (λ r. r.items) l.rows.items) n ≡ [];
  rest : (n : ℕ) → l.row ≤ n → row_at (map (λ r. r.items) l.rows.items) n ≡ row_at (map (λ r. r.items) l.fn.rows.items) n;
}
