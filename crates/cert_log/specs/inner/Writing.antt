-- One step in which a tree is written.
use Rattle.std.specs.Prelude.{◌≡◌, ℕ, ◌+◌, [], ◌∷◌, ◌++◌, length}
use Rattle.cert_log.specs.declared.history.History.{History}
use Rattle.cert_log.specs.declared.assembling.CertGrowth.{CertGrowth}
use Rattle.cert_log.specs.inner.Growth.{IsGrowing}

-- some tree is being written, of which that of `next` comes next
abbrev pub IsNext : History → ℕ → CertGrowth → Type 0
IsNext h next g = (root : ℕ) × IsGrowing h root (g.waiting.items ++ next ∷ []) g.nodes.items g.bound

-- one more node is written, whatever tree it is that is being written
pub record Writes (h : History) (next : ℕ) (old new : CertGrowth) : Type 0 where
  pub one : length new.nodes.items ≡ length old.nodes.items + 1
  pub keeps : (root : ℕ) → IsGrowing h root (old.waiting.items ++ next ∷ []) old.nodes.items old.bound
      → IsGrowing h root new.waiting.items new.nodes.items new.bound
