use Rattle.std.proofs.Common.{◌≡◌, ◌++◌, ℕ, List, take}
use Rattle.std.specs.List.{flat_map}
use Rattle.std.specs.String.{string_bytes}
use Rattle.command_line.specs.inner.Tellings.{Tells}
use Rattle.command_line.proofs.manual.push_each.Given as goal

abbrev pub invariant-loop-one : goal.invariant-loop-one
invariant-loop-one g l =
    (say : g.row.T.Denot → List ℕ) → Tells (λ x r. goal.F-post g l.told x r) say → string_bytes l.text ≡ string_bytes l.initial.text ++ flat_map say (take l.one-index l.all)
