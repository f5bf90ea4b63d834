-- Which first line a text begins with.
use Rattle.std.specs.Prelude.{◌≡◌, ℕ, List, ◌∷◌, ◌++◌, codes, Option, Some, None}
use Rattle.std.specs.Fmt.{decimal}
use Rattle.std.proofs.Common.{Bor}
use Rattle.cert_log.specs.declared.head.Head.{Head}
use Rattle.cert_log.specs.Texts.{first_line, floor_text}
use Rattle.cert_log.specs.Values.{IsFloorOf, IsNumber}
use Rattle.cert_log.specs.Outcomes.{IsHead, NoHead}

-- the text begins with the first line's word and a semicolon
abbrev pub BehindWord : List ℕ → Option (Bor (List ℕ)) → Type 0
BehindWord text (Some rest) = text ≡ codes "glasscert" ++ 59 ∷ rest.now
BehindWord text None = (rest : List ℕ) → text ≡ codes "glasscert" ++ 59 ∷ rest → ⊥

-- the text begins with a number of open nodes and a floor of this version and the end of the line, or with no such numbers
abbrev pub TakesCounts : ℕ → List ℕ → Option (ℕ × ℕ × Bor (List ℕ)) → Type 0
TakesCounts version text (Some p) = IsNumber p.0 × IsFloorOf version p.1 × (text ≡ decimal p.0 ++ (floor_text version p.1 ++ 10 ∷ p.2.now))
TakesCounts version text None =
    (left floor : ℕ) (rest : List ℕ) → IsNumber left → IsFloorOf version floor → text ≡ decimal left ++ (floor_text version floor ++ 10 ∷ rest) → ⊥

-- the text begins with this first line, or with none
abbrev pub BeginsWithHead : List ℕ → Option (Head × Bor (List ℕ)) → Type 0
BeginsWithHead text (Some p) = IsHead p.0 × (text ≡ first_line p.0 ++ p.1.now)
BeginsWithHead text None = NoHead text
