-- Which line a text is.
use Rattle.std.specs.Prelude.{◌≡◌, ℕ, ◌+◌, ◌^◌, ◌<◌, List, [], ◌∷◌, ◌++◌, Option, Some, None, Result, Ok, Err}
use Rattle.std.specs.Fmt.{decimal}
use Rattle.std.proofs.Common.{Bor}
use Rattle.cert_log.specs.declared.bad_cert.BadCert.{BadCert}
use Rattle.cert_log.specs.declared.bad_cert.BadCert.TheVariants as bad
use Rattle.cert_log.specs.declared.place.Place.{Place}
use Rattle.cert_log.specs.declared.place.TextLine.{TextLine}
use Rattle.cert_log.specs.Texts.{Line, splits, closes, opens_one, opens, letter, cause_text, line_text}
use Rattle.cert_log.specs.Values.{IsNumber}
use Rattle.cert_log.specs.Follow.{MayCome, NoLine}

-- the line that a reader found
abbrev pub said : TextLine → Line
said (TextLine.Split step v) = splits step v
said (TextLine.Closed cause) = closes cause
said TextLine.Open = opens_one
said (TextLine.Opens n) = opens n

-- a line without its end
abbrev pub body : Line → List ℕ
body (splits step v) = 83 ∷ 59 ∷ (decimal step ++ 59 ∷ letter v)
body (closes cause) = 67 ∷ cause_text cause
body opens_one = 79 ∷ []
body (opens n) = 79 ∷ 59 ∷ decimal n

-- the line's step fits in 32 bits, its number of open nodes in 64
abbrev pub IsFormed : Line → Type 0
IsFormed (splits step v) = step < 2 ^ 32
IsFormed (closes cause) = Unit {0}
IsFormed opens_one = Unit {0}
IsFormed (opens n) = IsNumber n

-- the text is that line without its end, or no line at all
abbrev pub SaysLine : List ℕ → Option TextLine → Type 0
SaysLine text (Some line) = IsFormed (said line) × (text ≡ body (said line))
SaysLine text None = (l : Line) → IsFormed l → text ≡ body l → ⊥

-- the line may come here in some version
abbrev pub ComesIn : Place → Line → Type 0
ComesIn at l = (version : ℕ) × MayCome version at l

-- the text begins with a line that may come, or is refused at this line
abbrev pub NextLine : ℕ → Place → ℕ → List ℕ → Result (TextLine × Bor (List ℕ)) BadCert → Type 0
NextLine version at line text (Ok p) = MayCome version at (said p.0) × (text ≡ line_text (said p.0) ++ p.1.now)
NextLine version at line text (Err bad.Memory) = ⊥
NextLine version at line text (Err bad.Head) = ⊥
NextLine version at line text (Err (bad.Line k)) = (text ≡ [] → ⊥) × NoLine version at text × (k ≡ line)
NextLine version at line text (Err (bad.Short k)) = (text ≡ []) × (k + 1 ≡ line)
NextLine version at line text (Err (bad.Trailing k)) = ⊥
