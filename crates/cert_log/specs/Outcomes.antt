-- What comes of reading a text: the certificate that it stands for, or its first refusal.
use Rattle.std.specs.Prelude.{◌≡◌, ℕ, ◌+◌, ◌<◌, List, [], ◌++◌, length, Result, Ok, Err}
use Rattle.cert_log.specs.declared.certificate.Certificate.{Certificate}
use Rattle.cert_log.specs.declared.bad_cert.BadCert.{BadCert}
use Rattle.cert_log.specs.declared.bad_cert.BadCert.TheVariants as bad
use Rattle.cert_log.specs.declared.head.Head.{Head}
use Rattle.cert_log.specs.Texts.{Line, first_line, head_of, lines_text}
use Rattle.cert_log.specs.Values.{IsFloorOf, IsLoss, IsNumber, IsVersionNumber}
use Rattle.cert_log.specs.Follow.{Follow, NoLine, behind_all, start, nodes_in_all}

-- the version is 1, 2 or 3, and the numbers fit in 64 bits
pub record IsHead (h : Head) : Type 0 where
  pub version : IsVersionNumber h.version
  pub loss : IsLoss h.loss
  pub bound : IsLoss h.bound
  pub left : IsNumber h.left
  pub floor : IsFloorOf h.version h.floor

-- the text begins with no first line
abbrev pub NoHead : List ℕ → Type 0
NoHead text = (h : Head) (rest : List ℕ) → IsHead h → text ≡ first_line h ++ rest → ⊥

-- the text is a first line, lines of nodes that may follow each other, and a rest
pub record Begins (text : List ℕ) (h : Head) (lines : List Line) (rest : List ℕ) : Type 0 where
  pub head : IsHead h
  pub text_is : text ≡ first_line h ++ (lines_text lines ++ rest)
  pub follow : Follow h.version start lines

-- the text is a first line and the lines of the certificate's nodes, which fill all places of the tree
pub record IsWhole (text : List ℕ) (c : Certificate) : Type 0 where
  pub lines : List Line
  pub begins : Begins text (head_of c) lines []
  pub full : (behind_all start lines).places ≡ 0
  pub nodes : c.nodes.items ≡ nodes_in_all lines

-- before the tree is complete, something stands at this line that is no line or may not come there
pub record IsBadLine (text : List ℕ) (line : ℕ) : Type 0 where
  pub head : Head
  pub lines : List Line
  pub rest : List ℕ
  pub begins : Begins text head lines rest
  pub lacking : 0 < (behind_all start lines).places
  pub some : rest ≡ [] → ⊥
  pub none : NoLine head.version (behind_all start lines) rest
  pub line_is : line ≡ length lines + 2

-- before the tree is complete the text ends, after so many lines
pub record IsShort (text : List ℕ) (count : ℕ) : Type 0 where
  pub head : Head
  pub lines : List Line
  pub begins : Begins text head lines []
  pub lacking : 0 < (behind_all start lines).places
  pub count_is : count ≡ length lines + 1

-- behind the complete tree more stands, from this line on
pub record IsTrailing (text : List ℕ) (line : ℕ) : Type 0 where
  pub head : Head
  pub lines : List Line
  pub rest : List ℕ
  pub begins : Begins text head lines rest
  pub full : (behind_all start lines).places ≡ 0
  pub some : rest ≡ [] → ⊥
  pub line_is : line ≡ length lines + 2

-- the certificate that the text stands for, or its first refusal
abbrev pub IsReading : List ℕ → Result Certificate BadCert → Type 0
IsReading text (Ok c) = IsWhole text c
IsReading text (Err bad.Memory) = Unit {0}
IsReading text (Err bad.Head) = NoHead text
IsReading text (Err (bad.Line line)) = IsBadLine text line
IsReading text (Err (bad.Short count)) = IsShort text count
IsReading text (Err (bad.Trailing line)) = IsTrailing text line
