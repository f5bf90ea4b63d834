-- What a reader has read so far.
use Rattle.std.specs.Prelude.{◌≡◌, ℕ, ◌+◌, ◌<◌, ◌≤◌, List, ◌++◌, length}
use Rattle.cert_log.specs.declared.certificate.Node.{Node}
use Rattle.cert_log.specs.Texts.{Line, lines_text}
use Rattle.cert_log.specs.declared.place.Place.{Place}
use Rattle.cert_log.specs.Follow.{Follow, behind_all, start, nodes_in_all}

-- lines of this version that may follow each other, up to this place and this rest, and their nodes
pub record IsSoFar (version : ℕ) (text : List ℕ) (nodes : List Node) (at : Place) (rest : List ℕ) (line : ℕ) : Type 0 where
  pub lines : List Line
  pub text_is : text ≡ lines_text lines ++ rest
  pub follow : Follow version start lines
  pub place : behind_all start lines ≡ at
  pub nodes_are : nodes ≡ nodes_in_all lines
  pub line_is : line ≡ length lines + 2
  pub few : at.places < line
  pub short : line + length rest ≤ length text + 2
