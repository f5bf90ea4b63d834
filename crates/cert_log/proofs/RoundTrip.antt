-- What is written is read again.
use Rattle.std.proofs.Common.{◌≡◌, ℕ, ◌^◌, ◌<◌, ◌≤◌, List, [], ◌∷◌, length, ap, arith, Ok, Err}
use Rattle.std.proofs.lemmas.List.{length-append, length-replicate}
use Rattle.cert_log.specs.declared.certificate.Certificate.{Certificate}
use Rattle.cert_log.specs.declared.certificate.Node.{Node}
use Rattle.cert_log.specs.declared.place.Place.{Place}
use Rattle.cert_log.specs.Follow.{MayCome, Follow, behind, start, nodes_in, nodes_in_all}
use Rattle.cert_log.specs.Outcomes.{IsWhole}
use Rattle.cert_log.specs.Readings.{IsTextOf}
use Rattle.cert_log.specs.ReadAgain.{OneCertificate, RoundTrip}
use Rattle.cert_log.specs.Texts.{Line, splits, closes, opens_one, opens, head_of}
use Rattle.cert_log.proofs.Whole.{written_is_read}
use Rattle.cert_log.proofs.OneStop.{short_begins, whole_accepted, whole_alike}

pub one_certificate : OneCertificate
one_certificate text c d small w u = whole_alike text c d w (short_begins text (head_of c) w.lines [] small w.begins) u

-- a line that may come tells a node at least
some_node : (version : ℕ) (at : Place) (l : Line) → MayCome version at l → 1 ≤ length (nodes_in l)
some_node version at (splits step v) may = omega arith
some_node version at (closes cause) may = omega arith
some_node version at opens_one may = omega arith
some_node version at (opens n) may = let some = may.1 in let e = length-replicate n Node.Left in omega arith

lines_of_nodes : (version : ℕ) (at : Place) (ls : List Line) → Follow version at ls → length ls ≤ length (nodes_in_all ls)
lines_of_nodes version at [] f = omega arith
lines_of_nodes version at (l ∷ ls) f =
    let one = some_node version at l f.1 in let later = lines_of_nodes version (behind at l) ls f.2 in let e = length-append (nodes_in l) (nodes_in_all ls) in omega arith

-- the text of a certificate has few lines
few_written : (text : List ℕ) (c : Certificate) → IsTextOf text c → (w : IsWhole text c) → length w.lines < 2 ^ 64
few_written text c t w =
    let few = lines_of_nodes c.version start w.lines w.begins.follow in let e : length c.nodes.items ≡ length (nodes_in_all w.lines) = ap length w.nodes in
    let nodes = t.numbers.nodes in omega arith

pub round_trip : RoundTrip
round_trip text c (Ok d) t r = let w = written_is_read text c t in whole_alike text c d w (few_written text c t w) r
round_trip text c (Err b) t r = let w = written_is_read text c t in whole_accepted text c b w (few_written text c t w) r
