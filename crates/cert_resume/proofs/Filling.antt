-- Nodes with those of a part in the place of each open one.
use Rattle.std.proofs.Common.{◌≡◌, ℕ, ◌+◌, ◌<◌, ◌≤◌, inl, inr, List, [], ◌∷◌, length, max, refl, arith, All}
use Rattle.std.specs.Prelude.{cond, count_by, sum_by}
use Rattle.std.proofs.lemmas.List.{length-append}
use Rattle.std.proofs.lemmas.List.Elements.{All-append, All-cons, All-head, All-map, All-nil, All-tail, All-weaker}
use Rattle.std.proofs.lemmas.Bool.{cases_lt}
use Rattle.std.proofs.lemmas.List.Sums.{sum_by-cons}
use Rattle.cert_log.specs.declared.certificate.Certificate.{Certificate}
use Rattle.cert_log.specs.declared.certificate.Node.{Node}
use Rattle.cert_log.specs.declared.history.Cause.{Cause}
use Rattle.cert_log.specs.Good.{IsVersion, IsVersionFor, version_for}
use Rattle.cert_log.specs.Trees.{FitsVersion, is_left}
use Rattle.cert_log.proofs.Versions.{three, two_or_three}
use Rattle.cert_resume.specs.Joins.{filled, nodes_in}

fills_all : (P : Node → Type 0) (nodes : List Node) (parts : List (List Node)) → All P nodes → All (All P) parts → All P (filled nodes parts)
fills_all P [] parts h k = All-nil P
fills_all P (Node.Split step v ∷ nodes) parts h k = All-cons P (Node.Split step v) (filled nodes parts) (All-head P (Node.Split step v) nodes h) (fills_all P nodes parts (All-tail P (Node.Split step v) nodes h) k)
fills_all P (Node.Closed cause ∷ nodes) parts h k = All-cons P (Node.Closed cause) (filled nodes parts) (All-head P (Node.Closed cause) nodes h) (fills_all P nodes parts (All-tail P (Node.Closed cause) nodes h) k)
fills_all P (Node.Left ∷ nodes) [] h k = All-cons P Node.Left (filled nodes []) (All-head P Node.Left nodes h) (fills_all P nodes [] (All-tail P Node.Left nodes h) k)
fills_all P (Node.Left ∷ nodes) (part ∷ parts) h k =
    All-append P part (filled nodes parts) (All-head (All P) part parts k) (fills_all P nodes parts (All-tail P Node.Left nodes h) (All-tail (All P) part parts k))

-- a node of a version that names the causes is one of each later version
fits_later : (version later : ℕ) (node : Node) → 2 ≤ version → version ≤ later → FitsVersion version node → FitsVersion later node
fits_later version later (Node.Split step v) second le fits = tt
fits_later version later (Node.Closed Cause.Unsaid) second le fits = absurd (omega (arith, second, fits))
fits_later version later (Node.Closed Cause.Floor) second le fits = omega (arith, le, fits)
fits_later version later (Node.Closed Cause.Bound) second le fits = omega (arith, second, le)
fits_later version later (Node.Closed (Cause.Reason r)) second le fits = omega (arith, second, le)
fits_later version later Node.Left second le fits = tt

-- nodes of a version that names the causes are those of each later version
all_later : (version later : ℕ) (nodes : List Node) → 2 ≤ version → version ≤ later → All (FitsVersion version) nodes → All (FitsVersion later) nodes
all_later version later nodes second le fits = All-weaker (FitsVersion version) (FitsVersion later) (λ node is. fits_later version later node second le is) nodes fits

-- the causes of the nodes are those of the version with this floor
pub fills_version : (c : Certificate) (parts : List Certificate) (floor : ℕ) → 2 ≤ c.version → IsVersion c.version c → All (IsVersionFor floor) parts
    → All (FitsVersion (max c.version (version_for floor))) (filled c.nodes.items (nodes_in parts))
fills_version c parts floor second version versions =
    let own = version_for floor in let names = two_or_three floor in let later = max c.version own in
    fills_all (FitsVersion later) c.nodes.items (nodes_in parts) (all_later c.version later c.nodes.items second (omega arith) version.1)
    (All-map (All (FitsVersion later)) (λ (p : Certificate). p.nodes.items) parts
    (All-weaker (IsVersionFor floor) (λ (p : Certificate). All (FitsVersion later) p.nodes.items)
    (λ p is. all_later own later p.nodes.items names (omega arith) is.0.1) parts versions))

-- a version before the third has no floor
pub no_floor_before : (version floor : ℕ) → max version (version_for floor) < 3 → floor ≡ 0
no_floor_before version floor low = elim (cases_lt 0 floor) [
  | inl some ↦ absurd (let third = three floor some in omega (arith, third, low))
  | inr none ↦ omega (arith, none)
]

-- their floors are no greater
pub low_floors : (floor : ℕ) (parts : List Certificate) → All (IsVersionFor floor) parts → All (λ (p : Certificate). p.floor ≤ floor) parts
low_floors floor parts versions = All-weaker (IsVersionFor floor) (λ (p : Certificate). p.floor ≤ floor) (λ p is. omega (arith, is.1)) parts versions

-- one for an open node
abbrev one : Node → ℕ
one node = cond (is_left node) 1 0

abbrev pub nodes_count : Certificate → ℕ
nodes_count p = length p.nodes.items

-- the nodes are those of all, but for the open ones that were filled
pub fills_count : (nodes : List Node) (parts : List Certificate) → length parts ≡ count_by is_left nodes → length (filled nodes (nodes_in parts)) + length parts ≡ length nodes + sum_by nodes_count parts
fills_count [] [] e = refl
fills_count [] (p ∷ ps) e = absurd (omega (arith, e))
fills_count (Node.Split step v ∷ nodes) parts e =
    let c = sum_by-cons one (Node.Split step v) nodes in let h = fills_count nodes parts (omega (arith, e, c)) in omega (arith, h)
fills_count (Node.Closed cause ∷ nodes) parts e =
    let c = sum_by-cons one (Node.Closed cause) nodes in let h = fills_count nodes parts (omega (arith, e, c)) in omega (arith, h)
fills_count (Node.Left ∷ nodes) [] e = absurd (let c = sum_by-cons one Node.Left nodes in omega (arith, e, c))
fills_count (Node.Left ∷ nodes) (p ∷ ps) e =
    let c = sum_by-cons one Node.Left nodes in let h = fills_count nodes ps (omega (arith, e, c)) in
    let s = sum_by-cons nodes_count p ps in let l = length-append p.nodes.items (filled nodes (nodes_in ps)) in omega (arith, h, s, l)
