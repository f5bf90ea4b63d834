-- The text of a whole tree is read to its end.
use Rattle.std.proofs.Common.{◌≡◌, ℕ, suc, ◌+◌, ◌-◌, ◌<◌, ◌≤◌, inl, inr, Bool, true, false, cond, eqb, List, [], ◌∷◌, ◌++◌, map, refl, sym, ap, ◌∙◌, subst, arith}
use Rattle.std.specs.Prelude.{All}
use Rattle.std.proofs.lemmas.Bool.{cases_lt, eq-eqb}
use Rattle.std.proofs.lemmas.List.{append_assoc, append-nil}
use Rattle.std.proofs.lemmas.List.Elements.{All-head, All-tail}
use Rattle.plan_box.specs.declared.var.Var.{Var}
use Rattle.cert_log.specs.declared.history.Cause.{Cause}
use Rattle.cert_log.specs.declared.certificate.Node.{Node}
use Rattle.cert_log.specs.declared.certificate.Certificate.{Certificate}
use Rattle.cert_log.specs.declared.place.Place.{Place}
use Rattle.cert_log.specs.Trees.{Tree, halved, closed, waiting, nodes_of, FitsVersion, StepBelow}
use Rattle.cert_log.specs.Texts.{Line, splits, closes, opens_one, opens, first_line, head_of, single_line, with_open, grouped, lines_of, lines_text}
use Rattle.cert_log.specs.Follow.{MayCome, Follow, behind_all, start}
use Rattle.cert_log.specs.Readings.{IsTextOf}
use Rattle.cert_log.specs.Outcomes.{IsWhole}
use Rattle.cert_log.specs.Values.{IsVersionNumber}
use Rattle.cert_log.specs.ReadAgain.{WrittenIsRead}
use Rattle.cert_log.proofs.OneText.{head_fits, nodes_again}
use Rattle.cert_log.proofs.Spelling.{later_is}
use Rattle.glass_base.specs.declared.limits.TheConstants.{MOST_ITEMS}

abbrev place : ℕ → Bool → Place
place k after = record { places = k; after_open = after }

-- the lines may follow each other here, and complete the tree
abbrev Done : ℕ → Place → List Line → Type 0
Done version at ls = Follow version at ls × ((behind_all at ls).places ≡ 0)

-- what nodes of a version need
abbrev Fits : ℕ → Node → Type 0
Fits version n = FitsVersion version n × StepBelow MOST_ITEMS n

closes_may : (version : ℕ) (at : Place) (k : Cause) → FitsVersion version (Node.Closed k) → MayCome version at (closes k)
closes_may version at Cause.Unsaid f = f
closes_may version at Cause.Floor f = f
closes_may version at Cause.Bound f = f
closes_may version at (Cause.Reason r) f = f

closed_done : (version k : ℕ) (cause : Cause) (ls : List Line) → FitsVersion version (Node.Closed cause) → Done version (place k false) ls → Done version (place (k + 1) false) (closes cause ∷ ls)
closed_done version k cause ls fits d =
    let e : k ≡ (k + 1) - 1 = omega arith in
    let g = subst (λ (p : ℕ). Done version (place p false) ls) e d in ((omega arith, closes_may version (place (k + 1) false) cause fits, g.0), g.1)

one_done : (version k : ℕ) (ls : List Line) → version ≡ 1 → Done version (place k false) ls → Done version (place (k + 1) false) (opens_one ∷ ls)
one_done version k ls is d = let e : k ≡ (k + 1) - 1 = omega arith in let g = subst (λ (p : ℕ). Done version (place p false) ls) e d in ((omega arith, is, g.0), g.1)

-- an open node before lines
open_done : (version k : ℕ) (ls : List Line) → 2 ≤ version → Done version (place k false) ls → Done version (place (k + 1) false) (with_open ls)
open_done version k [] later d = let z = d.1 in ((omega arith, (later, omega arith, omega arith, refl), tt), omega arith)
open_done version k (splits s v ∷ ls) later d =
    let e : k ≡ (k + 1) - 1 = omega arith in let g = subst (λ (p : ℕ). Done version (place p true) (splits s v ∷ ls)) e (d.0, d.1) in ((omega arith, (later, omega arith, omega arith, refl), g.0), g.1)
open_done version k (closes c ∷ ls) later d =
    let e : k ≡ (k + 1) - 1 = omega arith in let g = subst (λ (p : ℕ). Done version (place p true) (closes c ∷ ls)) e ((d.0.0, any c d.0.1, d.0.2), d.1) in ((omega arith, (later, omega arith, omega arith, refl), g.0), g.1)
  where
    any : (j : Cause) → MayCome version (place k false) (closes j) → MayCome version (place k true) (closes j)
    any Cause.Unsaid m = m
    any Cause.Floor m = m
    any Cause.Bound m = m
    any (Cause.Reason r) m = m
open_done version k (opens_one ∷ ls) later d = absurd (let m = d.0.1 in omega arith)
open_done version k (opens n ∷ ls) later d =
    let few = d.0.1.2 in let e : k - n ≡ (k + 1) - suc n = omega arith in
    let g = subst (λ (p : ℕ). Done version (place p true) ls) e (d.0.2, d.1) in ((omega arith, (later, omega arith, omega arith, refl), g.0), g.1)

-- whether it is version 1; every other one is a later one
abbrev IsFirst : ℕ → Bool → Type 0
IsFirst version true = version ≡ 1
IsFirst version false = 2 ≤ version

first_by_number : (version : ℕ) → IsVersionNumber version → IsFirst version (eqb version 1)
first_by_number version is =
    elim (cases_lt version 2) [
      | inl few ↦ (let one : version ≡ 1 = omega (arith, few, is.0) in subst (IsFirst version) (sym (eq-eqb version 1 one)) one)
      | inr many ↦ subst (IsFirst version) (sym (later_is version many)) many
    ]

abbrev lines_in : Bool → List Node → List Line
lines_in first ns = cond first (map single_line ns) (grouped ns)

closed_node_done : (version : ℕ) (first : Bool) (c : Cause) (k : ℕ) (ns : List Node) → FitsVersion version (Node.Closed c) → Done version (place k false) (lines_in first ns) → Done version (place (k + 1) false) (lines_in first (Node.Closed c ∷ ns))
closed_node_done version true c k ns fits d = closed_done version k c (map single_line ns) fits d
closed_node_done version false c k ns fits d = closed_done version k c (grouped ns) fits d

open_node_done : (version : ℕ) (first : Bool) (k : ℕ) (ns : List Node) → IsFirst version first → Done version (place k false) (lines_in first ns) → Done version (place (k + 1) false) (lines_in first (Node.Left ∷ ns))
open_node_done version true k ns is d = one_done version k (map single_line ns) is d
open_node_done version false k ns is d = open_done version k (grouped ns) is d

split_done : (version : ℕ) (first : Bool) (s : ℕ) (v : Var) (k : ℕ) (ns : List Node) → s < MOST_ITEMS → Done version (place (k + 1 + 1) false) (lines_in first ns) → Done version (place (k + 1) false) (lines_in first (Node.Split s v ∷ ns))
split_done version true s v k ns f d = ((omega arith, f, d.0), d.1)
split_done version false s v k ns f d = ((omega arith, f, d.0), d.1)

all_behind : (version : ℕ) (xs ys : List Node) → All (Fits version) (xs ++ ys) → All (Fits version) ys
all_behind version [] ys a = a
all_behind version (x ∷ xs) ys a = all_behind version xs ys (All-tail (Fits version) x (xs ++ ys) a)

tree_done : (version : ℕ) (b : Bool) (t : Tree) (k : ℕ) (ns : List Node) → IsFirst version b → All (Fits version) (nodes_of t ++ ns) → Done version (place k false) (lines_in b ns) → Done version (place (k + 1) false) (lines_in b (nodes_of t ++ ns))
tree_done version b (halved s v lower upper) k ns is a d =
    let e = append_assoc (nodes_of lower) (nodes_of upper) ns in
    let first = All-head (Fits version) (Node.Split s v) ((nodes_of lower ++ nodes_of upper) ++ ns) a in
    let rest = subst (All (Fits version)) e (All-tail (Fits version) (Node.Split s v) ((nodes_of lower ++ nodes_of upper) ++ ns) a) in
    let u = tree_done version b upper k ns is (all_behind version (nodes_of lower) (nodes_of upper ++ ns) rest) d in
    let w = tree_done version b lower (k + 1) (nodes_of upper ++ ns) is rest u in
    split_done version b s v k ((nodes_of lower ++ nodes_of upper) ++ ns) first.1 (subst (λ (ms : List Node). Done version (place (k + 1 + 1) false) (lines_in b ms)) (sym e) w)
tree_done version b (closed c) k ns is a d = let fits = All-head (Fits version) (Node.Closed c) ns a in closed_node_done version b c k ns fits.0 d
tree_done version b waiting k ns is a d = open_node_done version b k ns is d

all_both : (version : ℕ) (ns : List Node) → All (FitsVersion version) ns → All (StepBelow MOST_ITEMS) ns → All (Fits version) ns
all_both version ns a b = λ i d within. (a i d within, b i d within)

pub written_is_read : WrittenIsRead
written_is_read text c t =
    let ns = c.nodes.items in let version = c.version in let first = eqb c.version 1 in
    let all = all_both version ns t.version.1.1 t.steps in
    let tree = t.tree.1 ∙ sym (append-nil (nodes_of t.tree.0)) in
    let d = subst (λ (ms : List Node). Done version (place (0 + 1) false) (lines_in first ms)) (sym tree)
    (tree_done version first t.tree.0 0 [] (first_by_number version t.version.0) (subst (All (Fits version)) tree all) (nothing version first)) in
    record {
      lines = lines_of version ns;
      begins = record {
        head = head_fits text c t;
        text_is = t.text_is ∙ ap (λ (s : List ℕ). first_line (head_of c) ++ s) (sym (append-nil (lines_text (lines_of version ns))));
        follow = d.0;
      };
      full = d.1;
      nodes = sym (nodes_again version ns);
    }
  where
    nothing : (version : ℕ) (a : Bool) → Done version (place 0 false) (lines_in a [])
    nothing version true = (tt, refl)
    nothing version false = (tt, refl)
