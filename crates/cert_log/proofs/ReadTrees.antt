-- What is read is one whole tree, and has this text.
use Rattle.std.proofs.Common.{◌≡◌, ℕ, zero, suc, ◌+◌, ◌-◌, ◌≤◌, inl, inr, true, false, List, [], ◌∷◌, ◌++◌, length, map, replicate, refl, sym, ap, ◌∙◌, subst, arith}
use Rattle.std.specs.Prelude.{◌<◌, ◌^◌, All, IfOk, Result, Ok, Err}
use Rattle.std.specs.List.{flat_map}
use Rattle.std.proofs.lemmas.Bool.{cases_lt}
use Rattle.std.proofs.lemmas.List.{append_assoc, append-nil, length-append, length-replicate}
use Rattle.std.proofs.lemmas.List.Elements.{All-nil, All-cons, All-append, All-replicate}
use Rattle.plan_box.specs.declared.var.Var.{Var}
use Rattle.cert_log.specs.declared.history.Cause.{Cause}
use Rattle.cert_log.specs.declared.bad_cert.BadCert.{BadCert}
use Rattle.cert_log.specs.declared.certificate.Certificate.{Certificate}
use Rattle.cert_log.specs.declared.certificate.Node.{Node}
use Rattle.cert_log.specs.Good.{HasVersion}
use Rattle.cert_log.specs.Outcomes.{IsReading}
use Rattle.cert_log.specs.Values.{IsVersionNumber}
use Rattle.cert_log.specs.Trees.{Tree, halved, closed, waiting, nodes_of, IsTree, FitsVersion, StepBelow}
use Rattle.cert_log.specs.declared.place.Place.{Place}
use Rattle.cert_log.specs.Texts.{Line, splits, closes, opens_one, opens, first_line, head_of, line_text, single_line, with_open, grouped, lines_of, lines_text}
use Rattle.cert_log.specs.Follow.{MayCome, Follow, behind, behind_all, start, nodes_in, nodes_in_all}
use Rattle.cert_log.specs.ReadAgain.{ReadIsText}
use Rattle.cert_log.specs.inner.LineForms.{body}
use Rattle.cert_log.proofs.Spelling.{line_ends, lines_later}
use Rattle.glass_base.specs.declared.limits.TheConstants.{MOST_ITEMS}

-- the nodes are of so many trees
record IsForest (k : ℕ) (ns : List Node) : Type 0 where
  trees : List Tree
  count : length trees ≡ k
  nodes : ns ≡ flat_map nodes_of trees

joins : (k s : ℕ) (v : Var) (ns : List Node) (ts : List Tree) → length ts ≡ k + 2 → ns ≡ flat_map nodes_of ts → IsForest (k + 1) (Node.Split s v ∷ ns)
joins k s v ns [] c e = absurd (let n : 0 ≡ k + 2 = c in omega arith)
joins k s v ns (t ∷ []) c e = absurd (let n : 1 ≡ k + 2 = c in omega arith)
joins k s v ns (t ∷ u ∷ ts) c e = record {
  trees = halved s v t u ∷ ts;
  count = omega arith;
  nodes = ap (λ (ms : List Node). Node.Split s v ∷ ms) (e ∙ sym (append_assoc (nodes_of t) (nodes_of u) (flat_map nodes_of ts)));
}

waits : (n : ℕ) (ts : List Tree) → replicate n Node.Left ++ flat_map nodes_of ts ≡ flat_map nodes_of (replicate n waiting ++ ts)
waits zero ts = refl
waits (suc n) ts = ap (λ (ms : List Node). Node.Left ∷ ms) (waits n ts)

forest : (version : ℕ) (at : Place) (ls : List Line) → Follow version at ls → (behind_all at ls).places ≡ 0 → IsForest at.places (nodes_in_all ls)
forest version at [] f full = record { trees = []; count = sym full; nodes = refl }
forest version at (splits s v ∷ ls) f full =
    let r = forest version (behind at (splits s v)) ls f.2 full in let some = f.0 in let c = r.count in
    let e : (at.places - 1) + 1 ≡ at.places = omega arith in
    subst (λ (k : ℕ). IsForest k (Node.Split s v ∷ nodes_in_all ls)) e (joins (at.places - 1) s v (nodes_in_all ls) r.trees (omega arith) r.nodes)
forest version at (closes k ∷ ls) f full =
    let r = forest version (behind at (closes k)) ls f.2 full in let some = f.0 in let c = r.count in
    record { trees = closed k ∷ r.trees; count = omega arith; nodes = ap (λ (ms : List Node). Node.Closed k ∷ ms) r.nodes }
forest version at (opens_one ∷ ls) f full =
    let r = forest version (behind at opens_one) ls f.2 full in let some = f.0 in let c = r.count in
    record { trees = waiting ∷ r.trees; count = omega arith; nodes = ap (λ (ms : List Node). Node.Left ∷ ms) r.nodes }
forest version at (opens n ∷ ls) f full =
    let r = forest version (behind at (opens n)) ls f.2 full in let few = f.1.2 in let c = r.count in
    let l = length-append (replicate n waiting) r.trees in let m = length-replicate n waiting in
    record { trees = replicate n waiting ++ r.trees; count = omega arith; nodes = ap (λ (ms : List Node). replicate n Node.Left ++ ms) r.nodes ∙ waits n r.trees }

one_tree : (ns : List Node) (ts : List Tree) → length ts ≡ 1 → ns ≡ flat_map nodes_of ts → IsTree ns
one_tree ns [] c e = absurd (let n : 0 ≡ 1 = c in omega arith)
one_tree ns (t ∷ []) c e = (t, e ∙ append-nil (nodes_of t))
one_tree ns (t ∷ u ∷ ts) c e = absurd (let n : suc (suc (length ts)) ≡ 1 = c in omega arith)

fits_in : (version : ℕ) (at : Place) (l : Line) → MayCome version at l → All (FitsVersion version) (nodes_in l)
fits_in version at (splits s v) m = All-cons (FitsVersion version) (Node.Split s v) [] tt (All-nil (FitsVersion version))
fits_in version at (closes Cause.Unsaid) m = All-cons (FitsVersion version) (Node.Closed Cause.Unsaid) [] m (All-nil (FitsVersion version))
fits_in version at (closes Cause.Floor) m = All-cons (FitsVersion version) (Node.Closed Cause.Floor) [] m (All-nil (FitsVersion version))
fits_in version at (closes Cause.Bound) m = All-cons (FitsVersion version) (Node.Closed Cause.Bound) [] m (All-nil (FitsVersion version))
fits_in version at (closes (Cause.Reason r)) m = All-cons (FitsVersion version) (Node.Closed (Cause.Reason r)) [] m (All-nil (FitsVersion version))
fits_in version at opens_one m = All-cons (FitsVersion version) Node.Left [] tt (All-nil (FitsVersion version))
fits_in version at (opens n) m = All-replicate (FitsVersion version) n Node.Left tt

steps_in : (version : ℕ) (at : Place) (l : Line) → MayCome version at l → All (StepBelow MOST_ITEMS) (nodes_in l)
steps_in version at (splits s v) m = All-cons (StepBelow MOST_ITEMS) (Node.Split s v) [] m (All-nil (StepBelow MOST_ITEMS))
steps_in version at (closes k) m = All-cons (StepBelow MOST_ITEMS) (Node.Closed k) [] tt (All-nil (StepBelow MOST_ITEMS))
steps_in version at opens_one m = All-cons (StepBelow MOST_ITEMS) Node.Left [] tt (All-nil (StepBelow MOST_ITEMS))
steps_in version at (opens n) m = All-replicate (StepBelow MOST_ITEMS) n Node.Left tt

all_fit : (version : ℕ) (at : Place) (ls : List Line) → Follow version at ls → All (FitsVersion version) (nodes_in_all ls)
all_fit version at [] f = All-nil (FitsVersion version)
all_fit version at (l ∷ ls) f = All-append (FitsVersion version) (nodes_in l) (nodes_in_all ls) (fits_in version at l f.1) (all_fit version (behind at l) ls f.2)

all_steps : (version : ℕ) (at : Place) (ls : List Line) → Follow version at ls → All (StepBelow MOST_ITEMS) (nodes_in_all ls)
all_steps version at [] f = All-nil (StepBelow MOST_ITEMS)
all_steps version at (l ∷ ls) f = All-append (StepBelow MOST_ITEMS) (nodes_in l) (nodes_in_all ls) (steps_in version at l f.1) (all_steps version (behind at l) ls f.2)

-- a line has two bytes at least
two_bytes : (l : Line) (rest : List ℕ) → 2 + length rest ≤ length (line_text l ++ rest)
two_bytes l rest = let e : length (line_text l ++ rest) ≡ length (body l ++ 10 ∷ rest) = ap length (line_ends l rest) in let f = length-append (body l) (10 ∷ rest) in let g = some l in omega arith
  where
    some : (m : Line) → 1 ≤ length (body m)
    some (splits s v) = omega arith
    some (closes k) = omega arith
    some opens_one = omega arith
    some (opens n) = omega arith

few_nodes : (version : ℕ) (at : Place) (ls : List Line) → Follow version at ls → length (nodes_in_all ls) ≤ at.places + length (lines_text ls)
few_nodes version at [] f = omega arith
few_nodes version at (splits s v ∷ ls) f = let r = few_nodes version (behind at (splits s v)) ls f.2 in let t = two_bytes (splits s v) (lines_text ls) in omega arith
few_nodes version at (closes k ∷ ls) f = let r = few_nodes version (behind at (closes k)) ls f.2 in let t = two_bytes (closes k) (lines_text ls) in let some = f.0 in omega arith
few_nodes version at (opens_one ∷ ls) f = let r = few_nodes version (behind at opens_one) ls f.2 in let t = two_bytes opens_one (lines_text ls) in let some = f.0 in omega arith
few_nodes version at (opens n ∷ ls) f =
    let r = few_nodes version (behind at (opens n)) ls f.2 in let t = two_bytes (opens n) (lines_text ls) in let few = f.1.2 in
    let l = length-append (replicate n Node.Left) (nodes_in_all ls) in let m = length-replicate n Node.Left in omega arith

singles : (at : Place) (ls : List Line) → Follow 1 at ls → map single_line (nodes_in_all ls) ≡ ls
singles at [] f = refl
singles at (splits s v ∷ ls) f = ap (λ (ms : List Line). splits s v ∷ ms) (singles (behind at (splits s v)) ls f.2)
singles at (closes k ∷ ls) f = ap (λ (ms : List Line). closes k ∷ ms) (singles (behind at (closes k)) ls f.2)
singles at (opens_one ∷ ls) f = ap (λ (ms : List Line). opens_one ∷ ms) (singles (behind at opens_one) ls f.2)
singles at (opens n ∷ ls) f = absurd (let two = f.1.0 in omega arith)

alone : (version : ℕ) (at : Place) (ls : List Line) → at.after_open ≡ true → Follow version at ls → with_open ls ≡ opens 1 ∷ ls
alone version at [] is f = refl
alone version at (splits s v ∷ ls) is f = refl
alone version at (closes k ∷ ls) is f = refl
alone version at (opens_one ∷ ls) is f = refl
alone version at (opens n ∷ ls) is f = absurd (let not = f.1.3 in let e : true ≡ false = sym is ∙ not in cc)

together : (m : ℕ) (ns : List Node) (ls : List Line) → grouped ns ≡ ls → with_open ls ≡ opens 1 ∷ ls → grouped (replicate (suc m) Node.Left ++ ns) ≡ opens (suc m) ∷ ls
together zero ns ls e f = ap with_open e ∙ f
together (suc m) ns ls e f = ap with_open (together m ns ls e f)

groups : (version : ℕ) (at : Place) (ls : List Line) → 2 ≤ version → Follow version at ls → grouped (nodes_in_all ls) ≡ ls
groups version at [] later f = refl
groups version at (splits s v ∷ ls) later f = ap (λ (ms : List Line). splits s v ∷ ms) (groups version (behind at (splits s v)) ls later f.2)
groups version at (closes k ∷ ls) later f = ap (λ (ms : List Line). closes k ∷ ms) (groups version (behind at (closes k)) ls later f.2)
groups version at (opens_one ∷ ls) later f = absurd (let one = f.1 in omega arith)
groups version at (opens zero ∷ ls) later f = absurd (let some = f.1.1 in omega arith)
groups version at (opens (suc m) ∷ ls) later f =
    together m (nodes_in_all ls) ls (groups version (behind at (opens (suc m))) ls later f.2) (alone version (behind at (opens (suc m))) ls refl f.2)

lines_again : (version : ℕ) (ls : List Line) → IsVersionNumber version → Follow version start ls → lines_of version (nodes_in_all ls) ≡ ls
lines_again version ls is f =
    elim (cases_lt version 2) [
      | inl few ↦
          (let one : version ≡ 1 = omega (arith, few, is.0) in ap (λ (v : ℕ). lines_of v (nodes_in_all ls)) one ∙ singles start ls (subst (λ (v : ℕ). Follow v start ls) one f))
      | inr many ↦ lines_later version (nodes_in_all ls) many ∙ groups version start ls many f
    ]

pub read_is_text : ReadIsText
read_is_text text c small w =
    let f = w.begins.follow in let t = forest c.version start w.lines f w.full in let few = few_nodes c.version start w.lines f in
    let count : length c.nodes.items ≡ length (nodes_in_all w.lines) = ap length w.nodes in
    let short : length text ≡ length (first_line (head_of c) ++ (lines_text w.lines ++ [])) = ap length w.begins.text_is in
    let one = length-append (first_line (head_of c)) (lines_text w.lines ++ []) in let two = ap length (append-nil (lines_text w.lines)) in
    let fits : All (FitsVersion c.version) c.nodes.items = subst (All (FitsVersion c.version)) (sym w.nodes) (all_fit c.version start w.lines f) in
    record {
      tree = subst IsTree (sym w.nodes) (one_tree (nodes_in_all w.lines) t.trees t.count t.nodes);
      version = (w.begins.head.version, (refl, fits, w.begins.head.floor.1));
      steps = subst (All (StepBelow MOST_ITEMS)) (sym w.nodes) (all_steps c.version start w.lines f);
      numbers = record { loss = w.begins.head.loss; bound = w.begins.head.bound; left = w.begins.head.left; floor = w.begins.head.floor.0; nodes = omega arith };
      text_is = w.begins.text_is
          ∙ ap (λ (s : List ℕ). first_line (head_of c) ++ s) (append-nil (lines_text w.lines))
          ∙ ap (λ (ls : List Line). first_line (head_of c) ++ lines_text ls) (sym (lines_again c.version w.lines w.begins.head.version f) ∙ ap (λ (ns : List Node). lines_of c.version ns) (sym w.nodes));
    }

pub read_tree : (text : List ℕ) (r : Result Certificate BadCert) → length text < 2 ^ 63 → IsReading text r → IfOk r (λ c. IsTree c.nodes.items)
read_tree text (Ok c) small is = let t = read_is_text text c small is in t.tree
read_tree text (Err bad) small is = tt

pub read_version : (text : List ℕ) (r : Result Certificate BadCert) → length text < 2 ^ 63 → IsReading text r → IfOk r HasVersion
read_version text (Ok c) small is = let t = read_is_text text c small is in t.version
read_version text (Err bad) small is = tt
