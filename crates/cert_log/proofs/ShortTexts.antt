-- The text of a certificate that is right for the box of all plans is short: each node takes few bytes, and its tree has one leaf more than splits.
use Rattle.std.proofs.Common.{◌≡◌, ◌<◌, ◌≤◌, ◌+◌, ◌*◌, ◌/◌, ◌%◌, ◌^◌, ◌==◌, ℕ, zero, suc, List, [], ◌∷◌, ◌++◌, length, length-append, Bool, true, false, if◌then◌else◌, cond, ltb, Option, Some, None, refl, sym, ap, subst, arith, inl, inr}
use Rattle.std.proofs.lemmas.Bool.{cases_lt}
use Rattle.std.proofs.lemmas.Fmt.{length-decimal-le}
use Rattle.std.proofs.lemmas.List.{length-replicate}
use Rattle.std.proofs.lemmas.List.Elements.{All-head, All-tail}
use Rattle.std.proofs.lemmas.List.Sums.{sum_by-cons, sum_by-append}
use Rattle.std.specs.Fmt.{decimal, digit_glyph, digits, digits_onto}
use Rattle.std.specs.List.{sum_by}
use Rattle.std.specs.Prelude.{All, codes}
use Rattle.glass_base.specs.Problem.{Problem, IsProblem}
use Rattle.plan_box.specs.Frames.{frame_of}
use Rattle.plan_box.specs.Ranges.{full_ranges, root_of}
use Rattle.plan_box.specs.Reasons.{reason_number}
use Rattle.cert_log.specs.declared.history.Cause.{Cause}
use Rattle.cert_log.specs.declared.certificate.Certificate.{Certificate}
use Rattle.cert_log.specs.declared.certificate.Node.{Node}
use Rattle.cert_log.specs.declared.head.Head.{Head}
use Rattle.cert_log.specs.Good.{IsGood}
use Rattle.cert_log.specs.Outcomes.{IsHead}
use Rattle.cert_log.specs.Splits.{HaveShortTexts}
use Rattle.cert_log.specs.Texts.{Line, splits, closes, opens_one, opens, cause_text, field_text, first_line, floor_text, grouped, head_of, letter, line_text, lines_of, lines_text, loss_text, version_text, with_open}
use Rattle.cert_log.specs.Trees.{Tree, halved, closed, waiting, nodes_of, StepBelow}
use Rattle.cert_log.specs.Values.{IsLoss, IsVersionNumber}
use Rattle.cert_log.proofs.GoodNodes.{one, shut}
use Rattle.cert_log.proofs.Marks.{reason_range}
use Rattle.cert_log.proofs.Naming.{good_steps}
use Rattle.cert_log.proofs.Spelling.{letter_is, lines_later}
use Rattle.glass_base.specs.declared.limits.TheConstants.{MOST_ITEMS}

-- so many digits are written before a text at the most
onto_few : (k n : ℕ) (text : List ℕ) → length (digits_onto k 10 false n text) ≤ k + length text
onto_few zero n text = omega arith
onto_few (suc k) n text = by (n / 10 == 0) _ _ refl (onto_few k (n / 10) (digit_glyph false (n % 10) ∷ text))
  where
    by : (b : Bool) (xs ys : List ℕ) → length xs ≡ suc (length text) → length ys ≤ k + suc (length text) → length (if b then xs else ys) ≤ suc k + length text
    by true xs ys e h = omega arith
    by false xs ys e h = omega arith

-- a number has no more than 64 digits
few_digits : (n : ℕ) → length (decimal n) ≤ 64
unfolding digits
few_digits n = onto_few 64 n []

-- a number of open nodes has few digits
open_digits : (n : ℕ) → length (decimal (suc n)) ≤ 4 * n + 1
open_digits zero = length-decimal-le 1 1 (omega arith) (omega arith) (omega arith)
open_digits (suc n) =
    elim (cases_lt n 90) [
      | inl few ↦ omega (arith, few, length-decimal-le 2 (suc (suc n)) (omega arith) (omega arith) (omega arith))
      | inr many ↦ omega (arith, many, few_digits (suc (suc n)))
    ]

-- the bytes of a line, at the most
abbrev line_size : Line → ℕ
line_size (splits step v) = 5 + length (decimal step)
line_size (closes cause) = 4
line_size opens_one = 4
line_size (opens zero) = 4
line_size (opens (suc n)) = 4 * n + 4

-- a cause has two bytes at the most
cause_size : (cause : Cause) → length (cause_text cause) ≤ 2
cause_size Cause.Unsaid = omega arith
cause_size Cause.Floor = omega arith
cause_size Cause.Bound = omega arith
cause_size (Cause.Reason r) = let range = reason_range r in omega (arith, length-decimal-le 1 (reason_number r) (omega arith) (omega arith) (omega arith))

-- the text of a line
line_short : (line : Line) → length (line_text line) ≤ line_size line
line_short (splits step v) =
    let one : length (letter v) ≡ 1 = ap (λ (text : List ℕ). length text) (letter_is v) in
    omega (arith, one, length-append (decimal step) (59 ∷ (letter v ++ 10 ∷ [])), length-append (letter v) (10 ∷ []))
line_short (closes cause) = omega (arith, cause_size cause, length-append (cause_text cause) (10 ∷ []))
line_short opens_one = omega arith
line_short (opens zero) = omega (arith, length-decimal-le 1 0 (omega arith) (omega arith) (omega arith), length-append (decimal 0) (10 ∷ []))
line_short (opens (suc n)) = omega (arith, open_digits n, length-append (decimal (suc n)) (10 ∷ []))

-- the bytes of lines, at the most
abbrev lines_size : List Line → ℕ
lines_size lines = sum_by line_size lines

-- the text of lines
lines_short : (lines : List Line) → length (lines_text lines) ≤ lines_size lines
lines_short [] = omega arith
lines_short (line ∷ lines) = omega (arith, line_short line, lines_short lines, length-append (line_text line) (lines_text lines), sum_by-cons line_size line lines)

-- one more open node on its line
one_more : (n : ℕ) → line_size (opens (suc n)) ≤ line_size (opens n) + 4
one_more zero = omega arith
one_more (suc n) = omega arith

-- an open node adds four bytes at the most
with_open_short : (lines : List Line) → lines_size (with_open lines) ≤ lines_size lines + 4
with_open_short [] = omega arith
with_open_short (splits step v ∷ later) = omega (arith, sum_by-cons line_size (opens 1) (splits step v ∷ later))
with_open_short (closes cause ∷ later) = omega (arith, sum_by-cons line_size (opens 1) (closes cause ∷ later))
with_open_short (opens_one ∷ later) = omega (arith, sum_by-cons line_size (opens 1) (opens_one ∷ later))
with_open_short (opens n ∷ later) = omega (arith, one_more n, sum_by-cons line_size (opens (suc n)) later, sum_by-cons line_size (opens n) later)

-- the bytes of a node, at the most
abbrev node_size : Node → ℕ
node_size (Node.Split step v) = 8
node_size (Node.Closed cause) = 4
node_size Node.Left = 4

-- the bytes of nodes, at the most
abbrev nodes_size : List Node → ℕ
nodes_size nodes = sum_by node_size nodes

-- the lines of nodes at few steps
nodes_short : (steps : ℕ) (nodes : List Node) → steps ≤ MOST_ITEMS → All (StepBelow steps) nodes → lines_size (grouped nodes) ≤ nodes_size nodes
nodes_short steps [] few h = omega arith
nodes_short steps (Node.Split step v ∷ later) few h =
    let below : step < steps = All-head (StepBelow steps) (Node.Split step v) later h in
    let rest = nodes_short steps later few (All-tail (StepBelow steps) (Node.Split step v) later h) in
    let digits = length-decimal-le 3 step (omega arith) (omega arith) (omega arith) in
    omega (arith, rest, digits, sum_by-cons line_size (splits step v) (grouped later), sum_by-cons node_size (Node.Split step v) later)
nodes_short steps (Node.Closed cause ∷ later) few h =
    let rest = nodes_short steps later few (All-tail (StepBelow steps) (Node.Closed cause) later h) in
    omega (arith, rest, sum_by-cons line_size (closes cause) (grouped later), sum_by-cons node_size (Node.Closed cause) later)
nodes_short steps (Node.Left ∷ later) few h =
    let rest = nodes_short steps later few (All-tail (StepBelow steps) Node.Left later h) in
    omega (arith, rest, with_open_short (grouped later), sum_by-cons node_size Node.Left later)

-- the nodes of a tree, which has one leaf more than splits
tree_short : (t : Tree) → nodes_size (nodes_of t) ≤ 12 * shut (nodes_of t) + 4
tree_short (halved step v lower upper) =
    let both : List Node = nodes_of lower ++ nodes_of upper in
    let size = sum_by-cons node_size (Node.Split step v) both in
    let sizes = sum_by-append node_size (nodes_of lower) (nodes_of upper) in
    let count = sum_by-cons one (Node.Split step v) both in
    let counts = sum_by-append one (nodes_of lower) (nodes_of upper) in
    omega (arith, tree_short lower, tree_short upper, size, sizes, count, counts)
tree_short (closed cause) = omega arith
tree_short waiting = omega arith

-- a loss or a bound
loss_short : (loss : Option ℕ) → IsLoss loss → length (loss_text loss) ≤ 20
loss_short None h = omega arith
loss_short (Some n) h = let small : n < 2 ^ 64 = h in length-decimal-le 20 n (omega arith) (omega arith) small

-- a loss or a bound, and what parts it from the next field
field_short : (loss : Option ℕ) → IsLoss loss → length (field_text loss) ≤ 21
field_short loss h = omega (arith, loss_short loss h, length-append (loss_text loss) (codes ";"))

-- what the first line begins with
version_short : (version : ℕ) → IsVersionNumber version → length (version_text version) ≤ 12
version_short version is =
    let small = is.1 in
    omega (arith, length-decimal-le 1 version (omega arith) (omega arith) (omega arith), length-append (decimal version) (codes ";"))

-- a floor, and what parts it from the field before
floor_short : (version floor : ℕ) → floor < 2 ^ 64 → length (floor_text version floor) ≤ 21
floor_short version floor small = by (ltb version 3)
  where
    by : (b : Bool) → length (cond b [] (codes ";" ++ decimal floor)) ≤ 21
    by true = omega arith
    by false = omega (arith, length-decimal-le 20 floor (omega arith) (omega arith) small)

-- the first line
first_short : (h : Head) → IsHead h → length (first_line h) ≤ 96
first_short h is =
    let floor : List ℕ = floor_text h.version h.floor ++ codes "\n" in
    let ending : List ℕ = decimal h.left ++ floor in
    let left : h.left < 2 ^ 64 = is.left in
    omega (
      arith,
      version_short h.version is.version,
      field_short h.loss is.loss,
      field_short h.bound is.bound,
      length-decimal-le 20 h.left (omega arith) (omega arith) left,
      length-append (version_text h.version) (field_text h.loss ++ (field_text h.bound ++ ending)),
      length-append (field_text h.loss) (field_text h.bound ++ ending),
      length-append (field_text h.bound) ending,
      length-append (decimal h.left) floor,
      floor_short h.version h.floor is.floor.0,
      length-append (floor_text h.version h.floor) (codes "\n"),
    )

-- the grouped lines of a certificate that is right for the box of all plans
good_lines_short : (b : Problem) (loss : Option ℕ) (c : Certificate) → IsProblem b → IsGood b (root_of (frame_of b) 0).ranges loss c
    → lines_size (grouped c.nodes.items) ≤ 12 * shut c.nodes.items + 4
good_lines_short b loss c rules good =
    let items : ℕ = length b.items in
    let steps : length (root_of (frame_of b) 0).ranges ≡ items = length-replicate items (full_ranges (frame_of b)) in
    let below = nodes_short (length (root_of (frame_of b) 0).ranges) c.nodes.items (omega (arith, steps, rules.few_items)) (good_steps b (root_of (frame_of b) 0).ranges loss c good) in
    let tree = subst (λ (nodes : List Node). nodes_size nodes ≤ 12 * shut nodes + 4) (sym good.nodes_are) (tree_short good.tree) in
    omega (arith, below, tree)

-- the first line and the lines of the nodes
pub short_texts : HaveShortTexts
short_texts b loss c rules good later head =
    let lines : lines_text (lines_of c.version c.nodes.items) ≡ lines_text (grouped c.nodes.items) = ap lines_text (lines_later c.version c.nodes.items later) in
    omega (
      arith,
      first_short (head_of c) head,
      ap (λ (text : List ℕ). length text) lines,
      lines_short (grouped c.nodes.items),
      good_lines_short b loss c rules good,
      length-append (first_line (head_of c)) (lines_text (lines_of c.version c.nodes.items)),
    )
