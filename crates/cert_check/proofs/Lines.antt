-- The line of a node, counted forwards.
use Rattle.std.proofs.Common.{◌≡◌, ℕ, suc, List, [], ◌∷◌, ◌++◌, length, map, Bool, true, false, cond, not, ◌&&◌, ◌==◌, refl, sym, ap, ◌∙◌}
use Rattle.cert_log.specs.declared.certificate.Node.{Node}
use Rattle.cert_log.specs.Trees.{is_left}
use Rattle.cert_log.specs.Texts.{Line, splits, closes, opens_one, opens, single_line, with_open, grouped, lines_of}
use Rattle.cert_check.specs.inner.Walks.{ends_open, joins}

suc_cond : (t : Bool) (m : ℕ) → suc (cond t m (suc m)) ≡ cond t (suc m) (suc (suc m))
suc_cond true m = refl
suc_cond false m = refl

open_open : (ls : List Line) → length (with_open (with_open ls)) ≡ length (with_open ls)
open_open [] = refl
open_open (splits step v ∷ ls) = refl
open_open (closes cause ∷ ls) = refl
open_open (opens_one ∷ ls) = refl
open_open (opens n ∷ ls) = refl

-- one more node begins a line, or joins an open node
grouped_more : (xs : List Node) (n : Node) → length (grouped (xs ++ n ∷ [])) ≡ cond (ends_open xs && is_left n) (length (grouped xs)) (suc (length (grouped xs)))
grouped_more [] (Node.Split step v) = refl
grouped_more [] (Node.Closed cause) = refl
grouped_more [] Node.Left = refl
grouped_more (Node.Split step v ∷ []) (Node.Split step2 v2) = refl
grouped_more (Node.Split step v ∷ []) (Node.Closed cause2) = refl
grouped_more (Node.Split step v ∷ []) Node.Left = refl
grouped_more (Node.Closed cause ∷ []) (Node.Split step2 v2) = refl
grouped_more (Node.Closed cause ∷ []) (Node.Closed cause2) = refl
grouped_more (Node.Closed cause ∷ []) Node.Left = refl
grouped_more (Node.Left ∷ []) (Node.Split step2 v2) = refl
grouped_more (Node.Left ∷ []) (Node.Closed cause2) = refl
grouped_more (Node.Left ∷ []) Node.Left = refl
grouped_more (Node.Split step v ∷ y ∷ ys) n = ap suc (grouped_more (y ∷ ys) n) ∙ suc_cond (ends_open (y ∷ ys) && is_left n) (length (grouped (y ∷ ys)))
grouped_more (Node.Closed cause ∷ y ∷ ys) n = ap suc (grouped_more (y ∷ ys) n) ∙ suc_cond (ends_open (y ∷ ys) && is_left n) (length (grouped (y ∷ ys)))
grouped_more (Node.Left ∷ Node.Split step v ∷ ys) n =
    ap suc (grouped_more (Node.Split step v ∷ ys) n) ∙ suc_cond (ends_open (Node.Split step v ∷ ys) && is_left n) (length (grouped (Node.Split step v ∷ ys)))
grouped_more (Node.Left ∷ Node.Closed cause ∷ ys) n =
    ap suc (grouped_more (Node.Closed cause ∷ ys) n) ∙ suc_cond (ends_open (Node.Closed cause ∷ ys) && is_left n) (length (grouped (Node.Closed cause ∷ ys)))
grouped_more (Node.Left ∷ Node.Left ∷ ys) n =
    open_open (grouped (ys ++ n ∷ [])) ∙ grouped_more (Node.Left ∷ ys) n
    ∙ ap (λ (m : ℕ). cond (ends_open (Node.Left ∷ ys) && is_left n) m (suc m)) (sym (open_open (grouped ys)))

single_more : (xs : List Node) (n : Node) → length (map single_line (xs ++ n ∷ [])) ≡ suc (length (map single_line xs))
single_more [] n = refl
single_more (x ∷ xs) n = ap suc (single_more xs n)

either_more : (t : Bool) (xs : List Node) (n : Node)
    → length (cond t (map single_line (xs ++ n ∷ [])) (grouped (xs ++ n ∷ [])))
    ≡ cond (not t && (ends_open xs && is_left n)) (length (cond t (map single_line xs) (grouped xs))) (suc (length (cond t (map single_line xs) (grouped xs))))
either_more true xs n = single_more xs n
either_more false xs n = grouped_more xs n

pub line_more : (version : ℕ) (xs : List Node) (n : Node)
    → length (lines_of version (xs ++ n ∷ [])) ≡ cond (joins version (ends_open xs) n) (length (lines_of version xs)) (suc (length (lines_of version xs)))
line_more version xs n = either_more (version == 1) xs n

none_either : (t : Bool) → length (cond t (map single_line []) (grouped [])) ≡ 0
none_either true = refl
none_either false = refl

pub no_lines : (version : ℕ) → length (lines_of version []) ≡ 0
no_lines version = none_either (version == 1)

pub ends_push : (xs : List Node) (n : Node) → ends_open (xs ++ n ∷ []) ≡ is_left n
ends_push [] n = refl
ends_push (x ∷ []) n = refl
ends_push (x ∷ y ∷ xs) n = ends_push (y ∷ xs) n
