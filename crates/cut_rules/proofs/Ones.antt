-- There is one breach at the most.
use Rattle.std.proofs.Common.{◌≡◌, ℕ, List, sym, subst, ◌∙◌}
use Rattle.std.proofs.lemmas.Option.{same_Some}
use Rattle.glass_base.specs.Problem.{Problem}
use Rattle.cut_model.specs.declared.broken.Rule.{Rule}
use Rattle.cut_rules.specs.declared.cut_rule.CutRule.{CutRule}
use Rattle.cut_model.specs.declared.broken.Broken.{Broken}
use Rattle.cut_model.specs.declared.family.Family.{Family}
use Rattle.cut_model.specs.declared.family.Sort.{Sort}
use Rattle.cut_model.proofs.Firsts.{first_is_one}
use Rattle.cut_rules.specs.Breaches.{Shows, Names, IsFirstBreach, IsBreachOf, IsBreach, cut_rules}

-- an item piece has one number
same_item : (sort : Sort) (number other : ℕ) → sort ≡ Sort.Item number → sort ≡ Sort.Item other → number ≡ other
same_item sort number other is are = cc

-- the two numbers that disagree where a piece breaks a rule are determined
shows_are_one : (b : Problem) (rule : CutRule) (f : Family) (left right other_left other_right : ℕ) → Shows b rule f left right → Shows b rule f other_left other_right → (left ≡ other_left) × (right ≡ other_right)
shows_are_one b CutRule.L1 f left right other_left other_right h k = (h.0 ∙ sym k.0, h.1 ∙ sym k.1)
shows_are_one b CutRule.L2 f left right other_left other_right h k = (h.0 ∙ sym k.0, h.1 ∙ sym k.1)
shows_are_one b CutRule.L3 f left right other_left other_right h k = (same_Some left other_left (sym h.0 ∙ k.0), h.1 ∙ sym k.1)
shows_are_one b CutRule.L4 f left right other_left other_right h k = (h.0 ∙ sym k.0, h.1 ∙ sym k.1)
shows_are_one b CutRule.L5 f left right other_left other_right h k = (h.0 ∙ sym k.0, h.1 ∙ sym k.1)
shows_are_one b CutRule.L6 f left right other_left other_right h k = (h.0 ∙ sym k.0, h.1 ∙ sym k.1)
shows_are_one b CutRule.L7 f left right other_left other_right h k = (same_item f.sort left other_left h.0 k.0, same_Some right other_right (sym h.1 ∙ k.1))
shows_are_one b CutRule.L8 f left right other_left other_right h k = (h.0 ∙ sym k.0, same_Some right other_right (sym h.1 ∙ k.1))

-- the breach that has these parts
abbrev told : Rule → ℕ → ℕ → ℕ → ℕ → Broken
told rule plate node left right = record { rule = rule; plate = plate; node = node; left = left; right = right }

-- two breaches whose parts are equal are one
same_broken : (x y : Broken) → x.rule ≡ y.rule → x.plate ≡ y.plate → x.node ≡ y.node → x.left ≡ y.left → x.right ≡ y.right → x ≡ y
same_broken x y rule plate node left right =
    let same : told x.rule x.plate x.node x.left x.right ≡ told y.rule y.plate y.node y.left y.right = cc in
    same

-- a piece has one breach of a rule at the most
names_are_one : (b : Problem) (rule : CutRule) (f : Family) (x y : Broken) → Names b rule f x → Names b rule f y → x ≡ y
names_are_one b rule f x y h k =
    let numbers : (x.left ≡ y.left) × (x.right ≡ y.right) = shows_are_one b rule f x.left x.right y.left y.right h.shows k.shows in
    same_broken x y (h.rule_is ∙ sym k.rule_is) (h.plate ∙ sym k.plate) (h.node ∙ sym k.node) numbers.0 numbers.1

-- a rule has one first breach at the most
first_breach_is_one : (b : Problem) (rule : CutRule) (fs : List Family) (x y : Broken) → IsFirstBreach b rule fs x → IsFirstBreach b rule fs y → x ≡ y
first_breach_is_one b rule fs x y h k =
    let same : k.piece ≡ h.piece = first_is_one fs k.piece h.piece k.first h.first in
    names_are_one b rule h.piece x y h.names (subst (λ (f : Family). Names b rule f y) same k.names)

-- the pieces have one breach of these rules at the most
breach_of_is_one : (b : Problem) (fs : List Family) (rules : List CutRule) (x y : Broken) → IsBreachOf b fs rules x → IsBreachOf b fs rules y → x ≡ y
breach_of_is_one b fs rules x y h k =
    let same : k.rule ≡ h.rule = first_is_one rules k.rule h.rule k.first h.first in
    first_breach_is_one b h.rule fs x y h.place (subst (λ (rule : CutRule). IsFirstBreach b rule fs y) same k.place)

-- the pieces have one breach of the rules on cuts at the most
pub breaches_one : (b : Problem) (fs : List Family) (x y : Broken) → IsBreach b fs x → IsBreach b fs y → x ≡ y
breaches_one b fs x y h k = breach_of_is_one b fs cut_rules x y h k
