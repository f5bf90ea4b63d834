-- What the levels of later steps tell: where the pieces behind an item have another item, and where they have none.
use Rattle.std.proofs.Common.{◌≡◌, ℕ, suc, ◌+◌, ◌≤◌, ◌⊎◌, inl, inr, List, [], ◌∷◌, ◌++◌, map, refl, sym, ap, ◌∙◌, append_assoc, add-zero, arith, Bool, false, IsTrue}
use Rattle.std.proofs.Math.Nat.{add_assoc}
use Rattle.glass_base.specs.Problem.{Problem}
use Rattle.cut_model.specs.declared.family.Sort.{Sort}
use Rattle.cut_model.specs.declared.steps.Step.{Step}
use Rattle.cut_model.specs.Tree.{Forest, nothing, piece, total_size}
use Rattle.cut_model.specs.Traces.{Sides, enter, first_place, lift_behind, next_kind, steps_in}
use Rattle.plan_trace.specs.Marks.{Level, level_of, Draw, Place, draw_of, marks, attach, place_of, levels}
use Rattle.plan_trace.specs.TraceRules.{Gap}

-- the levels of steps behind a first one
abbrev pub levels_of : List Step → List Level
levels_of [] = []
levels_of (s ∷ later) = level_of s.kind ∷ levels_of later

pub levels_later : (b : Problem) (x : Draw) (before : List Draw) (t : Place) (steps : List Step) →
    levels (attach (marks b (x ∷ before) t (map draw_of steps)) steps) ≡ levels_of steps
levels_later b x before t [] = refl
levels_later b x before t (s ∷ later) =
    ap (λ (ls : List Level). level_of s.kind ∷ ls) (levels_later b (draw_of s) (x ∷ before) (place_of b (x ∷ before) t (draw_of s)) later)

-- the steps inside a piece
abbrev pub steps_inside : Problem → ℕ → Sides → ℕ → ℕ → ℕ → Forest → List Step
steps_inside b level r at size kind inner =
    let around : Sides = enter level r at size in steps_in b (suc level) around (first_place (suc level) around) kind 0 inner

-- where items were cut the next kind is that of the level
pub next_some : (steps : List Step) (kind level : ℕ) → (steps ≡ [] → ⊥) → next_kind steps kind level ≡ level
next_some [] kind level some = absurd (some refl)
next_some (s ∷ later) kind level some = refl

pub next_least : (steps : List Step) (kind level n : ℕ) → n ≤ kind → n ≤ level → n ≤ next_kind steps kind level
next_least [] kind level n k l = k
next_least (s ∷ later) kind level n k l = l

pub next_at_most : (steps : List Step) (kind level n : ℕ) → kind ≤ n → level ≤ n → next_kind steps kind level ≤ n
next_at_most [] kind level n k l = k
next_at_most (s ∷ later) kind level n k l = l

-- of two lists that are none together each is none
pub left_none : {X : Type 0} (xs ys : List X) → xs ++ ys ≡ [] → xs ≡ []
left_none [] ys none = refl
left_none (x ∷ xs) ys none = cc

pub right_none : {X : Type 0} (xs ys : List X) → xs ++ ys ≡ [] → ys ≡ []
right_none [] ys none = none
right_none (x ∷ xs) ys none = cc

-- a test of the levels that passes over levels from this one on
abbrev pub Passes : ℕ → (List Level → Bool) → Type 0
Passes least test = (kind : ℕ) (later : List Level) → least ≤ kind → test (level_of kind ∷ later) ≡ test later

-- it passes over the steps inside a piece
pub passes : (test : List Level → Bool) (least : ℕ) → Passes least test → (b : Problem) (level : ℕ) (r : Sides) (at kind lift : ℕ) (forest : Forest) (follow : List Step) → least ≤ level → least ≤ kind →
    test (levels_of (steps_in b level r at kind lift forest ++ follow)) ≡ test (levels_of follow)
passes test least over b level r at kind lift nothing follow l k = refl
passes test least over b level r at kind lift (piece size (Sort.Item number) inner later) follow l k =
    over kind (levels_of (steps_in b level r (at + size) level 0 later ++ follow)) k ∙ passes test least over b level r (at + size) level 0 later follow l l
passes test least over b level r at kind lift (piece size Sort.Waste inner later) follow l k =
    passes test least over b level r (at + size) kind (lift_behind level Sort.Waste) later follow l k
passes test least over b level r at kind lift (piece size Sort.Residual inner later) follow l k =
    passes test least over b level r (at + size) kind (lift_behind level Sort.Residual) later follow l k
passes test least over b level r at kind lift (piece size Sort.Branch inner later) follow l k =
    let around : Sides = enter level r at size in
    let here : List Step = steps_in b (suc level) around (first_place (suc level) around) kind 0 inner in
    let rest : List Step = steps_in b level r (at + size) (next_kind here kind level) 0 later in
    ap (λ (ss : List Step). test (levels_of ss)) (append_assoc here rest follow)
    ∙ passes test least over b (suc level) around (first_place (suc level) around) kind 0 inner (rest ++ follow) (omega (arith, l)) k
    ∙ passes test least over b level r (at + size) (next_kind here kind level) 0 later follow l (next_least here kind level least k l)

-- of the steps of neighbours the first has the kind that it was given
pub first_level : (b : Problem) (level : ℕ) (r : Sides) (at kind lift : ℕ) (forest : Forest) (s : Step) (later : List Step) → steps_in b level r at kind lift forest ≡ s ∷ later → s.kind ≡ kind
first_level b level r at kind lift nothing s later is = cc
first_level b level r at kind lift (piece size (Sort.Item number) inner rest) s later is = cc
first_level b level r at kind lift (piece size Sort.Waste inner rest) s later is = first_level b level r (at + size) kind (lift_behind level Sort.Waste) rest s later is
first_level b level r at kind lift (piece size Sort.Residual inner rest) s later is = first_level b level r (at + size) kind (lift_behind level Sort.Residual) rest s later is
first_level b level r at kind lift (piece size Sort.Branch inner rest) s later is =
    let around : Sides = enter level r at size in
    by (steps_inside b level r at size kind inner)
    (λ x xs. first_level b (suc level) around (first_place (suc level) around) kind 0 inner x xs)
    (first_level b level r (at + size) kind 0 rest s later) is
  where
    by : (here : List Step) → ((x : Step) (xs : List Step) → here ≡ x ∷ xs → x.kind ≡ kind) → (steps_in b level r (at + size) kind 0 rest ≡ s ∷ later → s.kind ≡ kind) →
        here ++ steps_in b level r (at + size) (next_kind here kind level) 0 rest ≡ s ∷ later → s.kind ≡ kind
    by [] inside behind h = behind h
    by (x ∷ xs) inside behind h =
        let same : x ≡ s = cc in
        let first : x.kind ≡ kind = inside x xs refl in
        rw same at first

-- a gap that reaches further by nothing or by at least a waste
pub gap_more : (waste from to size : ℕ) → Gap waste from to → waste ≤ size → Gap waste from (to + size)
gap_more waste from to size (inl e) h = inr (omega (arith, e, h))
gap_more waste from to size (inr g) h = inr (omega (arith, g, h))

-- each piece is an item, has one inside, or is at least a waste
abbrev pub IsBroadPiece : ℕ → Problem → ℕ → ℕ → Sort → Forest → Type 0
IsBroadPiece waste b level size (Sort.Item _) inner = Unit {0}
IsBroadPiece waste b level size Sort.Waste inner = waste ≤ size
IsBroadPiece waste b level size Sort.Residual inner = waste ≤ size
IsBroadPiece waste b level size Sort.Branch inner =
    (waste ≤ size) ⊎ ((r : Sides) (at kind : ℕ) → steps_in b (suc level) r at kind 0 inner ≡ [] → ⊥)

abbrev pub AreBroad : ℕ → Problem → ℕ → Forest → Type 0
AreBroad waste b level nothing = Unit {0}
AreBroad waste b level (piece size sort inner later) = IsBroadPiece waste b level size sort inner × AreBroad waste b level later

-- a test of the levels that fails where a step of this level comes first
abbrev pub Ends : ℕ → (List Level → Bool) → Type 0
Ends level test = (later : List Level) → test (level_of level ∷ later) ≡ false

-- neighbours behind an item that have no further item are together nothing, or at least a waste
pub ahead : (waste : ℕ) (test : List Level → Bool) (b : Problem) (level : ℕ) → Ends level test → (r : Sides) (from at lift : ℕ) (forest : Forest) (follow : List Step) →
    AreBroad waste b level forest → Gap waste from at → IsTrue (test (levels_of (steps_in b level r at level lift forest ++ follow))) → Gap waste from (at + total_size forest)
ahead waste test b level ends r from at lift nothing follow broad gap last = rw (add-zero at) gap
ahead waste test b level ends r from at lift (piece size (Sort.Item number) inner later) follow broad gap last =
    let bad = rw (ends (levels_of (steps_in b level r (at + size) level 0 later ++ follow))) at last in cc
ahead waste test b level ends r from at lift (piece size Sort.Waste inner later) follow broad gap last =
    rw (sym (add_assoc at size (total_size later))) (ahead waste test b level ends r from (at + size) (lift_behind level Sort.Waste) later follow broad.1 (gap_more waste from at size gap broad.0) last)
ahead waste test b level ends r from at lift (piece size Sort.Residual inner later) follow broad gap last =
    rw (sym (add_assoc at size (total_size later))) (ahead waste test b level ends r from (at + size) (lift_behind level Sort.Residual) later follow broad.1 (gap_more waste from at size gap broad.0) last)
ahead waste test b level ends r from at lift (piece size Sort.Branch inner later) follow broad gap last =
    let around : Sides = enter level r at size in
    by (steps_inside b level r at size level inner)
    (λ x xs. first_level b (suc level) around (first_place (suc level) around) level 0 inner x xs)
    (λ none wide. rw (sym (add_assoc at size (total_size later))) (ahead waste test b level ends r from (at + size) 0 later follow broad.1 (gap_more waste from at size gap wide) none))
    refl broad.0 last
  where
    by : (here : List Step) → ((x : Step) (xs : List Step) → here ≡ x ∷ xs → x.kind ≡ level) →
        (IsTrue (test (levels_of (steps_in b level r (at + size) level 0 later ++ follow))) → waste ≤ size → Gap waste from (at + (size + total_size later))) →
        steps_inside b level r at size level inner ≡ here → IsBroadPiece waste b level size Sort.Branch inner →
        IsTrue (test (levels_of ((here ++ steps_in b level r (at + size) (next_kind here level level) 0 later) ++ follow))) → Gap waste from (at + (size + total_size later))
    by [] inside behind e (inl wide) h = behind h wide
    by [] inside behind e (inr some) h =
        let around : Sides = enter level r at size in absurd (some around (first_place (suc level) around) level e)
    by (x ∷ xs) inside behind e wide h =
        let rest : List Level = levels_of ((xs ++ steps_in b level r (at + size) level 0 later) ++ follow) in
        let fails : test (level_of x.kind ∷ rest) ≡ false = ap (λ (n : ℕ). test (level_of n ∷ rest)) (inside x xs refl) ∙ ends rest in
        let bad = rw fails at h in cc
