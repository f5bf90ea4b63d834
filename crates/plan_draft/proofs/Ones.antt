-- There is one draft at the most.
use Rattle.std.proofs.Common.{◌≡◌, ℕ, ◌-◌, ◌<◌, ◌⊎◌, inl, inr, List, [], ◌∷◌, ◌++◌, Some, Option, None, sym, ap, subst, ◌∙◌, arith}
use Rattle.glass_base.specs.declared.item.Item.{Item}
use Rattle.glass_base.specs.Problem.{Problem}
use Rattle.cut_model.specs.declared.steps.Step.{Step}
use Rattle.plan_draft.specs.Drafts.{AreDrafted, HasNoDraft, IsDraft, IsNext, StopsAt, drawing_order}

level : {A B : Type 0} (n m : ℕ) → (n < m) ⊎ ((n ≡ m) × A) → (m < n) ⊎ ((m ≡ n) × B) → (n ≡ m) × A × B
level n m x y =
    elim x [
      | inl lt ↦ elim y [ inl gt ↦ absurd (omega (arith, lt, gt)) | inr h ↦ absurd (omega (arith, lt, h.0)) ]
      | inr g ↦ elim y [ inl gt ↦ absurd (omega (arith, gt, g.0)) | inr h ↦ (g.0, g.1, h.1) ]
    ]

make : ℕ → ℕ → ℕ → ℕ → ℕ → ℕ → ℕ → ℕ → ℕ → Step
make stack turn kind lift a b c d e = record { stack = stack; turn = turn; kind = kind; lift = lift; a = a; b = b; c = c; d = d; e = e }

same_step : (s t : Step) → s.stack ≡ t.stack → s.turn ≡ t.turn → s.kind ≡ t.kind → s.lift ≡ t.lift → s.a ≡ t.a → s.b ≡ t.b → s.c ≡ t.c → s.d ≡ t.d → s.e ≡ t.e → s ≡ t
unfolding make
same_step s t stack turn kind lift a b c d e =
    ap (λ n. make n s.turn s.kind s.lift s.a s.b s.c s.d s.e) stack
    ∙ ap (λ n. make t.stack n s.kind s.lift s.a s.b s.c s.d s.e) turn
    ∙ ap (λ n. make t.stack t.turn n s.lift s.a s.b s.c s.d s.e) kind
    ∙ ap (λ n. make t.stack t.turn t.kind n s.a s.b s.c s.d s.e) lift
    ∙ ap (λ n. make t.stack t.turn t.kind t.lift n s.b s.c s.d s.e) a
    ∙ ap (λ n. make t.stack t.turn t.kind t.lift t.a n s.c s.d s.e) b
    ∙ ap (λ n. make t.stack t.turn t.kind t.lift t.a t.b n s.d s.e) c
    ∙ ap (λ n. make t.stack t.turn t.kind t.lift t.a t.b t.c n s.e) d
    ∙ ap (λ n. make t.stack t.turn t.kind t.lift t.a t.b t.c t.d n) e

-- there is one least step
next_is_one : (b : Problem) (steps : List Step) (stack : ℕ) (s t : Step) → IsNext b steps stack s → IsNext b steps stack t → s ≡ t
next_is_one b steps stack s t x y =
    let plate = level (1 - s.kind) (1 - t.kind) (x.least t y.may) (y.least s x.may) in
    let right = level s.b t.b plate.1 plate.2 in
    let left = level s.a t.a right.1 right.2 in
    let lower = level s.c t.c left.1 left.2 in
    let upper = level s.d t.d lower.1 lower.2 in
    let turn = level s.turn t.turn upper.1 upper.2 in
    let mine = x.may.alone in
    let yours = y.may.alone in
    same_step s t (mine.from_stack ∙ sym yours.from_stack) turn.0 (omega (arith, plate.0, mine.begins, yours.begins)) (mine.unlifted ∙ sym yours.unlifted) left.0 right.0 lower.0 upper.0
    (mine.left ∙ left.0 ∙ sym yours.left)

drafted_one : (b : Problem) (done : List Step) (order : List ℕ) (steps others : List Step) → AreDrafted b done order steps → AreDrafted b done order others → steps ≡ others
drafted_one b done [] steps others x y = x ∙ sym y
drafted_one b done (stack ∷ later) steps others (s, first, rest) (t, next, more) =
    drafted_one b (done ++ s ∷ []) later steps others rest (subst (λ u. AreDrafted b (done ++ u ∷ []) later others) (sym (next_is_one b done stack s t first next)) more)

drafted_or_stopped : (b : Problem) (done : List Step) (order : List ℕ) (steps : List Step) (number : ℕ) → AreDrafted b done order steps → StopsAt b done order number → ⊥
drafted_or_stopped b done [] steps number x y = y
drafted_or_stopped b done (stack ∷ later) steps number (s, first, rest) y =
    elim y [
      | inl none ↦ none.0 s first.may
      | inr (t, next, more) ↦ drafted_or_stopped b (done ++ s ∷ []) later steps number rest (subst (λ u. StopsAt b (done ++ u ∷ []) later number) (sym (next_is_one b done stack s t first next)) more)
    ]

number_of : Option Item → ℕ
number_of None = 0
number_of (Some item) = item.id

stops_one : (b : Problem) (done : List Step) (order : List ℕ) (number other : ℕ) → StopsAt b done order number → StopsAt b done order other → number ≡ other
unfolding number_of
stops_one b done [] number other x y = absurd x
stops_one b done (stack ∷ later) number other x y =
    elim x [
      | inl none ↦ elim y [
        | inl also ↦ sym none.1.2 ∙ ap number_of (sym none.1.1 ∙ also.1.1) ∙ also.1.2
        | inr (t, next, more) ↦ absurd (none.0 t next.may)
      ]
      | inr (s, first, rest) ↦ elim y [
        | inl also ↦ absurd (also.0 s first.may)
        | inr (t, next, more) ↦ stops_one b (done ++ s ∷ []) later number other rest (subst (λ u. StopsAt b (done ++ u ∷ []) later other) (sym (next_is_one b done stack s t first next)) more)
      ]
    ]

pub drafts_one : (b : Problem) (steps others : List Step) → IsDraft b steps → IsDraft b others → steps ≡ others
drafts_one b steps others x y = drafted_one b [] (drawing_order b) steps others x y

pub draft_or_none : (b : Problem) (steps : List Step) (number : ℕ) → IsDraft b steps → HasNoDraft b number → ⊥
draft_or_none b steps number x y = drafted_or_stopped b [] (drawing_order b) steps number x y

pub none_one : (b : Problem) (number other : ℕ) → HasNoDraft b number → HasNoDraft b other → number ≡ other
none_one b number other x y = stops_one b [] (drawing_order b) number other x y
