-- What lists of labels stand for.
use Rattle.std.proofs.Common.{◌≡◌, ℕ, zero, suc, ◌<◌, ◌≤◌, ◌⊎◌, inl, inr, List, [], ◌∷◌, ◌++◌, length, get_or, refl, sym, ap, subst, arith, Contains}
use Rattle.std.specs.List.{swap_remove}
use Rattle.std.proofs.lemmas.List.Elements.{Contains-get_or, Contains-append_left, Contains-push}
use Rattle.std.proofs.lemmas.List.Sorted.{Contains-permutation, IsPermutation-swap_remove}
use Rattle.front_table.specs.declared.labels.FrontLabel.{FrontLabel}
use Rattle.front_table.specs.declared.sets.SizeSet.{SizeSet}
use Rattle.front_table.specs.Sets.{Has, Fits, Held, HeldTo, Keeps, Stands}

-- no size of a set is below its least
pub least_first : (s : SizeSet) (x : ℕ) → Has s x → s.least ≤ x
least_first s x (inl same) = omega (arith, same)
least_first s x (inr above) = omega (arith, above)

-- a label of the list stands for what the list does
pub held_at : (labels : List FrontLabel) (at : ℕ) (d : FrontLabel) (x y : ℕ) → at < length labels → Fits (get_or labels at d) x y → Held labels x y
unfolding Held
held_at labels at d x y lt fits = (get_or labels at d, Contains-get_or labels at d lt, fits)

contains_cons : (l : FrontLabel) (labels : List FrontLabel) (x : FrontLabel) → Contains (l ∷ labels) x → (l ≡ x) ⊎ Contains labels x
contains_cons l labels x (zero, lt, is) = inl is
contains_cons l labels x (suc at, lt, is) = inr (at, omega (arith, lt), is)

-- where a label of a list stands for sizes alone, and as far as it reaches
pub held_of : (labels : List FrontLabel) (x y right up : ℕ) → HeldTo labels x y right up → Held labels x y
unfolding Held HeldTo
held_of labels x y right up (l, has, stands) = (l, has, stands.0)

pub held_to_at : (labels : List FrontLabel) (at : ℕ) (d : FrontLabel) (x y right up : ℕ) → at < length labels → Stands (get_or labels at d) x y right up → HeldTo labels x y right up
unfolding HeldTo
held_to_at labels at d x y right up lt stands = (get_or labels at d, Contains-get_or labels at d lt, stands)

-- where a label is taken away
pub held_without : (labels : List FrontLabel) (at : ℕ) (l : FrontLabel) → at < length labels → l ≡ get_or labels at l → (x y right up : ℕ) → HeldTo labels x y right up → HeldTo (swap_remove labels at l) x y right up ⊎ Stands l x y right up
unfolding HeldTo
held_without labels at l lt is x y right up (k, has, stands) =
    elim (contains_cons l (swap_remove labels at l) k (Contains-permutation labels (l ∷ swap_remove labels at l) k (IsPermutation-swap_remove labels at l lt is) has)) [
      | inl same ↦ inr (subst (λ (l : FrontLabel). Stands l x y right up) (sym same) stands)
      | inr there ↦ inl (k, there, stands)
    ]

-- where a label is added
held_push_old : (labels : List FrontLabel) (l : FrontLabel) (x y right up : ℕ) → HeldTo labels x y right up → HeldTo (labels ++ l ∷ []) x y right up
unfolding HeldTo
held_push_old labels l x y right up (k, has, stands) = (k, Contains-append_left labels (l ∷ []) k has, stands)

pub held_push_new : (labels : List FrontLabel) (l : FrontLabel) (x y right up : ℕ) → Stands l x y right up → HeldTo (labels ++ l ∷ []) x y right up
unfolding HeldTo
held_push_new labels l x y right up stands = (l, Contains-push labels l, stands)

pub keeps_same : (labels : List FrontLabel) → Keeps labels labels
unfolding Keeps
keeps_same labels x y right up held = held

-- where those go that the new one stands for
pub keeps_push : (old thinned : List FrontLabel) (l : FrontLabel) → ((x y right up : ℕ) → HeldTo old x y right up → HeldTo thinned x y right up ⊎ Stands l x y right up) → Keeps old (thinned ++ l ∷ [])
unfolding Keeps
keeps_push old thinned l thin x y right up held =
    elim (thin x y right up held) [
      | inl there ↦ held_push_old thinned l x y right up there
      | inr stands ↦ held_push_new thinned l x y right up stands
    ]

-- of a label itself, as far as it reaches
pub stands_itself : (l : FrontLabel) (x y : ℕ) → Fits l x y → Stands l x y l.right.least l.up
stands_itself l x y fits = (fits, inl refl, omega arith)

-- what holds of each label holds of what the list stands for
pub held_each : (labels : List FrontLabel) (Q : ℕ → ℕ → Type 0) → ((k : ℕ) (d : FrontLabel) → k < length labels → (x y : ℕ) → Fits (get_or labels k d) x y → Q x y) → (x y : ℕ) → Held labels x y → Q x y
unfolding Held
held_each labels Q each x y (l, (k, lt, is), fits) = each k l lt x y (subst (λ (l : FrontLabel). Fits l x y) (sym is) fits)

pub keeps_to : (old new : List FrontLabel) (x y right up : ℕ) → Keeps old new → HeldTo old x y right up → HeldTo new x y right up
unfolding Keeps
keeps_to old new x y right up keeps held = keeps x y right up held

pub keeps_held : (old new : List FrontLabel) (x y : ℕ) → Keeps old new → Held old x y → Held new x y
unfolding Keeps Held HeldTo
keeps_held old new x y keeps (l, has, fits) = held_of new x y l.right.least l.up (keeps x y l.right.least l.up (l, has, stands_itself l x y fits))

pub keeps_then : (old mid new : List FrontLabel) → Keeps old mid → Keeps mid new → Keeps old new
unfolding Keeps
keeps_then old mid new s t x y right up held = t x y right up (s x y right up held)

-- an empty list stands for nothing
pub held_none : (labels : List FrontLabel) (x y right up : ℕ) → labels ≡ [] → HeldTo labels x y right up → ⊥
unfolding HeldTo
held_none labels x y right up none (l, (k, lt, is), stands) = omega (arith, lt, ap length none)

pub fits_none : (labels : List FrontLabel) (x y : ℕ) → labels ≡ [] → Held labels x y → ⊥
unfolding Held
fits_none labels x y none (l, (k, lt, is), fits) = omega (arith, lt, ap length none)
