-- Rows of a table.
use Rattle.std.proofs.Common.{◌≡◌, ℕ, ◌<◌, ◌≤◌, List, [], ◌∷◌, ◌++◌, length, get_or, drop, refl, Contains, ap, sym, ◌∙◌, subst, Some}
use Rattle.std.proofs.lemmas.List.{drop_all}
use Rattle.std.proofs.lemmas.List.Elements.{Contains-get_or, Contains-push}
use Rattle.glass_base.specs.declared.item.Item.{Item}
use Rattle.plan_trace.specs.Marks.{item_width, item_height}
use Rattle.front_course.specs.Cells.{Stands}
use Rattle.front_table.specs.declared.moves.Move.{Move}
use Rattle.front_table.specs.declared.sets.SizeSet.{SizeSet}
use Rattle.front_table.specs.Sets.{Has, Fits}
use Rattle.front_table.specs.Lattice.{Led, LedBy, AloneLed, weight_from}

-- a move of the list leads there
pub led_at : (moves : List Move) (at : ℕ) (d : Move) (to wide high : ℕ) → at < length moves → (get_or moves at d).to ≡ to → Fits (get_or moves at d).label wide high → Led moves to wide high
unfolding Led
led_at moves at d to wide high lt there fits = (get_or moves at d, Contains-get_or moves at d lt, there, fits)

pub led_by_at : (moves : List Move) (at : ℕ) (d : Move) (to wide : ℕ) (Stand : ℕ → Type 0) → at < length moves → (get_or moves at d).to ≡ to → ((high : ℕ) → Stand high → Fits (get_or moves at d).label wide high) → LedBy moves to wide Stand
unfolding LedBy
led_by_at moves at d to wide Stand lt there fits = (get_or moves at d, Contains-get_or moves at d lt, there, fits)

-- the sides of an item in some turn
pub alone_as : (waste : ℕ) (moves : List Move) (to : ℕ) (item : Item) (turn w h : ℕ) → w ≡ item_width turn (Some item) → h ≡ item_height turn (Some item) → (s : SizeSet) → ((y : ℕ) → Stands waste w h y → Has s y) → LedBy moves to w (λ y. Has s y) →
    AloneLed waste moves to item turn
unfolding AloneLed LedBy
alone_as waste moves to item turn w h wide high s each (m, has, there, fits) =
    (m, has, there, λ y stands. subst (λ n. Fits m.label n y) wide (fits y (each y (subst (λ n. Stands waste n h y) (sym wide) (subst (λ n. Stands waste (item_width turn (Some item)) n y) (sym high) stands)))))

pub pair_as : (moves : List Move) (to : ℕ) (w both wide sum : ℕ) (s : SizeSet) → w ≡ wide → both ≡ sum → Has s both → LedBy moves to w (λ y. Has s y) → LedBy moves to wide (λ y. y ≡ sum)
unfolding LedBy
pair_as moves to w both wide sum s e1 e2 own (m, has, there, fits) = (m, has, there, λ y is. subst (λ n. Fits m.label n y) e1 (fits y (subst (Has s) (e2 ∙ sym is) own)))

-- behind the last weight
pub weight_none : (ws : List ℕ) (n stack : ℕ) (counts : ℕ → ℕ) → length ws ≤ n → weight_from (drop n ws) stack counts ≡ 0
weight_none ws n stack counts le = ap (λ l. weight_from l stack counts) (drop_all n ws le)

-- where moves are added
pub led_push : (moves : List Move) (m : Move) (x y : ℕ) → Fits m.label x y → Led (moves ++ m ∷ []) m.to x y
unfolding Led
led_push moves m x y fits = (m, Contains-push moves m, refl, fits)

pub led_kept : (old new : List Move) (to x y : ℕ) → ((m : Move) → Contains old m → Contains new m) → Led old to x y → Led new to x y
unfolding Led
led_kept old new to x y kept (m, has, there, fits) = (m, kept m has, there, fits)
