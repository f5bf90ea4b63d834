-- Rows and fronts.
use Rattle.std.proofs.Common.{◌≡◌, ℕ, zero, suc, ◌+◌, ◌*◌, ◌-◌, ◌<◌, ◌≤◌, ◌==◌, cond, inl, inr, List, [], ◌∷◌, length, refl, sym, ap, ◌∙◌, subst, arith, Some, None, IsSome, true, false}
use Rattle.std.proofs.Math.Nat.{mul_comm}
use Rattle.std.proofs.lemmas.Bool.{cases_lt, cases_order}
use Rattle.std.proofs.lemmas.List.{get_or_past}
use Rattle.std.proofs.lemmas.Option.{slice_get_within}
use Rattle.glass_base.specs.declared.item.Item.{Item}
use Rattle.glass_base.specs.Problem.{Problem, item_at, stack_at}
use Rattle.plan_trace.specs.Marks.{item_width, item_height}
use Rattle.plan_trace.proofs.Items.{item_place, some_of}
use Rattle.front_course.specs.Fronts.{Front, no_item, next, next_item, IsFull}
use Rattle.front_course.specs.Cells.{Cell, after_cell, cell_width, pick_width, pick_height, CanStand, Stands}
use Rattle.front_course.specs.Cells.Cell.{alone, pair}
use Rattle.front_table.specs.declared.moves.Move.{Move}
use Rattle.front_table.specs.declared.rows.FrontRow.{FrontRow}
use Rattle.front_table.specs.Sets.{Has, Fits}
use Rattle.front_table.specs.Lattice.{At, count_at, area_at, moves_at, weight_from, IsLighter, IsOneMore, IsLink, LedBy, AloneLed, PairLed, PairsLed, AllPairsLed, ItemLed, StackLed, HasLeft, IsLattice, LeadDown}
use Rattle.front_table.proofs.HeldLists.{least_first}
use Rattle.front_table.specs.Leads.{cell_area, cell_height, Moved, Linked, CellsLead}

-- a stack that has an item is one of the stacks
pub stack_within : (b : Problem) (stack n : ℕ) (item : Item) → item_at b stack n ≡ Some item → stack < length b.stacks
stack_within b stack n item e =
    let at = item_place b stack n item e in
    elim (cases_lt stack (length b.stacks)) [
      | inl lt ↦ lt
      | inr past ↦
          let none : stack_at b stack ≡ [] = get_or_past b.stacks stack [] past in
          absurd (omega (arith, slice_get_within (stack_at b stack) n at.0 at.1, ap length none))
    ]

-- the weights of the same counts
same_weight : (ws : List ℕ) (stack : ℕ) (c d : ℕ → ℕ) → ((k : ℕ) → k < stack + length ws → c k ≡ d k) → weight_from ws stack c ≡ weight_from ws stack d
same_weight [] stack c d each = refl
same_weight (w ∷ ws) stack c d each =
    ap (λ n. w * n + weight_from ws (suc stack) c) (each stack (omega arith)) ∙ ap (λ n. w * d stack + n) (same_weight ws (suc stack) c d (λ k lt. each k (omega (arith, lt))))

-- what is taken at a row weighs less than at any row before it
lighter : (b : Problem) (rows : List FrontRow) (h : IsLattice b rows) (n m : ℕ) → n < length rows → m < n → weight_from h.weights 0 (count_at rows n) < weight_from h.weights 0 (count_at rows m)
unfolding IsLighter
lighter b rows h zero m within lt = absurd (omega (arith, lt))
lighter b rows h (suc n) m within lt =
    let Lighter : ℕ → Type 0 = λ k. weight_from h.weights 0 (count_at rows (suc n)) < weight_from h.weights 0 (count_at rows k) in
    let last : suc n - 1 ≡ n = omega arith in
    let step : Lighter n = subst Lighter last ((h.each (suc n) within).lighter (omega arith)) in
    elim (cases_lt m n) [
      | inl before ↦ omega (arith, step, lighter b rows h n m (omega (arith, within)) before)
      | inr past ↦
          let is : n ≡ m = omega (arith, past, lt) in
          subst Lighter is step
    ]

-- a front has one row
pub one_row : (b : Problem) (rows : List FrontRow) → IsLattice b rows → (n m : ℕ) (f : Front) → At b rows n f → At b rows m f → n ≡ m
one_row b rows h n m f at to =
    let same : weight_from h.weights 0 (count_at rows n) ≡ weight_from h.weights 0 (count_at rows m) =
    same_weight h.weights 0 (count_at rows n) (count_at rows m) (λ k lt. let within : k < length b.stacks = omega (arith, lt, h.few) in at.counts k within ∙ sym (to.counts k within)) in
    elim (cases_order n m) [
      | inl is ↦ is
      | inr (inl before) ↦ absurd (omega (arith, same, lighter b rows h m n to.within before))
      | inr (inr behind) ↦ absurd (omega (arith, same, lighter b rows h n m at.within behind))
    ]

-- the row at which nothing is taken
pub first_row : (b : Problem) (rows : List FrontRow) → IsLattice b rows → At b rows (length rows - 1) no_item
first_row b rows h = record { within = omega (arith, h.some); counts = h.first }

-- the row at which everything is taken
pub last_row : (b : Problem) (rows : List FrontRow) → IsLattice b rows → (n : ℕ) (f : Front) → At b rows n f → IsFull b f → n ≡ 0
unfolding HasLeft
last_row b rows h n f at full =
    elim (cases_lt 0 n) [
      | inl some ↦
          let left : HasLeft b rows n = (h.each n at.within).left (omega (arith, some)) in
          let none : item_at b left.0 (count_at rows n left.0) ≡ None = ap (item_at b left.0) (at.counts left.0 left.1) ∙ full left.0 in
          let wrong : false ≡ true = subst IsSome none left.2 in
          cc
      | inr none ↦ omega (arith, none)
    ]

pub lead_down : (b : Problem) (rows : List FrontRow) → IsLattice b rows → LeadDown rows
unfolding LeadDown
lead_down b rows h n lt = (h.each n lt).down

-- a link leads to the front with one item more
at_link : (b : Problem) (rows : List FrontRow) (n stack : ℕ) (item : Item) (to : ℕ) (f : Front) → At b rows n f → IsLink b rows n stack item to → At b rows to (next f stack)
unfolding IsOneMore
at_link b rows n stack item to f at link = record {
  within = omega (arith, link.down, at.within);
  counts = λ other lt. link.more other lt ∙ ap (λ n. cond (stack == other) (suc n) n) (at.counts other lt);
}

-- what is known of the next item of a stack
item_led : (b : Problem) (rows : List FrontRow) → IsLattice b rows → (n : ℕ) (f : Front) → At b rows n f → (stack : ℕ) (item : Item) → next_item b f stack ≡ Some item → ItemLed b rows n stack item
unfolding StackLed
item_led b rows h n f at stack item e =
    let lt : stack < length b.stacks = stack_within b stack (f stack) item e in
    (h.each n at.within).stacks stack lt item (ap (item_at b stack) (at.counts stack lt) ∙ e)

pub linked : (b : Problem) (rows : List FrontRow) → IsLattice b rows → (n : ℕ) (f : Front) → At b rows n f → (stack : ℕ) (item : Item) → next_item b f stack ≡ Some item → Linked b rows n f stack item
linked b rows h n f at stack item e =
    let is : ItemLed b rows n stack item = item_led b rows h n f at stack item e in
    record { to = is.to; has = is.has; at = at_link b rows n stack item is.to f at is.link; down = is.link.down; left = is.link.area }

-- the area of an item in each turn
turn_area : (turn : ℕ) (item : Item) → item_width turn (Some item) * item_height turn (Some item) ≡ item.length * item.width
turn_area zero item = refl
turn_area (suc n) item = mul_comm item.width item.length

alone_turn : (waste : ℕ) (moves : List Move) (to : ℕ) (item : Item) (turn : ℕ) → AloneLed waste moves to item 0 → AloneLed waste moves to item 1 → AloneLed waste moves to item turn
unfolding AloneLed
alone_turn waste moves to item zero lying turned = lying
alone_turn waste moves to item (suc n) lying turned = turned

pair_turn : (b : Problem) (rows : List FrontRow) (moves : List Move) (item : Item) (mid stack : ℕ) (other : Item) (p : PairsLed b rows moves item mid stack other) (turn over : ℕ) → PairLed moves p.to item other turn over
unfolding PairLed
pair_turn b rows moves item mid stack other p zero zero = p.lying
pair_turn b rows moves item mid stack other p zero (suc n) = p.over_turned
pair_turn b rows moves item mid stack other p (suc m) zero = p.turned
pair_turn b rows moves item mid stack other p (suc m) (suc n) = p.both_turned

-- the move of a cell, which is no higher than its items
pub record CellMoved (b : Problem) (rows : List FrontRow) (n : ℕ) (f : Front) (high : ℕ) (cell : Cell) : Type 0 where
  pub moved : Moved b rows n (moves_at rows n) (after_cell f cell) (cell_width b f cell) high (cell_area b f cell)
  pub low : moved.move.label.across.least ≤ cell_height b f cell

pub cell_led : (b : Problem) (rows : List FrontRow) → IsLattice b rows → (n : ℕ) (f : Front) → At b rows n f → (high : ℕ) (cell : Cell) → CanStand b high f cell → CellMoved b rows n f high cell
unfolding AloneLed LedBy PairLed AllPairsLed
cell_led b rows h n f at high (alone p) can =
    let one : (item : Item) × (next_item b f p.stack ≡ Some item) = some_of (next_item b f p.stack) can.0 in
    let is : ItemLed b rows n p.stack one.0 = item_led b rows h n f at p.stack one.0 one.1 in
    let wide : item_width p.turn (Some one.0) ≡ pick_width b f p = ap (item_width p.turn) (sym one.1) in
    let tall : item_height p.turn (Some one.0) ≡ pick_height b f p = ap (item_height p.turn) (sym one.1) in
    let stands : Stands b.params.waste (item_width p.turn (Some one.0)) (item_height p.turn (Some one.0)) high =
    subst (λ w. Stands b.params.waste w (item_height p.turn (Some one.0)) high) (sym wide) (subst (λ t. Stands b.params.waste (pick_width b f p) t high) (sym tall) can.1) in
    let led : AloneLed b.params.waste (moves_at rows n) is.to one.0 p.turn = alone_turn b.params.waste (moves_at rows n) is.to one.0 p.turn is.lying is.turned in
    let fits : Fits led.0.label (item_width p.turn (Some one.0)) high = led.3 high stands in
    record {
      moved = record {
        move = led.0;
        has = led.1;
        at = subst (λ k. At b rows k (next f p.stack)) (sym led.2) (at_link b rows n p.stack one.0 is.to f at is.link);
        down = omega (arith, led.2, is.link.down);
        fits = (subst (λ w. Has led.0.label.along w) wide fits.0, fits.1);
        left = omega (arith, is.link.area, turn_area p.turn one.0, ap (area_at rows) led.2, product_same wide tall);
      };
      low = omega (arith, tall, least_first led.0.label.across (item_height p.turn (Some one.0)) (led.3 (item_height p.turn (Some one.0)) (inl refl)).1);
    }
  where
    product_same : {a b c d : ℕ} → a ≡ c → b ≡ d → a * b ≡ c * d
    product_same {a} {b} {c} {d} e r = ap (λ n. n * b) e ∙ ap (λ n. c * n) r
cell_led b rows h n f at high (pair p q) can =
    let g : Front = next f p.stack in
    let one : (item : Item) × (next_item b f p.stack ≡ Some item) = some_of (next_item b f p.stack) can.0 in
    let two : (item : Item) × (next_item b g q.stack ≡ Some item) = some_of (next_item b g q.stack) can.1 in
    let is : ItemLed b rows n p.stack one.0 = item_led b rows h n f at p.stack one.0 one.1 in
    let mid : At b rows is.to g = at_link b rows n p.stack one.0 is.to f at is.link in
    let lt : q.stack < length b.stacks = stack_within b q.stack (g q.stack) two.0 two.1 in
    let pairs : PairsLed b rows (moves_at rows n) one.0 is.to q.stack two.0 = is.pairs q.stack lt two.0 (ap (item_at b q.stack) (mid.counts q.stack lt) ∙ two.1) in
    let wide : item_width p.turn (Some one.0) ≡ pick_width b f p = ap (item_width p.turn) (sym one.1) in
    let tall : item_height p.turn (Some one.0) ≡ pick_height b f p = ap (item_height p.turn) (sym one.1) in
    let wide2 : item_width q.turn (Some two.0) ≡ pick_width b g q = ap (item_width q.turn) (sym two.1) in
    let tall2 : item_height q.turn (Some two.0) ≡ pick_height b g q = ap (item_height q.turn) (sym two.1) in
    let led : LedBy (moves_at rows n) pairs.to (item_width p.turn (Some one.0)) (λ y. y ≡ item_height p.turn (Some one.0) + item_height q.turn (Some two.0)) =
    pair_turn b rows (moves_at rows n) one.0 is.to q.stack two.0 pairs p.turn q.turn (wide2 ∙ can.2 ∙ sym wide) in
    let sum : high ≡ item_height p.turn (Some one.0) + item_height q.turn (Some two.0) = omega (arith, tall, tall2, can.3) in
    let fits : Fits led.0.label (item_width p.turn (Some one.0)) high = led.3 high sum in
    record {
      moved = record {
        move = led.0;
        has = led.1;
        at = subst (λ k. At b rows k (next g q.stack)) (sym led.2) (at_link b rows is.to q.stack two.0 pairs.to g mid pairs.link);
        down = omega (arith, led.2, is.link.down, pairs.link.down);
        fits = (subst (λ w. Has led.0.label.along w) wide fits.0, fits.1);
        left = omega (arith, is.link.area, pairs.link.area, turn_area p.turn one.0, turn_area q.turn two.0, ap (area_at rows) led.2, products wide tall, products wide2 tall2);
      };
      low = omega (arith, can.3, least_first led.0.label.across high fits.1);
    }
  where
    products : {a b c d : ℕ} → a ≡ c → b ≡ d → a * b ≡ c * d
    products {a} {b} {c} {d} e r = ap (λ n. n * b) e ∙ ap (λ n. c * n) r

pub cells_lead : (b : Problem) (rows : List FrontRow) → IsLattice b rows → CellsLead b rows
cells_lead b rows h n f at high cell can = (cell_led b rows h n f at high cell can).moved
