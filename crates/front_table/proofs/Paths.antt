-- Items taken one after the other lead from row to row.
use Rattle.std.proofs.Common.{◌≡◌, ℕ, ◌+◌, ◌-◌, ◌<◌, ◌≤◌, List, [], ◌∷◌, ap, subst, arith, Some, Contains}
use Rattle.glass_base.specs.declared.item.Item.{Item}
use Rattle.glass_base.specs.Problem.{Problem}
use Rattle.plan_trace.proofs.Items.{some_of}
use Rattle.front_course.specs.Fronts.{Front, next, next_item}
use Rattle.front_table.specs.declared.ends.End.{End}
use Rattle.front_table.specs.declared.levels.RowFacts.{RowFacts}
use Rattle.front_table.specs.declared.rows.FrontRow.{FrontRow}
use Rattle.front_table.specs.Lattice.{At, area_at, links_at, IsLattice}
use Rattle.front_table.specs.Leads.{Linked}
use Rattle.front_table.specs.Ends.{Ended, Takes, after_items, EndsFrom, EndsBehind, LeadsBelow, LinksBelow}
use Rattle.front_table.specs.Levels.{ends_at, Gathered}
use Rattle.front_table.proofs.Each.{contained_each}
use Rattle.front_table.proofs.FrontRows.{one_row, linked}
use Rattle.front_table.proofs.Staircases.{ended_more}

-- rows fall, and so does the area that is left
pub path_down : (b : Problem) (rows : List FrontRow) → IsLattice b rows → (stacks : List ℕ) (n : ℕ) (f : Front) → At b rows n f → Takes b f stacks → (m : ℕ) → At b rows m (after_items f stacks) → (m ≤ n) × (area_at rows m ≤ area_at rows n)
path_down b rows h [] n f at takes m to =
    let same : m ≡ n = one_row b rows h m n f to at in
    (omega (arith, same), omega (arith, ap (area_at rows) same))
path_down b rows h (stack ∷ stacks) n f at takes m to =
    let one : (item : Item) × (next_item b f stack ≡ Some item) = some_of (next_item b f stack) takes.0 in
    let l : Linked b rows n f stack one.0 = linked b rows h n f at stack one.0 one.1 in
    let d = path_down b rows h stacks l.to (next f stack) l.at takes.1 m to in
    (omega (arith, d.0, l.down), omega (arith, d.1, l.left))

-- where all links of a row lead below another one, items do
pub leads_below : (b : Problem) (rows : List FrontRow) → IsLattice b rows → (n below : ℕ) → LinksBelow rows n below → LeadsBelow b rows n below
leads_below b rows h n below links f at [] some takes m to = absurd (omega (arith, some))
leads_below b rows h n below links f at (stack ∷ stacks) some takes m to =
    let one : (item : Item) × (next_item b f stack ≡ Some item) = some_of (next_item b f stack) takes.0 in
    let l : Linked b rows n f stack one.0 = linked b rows h n f at stack one.0 one.1 in
    omega (arith, (path_down b rows h stacks l.to (next f stack) l.at takes.1 m to).0, contained_each (λ to. to < below) (links_at rows n) links l.to l.has)

-- what is gathered from the links are all ends behind a row
pub gathered_behind : (b : Problem) (rows : List FrontRow) → IsLattice b rows → (most : ℕ) (to_go : ℕ → ℕ) (levels : List RowFacts) (n below : ℕ) (all : List End) → LinksBelow rows n below →
    ((k : ℕ) → k < below → EndsFrom b rows most to_go k (ends_at levels k)) → ((to : ℕ) → Contains (links_at rows n) to → to < below → Gathered rows levels n most all to) → EndsBehind b rows most to_go n all
unfolding Gathered
gathered_behind b rows h most to_go levels n below all links from gathered f at [] some takes m to area left few = absurd (omega (arith, some))
gathered_behind b rows h most to_go levels n below all links from gathered f at (stack ∷ stacks) some takes m to area left few =
    let one : (item : Item) × (next_item b f stack ≡ Some item) = some_of (next_item b f stack) takes.0 in
    let l : Linked b rows n f stack one.0 = linked b rows h n f at stack one.0 one.1 in
    let low : l.to < below = contained_each (λ to. to < below) (links_at rows n) links l.to l.has in
    let d = path_down b rows h stacks l.to (next f stack) l.at takes.1 m to in
    let own : ℕ = area_at rows l.to - area_at rows m in
    let ended : Ended (ends_at levels l.to) own (to_go m) = from l.to low (next f stack) l.at stacks takes.1 m to own (omega (arith, d.1)) (omega (arith, left, l.left, few)) in
    let sum : own + (area_at rows n - area_at rows l.to) ≡ area = omega (arith, left, l.left, d.1) in
    subst (λ k. Ended all k (to_go m)) sum (gathered l.to l.has low own (to_go m) ended (omega (arith, sum, few)))

-- with the row itself
pub ends_with : (b : Problem) (rows : List FrontRow) → IsLattice b rows → (most : ℕ) (to_go : ℕ → ℕ) (n : ℕ) (behind stairs : List End) → EndsBehind b rows most to_go n behind →
    ((area far : ℕ) → Ended behind area far → Ended stairs area far) → Ended stairs 0 (to_go n) → EndsFrom b rows most to_go n stairs
ends_with b rows h most to_go n behind stairs ends kept own f at [] takes m to area left few =
    let same : m ≡ n = one_row b rows h m n f to at in
    ended_more stairs 0 (to_go n) area (to_go m) (omega arith) (omega (arith, ap to_go same)) own
ends_with b rows h most to_go n behind stairs ends kept own f at (stack ∷ stacks) takes m to area left few = kept area (to_go m) (ends f at (stack ∷ stacks) (omega arith) takes m to area left few)

-- only what is to go from rows up to this one matters
pub ends_from_as : (b : Problem) (rows : List FrontRow) → IsLattice b rows → (most : ℕ) (to_go other : ℕ → ℕ) (n : ℕ) (ends : List End) → ((m : ℕ) → m ≤ n → to_go m ≡ other m) → EndsFrom b rows most to_go n ends → EndsFrom b rows most other n ends
ends_from_as b rows h most to_go other n ends same from f at stacks takes m to area left few =
    let d = path_down b rows h stacks n f at takes m to in
    subst (λ k. Ended ends area k) (same m d.0) (from f at stacks takes m to area left few)

pub gathered_by : (rows : List FrontRow) (levels : List RowFacts) (n most to : ℕ) (all ends : List End) (more : ℕ) → ends ≡ ends_at levels to → more ≡ area_at rows n - area_at rows to →
    ((area far : ℕ) → Ended ends area far → area + more ≤ most → Ended all (area + more) far) → Gathered rows levels n most all to
unfolding Gathered
gathered_by rows levels n most to all ends more same by each =
    subst (λ k. (area far : ℕ) → Ended (ends_at levels to) area far → area + k ≤ most → Ended all (area + k) far) by
    (subst (λ l. (area far : ℕ) → Ended l area far → area + more ≤ most → Ended all (area + more) far) same each)

pub gathered_kept : (rows : List FrontRow) (levels : List RowFacts) (n most to : ℕ) (old new : List End) → ((area far : ℕ) → Ended old area far → Ended new area far) → Gathered rows levels n most old to → Gathered rows levels n most new to
unfolding Gathered
gathered_kept rows levels n most to old new kept g area far ended few = kept (area + (area_at rows n - area_at rows to)) far (g area far ended few)

-- at least one item leads to a row of a smaller number
pub path_strict : (b : Problem) (rows : List FrontRow) → IsLattice b rows → (stack : ℕ) (stacks : List ℕ) (n : ℕ) (f : Front) → At b rows n f → Takes b f (stack ∷ stacks) → (m : ℕ) → At b rows m (after_items f (stack ∷ stacks)) → m < n
path_strict b rows h stack stacks n f at takes m to =
    let one : (item : Item) × (next_item b f stack ≡ Some item) = some_of (next_item b f stack) takes.0 in
    let l : Linked b rows n f stack one.0 = linked b rows h n f at stack one.0 one.1 in
    let d = path_down b rows h stacks l.to (next f stack) l.at takes.1 m to in
    omega (arith, d.0, l.down)

pub leads_down : (b : Problem) (rows : List FrontRow) → IsLattice b rows → (n : ℕ) → LeadsBelow b rows n n
leads_down b rows h n f at [] some takes m to = absurd (omega (arith, some))
leads_down b rows h n f at (stack ∷ stacks) some takes m to = path_strict b rows h stack stacks n f at takes m to
