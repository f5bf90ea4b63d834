-- The levels of later steps, one after another, where code keeps steps or their ranges.
use Rattle.std.proofs.Common.{◌≡◌, ℕ, ◌+◌, ◌<◌, List, [], ◌∷◌, length, map, drop, get_or, refl, ap, Bool}
use Rattle.std.proofs.lemmas.List.{at_drop_more}
use Rattle.plan_trace.specs.declared.level.Level.{Level}
use Rattle.plan_trace.specs.TraceRules.{is_last_strip, is_last_band, is_last_cell}
use Rattle.plan_box.specs.Leasts.{Known, fixed}
use Rattle.plan_box.specs.Reasons.{fixed_levels}

pub strip_at : {X : Type 0} (level : X → Level) (end : Bool) (steps : List X) (i : ℕ) (d : X) → i < length steps → is_last_strip end (map level (drop i steps)) ≡ is_last_strip end (level (get_or steps i d) ∷ map level (drop (i + 1) steps))
strip_at level end steps i d lt = at_drop_more (λ xs. is_last_strip end (map level xs)) steps i d lt

pub band_at : {X : Type 0} (level : X → Level) (end : Bool) (steps : List X) (i : ℕ) (d : X) → i < length steps → is_last_band end (map level (drop i steps)) ≡ is_last_band end (level (get_or steps i d) ∷ map level (drop (i + 1) steps))
band_at level end steps i d lt = at_drop_more (λ xs. is_last_band end (map level xs)) steps i d lt

pub cell_at : {X : Type 0} (level : X → Level) (end : Bool) (steps : List X) (i : ℕ) (d : X) → i < length steps → is_last_cell end (map level (drop i steps)) ≡ is_last_cell end (level (get_or steps i d) ∷ map level (drop (i + 1) steps))
cell_at level end steps i d lt = at_drop_more (λ xs. is_last_cell end (map level xs)) steps i d lt

-- what the steps begin, as definitions have it
pub levels_are : {X : Type 0} (level : X → Level) (known : X → Known) (steps : List X) → fixed_levels (map (λ x. fixed (level x) (known x)) steps) ≡ map level steps
levels_are level known [] = refl
levels_are level known (x ∷ steps) = ap (λ (ls : List Level). level x ∷ ls) (levels_are level known steps)
