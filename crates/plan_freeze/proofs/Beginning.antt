-- The rows of a plan's first plates, and those of the plates behind them.
use Rattle.std.proofs.Common.{◌≡◌, ℕ, ◌+◌, ◌<◌, ◌≤◌, List, [], ◌∷◌, ◌++◌, Bool, true, false, refl, sym, ap, ◌∙◌, arith, All, append_assoc}
use Rattle.std.proofs.lemmas.List.Elements.{All-append, All-cons, All-nil}
use Rattle.glass_base.specs.Plates.{Width}
use Rattle.glass_base.specs.Problem.{Problem}
use Rattle.cut_model.specs.declared.family.Along.{Along}
use Rattle.cut_model.specs.declared.family.Area.{Area}
use Rattle.cut_model.specs.declared.family.Family.{Family}
use Rattle.cut_model.specs.declared.family.Sort.{Sort}
use Rattle.cut_model.specs.Families.{behind, families, family_with, inside, moved, turned}
use Rattle.cut_model.specs.Sized.{sized}
use Rattle.cut_model.specs.Tree.{Forest, nothing, piece, children_in, count, is_nothing, neighbour_count}
use Rattle.cut_model.proofs.Places.{plate_at}
use Rattle.plan_freeze.specs.Frozen.{joined}

-- the families of plates that others stand behind
unfoldable pub frozen_families : Problem → ℕ → Bool → ℕ → Forest → List Family
frozen_families b plate first node nothing = []
frozen_families b plate first node (piece size sort inner later) =
    let f : Family = family_with (plate_at b plate) first false node (Width b plate) sort (children_in inner) in
    f ∷ (families (inside f) true (node + 1) inner ++ frozen_families b (plate + 1) false (node + 1 + count inner) later)

-- whether the plate behind these is the first one
abbrev pub first_behind : Forest → Bool → Bool
first_behind nothing first = first
first_behind (piece size sort inner later) first = first_behind later false

-- something stands behind a plate that is followed by others
more_behind : (b : Problem) (plate : ℕ) (later : Forest) (size : ℕ) (sort : Sort) (inner behind : Forest) → is_nothing (sized b plate (joined later (piece size sort inner behind))) ≡ false
more_behind b plate nothing size sort inner behind = refl
more_behind b plate (piece s t i l) size sort inner behind = refl

-- the families of the first plates, then those of the plates behind them
pub families_joined : (b : Problem) (plate : ℕ) (first : Bool) (node : ℕ) (plan : Forest) (size : ℕ) (sort : Sort) (inner more : Forest) →
    families (plate_at b plate) first node (sized b plate (joined plan (piece size sort inner more)))
    ≡ frozen_families b plate first node plan
    ++ families (plate_at b (plate + neighbour_count plan)) (first_behind plan first) (node + count plan) (sized b (plate + neighbour_count plan) (piece size sort inner more))
unfolding families frozen_families
families_joined b plate first node nothing size sort inner more =
    let same_plate : plate ≡ plate + 0 = omega arith in
    let same_node : node ≡ node + 0 = omega arith in
    ap (λ (p : ℕ). families (plate_at b p) first node (sized b p (piece size sort inner more))) same_plate
    ∙ ap (λ (n : ℕ). families (plate_at b (plate + 0)) first n (sized b (plate + 0) (piece size sort inner more))) same_node
families_joined b plate first node (piece s t i later) size sort inner more =
    let tail : Forest = piece size sort inner more in
    let f : Family = family_with (plate_at b plate) first false node (Width b plate) t (children_in i) in
    let below : List Family = families (inside f) true (node + 1) i in
    let next : ℕ = node + 1 + count i in
    let whole : Bool → List Family = λ (last : Bool).
    let g : Family = family_with (plate_at b plate) first last node (Width b plate) t (children_in i) in
    g ∷ (families (inside g) true (node + 1) i ++ families (plate_at b (plate + 1)) false next (sized b (plate + 1) (joined later tail))) in
    let same_plate : plate + 1 + neighbour_count later ≡ plate + (1 + neighbour_count later) = omega arith in
    let same_node : next + count later ≡ node + (1 + count i + count later) = omega arith in
    ap whole (more_behind b (plate + 1) later size sort inner more)
    ∙ ap (λ (l : List Family). f ∷ (below ++ l))
    (families_joined b (plate + 1) false next later size sort inner more
    ∙ ap (λ (p : ℕ). frozen_families b (plate + 1) false next later ++ families (plate_at b p) (first_behind later false) (next + count later) (sized b p tail)) same_plate
    ∙ ap (λ (n : ℕ). frozen_families b (plate + 1) false next later ++ families (plate_at b (plate + (1 + neighbour_count later))) (first_behind later false) n (sized b (plate + (1 + neighbour_count later)) tail)) same_node)
    ∙ ap (λ (l : List Family). f ∷ l) (sym (append_assoc below (frozen_families b (plate + 1) false next later) _))

-- neighbours on one plate
abbrev OnOne : Along → Type 0
OnOne Along.Plates = ⊥
OnOne Along.X = Unit {0}
OnOne Along.Y = Unit {0}

turned_one : (along : Along) → OnOne (turned along)
turned_one Along.Plates = tt
turned_one Along.X = tt
turned_one Along.Y = tt

moved_one : (along : Along) (at : Area) (size : ℕ) → OnOne along → OnOne at.along → ((moved along at size).plate ≡ at.plate) × OnOne (moved along at size).along
moved_one Along.Plates at size one h = absurd one
moved_one Along.X at size one h = (refl, h)
moved_one Along.Y at size one h = (refl, h)

-- the pieces inside a plate are on this plate
pub on_one : (at : Area) (first : Bool) (node : ℕ) (forest : Forest) (plate : ℕ) → OnOne at.along → at.plate ≡ plate → All (λ f. f.row.plate ≡ plate) (families at first node forest)
unfolding families
on_one at first node nothing plate one is = All-nil (λ f. f.row.plate ≡ plate)
on_one at first node (piece size sort inner later) plate one is =
    let f : Family = family_with at first (is_nothing later) node size sort (children_in inner) in
    let next = moved_one at.along at size one one in
    All-cons (λ (g : Family). g.row.plate ≡ plate) f _ is
    (All-append (λ (g : Family). g.row.plate ≡ plate) _ _ (on_one (inside f) true (node + 1) inner plate (turned_one at.along) is)
    (on_one (behind at size) false (node + 1 + count inner) later plate next.1 (next.0 ∙ is)))

-- the pieces of the first plates are on plates before those behind them
pub frozen_before : (b : Problem) (plate : ℕ) (first : Bool) (node : ℕ) (plan : Forest) (end : ℕ) → plate + neighbour_count plan ≤ end → All (λ f. f.row.plate < end) (frozen_families b plate first node plan)
unfolding frozen_families
frozen_before b plate first node nothing end le = All-nil _
frozen_before b plate first node (piece size sort inner later) end le =
    let f : Family = family_with (plate_at b plate) first false node (Width b plate) sort (children_in inner) in
    let here : plate < end = omega (arith, le) in
    All-cons (λ (g : Family). g.row.plate < end) f _ here
    (All-append (λ (g : Family). g.row.plate < end) _ _
    (on_plate_before (families (inside f) true (node + 1) inner) (on_one (inside f) true (node + 1) inner plate tt refl) here)
    (frozen_before b (plate + 1) false (node + 1 + count inner) later end (omega (arith, le))))
  where
    on_plate_before : (fs : List Family) → All (λ g. g.row.plate ≡ plate) fs → plate < end → All (λ g. g.row.plate < end) fs
    on_plate_before fs h lt i d within = omega (arith, h i d within, lt)

-- those behind are on plates from there on
pub tail_from : (b : Problem) (plate : ℕ) (first : Bool) (node : ℕ) (plan : Forest) (start : ℕ) → start ≤ plate → All (λ f. start ≤ f.row.plate) (families (plate_at b plate) first node (sized b plate plan))
unfolding families
tail_from b plate first node nothing start le = All-nil _
tail_from b plate first node (piece size sort inner later) start le =
    let f : Family = family_with (plate_at b plate) first (is_nothing (sized b (plate + 1) later)) node (Width b plate) sort (children_in inner) in
    All-cons (λ (g : Family). start ≤ g.row.plate) f _ le
    (All-append (λ (g : Family). start ≤ g.row.plate) _ _
    (on_plate_from (families (inside f) true (node + 1) inner) (on_one (inside f) true (node + 1) inner plate tt refl))
    (tail_from b (plate + 1) false (node + 1 + count inner) later start (omega (arith, le))))
  where
    on_plate_from : (fs : List Family) → All (λ g. g.row.plate ≡ plate) fs → All (λ g. start ≤ g.row.plate) fs
    on_plate_from fs h i d within = omega (arith, h i d within, le)
