-- The rules on cuts, of a piece of a plan and of the same piece on the plates that are left.
use Rattle.std.proofs.Common.{◌≡◌, ℕ, ◌+◌, List, map, get_or, Bool, true, false, refl, sym, subst, ◌∙◌, arith, Option, IfSome, All}
use Rattle.std.proofs.lemmas.List.Elements.{All-append, All-cons, All-map, All-nil}
use Rattle.glass_base.specs.BadParams.{HasSizes}
use Rattle.glass_base.specs.Problem.{Problem}
use Rattle.glass_base.specs.declared.item.Defect.{Defect}
use Rattle.glass_base.specs.declared.item.Item.{Item}
use Rattle.glass_base.specs.declared.params.Params.{Params}
use Rattle.cut_model.specs.declared.family.Along.{Along}
use Rattle.cut_model.specs.declared.family.Area.{Area}
use Rattle.cut_model.specs.declared.family.Family.{Family}
use Rattle.cut_model.specs.declared.family.Row.{Row}
use Rattle.cut_model.specs.declared.family.Sort.{Sort}
use Rattle.cut_model.specs.Families.{behind, families, family_with, inside, side_along, turned}
use Rattle.cut_model.specs.Order.{cut_order, item_named, item_with}
use Rattle.cut_model.specs.Rules.{AddsUp, AvoidsDefects, HasClearBorder, HasItsSides, IsBand, IsBroad, IsInPlace, IsStrip, IsTurnOf, KeepsCutRules}
use Rattle.cut_model.specs.Tree.{Forest, nothing, piece, children_in, count, is_nothing, type_number}
use Rattle.plan_freeze.specs.Rests.{defects_from}
use Rattle.plan_freeze.proofs.DefectsLeft.{border_left, border_whole, sound_left, sound_whole}
use Rattle.plan_freeze.proofs.Lists.{all_unmap, found_all}
use Rattle.plan_freeze.proofs.RowsShifted.{rows}
use Rattle.plan_freeze.proofs.Shifted.{shifted, shifted_row}

-- the parameters are the same but for the number of plates
abbrev pub AreSame : Params → Params → Type 0
AreSame p q = HasSizes q q.plates p.width p.height p.min1 p.max1 p.min2 p.waste

side_shifted : (k n : ℕ) (along : Along) (r : Row) → side_along along (shifted_row k n r) ≡ side_along along r
side_shifted k n Along.Plates r = refl
side_shifted k n Along.X r = refl
side_shifted k n Along.Y r = refl

adds_left : (k n : ℕ) (f : Family) (sort : Sort) → AddsUp (shifted k n f) sort → AddsUp f sort
adds_left k n f (Sort.Item number) h = tt
adds_left k n f Sort.Waste h = tt
adds_left k n f Sort.Residual h = tt
adds_left k n f Sort.Branch h = (h.0, h.1 ∙ side_shifted k n (turned f.along) f.row)

adds_whole : (k n : ℕ) (f : Family) (sort : Sort) → AddsUp f sort → AddsUp (shifted k n f) sort
adds_whole k n f (Sort.Item number) h = tt
adds_whole k n f Sort.Waste h = tt
adds_whole k n f Sort.Residual h = tt
adds_whole k n f Sort.Branch h = (h.0, h.1 ∙ sym (side_shifted k n (turned f.along) f.row))

-- an item is the same in both lists
abbrev pub AreOne : List Item → List Item → ℕ → Type 0
AreOne items left number = item_with left number ≡ item_with items number

-- so the item of a piece
abbrev OneItem : List Item → List Item → Sort → Type 0
OneItem items left sort = IfSome (item_named (type_number sort)) (AreOne items left)

sides_left : (k n : ℕ) (items left : List Item) (f : Family) (sort : Sort) → OneItem items left sort → HasItsSides items (shifted k n f) sort → HasItsSides left f sort
sides_left k n items left f (Sort.Item number) one h = subst (λ (o : Option Item). IfSome o (IsTurnOf f.row)) (sym one) h
sides_left k n items left f Sort.Waste one h = tt
sides_left k n items left f Sort.Branch one h = tt
sides_left k n items left f Sort.Residual one h = tt

sides_whole : (k n : ℕ) (items left : List Item) (f : Family) (sort : Sort) → OneItem items left sort → HasItsSides left f sort → HasItsSides items (shifted k n f) sort
sides_whole k n items left f (Sort.Item number) one h = subst (λ (o : Option Item). IfSome o (IsTurnOf f.row)) one h
sides_whole k n items left f Sort.Waste one h = tt
sides_whole k n items left f Sort.Branch one h = tt
sides_whole k n items left f Sort.Residual one h = tt

broad_left : (k n : ℕ) (p q : Params) (f : Family) (sort : Sort) → AreSame p q → IsBroad p (shifted k n f) sort → IsBroad q f sort
broad_left k n p q f (Sort.Item number) same h = tt
broad_left k n p q f Sort.Waste same h = (omega (arith, h.0, same.waste_is), omega (arith, h.1, same.waste_is))
broad_left k n p q f Sort.Branch same h = tt
broad_left k n p q f Sort.Residual same h = omega (arith, h, same.waste_is)

broad_whole : (k n : ℕ) (p q : Params) (f : Family) (sort : Sort) → AreSame p q → IsBroad q f sort → IsBroad p (shifted k n f) sort
broad_whole k n p q f (Sort.Item number) same h = tt
broad_whole k n p q f Sort.Waste same h = (omega (arith, h.0, same.waste_is), omega (arith, h.1, same.waste_is))
broad_whole k n p q f Sort.Branch same h = tt
broad_whole k n p q f Sort.Residual same h = omega (arith, h, same.waste_is)

strip_left : (k n : ℕ) (p q : Params) (f : Family) (sort : Sort) → AreSame p q → IsStrip p (shifted k n f) sort → IsStrip q f sort
strip_left k n p q f (Sort.Item number) same h = λ one. (omega (arith, (h one).0, same.min1_is), omega (arith, (h one).1, same.max1_is))
strip_left k n p q f Sort.Waste same h = tt
strip_left k n p q f Sort.Branch same h = λ one. (omega (arith, (h one).0, same.min1_is), omega (arith, (h one).1, same.max1_is))
strip_left k n p q f Sort.Residual same h = tt

strip_whole : (k n : ℕ) (p q : Params) (f : Family) (sort : Sort) → AreSame p q → IsStrip q f sort → IsStrip p (shifted k n f) sort
strip_whole k n p q f (Sort.Item number) same h = λ one. (omega (arith, (h one).0, same.min1_is), omega (arith, (h one).1, same.max1_is))
strip_whole k n p q f Sort.Waste same h = tt
strip_whole k n p q f Sort.Branch same h = λ one. (omega (arith, (h one).0, same.min1_is), omega (arith, (h one).1, same.max1_is))
strip_whole k n p q f Sort.Residual same h = tt

band_left : (k n : ℕ) (p q : Params) (f : Family) (sort : Sort) → AreSame p q → IsBand p (shifted k n f) sort → IsBand q f sort
band_left k n p q f (Sort.Item number) same h = λ two. omega (arith, h two, same.min2_is)
band_left k n p q f Sort.Waste same h = tt
band_left k n p q f Sort.Branch same h = λ two. omega (arith, h two, same.min2_is)
band_left k n p q f Sort.Residual same h = tt

band_whole : (k n : ℕ) (p q : Params) (f : Family) (sort : Sort) → AreSame p q → IsBand q f sort → IsBand p (shifted k n f) sort
band_whole k n p q f (Sort.Item number) same h = λ two. omega (arith, h two, same.min2_is)
band_whole k n p q f Sort.Waste same h = tt
band_whole k n p q f Sort.Branch same h = λ two. omega (arith, h two, same.min2_is)
band_whole k n p q f Sort.Residual same h = tt

place_left : (k n : ℕ) (f : Family) (sort : Sort) → IsInPlace (shifted k n f) sort → IsInPlace f sort
place_left k n f (Sort.Item number) h = tt
place_left k n f Sort.Waste h = tt
place_left k n f Sort.Branch h = h
place_left k n f Sort.Residual h = h

place_whole : (k n : ℕ) (f : Family) (sort : Sort) → IsInPlace f sort → IsInPlace (shifted k n f) sort
place_whole k n f (Sort.Item number) h = tt
place_whole k n f Sort.Waste h = tt
place_whole k n f Sort.Branch h = h
place_whole k n f Sort.Residual h = h

avoids_left : (k n : ℕ) (defects : List Defect) (f : Family) (sort : Sort) → AvoidsDefects defects (shifted k n f) sort → AvoidsDefects (defects_from k defects) f sort
avoids_left k n defects f (Sort.Item number) h = sound_left k n defects f.row h
avoids_left k n defects f Sort.Waste h = tt
avoids_left k n defects f Sort.Branch h = tt
avoids_left k n defects f Sort.Residual h = tt

avoids_whole : (k n : ℕ) (defects : List Defect) (f : Family) (sort : Sort) → AvoidsDefects (defects_from k defects) f sort → AvoidsDefects defects (shifted k n f) sort
avoids_whole k n defects f (Sort.Item number) h = sound_whole k n defects f.row h
avoids_whole k n defects f Sort.Waste h = tt
avoids_whole k n defects f Sort.Branch h = tt
avoids_whole k n defects f Sort.Residual h = tt

-- the parameters and the defects that are left
pub record IsLeft (b rest : Problem) (k : ℕ) : Type 0 where
  pub params_are : AreSame b.params rest.params
  pub defects_are : rest.defects ≡ defects_from k b.defects

cuts_left : (b rest : Problem) (k n : ℕ) (f : Family) → IsLeft b rest k → OneItem b.items rest.items f.sort → KeepsCutRules b (shifted k n f) → KeepsCutRules rest f
cuts_left b rest k n f left one h = record {
  l1 = adds_left k n f f.sort h.l1;
  l2 = sides_left k n b.items rest.items f f.sort one h.l2;
  l3 = broad_left k n b.params rest.params f f.sort left.params_are h.l3;
  l4 = strip_left k n b.params rest.params f f.sort left.params_are h.l4;
  l5 = band_left k n b.params rest.params f f.sort left.params_are h.l5;
  l6 = place_left k n f f.sort h.l6;
  l7 = subst (λ (ds : List Defect). AvoidsDefects ds f f.sort) (sym left.defects_are) (avoids_left k n b.defects f f.sort h.l7);
  l8 = λ later. subst (λ (ds : List Defect). HasClearBorder ds f.along f.row) (sym left.defects_are) (border_left k n b.defects f.along f.row (h.l8 later));
}

cuts_whole : (b rest : Problem) (k n : ℕ) (f : Family) → IsLeft b rest k → OneItem b.items rest.items f.sort → KeepsCutRules rest f → KeepsCutRules b (shifted k n f)
cuts_whole b rest k n f left one h = record {
  l1 = adds_whole k n f f.sort h.l1;
  l2 = sides_whole k n b.items rest.items f f.sort one h.l2;
  l3 = broad_whole k n b.params rest.params f f.sort left.params_are h.l3;
  l4 = strip_whole k n b.params rest.params f f.sort left.params_are h.l4;
  l5 = band_whole k n b.params rest.params f f.sort left.params_are h.l5;
  l6 = place_whole k n f f.sort h.l6;
  l7 = avoids_whole k n b.defects f f.sort (subst (λ (ds : List Defect). AvoidsDefects ds f f.sort) left.defects_are h.l7);
  l8 = λ later. border_whole k n b.defects f.along f.row (subst (λ (ds : List Defect). HasClearBorder ds f.along f.row) left.defects_are (h.l8 later));
}

-- a row's type is that of its piece
kinds : (at : Area) (first : Bool) (node : ℕ) (forest : Forest) → All (λ f. f.row.kind ≡ type_number f.sort) (families at first node forest)
unfolding families
kinds at first node nothing = All-nil _
kinds at first node (piece size sort inner later) =
    let f : Family = family_with at first (is_nothing later) node size sort (children_in inner) in
    All-cons (λ (g : Family). g.row.kind ≡ type_number g.sort) f _ refl
    (All-append (λ (g : Family). g.row.kind ≡ type_number g.sort) _ _ (kinds (inside f) true (node + 1) inner) (kinds (behind at size) false (node + 1 + count inner) later))

-- where all items that are cut are the same in both lists, each piece's is
one_items : (items left : List Item) (fs : List Family) → All (λ f. f.row.kind ≡ type_number f.sort) fs → All (AreOne items left) (cut_order (rows fs)) → All (λ f. OneItem items left f.sort) fs
one_items items left fs kind h =
    let each : All (λ (r : Row). IfSome (item_named r.kind) (AreOne items left)) (rows fs) = found_all (λ (r : Row). item_named r.kind) (AreOne items left) (rows fs) h in
    let named : All (λ (f : Family). IfSome (item_named f.row.kind) (AreOne items left)) fs = all_unmap (λ (r : Row). IfSome (item_named r.kind) (AreOne items left)) (λ (f : Family). f.row) fs each in
    λ i d lt. rw (← kind i d lt) (named i d lt)

-- the pieces of the plates that are left
pub all_left : (b rest : Problem) (k n : ℕ) (at : Area) (first : Bool) (node : ℕ) (forest : Forest) → IsLeft b rest k → All (AreOne b.items rest.items) (cut_order (rows (families at first node forest))) →
    All (KeepsCutRules b) (map (shifted k n) (families at first node forest)) → All (KeepsCutRules rest) (families at first node forest)
all_left b rest k n at first node forest left one h =
    let fs : List Family = families at first node forest in
    let mine = one_items b.items rest.items fs (kinds at first node forest) one in
    let each : All (λ (f : Family). KeepsCutRules b (shifted k n f)) fs = all_unmap (KeepsCutRules b) (shifted k n) fs h in
    λ i d lt. cuts_left b rest k n (get_or fs i d) left (mine i d lt) (each i d lt)

pub all_whole : (b rest : Problem) (k n : ℕ) (at : Area) (first : Bool) (node : ℕ) (forest : Forest) → IsLeft b rest k → All (AreOne b.items rest.items) (cut_order (rows (families at first node forest))) →
    All (KeepsCutRules rest) (families at first node forest) → All (KeepsCutRules b) (map (shifted k n) (families at first node forest))
all_whole b rest k n at first node forest left one h =
    let fs : List Family = families at first node forest in
    let mine = one_items b.items rest.items fs (kinds at first node forest) one in
    All-map (KeepsCutRules b) (shifted k n) fs (λ i d lt. cuts_whole b rest k n (get_or fs i d) left (mine i d lt) (h i d lt))
