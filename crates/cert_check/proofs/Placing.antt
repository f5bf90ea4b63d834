-- A step at its place, with the cuts of the step before it.
use Rattle.std.proofs.Common.{◌≡◌, ap, sym, ◌∙◌}
use Rattle.plan_trace.specs.declared.level.Level.{Level}
use Rattle.plan_trace.specs.Marks.{Place}
use Rattle.plan_box.specs.Leasts.{Known, fixed}
use Rattle.cert_check.specs.declared.steps.Decided.{Decided}
use Rattle.cert_check.specs.inner.Knowns.{fixed_of, known_in, place_in, with_place}

pub level_is : (x : Decided) (l : Level) (k : Known) (p : Place) → fixed_of x ≡ fixed l (with_place k p) → x.level ≡ l
level_is x l k p e = cc

pub place_is : (x : Decided) (l : Level) (k : Known) (p : Place) → fixed_of x ≡ fixed l (with_place k p) → place_in x ≡ p
place_is x l k p e = let known : known_in x ≡ with_place k p = cc in ap (λ (j : Known). j.place) known

pub cuts_are : (x : Decided) (l : Level) (k : Known) (p : Place) → fixed_of x ≡ fixed l (with_place k p) → known_in x ≡ with_place k (place_in x)
cuts_are x l k p e = let known : known_in x ≡ with_place k p = cc in known ∙ ap (with_place k) (sym (place_is x l k p e))
