-- The last of some steps, as it is placed.
use Rattle.std.specs.Prelude.{List, [], ◌∷◌}
use Rattle.glass_base.specs.Problem.{Problem}
use Rattle.cut_model.specs.declared.steps.Step.{Step}
use Rattle.plan_trace.specs.Marks.{Cut, Draw, cut, draw_of, place_of}

-- the last of these steps, or the one before them
abbrev pub last_cut : Problem → List Draw → Cut → List Step → Cut
last_cut b before t [] = t
last_cut b before t (s ∷ ss) = last_cut b (draw_of s ∷ before) (cut (place_of b before t.place (draw_of s)) s) ss
