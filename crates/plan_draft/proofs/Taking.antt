-- One more step of a draft.
use Rattle.std.proofs.Common.{◌≡◌, ◌↔◌, ℕ, suc, ◌+◌, ◌<◌, ◌^◌, ◌==◌, List, [], ◌∷◌, ◌++◌, cond, Some, refl, sym, ap, ◌∙◌, subst, arith}
use Rattle.glass_base.specs.declared.item.Item.{Item}
use Rattle.glass_base.specs.Problem.{Problem, item_at}
use Rattle.cut_model.specs.declared.steps.Step.{Step}
use Rattle.cut_model.specs.Steps.{plates_after}
use Rattle.plan_trace.specs.declared.level.Level.TheVariants.{NewPlate}
use Rattle.plan_trace.specs.Marks.{Cut, Draw, cut, draw_of, drawn, no_cut, place_of}
use Rattle.plan_trace.specs.TraceRules.{Meets}
use Rattle.plan_trace.specs.inner.Laid.{draws_before, draws_of}
use Rattle.plan_draft.specs.Drafts.{HasNoNext, MayFollow}
use Rattle.plan_draft.specs.inner.Drafting.{IsOneMore, IsUnderWay}
use Rattle.plan_draft.specs.inner.Lasts.{last_cut}
use Rattle.plan_draft.specs.inner.Steps.{HasNoStep, IsFirstStep, MayStand}
use Rattle.plan_draft.proofs.Appending.{next_cut}
use Rattle.plan_draft.proofs.Following.{few_plates, follows_placed}

-- behind one more step the last one is this
last_more : (b : Problem) (before : List Draw) (t : Cut) (ss : List Step) (s : Step) → last_cut b before t (ss ++ s ∷ []) ≡ next_cut b before t ss s
last_more b before t [] s = refl
last_more b before t (x ∷ ss) s = last_more b (draw_of x ∷ before) (cut (place_of b before t.place (draw_of x)) x) ss s

draws_more : (ss : List Step) (done : List Draw) (s : Step) → draws_before (ss ++ s ∷ []) done ≡ draw_of s ∷ draws_before ss done
draws_more [] done s = refl
draws_more (x ∷ ss) done s = draws_more ss (draw_of x ∷ done) s

-- how often a stack was drawn with one more step
pub drawn_more : (ss : List Step) (s : Step) (n : ℕ) → drawn (draws_of (ss ++ s ∷ [])) n ≡ cond (s.stack == n) (suc (drawn (draws_of ss) n)) (drawn (draws_of ss) n)
drawn_more ss s n = ap (λ ds. drawn ds n) (draws_more ss [] s)

-- by the state of the steps so far
by_state : (b : Problem) (steps : List Step) (plates right stack : ℕ) (item : Item) (s : Step) → IsUnderWay b steps plates right → item_at b stack (drawn (draws_of steps) stack) ≡ Some item →
    MayFollow b steps stack s ↔ MayStand b plates right stack item s
by_state b steps plates right stack item s way due =
    subst (λ n. MayFollow b steps stack s ↔ MayStand b n right stack item s) (sym way.plates_are)
    (subst (λ n. MayFollow b steps stack s ↔ MayStand b (last_cut b [] no_cut steps).plates n stack item s) (sym way.right_is) (follows_placed b steps stack item s way.meets due))

-- an item without a step has none that may follow
pub none_follows : (b : Problem) (steps : List Step) (plates right stack : ℕ) (item : Item) → IsUnderWay b steps plates right → item_at b stack (drawn (draws_of steps) stack) ≡ Some item →
    HasNoStep b plates right stack item → HasNoNext b steps stack
none_follows b steps plates right stack item way due none s may = none s ((by_state b steps plates right stack item s way due).0 may)

-- the first step is the next one
pub one_more : (b : Problem) (steps more : List Step) (plates right stack then : ℕ) (item : Item) (s : Step) → IsUnderWay b steps plates right → item_at b stack (drawn (draws_of steps) stack) ≡ Some item →
    IsFirstStep b plates right stack item s → more ≡ steps ++ s ∷ [] → then ≡ plates_after s.kind plates → IsOneMore b steps stack more then s.b
one_more b steps more plates right stack then item s way due first more_is then_is =
    let may : MayFollow b steps stack s = (by_state b steps plates right stack item s way due).1 first.may in
    let last : last_cut b [] no_cut more ≡ next_cut b [] no_cut steps s = ap (last_cut b [] no_cut) more_is ∙ last_more b [] no_cut steps s in
    record {
      step = s;
      next = record { may = may; least = λ t m. first.first t ((by_state b steps plates right stack item t way due).0 m) };
      more_is = more_is;
      under_way = record {
        meets = subst (Meets b) (sym more_is) may.meets;
        plates_are = then_is ∙ ap (plates_after s.kind) way.plates_are ∙ ap (λ (c : Cut). c.plates) (sym last);
        right_is = ap (λ (c : Cut). c.b) (sym last);
      };
    }

-- so few plates are begun that one more can be counted
pub few_begun : (b : Problem) (steps : List Step) (plates right : ℕ) → IsUnderWay b steps plates right → plates + 1 < 2 ^ 32
few_begun b steps plates right way = omega (arith, way.plates_are, few_plates b [] NewPlate no_cut steps (omega arith) way.meets, b.params.accepted.few_plates)
