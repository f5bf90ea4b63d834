-- Several workers: before they work, and what each of them did.
use Rattle.std.specs.Prelude.{◌≡◌, ℕ, ◌<◌, List, [], ◌∷◌, length, map, sum_by, Some}
use Rattle.glass_base.specs.Problem.{Problem}
use Rattle.plan_box.specs.Frames.{frame_of}
use Rattle.box_bound.specs.Leastings.{IsOf}
use Rattle.box_ring.specs.Arms.{ArmState, frame, Stays}
use Rattle.shared_best.specs.declared.view.View.{View}
use Rattle.shared_best.specs.Seats.{Words, IsSeatOf}
use Rattle.shared_best.specs.Words.{none_known, share}
use Rattle.box_workers.specs.declared.member.Member.{Member}
use Rattle.box_workers.specs.declared.working.Rest.{Rest}
use Rattle.box_workers.specs.Works.{Works}
use Rattle.box_workers.specs.inner.Hands.{IsFresh}

-- a seat of which nothing was asked: no ticket was drawn, no loss was looked at or announced
pub record IsUnused (v : View) : Type 0 where
  pub tickets : v.tickets ≡ []
  pub looks : v.looks ≡ []
  pub announced : v.announced ≡ none_known

-- a worker that has done nothing yet
pub record IsNew (b : Problem) (m : Member) : Type 0 where
  pub seat : IsUnused m.seat.view
  pub hand : IsFresh b m.hand
  pub left : m.hand.left.items ≡ []

-- a worker can work: its seat may draw more tickets than are to be used, its arm has not missed yet
pub record IsReady (b : Problem) (w : Words) (m : Member) : Type 0 where
  pub seat : IsSeatOf w m.seat
  pub allowance : w.budget < m.seat.view.allowance
  pub ring : frame m.arm ≡ frame_of b
  pub misses : m.arm.misses ≡ 0
  pub leasts : IsOf b m.hand.leasts
  pub scratch : length m.hand.scratch.steps.items ≡ length b.items

-- the arms of workers
abbrev pub arms_of : List Member → List ArmState
arms_of ms = map (λ (m : Member). m.arm) ms

-- their numbers
abbrev pub numbers_of : List Member → List ℕ
numbers_of ms = map (λ (m : Member). m.hand.worker) ms

-- how many tickets workers have drawn or may draw
abbrev pub share_of : List Member → ℕ
share_of ms = sum_by (λ (m : Member). share m.seat.view) ms

-- a worker has worked: its arm stays where it is in its ring, and where it rests, all that it did is told
pub record HasDone (b : Problem) (w : Words) (starts : ℕ) (old new : Member) : Type 0 where
  pub seat : IsSeatOf w new.seat
  pub stays : Stays old.arm new.arm
  pub works : (rest : Rest) → new.rest ≡ Some rest → Works b w starts old.seat new.seat old.hand new.hand old.arm new.arm rest

-- the same of each worker
abbrev pub EachDone : Problem → Words → ℕ → List Member → List Member → Type 0
EachDone b w starts [] [] = Unit {0}
EachDone b w starts [] (n ∷ news) = ⊥
EachDone b w starts (m ∷ olds) [] = ⊥
EachDone b w starts (m ∷ olds) (n ∷ news) = HasDone b w starts m n × EachDone b w starts olds news
