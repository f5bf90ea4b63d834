-- The first place at one left side of a strip.
use Rattle.std.proofs.Common.{◌≡◌, ℕ, zero, suc, ◌+◌, ◌≤◌, ◌⊎◌, inl, inr, Option, Some, None, MatchOption, refl, sym, subst, arith, max, ◌∷◌, []}
use Rattle.std.proofs.lemmas.Bool.{cases_Bool, cases_lt}
use Rattle.glass_base.specs.declared.item.Item.{Item}
use Rattle.glass_base.specs.Problem.{Problem}
use Rattle.defect_map.specs.Queries.{CrossesNoneX, CrossesNoneY}
use Rattle.plan_trace.specs.Marks.{item_height, item_width}
use Rattle.plan_trace.specs.TraceRules.{Gap}
use Rattle.plan_draft.specs.declared.place.ItemPlace.{ItemPlace}
use Rattle.plan_draft.specs.Drafts.{NotAfter}
use Rattle.plan_draft.specs.inner.Least.{HasNone, IsLeast}
use Rattle.plan_draft.specs.inner.Places.{HasBand, HasNoPlace, IsFirstOf, IsLeastBand, IsRight, IsTopOf, IsTurn, StandsAt, StandsBeside, StandsSo, StandsTo, lesser, not_after, rank_of}
use Rattle.plan_draft.proofs.Ranks.{by_first, decided, decided_back, follows}
use Rattle.plan_draft.proofs.Tops.{shorter_y}

-- the band of a place
band_of : (b : Problem) (plate a turn w h right : ℕ) (q : ItemPlace) → StandsTo b plate a turn w h right q → HasBand b plate a right w h q.c
band_of b plate a turn w h right q s =
    record { bottom = rw s.1 at s.0.bottom; top = q.d; is_top = rw s.1 at s.0.top }

-- a least band is that of the first place in its strip
pub place_first : (b : Problem) (plate a turn w h right c d : ℕ) → a + b.params.min1 ≤ right → IsRight b plate (a + b.params.max1) right → Gap b.params.waste (a + w) right →
    IsLeastBand b plate a right w h 0 (record { c = c; d = d }) → IsFirstOf (StandsTo b plate a turn w h right) (record { a = a; b = right; c = c; d = d; turn = turn })
place_first b plate a turn w h right c d wide is_right behind band = (
  (record { a_is = refl; turn_is = refl; wide = wide; right = is_right; behind = behind; bottom = band.low.holds.bottom; top = band.high.holds }, refl),
  λ q s. by_first right q.b (a ∷ c ∷ d ∷ turn ∷ []) (q.a ∷ q.c ∷ q.d ∷ q.turn ∷ []) (omega (arith, s.1)) (λ _.
      by_first a q.a (c ∷ d ∷ turn ∷ []) (q.c ∷ q.d ∷ q.turn ∷ []) (omega (arith, s.0.a_is)) (λ _.
      by_first c q.c (d ∷ turn ∷ []) (q.d ∷ q.turn ∷ []) (low q s) (λ e.
      by_first d q.d (turn ∷ []) (q.turn ∷ []) (high q s e) (λ _.
      by_first turn q.turn [] [] (omega (arith, s.0.turn_is)) (λ _. tt))))),
)
  where
    low : (q : ItemPlace) → StandsTo b plate a turn w h right q → c ≤ q.c
    low q s = elim (cases_lt q.c c) [ inl lt ↦ absurd (band.low.none_before q.c (omega arith) lt (band_of b plate a turn w h right q s)) | inr le ↦ le ]

    high : (q : ItemPlace) → StandsTo b plate a turn w h right q → c ≡ q.c → d ≤ q.d
    high q s e =
        elim (cases_lt q.d d) [
          | inl lt ↦ absurd (band.high.none_before q.d (omega arith) lt (subst (λ n. IsTopOf b plate a right w h n q.d) (sym e) (subst (λ r. IsTopOf b plate a r w h q.c q.d) s.1 s.0.top)))
          | inr le ↦ le
        ]

pub no_place : (b : Problem) (plate a turn w h right : ℕ) → HasNone (HasBand b plate a right w h) 0 → HasNoPlace (StandsTo b plate a turn w h right)
no_place b plate a turn w h right none q s = none q.c (omega arith) (band_of b plate a turn w h right q s)

-- no strip with a waste beside the item ends anywhere
pub none_beside : (b : Problem) (plate a turn w h least : ℕ) → least ≡ a + max b.params.min1 (w + b.params.waste) → HasNone (IsRight b plate (a + b.params.max1)) least → HasNoPlace (StandsBeside b plate a turn w h)
none_beside b plate a turn w h least is none q s = none q.b (omega (arith, is, s.0.wide, s.1)) s.0.right

shorter_level : (b : Problem) (plate left right far side y : ℕ) → right ≤ far → (y ≡ side) ⊎ CrossesNoneY b.defects plate y left far → (y ≡ side) ⊎ CrossesNoneY b.defects plate y left right
shorter_level b plate left right far side y le (inl e) = inl e
shorter_level b plate left right far side y le (inr none) = inr (shorter_y b.defects plate y left right far le none)

-- a place in a strip that ends further right gives one in a shorter strip, where that may end
narrowed : (b : Problem) (plate a turn w h right : ℕ) (q : ItemPlace) → StandsBeside b plate a turn w h q → right ≤ q.b → a + b.params.min1 ≤ right → a + w + b.params.waste ≤ right →
    IsRight b plate (a + b.params.max1) right → StandsTo b plate a turn w h right (record q { b = right })
narrowed b plate a turn w h right q s le wide rest is_right = (
  record {
    a_is = s.0.a_is;
    turn_is = s.0.turn_is;
    wide = wide;
    right = is_right;
    behind = inr rest;
    bottom = record { below = s.0.bottom.below; line = shorter_level b plate a right q.b 0 q.c le s.0.bottom.line; clear = s.0.bottom.clear };
    top = record {
      tall = s.0.top.tall;
      top = record { within = s.0.top.top.within; above = s.0.top.top.above; line = shorter_level b plate a right q.b b.params.height q.d le s.0.top.top.line };
      under = s.0.top.under;
      beside = beside s.0.top.beside;
    };
  },
  refl,
)
  where
    beside : (a + w ≡ q.b) ⊎ CrossesNoneX b.defects plate (a + w) q.c q.d → (a + w ≡ right) ⊎ CrossesNoneX b.defects plate (a + w) q.c q.d
    beside (inl e) = absurd (omega (arith, e, s.1, b.params.accepted.waste_positive))
    beside (inr none) = inr none

least_right : (b : Problem) (plate a turn w h least right : ℕ) (q : ItemPlace) → least ≡ a + max b.params.min1 (w + b.params.waste) → IsLeast (IsRight b plate (a + b.params.max1)) least right → StandsBeside b plate a turn w h q → right ≤ q.b
least_right b plate a turn w h least right q is found s =
    elim (cases_lt q.b right) [ inl lt ↦ absurd (found.none_before q.b (omega (arith, is, s.0.wide, s.1)) lt s.0.right) | inr le ↦ le ]

-- the least right side decides
pub places_beside : (b : Problem) (plate a turn w h least right : ℕ) (found : Option ItemPlace) → least ≡ a + max b.params.min1 (w + b.params.waste) → IsLeast (IsRight b plate (a + b.params.max1)) least right →
    MatchOption found (HasNoPlace (StandsTo b plate a turn w h right)) (IsFirstOf (StandsTo b plate a turn w h right)) →
    MatchOption found (HasNoPlace (StandsBeside b plate a turn w h)) (IsFirstOf (StandsBeside b plate a turn w h))
places_beside b plate a turn w h least right None is side none =
    λ q s. none _ (narrowed b plate a turn w h right q s (least_right b plate a turn w h least right q is side s) (omega (arith, is, side.behind)) (omega (arith, is, side.behind)) side.holds)
places_beside b plate a turn w h least right (Some p) is side first = (
  (first.0.0, omega (arith, is, side.behind, first.0.1)),
  λ q s. elim (cases_lt right q.b) [
    | inl lt ↦ inl (omega (arith, lt, first.0.1))
    | inr le ↦ first.1 q (s.0, omega (arith, le, least_right b plate a turn w h least right q is side s))
  ],
)

-- a strip that is as wide as the item comes first
pub places_alone : (b : Problem) (plate a turn w h : ℕ) (p : ItemPlace) → IsFirstOf (StandsTo b plate a turn w h (a + w)) p → IsFirstOf (StandsSo b plate a turn w h) p
places_alone b plate a turn w h p first = (first.0.0, λ q s. by q s s.behind)
  where
    by : (q : ItemPlace) → StandsSo b plate a turn w h q → (a + w ≡ q.b) ⊎ (a + w + b.params.waste ≤ q.b) → NotAfter (rank_of p) (rank_of q)
    by q s (inl e) = first.1 q (s, sym e)
    by q s (inr le) = inl (omega (arith, le, first.0.1, b.params.accepted.waste_positive))

beside_of : (b : Problem) (plate a turn w h : ℕ) (q : ItemPlace) → HasNoPlace (StandsTo b plate a turn w h (a + w)) → StandsSo b plate a turn w h q → StandsBeside b plate a turn w h q
beside_of b plate a turn w h q none s = (s, by s.behind)
  where
    by : (a + w ≡ q.b) ⊎ (a + w + b.params.waste ≤ q.b) → a + w + b.params.waste ≤ q.b
    by (inl e) = absurd (none q (s, sym e))
    by (inr le) = le

-- where there is none, one with a waste beside the item is the first
pub places_else : (b : Problem) (plate a turn w h : ℕ) (found : Option ItemPlace) → HasNoPlace (StandsTo b plate a turn w h (a + w)) →
    MatchOption found (HasNoPlace (StandsBeside b plate a turn w h)) (IsFirstOf (StandsBeside b plate a turn w h)) →
    MatchOption found (HasNoPlace (StandsSo b plate a turn w h)) (IsFirstOf (StandsSo b plate a turn w h))
places_else b plate a turn w h None alone none = λ q s. none q (beside_of b plate a turn w h q alone s)
places_else b plate a turn w h (Some p) alone first = (first.0.0, λ q s. first.1 q (beside_of b plate a turn w h q alone s))

-- of two places found in two ways the one that comes first is first of both
pub lesser_first : (P Q : ItemPlace → Type 0) (x y : Option ItemPlace) → MatchOption x (HasNoPlace P) (IsFirstOf P) → MatchOption y (HasNoPlace Q) (IsFirstOf Q) →
    MatchOption (lesser x y) (HasNoPlace (λ p. P p ⊎ Q p)) (IsFirstOf (λ p. P p ⊎ Q p))
lesser_first P Q None None h k = λ p e. both p e
  where
    both : (p : ItemPlace) → P p ⊎ Q p → ⊥
    both p (inl is) = h p is
    both p (inr is) = k p is
lesser_first P Q None (Some q) h k = (inr k.0, λ r e. both r e)
  where
    both : (r : ItemPlace) → P r ⊎ Q r → NotAfter (rank_of q) (rank_of r)
    both r (inl is) = absurd (h r is)
    both r (inr is) = k.1 r is
lesser_first P Q (Some p) None h k = (inl h.0, λ r e. both r e)
  where
    both : (r : ItemPlace) → P r ⊎ Q r → NotAfter (rank_of p) (rank_of r)
    both r (inl is) = h.1 r is
    both r (inr is) = absurd (k r is)
lesser_first P Q (Some p) (Some q) h k =
    elim (cases_Bool (not_after (rank_of p) (rank_of q))) [
      | inl yes_it ↦ rw yes_it (inl h.0, λ r e. first r (decided (rank_of p) (rank_of q) refl yes_it) e)
      | inr not_it ↦ rw not_it (inr k.0, λ r e. second r (decided_back (rank_of p) (rank_of q) refl not_it) e)
    ]
  where
    first : (r : ItemPlace) → NotAfter (rank_of p) (rank_of q) → P r ⊎ Q r → NotAfter (rank_of p) (rank_of r)
    first r le (inl is) = h.1 r is
    first r le (inr is) = follows (rank_of p) (rank_of q) (rank_of r) le (k.1 r is)

    second : (r : ItemPlace) → NotAfter (rank_of q) (rank_of p) → P r ⊎ Q r → NotAfter (rank_of q) (rank_of r)
    second r le (inl is) = follows (rank_of q) (rank_of p) (rank_of r) le (h.1 r is)
    second r le (inr is) = k.1 r is

-- the same places by another property
pub same_places : {P Q : ItemPlace → Type 0} (found : Option ItemPlace) → ((p : ItemPlace) → P p → Q p) → ((p : ItemPlace) → Q p → P p) → MatchOption found (HasNoPlace P) (IsFirstOf P) → MatchOption found (HasNoPlace Q) (IsFirstOf Q)
same_places None to back none = λ q is. none q (back q is)
same_places (Some p) to back first = (to p first.0, λ q is. first.1 q (back q is))

abbrev InTurn : Problem → ℕ → ℕ → Item → ℕ → ItemPlace → Type 0
InTurn b plate a item turn p = StandsSo b plate a turn (item_width turn (Some item)) (item_height turn (Some item)) p

-- in a turn of its own
in_turn : (b : Problem) (plate a : ℕ) (item : Item) (turn : ℕ) (p : ItemPlace) → IsTurn item turn → InTurn b plate a item turn p → StandsAt b plate a item p
in_turn b plate a item turn p is s =
    (subst (IsTurn item) (sym s.turn_is) is, subst (λ n. InTurn b plate a item n p) (sym s.turn_is) s)

-- of a square
pub square_places : (b : Problem) (plate a : ℕ) (item : Item) (found : Option ItemPlace) → item.length ≡ item.width →
    MatchOption found (HasNoPlace (StandsSo b plate a 0 item.length item.width)) (IsFirstOf (StandsSo b plate a 0 item.length item.width)) →
    MatchOption found (HasNoPlace (StandsAt b plate a item)) (IsFirstOf (StandsAt b plate a item))
square_places b plate a item found square h =
    same_places found (λ p s. in_turn b plate a item 0 p (record { known = omega arith; square = λ _. refl }) s)
    (λ p s. subst (λ n. InTurn b plate a item n p) (s.0.square square) s.1) h

-- of an item that may be turned
pub turned_places : (b : Problem) (plate a : ℕ) (item : Item) (x y found : Option ItemPlace) → ¬ (item.length ≡ item.width) → found ≡ lesser x y →
    MatchOption x (HasNoPlace (StandsSo b plate a 0 item.length item.width)) (IsFirstOf (StandsSo b plate a 0 item.length item.width)) →
    MatchOption y (HasNoPlace (StandsSo b plate a 1 item.width item.length)) (IsFirstOf (StandsSo b plate a 1 item.width item.length)) →
    MatchOption found (HasNoPlace (StandsAt b plate a item)) (IsFirstOf (StandsAt b plate a item))
turned_places b plate a item x y found apart is h k =
    rw is (same_places (lesser x y) to back (lesser_first (InTurn b plate a item 0) (InTurn b plate a item 1) x y h k))
  where
    to : (p : ItemPlace) → InTurn b plate a item 0 p ⊎ InTurn b plate a item 1 p → StandsAt b plate a item p
    to p (inl s) = in_turn b plate a item 0 p (record { known = omega arith; square = λ _. refl }) s
    to p (inr s) = in_turn b plate a item 1 p (record { known = omega arith; square = λ e. absurd (apart e) }) s

    by : (turn : ℕ) (p : ItemPlace) → turn ≤ 1 → InTurn b plate a item turn p → InTurn b plate a item 0 p ⊎ InTurn b plate a item 1 p
    by zero p le s = inl s
    by (suc zero) p le s = inr s
    by (suc (suc n)) p le s = absurd (omega (arith, le))

    back : (p : ItemPlace) → StandsAt b plate a item p → InTurn b plate a item 0 p ⊎ InTurn b plate a item 1 p
    back p s = by p.turn p s.0.known s.1
