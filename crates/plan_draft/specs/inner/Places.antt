-- Where an item may stand alone in a strip of its own: its strip, its band and its cell.
use Rattle.std.specs.Prelude.{◌≡◌, ℕ, ◌+◌, ◌<◌, ◌≤◌, ◌==◌, ◌⊎◌, List, [], ◌∷◌, Bool, true, false, nat_lt, cond, Option, Some, None, MatchOption}
use Rattle.glass_base.specs.declared.item.Item.{Item}
use Rattle.glass_base.specs.Plates.{Width}
use Rattle.glass_base.specs.Problem.{Problem}
use Rattle.defect_map.specs.Queries.{CrossesNoneX, CrossesNoneY, HitsNone}
use Rattle.plan_trace.specs.Marks.{item_height, item_width}
use Rattle.plan_trace.specs.TraceRules.{Gap}
use Rattle.plan_draft.specs.declared.place.Band.{Band}
use Rattle.plan_draft.specs.declared.place.ItemPlace.{ItemPlace}
use Rattle.plan_draft.specs.Drafts.{NotAfter}
use Rattle.plan_draft.specs.inner.Least.{IsLeast}

-- a side of a strip may stand here: at the plate's side, or where it runs through no defect
abbrev pub IsUpright : Problem → ℕ → ℕ → ℕ → Type 0
IsUpright b plate side x = (x ≡ side) ⊎ CrossesNoneX b.defects plate x 0 b.params.height

-- a side of a band from a to b may stand here
abbrev pub IsLevel : Problem → ℕ → ℕ → ℕ → ℕ → ℕ → Type 0
IsLevel b plate left right side y = (y ≡ side) ⊎ CrossesNoneY b.defects plate y left right

-- the left side of a strip behind what ends at `from`
pub record IsLeft (b : Problem) (plate from a : ℕ) : Type 0 where
  pub before : Gap b.params.waste from a
  pub line : IsUpright b plate 0 a

-- the right side of a strip that may be at most this wide
pub record IsRight (b : Problem) (plate most right : ℕ) : Type 0 where
  pub narrow : right ≤ most
  pub within : right ≤ Width b plate
  pub behind : Gap b.params.waste right (Width b plate)
  pub line : IsUpright b plate (Width b plate) right

-- the upper side of a band
pub record IsTop (b : Problem) (plate left right top : ℕ) : Type 0 where
  pub within : top ≤ b.params.height
  pub above : Gap b.params.waste top b.params.height
  pub line : IsLevel b plate left right b.params.height top

-- the item of these sides fills the band from c to d, or leaves a waste over it
abbrev pub IsUnder : Problem → ℕ → ℕ → ℕ → ℕ → ℕ → ℕ → Type 0
IsUnder b plate a w h c d =
    (c + h ≡ d) ⊎ ((c + h + b.params.waste ≤ d) × (b.params.waste ≤ w) × CrossesNoneY b.defects plate (c + h) a (a + w))

-- the line between the item and the waste beside it
abbrev pub IsBeside : Problem → ℕ → ℕ → ℕ → ℕ → ℕ → ℕ → Type 0
IsBeside b plate a right w c d = (a + w ≡ right) ⊎ CrossesNoneX b.defects plate (a + w) c d

-- the upper side of the band of an item that stands at (a, c), in a strip that ends at `right`
pub record IsTopOf (b : Problem) (plate a right w h c d : ℕ) : Type 0 where
  pub tall : c + b.params.min2 ≤ d
  pub top : IsTop b plate a right d
  pub under : IsUnder b plate a w h c d
  pub beside : IsBeside b plate a right w c d

-- it leaves a waste over the item
pub record IsOver (b : Problem) (plate a right w h c d : ℕ) : Type 0 where
  pub tall : c + b.params.min2 ≤ d
  pub top : IsTop b plate a right d
  pub rest : c + h + b.params.waste ≤ d
  pub wide : b.params.waste ≤ w
  pub line : CrossesNoneY b.defects plate (c + h) a (a + w)
  pub beside : IsBeside b plate a right w c d

-- the lower side of its band
pub record IsBottomOf (b : Problem) (plate a right w h c : ℕ) : Type 0 where
  pub below : Gap b.params.waste 0 c
  pub line : IsLevel b plate a right 0 c
  pub clear : HitsNone b.defects plate a c (a + w) (c + h)

-- the lower side of a band that has an upper side
pub record HasBand (b : Problem) (plate a right w h c : ℕ) : Type 0 where
  pub bottom : IsBottomOf b plate a right w h c
  pub top : ℕ
  pub is_top : IsTopOf b plate a right w h c top

-- the band of an item that stands alone at the left side of its strip: no other has a lesser lower side, or with this lower side a
-- lesser upper side
pub record IsLeastBand (b : Problem) (plate a right w h : ℕ) (from : ℕ) (band : Band) : Type 0 where
  pub low : IsLeast (HasBand b plate a right w h) from band.c
  pub high : IsLeast (IsTopOf b plate a right w h band.c) 0 band.d

-- a turn of an item
pub record IsTurn (item : Item) (turn : ℕ) : Type 0 where
  pub known : turn ≤ 1
  pub square : item.length ≡ item.width → turn ≡ 0

-- the numbers by which places are compared, the first that differs deciding
abbrev pub rank_of : ItemPlace → List ℕ
rank_of p = p.b ∷ p.a ∷ p.c ∷ p.d ∷ p.turn ∷ []

-- the place has this property, and none that has it comes before
abbrev pub IsFirstOf : (ItemPlace → Type 0) → ItemPlace → Type 0
IsFirstOf P p = P p × ((q : ItemPlace) → P q → NotAfter (rank_of p) (rank_of q))

abbrev pub HasNoPlace : (ItemPlace → Type 0) → Type 0
HasNoPlace P = (p : ItemPlace) → ¬ P p

-- at this left side and in this turn an item of these sides may stand so
pub record StandsSo (b : Problem) (plate a turn w h : ℕ) (p : ItemPlace) : Type 0 where
  pub a_is : p.a ≡ a
  pub turn_is : p.turn ≡ turn
  pub wide : a + b.params.min1 ≤ p.b
  pub right : IsRight b plate (a + b.params.max1) p.b
  pub behind : Gap b.params.waste (a + w) p.b
  pub bottom : IsBottomOf b plate a p.b w h p.c
  pub top : IsTopOf b plate a p.b w h p.c p.d

-- in a strip that ends here
abbrev pub StandsTo : Problem → ℕ → ℕ → ℕ → ℕ → ℕ → ℕ → ItemPlace → Type 0
StandsTo b plate a turn w h right p = StandsSo b plate a turn w h p × (p.b ≡ right)

-- with a waste beside it
abbrev pub StandsBeside : Problem → ℕ → ℕ → ℕ → ℕ → ℕ → ItemPlace → Type 0
StandsBeside b plate a turn w h p = StandsSo b plate a turn w h p × (a + w + b.params.waste ≤ p.b)

-- at this left side, in one of its turns
abbrev pub StandsAt : Problem → ℕ → ℕ → Item → ItemPlace → Type 0
StandsAt b plate a item p = IsTurn item p.turn × StandsSo b plate a p.turn (item_width p.turn (Some item)) (item_height p.turn (Some item)) p

-- the item may stand so, behind what ends at `from`
pub record IsPlace (b : Problem) (plate from : ℕ) (item : Item) (p : ItemPlace) : Type 0 where
  pub left : IsLeft b plate from p.a
  pub stands : StandsAt b plate p.a item p

-- whether numbers come no later than others, the first that differs deciding
abbrev pub not_after : List ℕ → List ℕ → Bool
not_after [] others = true
not_after (n ∷ numbers) [] = false
not_after (n ∷ numbers) (m ∷ others) = cond (n == m) (not_after numbers others) (nat_lt n m)

-- the one of two places that comes first
abbrev pub lesser : Option ItemPlace → Option ItemPlace → Option ItemPlace
lesser None other = other
lesser (Some p) None = Some p
lesser (Some p) (Some q) = cond (not_after (rank_of p) (rank_of q)) (Some p) (Some q)

-- where a strip can begin no further right: the plate's end, or the right side of a place
abbrev pub end_of : ℕ → Option ItemPlace → ℕ
end_of width None = width
end_of width (Some p) = p.b

-- this is the first of the places whose strip begins before `left`, and they end on the plate
pub record IsBestBefore (b : Problem) (plate from : ℕ) (item : Item) (left : ℕ) (best : Option ItemPlace) : Type 0 where
  pub first : MatchOption best (HasNoPlace (λ p. IsPlace b plate from item p × (p.a < left))) (IsFirstOf (λ p. IsPlace b plate from item p × (p.a < left)))
