-- Which lines of nodes may follow each other.
use Rattle.std.specs.Prelude.{◌≡◌, ℕ, ◌+◌, ◌-◌, ◌<◌, ◌≤◌, List, [], ◌∷◌, ◌++◌, true, false, replicate}
use Rattle.std.specs.List.{flat_map}
use Rattle.cert_log.specs.declared.certificate.Node.{Node}
use Rattle.cert_log.specs.declared.place.Place.{Place}
use Rattle.cert_log.specs.Texts.{Line, splits, closes, opens_one, opens, line_text}
use Rattle.cert_log.specs.Trees.{FitsVersion}
use Rattle.glass_base.specs.declared.limits.TheConstants.{MOST_ITEMS}

-- the line is one of this version, and may come where so many places are left in the tree:
-- it has no more open nodes, and open nodes with their number follow no such line
abbrev pub MayCome : ℕ → Place → Line → Type 0
MayCome version at (splits step v) = step < MOST_ITEMS
MayCome version at (closes cause) = FitsVersion version (Node.Closed cause)
MayCome version at opens_one = version ≡ 1
MayCome version at (opens n) = (2 ≤ version) × (0 < n) × (n ≤ at.places) × (at.after_open ≡ false)

-- a split takes one place and gives two, any other node takes one
abbrev pub behind : Place → Line → Place
behind at (splits step v) = record { places = at.places + 1; after_open = false }
behind at (closes cause) = record { places = at.places - 1; after_open = false }
behind at opens_one = record { places = at.places - 1; after_open = false }
behind at (opens n) = record { places = at.places - n; after_open = true }

-- behind the first line one place is left
abbrev pub start : Place
start = record { places = 1; after_open = false }

abbrev pub behind_all : Place → List Line → Place
behind_all at [] = at
behind_all at (l ∷ ls) = behind_all (behind at l) ls

-- each line stands before the tree is complete, and may come there
abbrev pub Follow : ℕ → Place → List Line → Type 0
Follow version at [] = Unit {0}
Follow version at (l ∷ ls) = (0 < at.places) × MayCome version at l × Follow version (behind at l) ls

-- the text begins with no line that may come
abbrev pub NoLine : ℕ → Place → List ℕ → Type 0
NoLine version at text = (l : Line) (rest : List ℕ) → MayCome version at l → text ≡ line_text l ++ rest → ⊥

-- the nodes of a line
abbrev pub nodes_in : Line → List Node
nodes_in (splits step v) = Node.Split step v ∷ []
nodes_in (closes cause) = Node.Closed cause ∷ []
nodes_in opens_one = Node.Left ∷ []
nodes_in (opens n) = replicate n Node.Left

-- the nodes of some lines
abbrev pub nodes_in_all : List Line → List Node
nodes_in_all lines = flat_map nodes_in lines
