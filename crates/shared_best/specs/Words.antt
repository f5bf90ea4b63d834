-- What a seat knows of the two shared words, and how its view changes by each call.
use Rattle.std.specs.Prelude.{◌≡◌, ℕ, ◌+◌, ◌-◌, ◌/◌, ◌≤◌, Bool, true, List, [], ◌∷◌, ◌++◌, length, min, count_by, nat_eq, nat_lt, if◌then◌else◌}
use Rattle.shared_best.specs.declared.view.View.{View}

-- stands for "no loss is known": the greatest number of 64 bits
abbrev pub none_known : ℕ
none_known = 18446744073709551615

-- how many tickets all seats together may draw
abbrev pub all_draws : ℕ
all_draws = 4611686018427387904

-- how often x stands in the list
abbrev pub times : ℕ → List ℕ → ℕ
times x xs = count_by (λ y. nat_eq y x) xs

-- 1 where x is below n, else 0
abbrev pub once_below : ℕ → ℕ → ℕ
once_below x n = if nat_lt x n then 1 else 0

-- the numbers of the list are those below its length, each once
abbrev pub IsEachOnce : List ℕ → Type 0
IsEachOnce xs = (x : ℕ) → times x xs ≡ once_below x (length xs)

-- the last number of the list, or d where it has none
abbrev pub last_or : ℕ → List ℕ → ℕ
last_or d [] = d
last_or d (x ∷ xs) = last_or x xs

-- how many tickets a seat has drawn or may draw
abbrev pub share : View → ℕ
share v = v.allowance + length v.tickets

-- the seat has the share of all seats: no other one has drawn or may draw a ticket
abbrev pub IsWhole : View → Type 0
IsWhole v = share v ≡ all_draws

-- a view by its fields, in the order in which they are declared
abbrev pub seat_view : Bool → ℕ → ℕ → ℕ → List (ℕ × ℕ) → List ℕ → ℕ → View
seat_view l f s a ls ts n = record { live = l; first = f; seen = s; announced = a; looks = ls; tickets = ts; allowance = n }

-- the view of the first seat, where f is the first value of the best loss
abbrev pub newcomer : ℕ → View
newcomer f = seat_view true f none_known none_known [] [] all_draws

-- after a look that found r
abbrev pub looked : View → ℕ → View
looked v r = seat_view v.live v.first r v.announced (v.looks ++ (last_or none_known v.tickets, r) ∷ []) v.tickets v.allowance

-- after the loss k was announced
abbrev pub lowered : View → ℕ → View
lowered v k = seat_view v.live v.first v.seen (min v.announced k) v.looks v.tickets v.allowance

-- after the ticket t was drawn
abbrev pub drawn : View → ℕ → View
drawn v t = seat_view v.live v.first v.seen v.announced v.looks (v.tickets ++ t ∷ []) (v.allowance - 1)

-- what a seat keeps when another one is split off
abbrev pub kept_half : View → View
kept_half v = seat_view v.live v.first v.seen v.announced v.looks v.tickets (v.allowance - v.allowance / 2)

-- what the seat that is split off knows and may draw
abbrev pub new_half : View → View
new_half v = seat_view v.live v.first v.seen none_known [] [] (v.allowance / 2)

-- after a seat with the second view was joined into one with the first
abbrev pub joined : View → View → View
joined v w = seat_view v.live v.first (min v.seen w.seen) (min v.announced w.announced) (v.looks ++ w.looks) (v.tickets ++ w.tickets) (v.allowance + w.allowance)

-- a whole seat's tickets are those below their number, each once, and no look found less than the first value and all that was announced
pub record Settles (v : View) : Type 0 where
  pub tickets : IsEachOnce v.tickets
  pub seen : min v.first v.announced ≤ v.seen
