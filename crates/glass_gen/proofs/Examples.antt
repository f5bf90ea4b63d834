-- The first draws from 7, computed.
use Rattle.std.proofs.Common.{◌≡◌, ◌∷◌, [], refl}
use Rattle.glass_gen.specs.Draws.{drawn, next_state, number_of, state_after}
use Rattle.glass_gen.specs.Drawn.{item_from, items_drawn}

first_states : (state_after 7 1 ∷ state_after 7 2 ∷ []) ≡ (1025555898 ∷ 3923423697 ∷ [])
unfolding state_after next_state
first_states = refl

-- of 20 items
first_item : items_drawn 7 2 1 ≡ record { id = 0; length = 248; width = 516; stack = 0; sequence = 0 } ∷ []
unfolding item_from drawn state_after next_state number_of
first_item = refl
