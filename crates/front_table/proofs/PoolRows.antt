-- The rows of a pool.
use Rattle.std.proofs.Common.{◌≡◌, ℕ, zero, suc, ◌+◌, ◌<◌, ◌≤◌, inl, inr, List, [], ◌∷◌, length, get_or, map, refl, sym, ap, ◌∙◌, subst, arith, All}
use Rattle.std.proofs.Math.ListN.{set}
use Rattle.std.proofs.lemmas.Bool.{cases_lt}
use Rattle.std.proofs.lemmas.List.Elements.{All-contains}
use Rattle.std.proofs.lemmas.Grind.{get_or-set_at}
use Rattle.std.proofs.lemmas.List.{map-set, get_or-set_other, get_or-map, length-set, length-map}
use Rattle.front_table.specs.declared.labels.FrontLabel.{FrontLabel}
use Rattle.front_table.specs.declared.moves.Move.{Move}
use Rattle.front_table.specs.Sets.{Held, HeldTo, Keeps}
use Rattle.front_table.proofs.HeldLists.{keeps_held, fits_none}
use Rattle.front_table.specs.Pools.{row_at, HeldAt, IsSpan, Spreads, Joined, GoesOn}

-- nothing has changed
pub spreads_same : (g : ℕ) (rows : List (List FrontLabel)) → Spreads g rows rows
spreads_same g rows = record { len = refl; same = λ n le. refl; kept = λ n x y right up held. held }

pub spreads_from : (g h : ℕ) (old new : List (List FrontLabel)) → g ≤ h → Spreads g old new → Spreads h old new
spreads_from g h old new le s = record { len = s.len; same = λ n from. s.same n (omega (arith, le, from)); kept = s.kept }

pub spreads_then : (g : ℕ) (old mid new : List (List FrontLabel)) → Spreads g old mid → Spreads g mid new → Spreads g old new
spreads_then g old mid new s t = record {
  len = t.len ∙ s.len;
  same = λ n le. t.same n le ∙ s.same n le;
  kept = λ n x y right up held. t.kept n x y right up (s.kept n x y right up held);
}

spread_keeps : (g : ℕ) (old new : List (List FrontLabel)) → Spreads g old new → (n : ℕ) → Keeps (row_at old n) (row_at new n)
unfolding Keeps
spread_keeps g old new s n x y right up held = s.kept n x y right up held

-- of sizes alone
pub kept_at : (g : ℕ) (old new : List (List FrontLabel)) → Spreads g old new → (n x y : ℕ) → HeldAt old n x y → HeldAt new n x y
kept_at g old new s n x y held = keeps_held (row_at old n) (row_at new n) x y (spread_keeps g old new s n) held

-- no row is behind the last one
pub row_beyond : (rows : List (List FrontLabel)) (n : ℕ) → length rows ≤ n → row_at rows n ≡ []
row_beyond [] zero le = refl
row_beyond [] (suc n) le = refl
row_beyond (r ∷ rows) zero le = absurd (omega (arith, le))
row_beyond (r ∷ rows) (suc n) le = row_beyond rows n (omega (arith, le))

pub span_whole : (rows : List (List FrontLabel)) (last : ℕ) → length rows ≤ last → IsSpan 0 last rows
span_whole rows last le n (inl before) = absurd (omega (arith, before))
span_whole rows last le n (inr behind) = row_beyond rows n (omega (arith, behind, le))

-- a row was replaced, in a list that is seen by `f`
pub rows_len : {V : Type 0} (rows : List V) (f : V → List FrontLabel) → length (map f rows) ≡ length rows
rows_len rows f = length-map rows f

pub row_view : {V : Type 0} (rows : List V) (f : V → List FrontLabel) (row : ℕ) (v : V) → row < length rows → v ≡ get_or rows row v → row_at (map f rows) row ≡ f v
row_view rows f row v lt is = get_or-map f rows row v [] lt ∙ ap f (sym is)

module _ {V : Type 0} (rows : List V) (f : V → List FrontLabel) (row : ℕ) (v : V) (lt : row < length rows) where
  pub view_same : (n : ℕ) → n ≡ row → row_at (map f (set rows row v)) n ≡ f v
  view_same n e = ap (λ l. get_or l n []) (map-set f rows row v) ∙ get_or-set_at (map f rows) row n (f v) [] e (omega (arith, lt, length-map rows f))

  pub view_other : (n : ℕ) → (n ≡ row → ⊥) → row_at (map f (set rows row v)) n ≡ row_at (map f rows) n
  view_other n other = ap (λ l. get_or l n []) (map-set f rows row v) ∙ get_or-set_other (map f rows) row n (f v) [] other

  -- rows without labels
  pub span_set : (low last least most : ℕ) → IsSpan low last (map f rows) → least ≤ low → least ≤ row → last ≤ most → row ≤ most → IsSpan least most (map f (set rows row v))
  span_set low last least most span a b c d n (inl before) = view_other n (λ e. absurd (omega (arith, e, before, b))) ∙ span n (inl (omega (arith, before, a)))
  span_set low last least most span a b c d n (inr behind) = view_other n (λ e. absurd (omega (arith, e, behind, d))) ∙ span n (inr (omega (arith, behind, c)))

  pub view_held : (x y : ℕ) → Held (f v) x y → HeldAt (map f (set rows row v)) row x y
  view_held x y held = subst (λ l. Held l x y) (sym (view_same row refl)) held

  pub view_stands : (x y right up : ℕ) → HeldTo (f v) x y right up → HeldTo (row_at (map f (set rows row v)) row) x y right up
  view_stands x y right up held = subst (λ l. HeldTo l x y right up) (sym (view_same row refl)) held

  pub view_spreads : Keeps (row_at (map f rows) row) (f v) → Spreads (row + 1) (map f rows) (map f (set rows row v))
  unfolding Keeps
  view_spreads keeps = record {
    len = omega (arith, length-map (set rows row v) f, length-map rows f, length-set rows row v);
    same = λ n le. view_other n (λ e. absurd (omega (arith, e, le)));
    kept = λ n x y right up held. kept n x y right up held;
  }
    where
      kept : (n x y right up : ℕ) → HeldTo (row_at (map f rows) n) x y right up → HeldTo (row_at (map f (set rows row v)) n) x y right up
      kept n x y right up held =
          elim (cases_lt n row) [
            | inl below ↦ subst (λ l. HeldTo l x y right up) (sym (view_other n (λ e. absurd (omega (arith, e, below))))) held
            | inr ge ↦
                elim (cases_lt row n) [
                  | inl above ↦ subst (λ l. HeldTo l x y right up) (sym (view_other n (λ e. absurd (omega (arith, e, above))))) held
                  | inr le ↦
                      let same : n ≡ row = omega (arith, ge, le) in
                      subst (λ l. HeldTo l x y right up) (sym (view_same n same)) (keeps x y right up (subst (λ k. HeldTo (row_at (map f rows) k) x y right up) same held))
                ]
          ]

pub joined_kept : (along across g : ℕ) (old new : List (List FrontLabel)) (l : FrontLabel) (m : Move) → Spreads g old new → Joined along across old l m → Joined along across new l m
unfolding Joined
joined_kept along across g old new l m s joined x w y own next sum most = kept_at g old new s m.to (x + w) y (joined x w y own next sum most)

pub goes_on_kept : (along across g : ℕ) (old new : List (List FrontLabel)) (n : ℕ) (moves : List Move) → Spreads g old new → g ≤ n → GoesOn along across old n moves → GoesOn along across new n moves
unfolding GoesOn
goes_on_kept along across g old new n moves s le goes x y held m has w fits sum most =
    kept_at g old new s m.to (x + w) y (goes x y (subst (λ l. Held l x y) (s.same n le) held) m has w fits sum most)

-- each label of a row goes on by each move
pub goes_on : (along across : ℕ) (rows : List (List FrontLabel)) (n : ℕ) (moves : List Move) → ((k : ℕ) (d : FrontLabel) → k < length (row_at rows n) → All (Joined along across rows (get_or (row_at rows n) k d)) moves) →
    GoesOn along across rows n moves
unfolding GoesOn Joined Held
goes_on along across rows n moves each x y (l, (k, lt, is), fits) m has w next sum most =
    let all : All (Joined along across rows l) moves = subst (λ (l : FrontLabel). All (Joined along across rows l) moves) is (each k l lt) in
    All-contains (Joined along across rows l) moves m all has x w y fits next sum most

-- the row that a move of the list leads to
pub leads_below : (moves : List Move) (row at : ℕ) (e : Move) → All (λ (m : Move). m.to < row) moves → at < length moves → (get_or moves at e).to + 1 ≤ row
leads_below moves row at e all lt = omega (arith, all at e lt)

-- where no label leads to the row
pub goes_on_none : (along across : ℕ) (rows : List (List FrontLabel)) (n : ℕ) (moves : List Move) → row_at rows n ≡ [] → GoesOn along across rows n moves
unfolding GoesOn
goes_on_none along across rows n moves none x y held m has w fits sum most = absurd (fits_none (row_at rows n) x y none held)
