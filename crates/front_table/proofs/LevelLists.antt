-- Rows that are appended.
use Rattle.std.proofs.Common.{◌≡◌, ℕ, ◌+◌, ◌<◌, ◌≤◌, ◌⊎◌, inl, inr, List, [], ◌∷◌, ◌++◌, length, get_or, map, sym, ap, ◌∙◌, subst, arith}
use Rattle.std.proofs.Math.Seq.{get_or-append_seam}
use Rattle.std.proofs.lemmas.Bool.{cases_lt}
use Rattle.std.proofs.lemmas.List.{map-append, get_or_append_left, length-map}
use Rattle.glass_base.specs.Problem.{Problem}
use Rattle.front_table.specs.declared.ends.End.{End}
use Rattle.front_table.specs.declared.levels.RowFacts.{RowFacts}
use Rattle.front_table.specs.declared.rows.FrontRow.{FrontRow}
use Rattle.front_table.specs.Ends.{Ended, Falls, EndsFrom, EndsBehind, LeadsBelow, LinksBelow}
use Rattle.front_table.specs.Lattice.{IsLattice}
use Rattle.front_table.specs.Leads.{BandsLead}
use Rattle.front_table.specs.Levels.{ends_at, to_go_at, IsToGo}
use Rattle.front_table.specs.Widths.{Rises}
use Rattle.front_table.specs.Packed.{unpacked_all}
use Rattle.front_table.specs.Ready.{SameLevel, IsLast, IsLevel, ClassTails, IsOpen, Built, Opened, LeavesLeast, IsClosed, IsKnown, Continues, tails_in}
use Rattle.front_table.proofs.Paths.{leads_below, ends_from_as, ends_with}
use Rattle.front_table.specs.Tails.{HasTails, HasTailsBehind, IsLower, tail_at, tails_at, unit_in}
use Rattle.front_table.proofs.FrontRows.{one_row}
use Rattle.front_table.proofs.StackTails.{has_tails}
use Rattle.front_table.proofs.StripRuns.{strip_down, strip_below, bands_within_row, bands_below}

-- of rows that are seen by `f`
seen_old : {A B : Type 0} (f : A → B) (xs : List A) (x : A) (n : ℕ) (d : B) → n < length xs → get_or (map f (xs ++ x ∷ [])) n d ≡ get_or (map f xs) n d
seen_old f xs x n d lt = ap (λ l. get_or l n d) (map-append f xs (x ∷ [])) ∙ get_or_append_left (map f xs) (map f (x ∷ [])) d n (omega (arith, lt, length-map xs f))

seen_new : {A B : Type 0} (f : A → B) (xs : List A) (x : A) (d : B) → get_or (map f (xs ++ x ∷ [])) (length xs) d ≡ f x
seen_new f xs x d =
    ap (λ l. get_or l (length xs) d) (map-append f xs (x ∷ [])) ∙ ap (λ k. get_or (map f xs ++ f x ∷ []) k d) (sym (length-map xs f)) ∙ get_or-append_seam (map f xs) (f x) [] d

pub same_pushed : (levels : List RowFacts) (level : RowFacts) (n : ℕ) → n < length levels → SameLevel levels (levels ++ level ∷ []) n
same_pushed levels level n lt = record {
  bands = ap unpacked_all (seen_old (λ (l : RowFacts). l.bands.items) levels level n [] lt);
  ends = seen_old (λ (l : RowFacts). l.ends.items) levels level n [] lt;
  to_go = seen_old (λ (l : RowFacts). l.to_go) levels level n 0 lt;
  tails = λ k. ap (λ tails. get_or (tails) k []) (seen_old (λ (l : RowFacts). l.tails.items) levels level n [] lt);
}

pub last_pushed : (levels : List RowFacts) (level : RowFacts) → IsLast (levels ++ level ∷ []) (length levels) level
last_pushed levels level = record {
  bands = ap unpacked_all (seen_new (λ (l : RowFacts). l.bands.items) levels level []);
  ends = seen_new (λ (l : RowFacts). l.ends.items) levels level [];
  to_go = seen_new (λ (l : RowFacts). l.to_go) levels level 0;
  tails = λ k. ap (λ tails. get_or (tails) k []) (seen_new (λ (l : RowFacts). l.tails.items) levels level []);
}

-- what is known of a row stays known
level_as : (b : Problem) (rows : List FrontRow) (levels other : List RowFacts) (n : ℕ) → SameLevel levels other n → IsLevel b rows levels n → IsLevel b rows other n
level_as b rows levels other n s is = record {
  falls = subst Falls (sym s.ends) is.falls;
  rises = subst Rises (sym s.bands) is.rises;
  bands = subst (BandsLead b rows n) (sym s.bands) is.bands;
}

-- what is to go from rows below one matters alone
behind_as : (b : Problem) (rows : List FrontRow) (cover : ℕ) (to_go other : ℕ → ℕ) (n below : ℕ) (ends : List End) → LeadsBelow b rows n below → ((m : ℕ) → m < below → to_go m ≡ other m) → EndsBehind b rows cover to_go n ends → EndsBehind b rows cover other n ends
behind_as b rows cover to_go other n below ends leads same behind f at stacks some takes m to area left few = subst (λ k. Ended ends area k) (same m (leads f at stacks some takes m to)) (behind f at stacks some takes m to area left few)

to_go_as : (b : Problem) (rows : List FrontRow) → IsLattice b rows → (to_go other : ℕ → ℕ) (n : ℕ) → ((m : ℕ) → m ≤ n → to_go m ≡ other m) → IsToGo b rows to_go n → IsToGo b rows other n
to_go_as b rows h to_go other n same is f at w bands strip m to =
    omega (arith, is f at w bands strip m to, same n (omega arith), same m (omega (arith, strip_down b rows h f n at w bands strip m to)))

tails_as : (b : Problem) (rows : List FrontRow) → IsLattice b rows → (top unit : ℕ) (to_go other : ℕ → ℕ) (n : ℕ) (tails : List ℕ) → ((m : ℕ) → m ≤ n → to_go m ≡ other m) → HasTails b rows top unit to_go n tails → HasTails b rows top unit other n tails
tails_as b rows h top unit to_go other n tails same has f at w bands are narrow most within m to k below =
    omega (arith, has f at w bands are narrow most within m to k below, same m (bands_within_row b rows h f n at w bands are m to))

tails_behind_as : (b : Problem) (rows : List FrontRow) (top unit : ℕ) (to_go other : ℕ → ℕ) (n below : ℕ) (tails : List ℕ) → LeadsBelow b rows n below → ((m : ℕ) → m < below → to_go m ≡ other m) → HasTailsBehind b rows top unit to_go n tails → HasTailsBehind b rows top unit other n tails
tails_behind_as b rows top unit to_go other n below tails leads same has f at w [] some are narrow most within m to k low = absurd (omega (arith, some))
tails_behind_as b rows top unit to_go other n below tails leads same has f at w (band ∷ bands) some are narrow most within m to k low =
    omega (arith, has f at w (band ∷ bands) some are narrow most within m to k low, same m (bands_below b rows n below leads f at w band bands are m to))

class_as : (b : Problem) (rows : List FrontRow) → IsLattice b rows → (tops : List ℕ) (levels other : List RowFacts) (n : ℕ) → ((m : ℕ) → m ≤ n → SameLevel levels other m) → ClassTails b rows tops levels n → ClassTails b rows tops other n
class_as b rows h tops levels other n same has k d lt =
    subst (HasTails b rows (get_or tops k d) (unit_in b.params.height) (to_go_at other) n) (sym ((same n (omega arith)).tails k))
    (tails_as b rows h (get_or tops k d) (unit_in b.params.height) (to_go_at levels) (to_go_at other) n (tails_at levels n k) (λ m le. sym (same m le).to_go) (has k d lt))

pub is_open : (b : Problem) (rows : List FrontRow) (tops : List ℕ) (cover : ℕ) (to_go : ℕ → ℕ) (n : ℕ) (level : RowFacts) → Falls level.ends.items → Rises (unpacked_all level.bands.items) → BandsLead b rows n (unpacked_all level.bands.items) →
    EndsBehind b rows cover to_go n level.ends.items → ((k d : ℕ) → k < length tops → HasTailsBehind b rows (get_or tops k d) (unit_in b.params.height) to_go n (tails_in level k)) → IsOpen b rows tops cover to_go n level
is_open b rows tops cover to_go n level falls rises bands behind tails = record {
  falls = falls;
  rises = rises;
  bands = bands;
  behind = behind;
  tails = tails;
}

pub is_opened : (b : Problem) (rows : List FrontRow) (tops : List ℕ) (cover : ℕ) → IsLattice b rows → (levels : List RowFacts) (start : ℕ) (level : RowFacts) → length levels ≤ start → Built b rows tops cover levels → LinksBelow rows start (length levels) → IsOpen b rows tops cover (to_go_at levels) start level →
    Opened b rows tops cover levels start level
is_opened b rows tops cover h levels start level low built links is = record {
  low = low;
  built = built;
  beneath = leads_below b rows h start (length levels) links;
  is = is;
}

pub is_closed : (level closed : RowFacts) (far : ℕ) → unpacked_all closed.bands.items ≡ unpacked_all level.bands.items → closed.to_go ≡ far → Falls closed.ends.items → Ended closed.ends.items 0 far → ((area to_go : ℕ) → Ended level.ends.items area to_go → Ended closed.ends.items area to_go) →
    ((k : ℕ) → IsLower (tails_in closed k) (tails_in level k)) → ((k j : ℕ) → tail_at (tails_in closed k) j ≤ far) → IsClosed level closed far
is_closed level closed far bands to_go falls own kept lower tails = record {
  bands = bands;
  to_go = to_go;
  falls = falls;
  lower = lower;
  tails = tails;
  own = own;
  kept = kept;
}

-- all is known of a row that is closed
pub is_known : (b : Problem) (rows : List FrontRow) (tops : List ℕ) (cover : ℕ) → IsLattice b rows → (levels : List RowFacts) (start : ℕ) (level closed : RowFacts) (far : ℕ) → Opened b rows tops cover levels start level → LeavesLeast b rows (to_go_at levels) start far → IsClosed level closed far →
    IsKnown b rows tops cover levels start closed
unfolding LeavesLeast
is_known b rows tops cover h levels start level closed far o least c = record {
  falls = c.falls;
  rises = subst Rises (sym c.bands) o.is.rises;
  bands = subst (BandsLead b rows start) (sym c.bands) o.is.bands;
  ends = λ to_go goes.
      ends_with b rows h cover to_go start level.ends.items closed.ends.items
      (behind_as b rows cover (to_go_at levels) to_go start (length levels) level.ends.items o.beneath (λ m lt. sym (goes.0 m lt)) o.is.behind) c.kept
      (subst (Ended closed.ends.items 0) (sym (goes.1 ∙ c.to_go)) c.own);
  to_go = λ to_go goes f at w bands strip m to.
      omega (arith, goes.1, c.to_go, least f at w bands strip m to, goes.0 m (strip_below b rows start (length levels) o.beneath f at w bands strip m to));
  tails = λ to_go goes k d lt.
      has_tails b rows (get_or tops k d) (unit_in b.params.height) to_go start (tails_in level k) (tails_in closed k) (λ m f at to. one_row b rows h start m f at to) (c.lower k) (λ j. omega (arith, c.tails k j, c.to_go, goes.1))
      (tails_behind_as b rows (get_or tops k d) (unit_in b.params.height) (to_go_at levels) to_go start (length levels) (tails_in level k) o.beneath (λ m less. sym (goes.0 m less)) (o.is.tails k d lt));
}

-- such a row is appended to those that are known, of which the first are those that it was made by
pub built_pushed : (b : Problem) (rows : List FrontRow) (tops : List ℕ) (cover : ℕ) → IsLattice b rows → (first levels other : List RowFacts) (level : RowFacts) → length first ≤ length levels → Built b rows tops cover levels →
    ((m : ℕ) → m < length first → to_go_at levels m ≡ to_go_at first m) → IsKnown b rows tops cover first (length levels) level → length other ≡ length levels + 1 → ((n : ℕ) → n < length levels → SameLevel levels other n) → IsLast other (length levels) level → Built b rows tops cover other
built_pushed b rows tops cover h first levels other level few built before is len same last =
    let goes : Continues first (length levels) level (to_go_at other) = (λ m lt. (same m (omega (arith, lt, few))).to_go ∙ before m lt, last.to_go) in
    let place : (n : ℕ) → n < length other → (n < length levels) ⊎ (length levels ≡ n) = λ n lt. elim (cases_lt n (length levels)) [ inl old ↦ inl old | inr new ↦ inr (omega (arith, lt, new, len)) ] in
    record {
      each = λ n lt.
          elim (place n lt) [
            | inl old ↦ level_as b rows levels other n (same n old) (built.each n old)
            | inr e ↦ subst (IsLevel b rows other) e (record {
              falls = subst Falls (sym last.ends) is.falls;
              rises = subst Rises (sym last.bands) is.rises;
              bands = subst (BandsLead b rows (length levels)) (sym last.bands) is.bands;
            })
          ];
      ends = λ n lt.
          elim (place n lt) [
            | inl old ↦
                subst (EndsFrom b rows cover (to_go_at other) n) (sym (same n old).ends)
                (ends_from_as b rows h cover (to_go_at levels) (to_go_at other) n (ends_at levels n) (λ m le. sym (same m (omega (arith, le, old))).to_go) (built.ends n old))
            | inr e ↦ subst (λ k. EndsFrom b rows cover (to_go_at other) k (ends_at other k)) e (subst (EndsFrom b rows cover (to_go_at other) (length levels)) (sym last.ends) (is.ends (to_go_at other) goes))
          ];
      to_go = λ n lt.
          elim (place n lt) [
            | inl old ↦ to_go_as b rows h (to_go_at levels) (to_go_at other) n (λ m le. sym (same m (omega (arith, le, old))).to_go) (built.to_go n old)
            | inr e ↦ subst (IsToGo b rows (to_go_at other)) e (is.to_go (to_go_at other) goes)
          ];
      tails = λ n lt.
          elim (place n lt) [
            | inl old ↦ class_as b rows h tops levels other n (λ m le. same m (omega (arith, le, old))) (built.tails n old)
            | inr e ↦ subst (ClassTails b rows tops other) e (λ k d within. subst (HasTails b rows (get_or tops k d) (unit_in b.params.height) (to_go_at other) (length levels)) (sym (last.tails k)) (is.tails (to_go_at other) goes k d within))
          ];
    }

pub built_none : (b : Problem) (rows : List FrontRow) (tops : List ℕ) (cover : ℕ) → Built b rows tops cover []
built_none b rows tops cover = record { each = λ n lt. absurd (omega (arith, lt)); ends = λ n lt. absurd (omega (arith, lt)); to_go = λ n lt. absurd (omega (arith, lt)); tails = λ n lt. absurd (omega (arith, lt)) }
