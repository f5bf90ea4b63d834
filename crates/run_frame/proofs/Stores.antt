-- Files that are stored one after another.
use Rattle.std.proofs.Common.{◌≡◌, ◌≢◌, ℕ, ◌<◌, ◌≤◌, ◌+◌, List, [], ◌∷◌, ◌++◌, length, take, map, get_or, Bool, true, false, cond, refl, sym, ap, subst, ◌∙◌, inl, inr, Option, Some, None, arith}
use Rattle.std.specs.Prelude.{slice_get, min, ◌^◌, ◌-◌, Result, Ok, Err}
use Rattle.std.specs.Str.{bytes_eq}
use Rattle.std.proofs.Math.ListN.{get_or-map}
use Rattle.std.proofs.Math.Seq.{take-length}
use Rattle.std.proofs.lemmas.List.{take_more, length-map}
use Rattle.std.proofs.lemmas.List.Sums.{fold-append}
use Rattle.std.proofs.lemmas.Option.{slice_get-get_or}
use Rattle.std.proofs.lemmas.Slice.Eq.{bytes_eq-Decides}
use Rattle.glass_io.specs.Told.{Contents, CountsStore, Holds, SameContents, SameFaults, Shelf, Stored, StoredPrefix, WriteFailed}
use Rattle.glass_io.specs.declared.files.Trouble.{Trouble}
use Rattle.glass_io.specs.declared.files.Trouble.TheVariants.{Failed, Memory}
use Rattle.run_frame.specs.Answers.{Store}
use Rattle.run_frame.specs.Runs.{CutShort, Stands, StandsInPart, with_store, with_stores}

-- nothing is stored
pub stands_none : (a : Option Contents) → Stands [] a a
stands_none None = tt
stands_none (Some a) = λ name. refl

-- what a name holds once a file is stored
held : (s : Store) (a b c : Contents) (name : List ℕ) (same : Bool) → same ≡ bytes_eq s.name name → Holds s.name s.bytes b c → b name ≡ a name →
    c name ≡ cond same (Some s.bytes) (a name)
held s a b c name true is h e =
    let this : s.name ≡ name = (bytes_eq-Decides s.name name).0 (sym is) in
    subst (λ (n : List ℕ). c n ≡ Some s.bytes) this h.stored
held s a b c name false is h e =
    let other : name ≢ s.name = λ same. let wrong = (bytes_eq-Decides s.name name).1 (sym same) in cc in
    h.others name other ∙ e

-- one more file is stored
pub stands_more : (stores : List Store) (s : Store) (a b c : Option Contents) → Stands stores a b → Stored s.name s.bytes b c → Stands (stores ++ s ∷ []) a c
stands_more stores s None None None h k = tt
stands_more stores s None None (Some c) h k = absurd k
stands_more stores s None (Some b) c h k = absurd h
stands_more stores s (Some a) None c h k = absurd h
stands_more stores s (Some a) (Some b) None h k = absurd k
stands_more stores s (Some a) (Some b) (Some c) h k = λ name.
    held s (with_stores a stores) b c name (bytes_eq s.name name) refl k (h name)
    ∙ sym (ap (λ (f : Contents). f name) (fold-append with_store a stores (s ∷ [])))

-- of the file at this place a front was stored
pub cut_at : (stores : List Store) (i : ℕ) (s : Store) (a b c : Option Contents) → slice_get stores i ≡ Some s → Stands (take i stores) a b → StoredPrefix s.name s.bytes b c → CutShort stores a c
cut_at stores i s None None None is h k = tt
cut_at stores i s None None (Some c) is h k = absurd k
cut_at stores i s None (Some b) c is h k = absurd h
cut_at stores i s (Some a) None c is h k = absurd h
cut_at stores i s (Some a) (Some b) None is h k = absurd k
cut_at stores i s (Some a) (Some b) (Some c) is h k = record {
  whole = i;
  next = s;
  there = is;
  front = record {
    stored = elim k.stored [ inl e ↦ inl (e ∙ h s.name) | inr front ↦ inr front ];
    others = λ other ne. k.others other ne ∙ h other;
  };
}

-- the files before this place were stored, and nothing changed since
pub part_at : (stores : List Store) (i : ℕ) (a b c : Option Contents) → i ≤ length stores → Stands (take i stores) a b → SameContents b c → StandsInPart stores a c
part_at stores i None None c le h e = subst (λ (o : Option Contents). StandsInPart stores None o) (sym e) tt
part_at stores i None (Some b) c le h e = absurd h
part_at stores i (Some a) None c le h e = absurd h
part_at stores i (Some a) (Some b) c le h e = subst (λ (o : Option Contents). StandsInPart stores (Some a) o) (sym e) (i, le, h)

-- all were stored
pub all_in_part : (stores : List Store) (a b : Option Contents) → Stands stores a b → StandsInPart stores a b
all_in_part stores None None h = tt
all_in_part stores None (Some b) h = absurd h
all_in_part stores (Some a) None h = absurd h
all_in_part stores (Some a) (Some b) h = (length stores, omega arith, rw (take-length stores) h)

-- no fault was counted, twice
pub same_faults_then : (a b c : Shelf) → SameFaults a b → SameFaults b c → SameFaults a c
same_faults_then a b c h k = record { reads = λ of. k.reads of ∙ h.reads of; writes = k.writes ∙ h.writes }

pub failed_then : (a b c : Shelf) → SameFaults a b → WriteFailed b c → WriteFailed a c
failed_then a b c h k = record { reads = λ of. k.reads of ∙ h.reads of; counted = k.counted ∙ ap (λ n. min (n + 1) (2 ^ 64 - 1)) h.writes }

-- where no fault was counted before, a store counts as it does by itself
pub counts_store_then : {T : Type 0} (a b c : Shelf) (result : Result T Trouble) → SameFaults a b → CountsStore b c result → CountsStore a c result
counts_store_then a b c (Ok _) h k = same_faults_then a b c h k
counts_store_then a b c (Err Memory) h k = same_faults_then a b c h k
counts_store_then a b c (Err Failed) h k = failed_then a b c h k

-- up to the last place of a list, all were stored
pub stands_all : (stores : List Store) (i : ℕ) (a b : Option Contents) → i ≤ length stores → length stores ≤ i → Stands (take i stores) a b → Stands stores a b
stands_all stores i a b le ge h =
    let all : i ≡ length stores = omega arith in
    let P : List Store → Type 0 = λ xs. Stands xs a b in
    subst P (ap (λ n. take n stores) all ∙ take-length stores) h

-- the next file of a list of outputs
pub take_output : {A : Type 0} (f : A → Store) (xs : List A) (i : ℕ) (x : A) → i < length xs → x ≡ get_or xs i x → take (i + 1) (map f xs) ≡ take i (map f xs) ++ f x ∷ []
take_output f xs i x lt is =
    take_more (map f xs) i (f x) (omega (arith, lt, length-map xs f)) ∙ ap (λ (s : Store). take i (map f xs) ++ s ∷ []) (get_or-map f xs i x ∙ ap f (sym is))

pub get_output : {A : Type 0} (f : A → Store) (xs : List A) (i : ℕ) (x : A) → i < length xs → x ≡ get_or xs i x → slice_get (map f xs) i ≡ Some (f x)
get_output f xs i x lt is = slice_get-get_or (map f xs) i (f x) (omega (arith, lt, length-map xs f)) ∙ ap Some (get_or-map f xs i x ∙ ap f (sym is))

-- where nothing is stored all names hold what they held
pub unchanged : (a b : Option Contents) → Stands [] a b → SameContents a b
unchanged None None h = refl
unchanged None (Some b) h = absurd h
unchanged (Some a) None h = absurd h
unchanged (Some a) (Some b) h =
    let same : b ≡ a = λ i. λ name. h name i in
    ap Some same

held_whole : (s : Store) (a : Contents) (same : Bool) → same ≡ bytes_eq s.name s.name → cond same (Some s.bytes) (a s.name) ≡ Some s.bytes
held_whole s a true is = refl
held_whole s a false is = let wrong = (bytes_eq-Decides s.name s.name).1 refl in cc (is, wrong)

held_other : (s : Store) (a : Contents) (other : List ℕ) (same : Bool) → same ≡ bytes_eq s.name other → other ≢ s.name → cond same (Some s.bytes) (a other) ≡ a other
held_other s a other true is ne = absurd (ne (sym ((bytes_eq-Decides s.name other).0 (sym is))))
held_other s a other false is ne = refl

-- where one file is stored its name holds it, and no other name changes
pub one_stored : (s : Store) (a b : Option Contents) → Stands (s ∷ []) a b → Stored s.name s.bytes a b
one_stored s None None h = tt
one_stored s None (Some b) h = absurd h
one_stored s (Some a) None h = absurd h
one_stored s (Some a) (Some b) h = record {
  stored = h s.name ∙ held_whole s a (bytes_eq s.name s.name) refl;
  others = λ other ne. h other ∙ held_other s a other (bytes_eq s.name other) refl ne;
}
