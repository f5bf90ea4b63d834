-- The items on the first plates, one more piece at a time.
use Rattle.std.proofs.Common.{◌≡◌, ℕ, ◌<◌, List, [], ◌∷◌, ◌++◌, filter, map, Bool, true, nat_lt, refl, sym, ap, ◌∙◌, arith, append_assoc}
use Rattle.std.specs.Prelude.{ℤ}
use Rattle.std.specs.List.{cons_option}
use Rattle.std.proofs.lemmas.Bool.Decides.{nat_tests}
use Rattle.std.proofs.lemmas.List.{map-append}
use Rattle.std.proofs.lemmas.List.Elements.{filter-append, filter_map-append}
use Rattle.cut_model.specs.declared.family.Family.{Family}
use Rattle.cut_model.specs.declared.family.Row.{Row}
use Rattle.cut_model.specs.declared.family.Sort.{Sort}
use Rattle.cut_model.specs.Order.{cut_order, item_named}
use Rattle.cut_model.specs.Tree.{type_number}
use Rattle.plan_freeze.specs.Rests.{numbers_before}

-- the numbers of a piece's row
abbrev pub own_numbers : ℕ → Family → List ℕ
own_numbers k f = numbers_before k (f.row ∷ [])

pub own_item : (k plates number : ℕ) (f : Family) → plates ≡ k → f.row.plate < plates → f.row.kind ≡ type_number f.sort → f.sort ≡ Sort.Item number → own_numbers k f ≡ number ∷ []
own_item k plates number f same lt named is =
    let test : nat_lt f.row.plate k ≡ true = grind (arith, nat_tests) in
    let kind : f.row.kind ≡ type_number (Sort.Item number) = named ∙ ap type_number is in
    rw test (ap (λ (t : ℤ). cons_option (item_named t) []) kind)

no_numbers : (kind : ℤ) (sort : Sort) → kind ≡ type_number sort → ((number : ℕ) → sort ≡ Sort.Item number → ⊥) → cons_option (item_named kind) [] ≡ []
no_numbers kind (Sort.Item number) named isnt = absurd (isnt number refl)
no_numbers kind Sort.Waste named isnt = ap (λ (t : ℤ). cons_option (item_named t) []) named
no_numbers kind Sort.Branch named isnt = ap (λ (t : ℤ). cons_option (item_named t) []) named
no_numbers kind Sort.Residual named isnt = ap (λ (t : ℤ). cons_option (item_named t) []) named

pub own_none : (k plates : ℕ) (f : Family) → plates ≡ k → f.row.plate < plates → f.row.kind ≡ type_number f.sort → ((number : ℕ) → f.sort ≡ Sort.Item number → ⊥) → own_numbers k f ≡ []
own_none k plates f same lt named isnt =
    let test : nat_lt f.row.plate k ≡ true = grind (arith, nat_tests) in
    rw test (no_numbers f.row.kind f.sort named isnt)

-- with the numbers of one more piece
pub gathered_more : (k : ℕ) (before old new more : List ℕ) (seen : List Family) (f : Family) → own_numbers k f ≡ more → new ≡ old ++ more →
    old ≡ before ++ numbers_before k (map (λ g. g.row) seen) → new ≡ before ++ numbers_before k (map (λ g. g.row) (seen ++ f ∷ []))
gathered_more k before old new more seen f own pushed so =
    let test : Row → Bool = λ (r : Row). nat_lt r.plate k in
    let mine : List Row = map (λ (g : Family). g.row) seen in
    let all : numbers_before k (map (λ (g : Family). g.row) (seen ++ f ∷ [])) ≡ numbers_before k mine ++ own_numbers k f =
    ap (numbers_before k) (map-append (λ (g : Family). g.row) seen (f ∷ []))
    ∙ ap cut_order (filter-append test mine (f.row ∷ []))
    ∙ filter_map-append (λ (r : Row). item_named r.kind) (filter test mine) (filter test (f.row ∷ [])) in
    pushed ∙ ap (λ (l : List ℕ). l ++ more) so ∙ append_assoc before (numbers_before k mine) more
    ∙ ap (λ (l : List ℕ). before ++ (numbers_before k mine ++ l)) (sym own) ∙ ap (λ (l : List ℕ). before ++ l) (sym all)
