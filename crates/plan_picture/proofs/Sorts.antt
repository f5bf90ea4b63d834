-- The sort that the type of a row names.
use Rattle.std.proofs.Common.{◌≡◌, ℤ, refl, sym, ap, ◌∙◌}
use Rattle.cut_model.specs.declared.family.Sort.{Sort}
use Rattle.cut_model.specs.Tree.{sort_named, type_number}

named_again : (sort : Sort) → sort ≡ sort_named (type_number sort)
named_again (Sort.Item number) = refl
named_again Sort.Waste = refl
named_again Sort.Branch = refl
named_again Sort.Residual = refl

pub sort_again : (sort : Sort) (kind : ℤ) → kind ≡ type_number sort → sort ≡ sort_named kind
sort_again sort kind is = named_again sort ∙ ap sort_named (sym is)
