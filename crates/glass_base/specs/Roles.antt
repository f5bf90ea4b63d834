-- The roles of files, told apart by a number.
use Rattle.std.specs.Prelude.{ℕ, Bool, ◌==◌}
use Rattle.glass_base.specs.declared.role.Role.{Role}
use Rattle.glass_base.specs.declared.role.Role.TheVariants.{Batch, Defects, Params, Plan, Cert, Plates, Sheet}

-- the place of a role in the order of the roles
abbrev pub place_of : Role → ℕ
place_of Batch = 0
place_of Defects = 1
place_of Params = 2
place_of Plan = 3
place_of Cert = 4
place_of Plates = 5
place_of Sheet = 6

-- whether two roles are one
abbrev pub is_role : Role → Role → Bool
is_role role other = place_of role == place_of other
