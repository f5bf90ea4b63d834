-- The text of a role is that of the first text of the program that has this role.
use Rattle.std.proofs.Common.{◌≡◌, List, [], ◌∷◌, refl, find, option_map, arith}
use Rattle.glass_base.specs.Roles.{is_role}
use Rattle.glass_base.specs.declared.role.Role.{Role}
use Rattle.run_frame.specs.Forms.{texts_in}
use Rattle.run_frame.specs.Texts.{text_for}
use Rattle.run_frame.specs.declared.texts.Text.{Text}

pub text_for_found : (texts : List Text) (of : Role) → text_for (texts_in texts) of ≡ option_map (λ t. t.bytes.items) (find (λ t. is_role of t.role) texts)
text_for_found [] of = refl
text_for_found (text ∷ texts) of = grind (arith, text_for_found texts of)
