use Rattle.std.proofs.Common.{◌≡◌, ◌++◌, ◌∙◌, ℕ, List, ap, append_assoc, sym}
use Rattle.command_line.proofs.manual.help_text.Goals as goal

with_parts : (text a b x y rest : List ℕ) → text ≡ a ++ (b ++ rest) → a ≡ x → b ≡ y → text ≡ x ++ y ++ rest
with_parts text a b x y rest is e f = is ∙ ap (λ t. t ++ (b ++ rest)) e ∙ ap (λ t. x ++ (t ++ rest)) f ∙ sym (append_assoc x y rest)

pub returns : goal.returns
returns c = with_parts _ _ _ _ _ _ c.in_ok-format.ensures.ok c.in_ok-commands.ensures c.in_ok-options.ensures
