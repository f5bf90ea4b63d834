use Rattle.std.proofs.Common.{rules, tests, sym, ◌∙◌}
use Rattle.std.specs.String.{string_bytes}
use Rattle.std.proofs.lemmas.Iterator.{YieldsList-from_slice}
use Rattle.std.proofs.lemmas.Iterator.Search.{any_from_yields_List}
use Rattle.command_line.specs.Words.{is_option}
use Rattle.command_line.proofs.Flags.{list_any_map}
use Rattle.command_line.proofs.words.has_option.Goals as goal

pub returns : goal.returns
returns c =
    any_from_yields_List (λ word. is_option c.args.option (string_bytes word)) _ _ _ c.any.ensures.ran (YieldsList-from_slice c.args.words.now (cc)) (λ x b q k. search (rules, tests))
    ∙ sym (list_any_map (is_option c.args.option) string_bytes c.args.words.now)
