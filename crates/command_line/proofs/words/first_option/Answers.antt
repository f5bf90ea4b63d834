use Rattle.std.proofs.Common.{rules, tests}
use Rattle.std.specs.String.{string_bytes}
use Rattle.std.proofs.lemmas.Iterator.{YieldsList-from_map_by, YieldsList-from_slice}
use Rattle.std.proofs.lemmas.Iterator.Search.{find_from_yields_List}
use Rattle.command_line.specs.Words.{is_option}
use Rattle.command_line.proofs.words.first_option.Goals as goal

pub returns : goal.returns
returns c =
    find_from_yields_List (is_option c.args.option) _ _ _ c.find.ensures.ran
    (YieldsList-from_map_by _ (λ w. w.now) string_bytes (YieldsList-from_slice c.args.words.now (cc)) c.map.ensures.closure (λ x r q k. search (rules, tests)))
    (λ x b q k. search (rules, tests))
