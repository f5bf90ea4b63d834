use Rattle.std.proofs.Common.{rules, tests}
use Rattle.std.specs.String.{string_bytes}
use Rattle.std.proofs.lemmas.Iterator.{YieldsList-from_slice}
use Rattle.std.proofs.lemmas.Iterator.Search.{all_from_yields_List}
use Rattle.std.proofs.lemmas.List.Folds.{list_all-map}
use Rattle.command_line.specs.Words.{is_name}
use Rattle.command_line.proofs.words.are_names.Goals as goal

pub returns : goal.returns
returns c =
    rw list_all-map (all_from_yields_List (λ word. is_name (string_bytes word)) _ _ _ c.all.ensures.ran (YieldsList-from_slice c.args.words.now (cc)) (λ x b q k. search (rules, tests)))
