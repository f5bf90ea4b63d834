use Rattle.std.proofs.Common.{rules, tests, ◌≡◌, ◌∙◌, ap, map}
use Rattle.std.specs.List.{list_all}
use Rattle.std.specs.String.{string_bytes}
use Rattle.std.proofs.lemmas.Iterator.{YieldsList-from_slice}
use Rattle.std.proofs.lemmas.Iterator.Search.{all_from_yields_List}
use Rattle.std.proofs.lemmas.List.Folds.{list_all-map}
use Rattle.command_line.specs.Lines.{line_in}
use Rattle.command_line.specs.Grammar.{is_named_once}
use Rattle.command_line.proofs.line.CommandLine.stores_apart.Goals as goal

pub returns : goal.returns
returns g c =
    let once : c.all.result ≡ list_all (is_named_once (line_in c.args.self.now)) (map string_bytes c.stored.result.now) =
    rw list_all-map (all_from_yields_List (λ name. is_named_once (line_in c.args.self.now) (string_bytes name)) _ _ _ c.all.ensures.ran (YieldsList-from_slice c.stored.result.now (cc)) (λ x b q k. search (rules, tests))) in
    once ∙ ap (λ names. list_all (is_named_once (line_in c.args.self.now)) names) c.stored.ensures
