use Rattle.std.proofs.Common.{rules, ◌≡◌, ◌++◌}
use Rattle.std.specs.List.{flat_map}
use Rattle.std.specs.String.{string_bytes}
use Rattle.command_line.specs.Manual.{verb_entry}
use Rattle.command_line.specs.Rows.{verbs}
use Rattle.command_line.proofs.manual.push_entries.Goals as goal

pub returns-in_ok-push_each-in-Glass : goal.returns-in_ok-push_each-in-Glass
returns-in_ok-push_each-in-Glass c =
    let pushed : string_bytes c.push_each.new.text ≡ string_bytes c.args.text.now ++ flat_map verb_entry verbs = c.in_ok-push_each-in-Glass.ensures verb_entry (λ x r told. search rules) in
    rw c.in-Glass.is pushed
