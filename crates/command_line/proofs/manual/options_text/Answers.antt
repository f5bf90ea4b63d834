use Rattle.std.proofs.Common.{rules, ◌≡◌, ◌++◌, ◌∙◌, ap}
use Rattle.std.specs.List.{flat_map}
use Rattle.std.specs.String.{string_bytes}
use Rattle.command_line.specs.Manual.{option_entry, options_of, options_text}
use Rattle.command_line.proofs.manual.options_text.Goals as goal

pub returns : goal.returns
unfolding options_text
returns c =
    let options = c.options_of-options.result.now in
    let begun = string_bytes c.in_ok-text.text in
    let pushed : string_bytes c.push_each.new.text ≡ begun ++ flat_map option_entry options = c.in_ok-push_each.ensures option_entry (λ x r told. search rules) in
    pushed ∙ ap (λ of. begun ++ flat_map option_entry of) c.options_of-options.ensures ∙ ap (λ front. front ++ flat_map option_entry (options_of c.args.program)) c.in_ok-text.ensures.ok
