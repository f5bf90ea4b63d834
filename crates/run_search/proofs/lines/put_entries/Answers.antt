use Rattle.std.proofs.Common.{rules, ◌≡◌, ◌++◌, List, ℕ, codes, decimal, map, take, append_assoc, sym, ap, ◌∙◌}
use Rattle.std.specs.String.{string_bytes}
use Rattle.best_board.specs.declared.entry.Entry.{Entry}
use Rattle.run_search.specs.Plans.{entry_lines}
use Rattle.run_search.proofs.Told.{next_line}
use Rattle.run_search.proofs.lines.put_entries.Goals as goal

pub loop-entry-preserved : goal.loop-entry-preserved
loop-entry-preserved c =
    let e = c.entry-item.result in let es = c.args.improvements.now in let i = c.loop-entry.entry-index in
    let line : List ℕ = codes "entry " ++ decimal e.loss ++ codes "\n" in
    let before : List ℕ = entry_lines (map (λ (d : Entry). d.loss) (take i es)) in
    let pushed : string_bytes c.push_str.new.self ≡ string_bytes c.loop-entry.lines ++ line = search rules in
    pushed ∙ ap (λ (text : List ℕ). text ++ line) c.loop-entry.invariant ∙ append_assoc (string_bytes c.args.lines.now) before line
    ∙ ap (λ (text : List ℕ). string_bytes c.args.lines.now ++ text) (sym (next_line es i e c.loop-entry-test.true c.entry-item.is))
