use Rattle.std.proofs.Common.{◌≤◌, ◌++◌, ℕ, List, [], ap, refl, ◌∙◌, map, length, arith, Bor, Option, unwrap_or, rules}
use Rattle.std.proofs.lemmas.List.{length-map}
use Rattle.csv_table.specs.Lines.{text_in}
use Rattle.csv_table.proofs.Plain.{line-plain}
use Rattle.csv_table.proofs.lines.Lines.write_line.Goals as goal

pub returns-in-Ok-clause-ok : goal.returns-in-Ok-clause-ok
returns-in-Ok-clause-ok c =
    let fields : List (List ℕ) = map (λ (f : Bor (List ℕ)). f.now) c.args.fields.now in
    let some : 2 ≤ length fields = omega (arith, c.requires.some, length-map c.args.fields.now (λ (f : Bor (List ℕ)). f.now)) in
    let before : List ℕ = unwrap_or (text_in c.self.inside.writer) [] in
    let wrote = ap (λ (text : Option (List ℕ)). unwrap_or text []) (c.in-Ok.ensures.wrote before refl) in
    rw (← c.self.view_is) (wrote ∙ ap (λ (line : List ℕ). before ++ line) (line-plain fields some c.requires.plain))

pub invariant_of-self-in-Err : goal.invariant_of-self-in-Err
invariant_of-self-in-Err c = search rules

pub returns-in-Err-clause-err : goal.returns-in-Err-clause-err
returns-in-Err-clause-err c = search rules
