-- How a breach of a rule is told in words.
use Rattle.std.specs.Prelude.{◌++◌, ℕ, List, codes}
use Rattle.std.specs.Fmt.{decimal}
use Rattle.cut_model.specs.declared.broken.Broken.{Broken}
use Rattle.cut_model.specs.declared.broken.Rule.{Rule}

-- the word by which a rule is named
abbrev pub rule_word : Rule → List ℕ
rule_word Rule.L1 = codes "L1"
rule_word Rule.L2 = codes "L2"
rule_word Rule.L3 = codes "L3"
rule_word Rule.L4 = codes "L4"
rule_word Rule.L5 = codes "L5"
rule_word Rule.L6 = codes "L6"
rule_word Rule.L7 = codes "L7"
rule_word Rule.L8 = codes "L8"
rule_word Rule.L9Unknown = codes "L9unknown"
rule_word Rule.L9Twice = codes "L9twice"
rule_word Rule.L9Missing = codes "L9missing"
rule_word Rule.L9EmptyPlate = codes "L9emptyplate"
rule_word Rule.L9Plates = codes "L9plates"
rule_word Rule.L10 = codes "L10"

-- a breach: its rule, its place and its two numbers
abbrev pub breach_text : Broken → List ℕ
breach_text b =
    codes "unlawful " ++ rule_word b.rule ++ codes " plate " ++ decimal b.plate ++ codes " node " ++ decimal b.node ++ codes " "
    ++ decimal b.left ++ codes " " ++ decimal b.right
