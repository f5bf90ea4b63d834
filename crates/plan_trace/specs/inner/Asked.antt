-- What a test of one rule may take for granted.
use Rattle.std.specs.Prelude.{◌-◌, List, take}
use Rattle.plan_trace.specs.declared.trace_rule.TraceRule.{TraceRule}
use Rattle.plan_trace.specs.TraceRules.{rule_number, trace_rules}

-- the rules that are asked before this one
abbrev pub rules_before : TraceRule → List TraceRule
rules_before rule = take (rule_number rule - 1) trace_rules

-- a rule on defects
abbrev pub IsOnDefects : TraceRule → Type 0
IsOnDefects TraceRule.TR8 = Unit {0}
IsOnDefects TraceRule.TR9 = Unit {0}
IsOnDefects _ = ⊥
