-- The first rule on the order of items that is broken.
use Rattle.std.proofs.Common.{◌≡◌, ◌<◌, List, [], length, take, refl, arith, Option, Some, None, All, MatchOption}
use Rattle.std.proofs.lemmas.List.Elements.{All-nil, All-cons, All-push}
use Rattle.glass_base.specs.Problem.{Problem}
use Rattle.cut_model.specs.declared.broken.Broken.{Broken}
use Rattle.cut_model.specs.declared.family.Row.{Row}
use Rattle.cut_model.proofs.Firsts.{first_at, first_not_all}
use Rattle.stack_order.specs.declared.cuts.ItemCut.{ItemCut}
use Rattle.stack_order.specs.declared.order_rule.OrderRule.TheVariants.{L9Unknown, L9Twice, L9Missing, L9EmptyPlate, L9Plates, L10}
use Rattle.stack_order.specs.Breaches.{numbers, KeepsOrderRule, order_rules, breach, NamesTwice, NamesMissing, NamesEmptyPlate, NamesLate, IsBreach}
use Rattle.stack_order.proofs.Counted.{twice_breaks}
use Rattle.stack_order.proofs.Ordered.{late_breaks}

-- no item is unknown
kept_1 : (b : Problem) (cuts : List ItemCut) (plates : List Row) → KeepsOrderRule b cuts plates L9Unknown → All (KeepsOrderRule b cuts plates) (take 1 order_rules)
kept_1 b cuts plates known = All-cons (KeepsOrderRule b cuts plates) L9Unknown [] known (All-nil (KeepsOrderRule b cuts plates))

-- no item is unknown or cut again
kept_2 : (b : Problem) (cuts : List ItemCut) (plates : List Row) → KeepsOrderRule b cuts plates L9Unknown → KeepsOrderRule b cuts plates L9Twice → All (KeepsOrderRule b cuts plates) (take 2 order_rules)
kept_2 b cuts plates known once = All-push (KeepsOrderRule b cuts plates) (take 1 order_rules) L9Twice (kept_1 b cuts plates known) once

-- the items are those of the batch
kept_3 : (b : Problem) (cuts : List ItemCut) (plates : List Row) → KeepsOrderRule b cuts plates L9Unknown → KeepsOrderRule b cuts plates L9Twice → KeepsOrderRule b cuts plates L9Missing → All (KeepsOrderRule b cuts plates) (take 3 order_rules)
kept_3 b cuts plates known once all = All-push (KeepsOrderRule b cuts plates) (take 2 order_rules) L9Missing (kept_2 b cuts plates known once) all

-- the items are those of the batch, and each plate has one
kept_4 : (b : Problem) (cuts : List ItemCut) (plates : List Row) → KeepsOrderRule b cuts plates L9Unknown → KeepsOrderRule b cuts plates L9Twice → KeepsOrderRule b cuts plates L9Missing → KeepsOrderRule b cuts plates L9EmptyPlate → All (KeepsOrderRule b cuts plates) (take 4 order_rules)
kept_4 b cuts plates known once all used = All-push (KeepsOrderRule b cuts plates) (take 3 order_rules) L9EmptyPlate (kept_3 b cuts plates known once all) used

-- all of L9 is kept
kept_5 : (b : Problem) (cuts : List ItemCut) (plates : List Row) → KeepsOrderRule b cuts plates L9Unknown → KeepsOrderRule b cuts plates L9Twice → KeepsOrderRule b cuts plates L9Missing → KeepsOrderRule b cuts plates L9EmptyPlate → KeepsOrderRule b cuts plates L9Plates → All (KeepsOrderRule b cuts plates) (take 5 order_rules)
kept_5 b cuts plates known once all used few = All-push (KeepsOrderRule b cuts plates) (take 4 order_rules) L9Plates (kept_4 b cuts plates known once all used) few

-- each of the rules is kept
pub all_kept : (b : Problem) (cuts : List ItemCut) (plates : List Row) → KeepsOrderRule b cuts plates L9Unknown → KeepsOrderRule b cuts plates L9Twice → KeepsOrderRule b cuts plates L9Missing → KeepsOrderRule b cuts plates L9EmptyPlate → KeepsOrderRule b cuts plates L9Plates → KeepsOrderRule b cuts plates L10 → All (KeepsOrderRule b cuts plates) order_rules
all_kept b cuts plates known once all used few stacks = All-push (KeepsOrderRule b cuts plates) (take 5 order_rules) L10 (kept_5 b cuts plates known once all used few) stacks

-- no item is unknown, and one is cut again
pub twice_breach : (b : Problem) (cuts : List ItemCut) (plates : List Row) (broken : Broken) → KeepsOrderRule b cuts plates L9Unknown → NamesTwice cuts broken → IsBreach b cuts plates broken
twice_breach b cuts plates broken known named = record {
  rule = L9Twice;
  first =
      first_at order_rules 1 L9Twice L10 (omega arith) refl (kept_1 b cuts plates known)
      (twice_breaks cuts named.place named.again named.first named.there named.first_is);
  named = named;
}

-- each item is known and cut once, and one is missing
pub missing_breach : (b : Problem) (cuts : List ItemCut) (plates : List Row) (broken : Broken) → KeepsOrderRule b cuts plates L9Unknown → KeepsOrderRule b cuts plates L9Twice → NamesMissing b.items cuts broken → IsBreach b cuts plates broken
missing_breach b cuts plates broken known once named = record {
  rule = L9Missing;
  first =
      first_at order_rules 2 L9Missing L10 (omega arith) refl (kept_2 b cuts plates known once)
      (first_not_all (numbers b.items) named.number named.first);
  named = named;
}

-- the items are those of the batch, and a plate has none
pub empty_breach : (b : Problem) (cuts : List ItemCut) (plates : List Row) (broken : Broken) → KeepsOrderRule b cuts plates L9Unknown → KeepsOrderRule b cuts plates L9Twice → KeepsOrderRule b cuts plates L9Missing → NamesEmptyPlate cuts plates broken → IsBreach b cuts plates broken
empty_breach b cuts plates broken known once all named = record {
  rule = L9EmptyPlate;
  first =
      first_at order_rules 3 L9EmptyPlate L10 (omega arith) refl (kept_3 b cuts plates known once all)
      (first_not_all plates named.plate named.first);
  named = named;
}

-- beside these, there are too many plates
pub plates_breach : (b : Problem) (cuts : List ItemCut) (plates : List Row) (broken : Broken) → KeepsOrderRule b cuts plates L9Unknown → KeepsOrderRule b cuts plates L9Twice → KeepsOrderRule b cuts plates L9Missing → KeepsOrderRule b cuts plates L9EmptyPlate → (b.params.plates < length plates) × (broken ≡ breach L9Plates 0 0 (length plates) b.params.plates) → IsBreach b cuts plates broken
plates_breach b cuts plates broken known once all used named = record {
  rule = L9Plates;
  first =
      first_at order_rules 4 L9Plates L10 (omega arith) refl (kept_4 b cuts plates known once all used)
      (λ few. omega (arith, few, named.0));
  named = named.1;
}

-- all of L9 is kept, and an item is cut too late
pub late_breach : (b : Problem) (cuts : List ItemCut) (plates : List Row) (broken : Broken) → KeepsOrderRule b cuts plates L9Unknown → KeepsOrderRule b cuts plates L9Twice → KeepsOrderRule b cuts plates L9Missing → KeepsOrderRule b cuts plates L9EmptyPlate → KeepsOrderRule b cuts plates L9Plates → NamesLate cuts broken → IsBreach b cuts plates broken
late_breach b cuts plates broken known once all used few named = record {
  rule = L10;
  first =
      first_at order_rules 5 L10 L10 (omega arith) refl (kept_5 b cuts plates known once all used few)
      (late_breaks cuts named.place named.cut named.late.item named.late.last named.there
      named.late.item_is named.late.last_is named.late.higher);
  named = named;
}

-- the last rule decides where the others are kept
pub last_breach : (b : Problem) (cuts : List ItemCut) (plates : List Row) (found : Option Broken) → KeepsOrderRule b cuts plates L9Unknown → KeepsOrderRule b cuts plates L9Twice → KeepsOrderRule b cuts plates L9Missing → KeepsOrderRule b cuts plates L9EmptyPlate → KeepsOrderRule b cuts plates L9Plates → MatchOption found (KeepsOrderRule b cuts plates L10) (NamesLate cuts) → MatchOption found (All (KeepsOrderRule b cuts plates) order_rules) (IsBreach b cuts plates)
last_breach b cuts plates None known once all used few stacks = all_kept b cuts plates known once all used few stacks
last_breach b cuts plates (Some broken) known once all used few named = late_breach b cuts plates broken known once all used few named
