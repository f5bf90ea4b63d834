use Rattle.std.proofs.Common.{get_or, ap, arith}
use Rattle.glass_base.specs.declared.params.Params.{Params}
use Rattle.front_table.specs.Levels.{to_go_at}
use Rattle.front_table.proofs.Known.{opened_known}
use Rattle.front_table.proofs.Leasts.{opened_searchable, built_tails, fits, least_wider}
use Rattle.front_table.proofs.far.least_in_class.Goals as goal

pub least_of_class-requires-clause-searchable : goal.least_of_class-requires-clause-searchable
least_of_class-requires-clause-searchable c =
    let behind = c.args.behind.now in
    let fronts = behind.fronts in
    opened_searchable fronts.instance.now fronts.rows.now fronts.tops.now fronts.cover fronts.levels.now behind.start behind.facts.now (opened_known fronts.instance.now fronts.rows.now fronts.tops.now fronts.cover fronts.levels.now behind.start behind.facts.now behind.opened) _
    (omega (arith, c.min.ensures))

pub least_of_class-requires-clause-fitting : goal.least_of_class-requires-clause-fitting
least_of_class-requires-clause-fitting c =
    fits c.args.behind.now.fronts.instance.now _ c.args.behind.now.fronts.cover (ap (λ (p : Params). p.height) c.params-params.ensures.value) (omega (arith, c.min.ensures, ap (λ (p : Params). p.max1) c.params-params.ensures.value)) c.args.behind.now.fronts.covered

pub least_of_class-requires-clause-tails : goal.least_of_class-requires-clause-tails
least_of_class-requires-clause-tails c =
    let behind = c.args.behind.now in
    let fronts = behind.fronts in
    built_tails fronts.instance.now fronts.rows.now fronts.tops.now fronts.cover fronts.levels.now
    (opened_known fronts.instance.now fronts.rows.now fronts.tops.now fronts.cover fronts.levels.now behind.start behind.facts.now behind.opened).built _ (omega arith) c.args.class c.min.result c.requires.class (omega (arith, c.min.ensures))

pub returns-clause-least : goal.returns-clause-least
returns-clause-least c =
    let fronts = c.args.behind.now.fronts in
    least_wider c.args.behind.now.fronts.instance.now fronts.rows.now (to_go_at fronts.levels.now) c.args.behind.now.start c.args.low c.min.result (get_or fronts.tops.now c.args.class 0) c.args.most c.in_ok-least.least
    (λ w top most. omega (arith, top, most, c.min.ensures, ap (λ (p : Params). p.max1) c.params-params.ensures.value)) c.in_ok-least.ensures.least
