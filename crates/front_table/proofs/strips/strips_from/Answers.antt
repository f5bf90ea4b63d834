use Rattle.std.proofs.Common.{◌≡◌, inl, inr, sym, subst, arith}
use Rattle.std.proofs.lemmas.Bool.{cases_lt}
use Rattle.front_table.specs.Levels.{ends_at}
use Rattle.front_table.specs.Packed.{unpacked_all}
use Rattle.front_table.specs.Tries.{ExtendedBy, RowExtended, Searchable}
use Rattle.front_table.proofs.strips.strips_from.Goals as goal

pub strips_by-requires-clause-searchable : goal.strips_by-requires-clause-searchable
strips_by-requires-clause-searchable c =
    let search = c.args.search.now in
    let levels = search.fronts.levels.now in
    subst (λ l. Searchable levels search.limits search.start search.start l c.ends_of.result.now) (sym c.bands_of.ensures)
    (subst (Searchable levels search.limits search.start search.start _) (sym c.ends_of.ensures) c.requires.searchable)

pub returns-clause-extended : goal.returns-clause-extended
returns-clause-extended c = λ n le.
    let search = c.args.search.now in
    let rows = search.fronts.rows.now in
    let levels = search.fronts.levels.now in
    let start = search.start in
    elim (cases_lt n start) [
      | inl below ↦ c.in_ok-strips_by.ensures.extended n below
      | inr last ↦
          let same : start ≡ n = omega (arith, le, last) in
          subst (RowExtended rows levels search.limits c.strips_by.new.pool) same
          (subst (λ l. ExtendedBy rows levels search.limits c.strips_by.new.pool start start l (ends_at levels start)) c.bands_of.ensures
          (subst (ExtendedBy rows levels search.limits c.strips_by.new.pool start start (unpacked_all c.bands_of.result.now)) c.ends_of.ensures c.in_ok-strips_by.ensures.own))
    ]
