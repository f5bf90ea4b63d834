use Rattle.std.proofs.Common.{inr, arith}
use Rattle.std.proofs.Math.Logic.{∥∥₁_map}
use Rattle.front_table.proofs.FrontRows.{lead_down}
use Rattle.front_table.proofs.CellRuns.{bands_lead_by}
use Rattle.front_table.proofs.Known.{bands_lead_known, down_known}
use Rattle.front_table.proofs.PoolRows.{kept_at}
use Rattle.front_table.proofs.bands.bands_from.Goals as goal

pub spread-requires-clause-down : goal.spread-requires-clause-down
spread-requires-clause-down c = down_known c.args.fronts.now.rows.now (∥∥₁_map c.args.fronts.now.lattice (lead_down c.args.fronts.now.instance.now c.args.fronts.now.rows.now))

pub returns-clause-bands : goal.returns-clause-bands
returns-clause-bands c =
    bands_lead_known c.args.fronts.now.instance.now c.args.fronts.now.rows.now c.args.start _ (∥∥₁_map c.args.fronts.now.lattice (λ lattice.
    bands_lead_by c.args.fronts.now.instance.now c.args.fronts.now.rows.now lattice c.params-params.result.now c.params-params.ensures.value c.spread.new.pool c.args.start c.in_ok-spread.ensures.goes_on
    (λ x y gap tall. kept_at _ _ _ c.in_ok-spread.ensures.spreads c.args.start x y (c.in_ok-offer.ensures.held x y (gap, inr (omega (arith, tall))))) _ (λ n x y lt held. c.in_ok-sort_by_width.ensures.kept n y x (c.in_ok-bands.ensures n x y lt held))))
