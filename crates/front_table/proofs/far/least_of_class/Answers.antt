use Rattle.std.proofs.Math.Logic.{∥∥₁_elim}
use Rattle.std.specs.Coded.{le_prop}
use Rattle.front_table.specs.Levels.{to_go_at}
use Rattle.front_table.specs.Packed.{unpacked_all}
use Rattle.front_table.proofs.Known.{opened_known}
use Rattle.front_table.proofs.Leasts.{opened_ready}
use Rattle.front_table.proofs.StripRuns.{strips_held, strip_below}
use Rattle.front_table.proofs.far.least_of_class.Goals as goal

pub returns-clause-least : goal.returns-clause-least
returns-clause-least c = λ f at w bands is wide narrow m to near.
    let behind = c.args.behind.now in
    let fronts = behind.fronts in
    let b = fronts.instance.now in
    let rows = fronts.rows.now in
    let levels = fronts.levels.now in
    let start = behind.start in
    let facts = behind.facts.now in
    let opened = opened_known b rows fronts.tops.now fronts.cover levels start facts behind.opened in
    ∥∥₁_elim fronts.lattice le_prop (λ lattice.
    c.least_end.ensures m w (strip_below b rows start _ opened.beneath f at w bands is m to)
    (strips_held b rows lattice levels c.args.limits.now fronts.cover c.requires.fitting (to_go_at levels) start _ (unpacked_all facts.bands.items) facts.ends.items (opened_ready b rows fronts.tops.now fronts.cover levels start facts opened) c.requires.tails
    c.strips_behind.new.pool c.in_ok-strips_behind.ensures.own c.in_ok-strips_behind.ensures.extended c.args.low c.in_ok-strips_behind.ensures.begun f at w bands is wide narrow m to near))
