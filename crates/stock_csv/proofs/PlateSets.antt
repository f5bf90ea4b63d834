-- Widths of plates that rows set, one after another.
use Rattle.std.proofs.Common.{ℕ, List, ◌∙◌}
use Rattle.std.proofs.Math.ListN.{length-set}
use Rattle.std.proofs.lemmas.List.Elements.{All-set}
use Rattle.glass_base.specs.Widths.{AreWidths, IsWidth}
use Rattle.glass_base.specs.declared.params.Params.{Params}
use Rattle.stock_csv.specs.PlateRows.{with_width}
use Rattle.stock_csv.specs.declared.plates.PlateWidth.{PlateWidth}

-- with the width of one plate set they are widths of all plates as before
pub are_widths-set : (params : Params) (widths : List ℕ) (p : PlateWidth) → AreWidths params widths → IsWidth p.width → AreWidths params (with_width widths p)
are_widths-set params widths p h wide = record {
  many = length-set widths p.plate p.width ∙ h.many;
  each = All-set IsWidth widths p.plate p.width wide h.each;
}
