-- Bands that are packed.
use Rattle.std.proofs.Common.{◌≡◌, ℕ, ◌+◌, ◌<◌, List, [], ◌∷◌, ◌++◌, length, suc, take, get_or, sym, ap, ◌∙◌, arith}
use Rattle.std.proofs.Math.Seq.{take-suc}
use Rattle.std.proofs.lemmas.List.{get_or-map, length-map, map-append}
use Rattle.front_table.specs.declared.moves.Move.{Move}
use Rattle.front_table.specs.declared.packed.PackedBand.{PackedBand}
use Rattle.front_table.specs.Packed.{unpacked, unpacked_all}
use Rattle.front_table.specs.Widths.{wide_in}
use Rattle.front_table.proofs.WidthLists.{wide_is}

-- one band more
pub packed_next : (bands : List Move) (packed other : List PackedBand) (p : PackedBand) (d : Move) (at : ℕ) → at < length bands → unpacked p ≡ get_or bands at d → other ≡ packed ++ p ∷ [] → unpacked_all packed ≡ take at bands → unpacked_all other ≡ take (at + 1) bands
packed_next bands packed other p d at lt is push before =
    let same : suc at ≡ at + 1 = omega arith in
    ap unpacked_all push ∙ map-append unpacked packed (p ∷ []) ∙ ap (λ l. l ++ unpacked p ∷ []) before ∙ ap (λ (n : Move). take at bands ++ n ∷ []) is ∙ sym (take-suc bands at d lt) ∙ ap (λ n. take n bands) same

pub unpacked_length : (bands : List PackedBand) → length (unpacked_all bands) ≡ length bands
unpacked_length bands = length-map bands unpacked

pub width_is : (bands : List PackedBand) (at : ℕ) (d : PackedBand) → at < length bands → (get_or bands at d).across.least ≡ wide_in (unpacked_all bands) at
width_is bands at d lt = ap (λ (m : Move). m.label.across.least) (sym (get_or-map unpacked bands at d (unpacked d) lt)) ∙ wide_is (unpacked_all bands) at (unpacked d) (omega (arith, lt, unpacked_length bands))

pub unpacked_is : (bands : List PackedBand) (at : ℕ) (d : PackedBand) (m : Move) → at < length bands → unpacked (get_or bands at d) ≡ get_or (unpacked_all bands) at m
unpacked_is bands at d m lt = sym (get_or-map unpacked bands at d m lt)
