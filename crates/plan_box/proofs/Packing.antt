-- The items of a trace lie beside and over one another, so their areas fit into the plates that it takes.
use Rattle.std.proofs.Common.{◌≡◌, ℕ, zero, suc, ◌+◌, ◌-◌, ◌*◌, ◌<◌, ◌≤◌, List, [], ◌∷◌, arith, mul-le-mul_left, mul-le-mul_right, mul-le-mul, max, mul_comm, mul-add, div-lt_iff_lt-mul, ◌/◌, ◌∙◌, ap, sym}
use Rattle.glass_base.specs.Plates.{Before}
use Rattle.glass_base.specs.Problem.{Problem}
use Rattle.plan_trace.specs.declared.level.Level.{Level}
use Rattle.plan_trace.specs.declared.level.Level.TheVariants.{NewPlate, NewStrip, NewBand, NewCell, Over}
use Rattle.plan_trace.specs.Marks.{Spot, spot, Cut}
use Rattle.plan_trace.specs.TraceRules.{Rules, EachStep}
use Rattle.plan_trace.proofs.Inside.{Fits, Sound}
use Rattle.plan_box.specs.Leasts.{Known, Fixed, fixed, last_known, Holds, HoldAll}
use Rattle.plan_box.specs.Bounds.{ceil_div, end_of_items}
use Rattle.plan_box.proofs.Widths.{before_after}
use Rattle.plan_box.proofs.Lengths.{end_from, reaches}

-- the area left of the strip, below the band, left of the cell and in the cell up to a step
abbrev pub used : Problem → Cut → ℕ
used b s = b.params.height * (Before b s.plate + s.a) + ((s.b - s.a) * s.c + ((s.e - s.a) * (s.d - s.c) + s.cell_w * s.cell_h))

-- the parts of a band: what lies left of a cell, and the cell
in_band : (x cw v ch u : ℕ) → x + cw ≤ u → ch ≤ v → x * v + cw * ch ≤ u * v
in_band x cw v ch u a b =
    let f : (x + cw) * v ≤ u * v = mul-le-mul_right v a in
    let g : cw * ch ≤ cw * v = mul-le-mul_left cw b in
    omega (arith, f, g)

next_cell : (x cw v ch x' w h ch' : ℕ) → x + cw ≤ x' → ch ≤ v → h ≤ ch' → (x * v + cw * ch) + w * h ≤ x' * v + w * ch'
next_cell x cw v ch x' w h ch' a b c = omega (arith, in_band x cw v ch x' a b, mul-le-mul_left w c)

next_band : (u c x cw v ch c' rest w h ch' : ℕ) → x + cw ≤ u → ch ≤ v → c + v ≤ c' → h ≤ ch' →
    (u * c + (x * v + cw * ch)) + w * h ≤ u * c' + (rest + w * ch')
next_band u c x cw v ch c' rest w h ch' a b e f =
    omega (arith, in_band x cw v ch u a b, mul-le-mul_left u e, mul-le-mul_left w f)

-- all of a strip up to its right side
in_strip : (H A u c x cw v ch : ℕ) → x + cw ≤ u → ch ≤ v → c + v ≤ H → H * A + (u * c + (x * v + cw * ch)) ≤ H * (A + u)
in_strip H A u c x cw v ch a b e =
    omega (arith, in_band x cw v ch u a b, mul-le-mul_left u e, mul_comm u H)

next_strip : (H A u c x cw v ch A' rest more w h ch' : ℕ) → x + cw ≤ u → ch ≤ v → c + v ≤ H → A + u ≤ A' → h ≤ ch' →
    (H * A + (u * c + (x * v + cw * ch))) + w * h ≤ H * A' + (rest + (more + w * ch'))
next_strip H A u c x cw v ch A' rest more w h ch' a b e f g =
    omega (arith, in_strip H A u c x cw v ch a b e, mul-le-mul_left H f, mul-le-mul_left w g)

under_one : (k x n y : ℕ) → x + n ≤ y → (k + x) + n ≤ k + y
under_one k x n y h = omega arith

under_two : (k j x n y : ℕ) → x + n ≤ y → (k + (j + x)) + n ≤ k + (j + y)
under_two k j x n y h = omega arith

under_three : (k j i x n y : ℕ) → x + n ≤ y → (k + (j + (i + x))) + n ≤ k + (j + (i + y))
under_three k j i x n y h = omega arith

over_height : (ch h ch' : ℕ) → ch + h ≤ ch' → ch + h ≤ ch'
over_height ch h ch' e = e

under_end : (x y z : ℕ) → x ≤ y → x + z ≤ y + z
under_end x y z h = omega arith

joined : (ut us own all end ta sa : ℕ) → ut + own ≤ us → us + all ≤ end + sa → sa ≡ ta + own → ut + all ≤ end + ta
joined ut us own all end ta sa a b c = omega arith

-- each step uses at least the area of its item
pub packs : (b : Problem) (m : Level) (t : Cut) (l : Level) (s : Cut) (later : List Spot) → 1 ≤ t.plates → t.plate ≡ t.plates - 1 →
    Rules b m t l s later → Sound b l t s → Fits b t → t.cell_w ≡ t.w →
    used b t + s.w * s.h ≤ used b s
packs b m t NewPlate s later some is_plate r ok fits own =
    let f : Before b t.plate + t.b ≤ Before b s.plate =
    omega (arith, fits.within, before_after b t.plate s.plate (omega (arith, ok.plate_is, some, is_plate))) in
    rw ok.follows.adds.0
    (next_strip b.params.height (Before b t.plate + t.a) (t.b - t.a) t.c (t.e - t.a) t.cell_w (t.d - t.c) t.cell_h (Before b s.plate + s.a) _ _ s.w s.h s.cell_h
    (omega (arith, fits)) (omega (arith, fits)) (omega (arith, fits)) (omega (arith, fits.ends, f)) (omega (arith, ok.follows.adds)))
packs b m t NewStrip s later some is_plate r ok fits own =
    let e : s.plate ≡ t.plate = ok.plate_is in
    rw (ok.follows.adds.0, e)
    (next_strip b.params.height (Before b t.plate + t.a) (t.b - t.a) t.c (t.e - t.a) t.cell_w (t.d - t.c) t.cell_h (Before b t.plate + s.a) _ _ s.w s.h s.cell_h
    (omega (arith, fits)) (omega (arith, fits)) (omega (arith, fits)) (omega (arith, fits.ends, r.tr4.0)) (omega (arith, ok.follows.adds)))
packs b m t NewBand s later some is_plate r ok fits own =
    let e : s.plate ≡ t.plate = ok.plate_is in
    rw (ok.follows.adds.0, e, ok.inherits.0, ok.inherits.1)
    (under_one _ _ _ _ (next_band (t.b - t.a) t.c (t.e - t.a) t.cell_w (t.d - t.c) t.cell_h s.c _ s.w s.h s.cell_h (omega (arith, fits)) (omega (arith, fits)) (omega (arith, fits, r.tr5.0)) (omega (arith, ok.follows.adds))))
packs b m t NewCell s later some is_plate r ok fits own =
    let e : s.plate ≡ t.plate = ok.plate_is in
    rw (ok.follows.adds.0, e, ok.inherits.0, ok.inherits.1, ok.inherits.2, ok.inherits.3)
    (under_two _ _ _ _ _ (next_cell (t.e - t.a) t.cell_w (t.d - t.c) t.cell_h (s.e - t.a) s.w s.h s.cell_h (omega (arith, fits, r.tr6.0)) (omega (arith, fits)) (omega (arith, ok.follows.adds))))
packs b m t Over s later some is_plate r ok fits own =
    let e : s.plate ≡ t.plate = ok.plate_is in
    let w : s.w ≡ t.cell_w = omega (arith, r.tr7.1, own) in
    rw (ok.follows.adds.0, e, w, ok.inherits.0, ok.inherits.1, ok.inherits.2, ok.inherits.3, ok.inherits.4)
    (under_three _ _ _ _ _ _ (omega (arith, mul-le-mul_left t.cell_w (over_height t.cell_h s.h s.cell_h (omega (arith, ok.follows.adds.1))))))

-- the area of the items drawn at the end
abbrev pub area_at : Cut → List Spot → ℕ
area_at t [] = t.area
area_at t (spot _ s ∷ later) = area_at s later

-- what a step uses and the items behind it fit into the length
pub fits_in : (b : Problem) (m : Level) (t : Cut) (later : List Spot) → 1 ≤ t.plates → t.plate ≡ t.plates - 1 → Fits b t → t.cell_w ≡ t.w →
    EachStep (Rules b) m t later → EachStep (λ _ t l s _. Sound b l t s) m t later →
    used b t + area_at t later ≤ b.params.height * end_from b t later + t.area
fits_in b m t [] some is_plate fits own r ok =
    let h : Before b t.plate + t.a + (t.b - t.a) ≡ Before b t.plate + t.b = omega (arith, fits.ends) in
    under_end _ _ _ (rw h at (in_strip b.params.height (Before b t.plate + t.a) (t.b - t.a) t.c (t.e - t.a) t.cell_w (t.d - t.c) t.cell_h (omega (arith, fits)) (omega (arith, fits)) (omega (arith, fits))))
fits_in b m t (spot l s ∷ later) some is_plate fits own r ok =
    joined _ _ _ _ _ _ _ (packs b m t l s later some is_plate r.0 ok.0 fits own)
    (fits_in b l s later r.0.tr1.0 ok.0.follows.plate ok.0.fits ok.0.own r.1 ok.1) ok.0.follows.area

-- the items of a band lie in what it has used
pub record BandPacked (s : Cut) : Type 0 where
  pub fits : s.band_area ≤ (s.e - s.a) * (s.d - s.c) + s.cell_w * s.cell_h
  pub part : s.band_area ≤ s.area

pub first_in_band : (x w h ch : ℕ) → h ≤ ch → w * h ≤ x + w * ch
first_in_band x w h ch c = omega (arith, mul-le-mul_left w c)

more_in_band : (area x n y : ℕ) → area ≤ x → x + n ≤ y → area + n ≤ y
more_in_band area x n y a b = omega arith

part_of : (t s own : ℕ) → s ≡ t + own → own ≤ s
part_of t s own e = omega arith

part_more : (b t s own : ℕ) → s ≡ t + own → b ≤ t → b + own ≤ s
part_more b t s own e h = omega arith

pub band_packed : (b : Problem) (m : Level) (t : Cut) (l : Level) (s : Cut) (later : List Spot) →
    Rules b m t l s later → Sound b l t s → Fits b t → t.cell_w ≡ t.w → BandPacked t → BandPacked s
band_packed b m t NewPlate s later r ok fits own h =
    record { fits = rw (ok.follows.band_area, ok.follows.adds.0) (first_in_band _ s.w s.h s.cell_h (omega (arith, ok.follows.adds))); part = rw ok.follows.band_area (part_of _ _ _ ok.follows.area) }
band_packed b m t NewStrip s later r ok fits own h =
    record { fits = rw (ok.follows.band_area, ok.follows.adds.0) (first_in_band _ s.w s.h s.cell_h (omega (arith, ok.follows.adds))); part = rw ok.follows.band_area (part_of _ _ _ ok.follows.area) }
band_packed b m t NewBand s later r ok fits own h =
    record { fits = rw (ok.follows.band_area, ok.follows.adds.0) (first_in_band _ s.w s.h s.cell_h (omega (arith, ok.follows.adds))); part = rw ok.follows.band_area (part_of _ _ _ ok.follows.area) }
band_packed b m t NewCell s later r ok fits own h =
    record {
      fits = rw (ok.follows.band_area, ok.follows.adds.0, ok.inherits.0, ok.inherits.2, ok.inherits.3)
          (more_in_band _ _ _ _ h.fits (next_cell (t.e - t.a) t.cell_w (t.d - t.c) t.cell_h (s.e - t.a) s.w s.h s.cell_h (omega (arith, fits, r.tr6.0)) (omega (arith, fits)) (omega (arith, ok.follows.adds))));
      part = rw ok.follows.band_area (part_more _ _ _ _ ok.follows.area h.part);
    }
band_packed b m t Over s later r ok fits own h =
    let w : s.w ≡ t.cell_w = omega (arith, r.tr7.1, own) in
    record {
      fits = rw (ok.follows.band_area, ok.follows.adds.0, w, ok.inherits.0, ok.inherits.2, ok.inherits.3, ok.inherits.4)
          (more_in_band _ _ _ _ h.fits (under_one _ _ _ _ (omega (arith, mul-le-mul_left t.cell_w (over_height t.cell_h s.h s.cell_h (omega (arith, ok.follows.adds.1)))))));
      part = rw ok.follows.band_area (part_more _ _ _ _ ok.follows.area h.part);
    }

numbers : (mc uc hl ha he rest x band area total dummy : ℕ) → mc ≤ uc → hl ≤ ha → hl + rest ≡ he → (ha + (uc + x)) + total ≤ he + area → band ≤ x → band ≤ area → area ≤ total →
    mc + (total - (area - band)) ≤ rest
numbers mc uc hl ha he rest x band area total dummy a b c d e f g = omega arith

pub ceil_le : (n d m : ℕ) → 1 ≤ d → n ≤ d * m → ceil_div n d ≤ m
ceil_le n (suc d) m h e =
    let room : n + (suc d - 1) < suc m * suc d = omega (arith, e) in
    let f : (n + (suc d - 1)) / suc d < suc m = (div-lt_iff_lt-mul {k = suc d} {x = n + (suc d - 1)} {y = suc m} (omega arith)).1 room in
    omega (arith, f)
ceil_le n zero m h e = absurd (omega (arith, h))

-- line 3 of the bound, on numbers: `M` at most the width of the strip, `C` at most the band's lower side, `R` the area of the band's items and of those not drawn before it
pub line_three : (H E before a u c la M C area band x total : ℕ) → 1 ≤ H → la ≤ a → M ≤ u → C ≤ c → band ≤ x → band ≤ area → area ≤ total →
    (H * (before + a) + (u * c + x)) + total ≤ H * E + area → before + a ≤ E →
    before + (la + ceil_div (M * C + (total - (area - band))) H) ≤ E
line_three H E before a u c la M C area band x total h1 ha hm hc hb hba hat fits hE =
    let prod : M * C ≤ u * c = mul-le-mul hm hc in
    let up : H * (before + la) ≤ H * (before + a) = mul-le-mul_left H (omega (arith, ha)) in
    let split : H * (before + la) + H * (E - (before + la)) ≡ H * E = sym (mul-add H (before + la) (E - (before + la))) ∙ ap (λ n. H * n) (omega (arith, ha, hE)) in
    let need : M * C + (total - (area - band)) ≤ H * (E - (before + la)) = numbers (M * C) (u * c) (H * (before + la)) (H * (before + a)) (H * E) (H * (E - (before + la))) x band area total 0 prod up split fits hb hba hat in
    omega (arith, ceil_le _ H (E - (before + la)) h1 need, ha, hE)

area_grows : (b : Problem) (m : Level) (t : Cut) (later : List Spot) → EachStep (λ _ t l s _. Sound b l t s) m t later → t.area ≤ area_at t later
area_grows b m t [] ok = omega arith
area_grows b m t (spot l s ∷ later) ok = grows_on _ _ _ _ ok.0.follows.area (area_grows b l s later ok.1)
  where
    grows_on : (ta sa own end : ℕ) → sa ≡ ta + own → sa ≤ end → ta ≤ end
    grows_on ta sa own end e h = omega arith

-- line 3 at the last decided step
three_at : (b : Problem) (m : Level) (t : Cut) (k : Known) (later : List Spot) → 1 ≤ b.params.height →
    EachStep (Rules b) m t later → EachStep (λ _ t l s _. Sound b l t s) m t later → Holds k t → 1 ≤ t.plates → t.plate ≡ t.plates - 1 → Fits b t →
    t.cell_w ≡ t.w → BandPacked t →
    Before b k.plate + (k.least_a + ceil_div (max b.params.min1 k.strip_w * k.least_c + (area_at t later - (k.area - k.band_area))) b.params.height) ≤ end_from b t later
three_at b m t k later high r ok h some is_plate fits own packed =
    let reach : Before b t.plate + t.b ≤ end_from b t later = reaches b m t later some is_plate fits r ok in
    rw (ap (λ p. p.plate) h.place, ap (λ p. p.strip_w) h.place, ap (λ p. p.area) h.place, ap (λ p. p.band_area) h.place)
    (line_three b.params.height (end_from b t later) (Before b t.plate) t.a (t.b - t.a) t.c k.least_a (max b.params.min1 t.strip_w) k.least_c t.area t.band_area
    ((t.e - t.a) * (t.d - t.c) + t.cell_w * t.cell_h) (area_at t later) high (omega (arith, h.a)) (omega (arith, fits.widest, fits.least some)) (omega (arith, h.c))
    packed.fits packed.part (area_grows b m t later ok) (fits_in b m t later some is_plate fits own r ok) (omega (arith, reach, fits.ends)))

pub three_from : (b : Problem) (m : Level) (t : Cut) (k : Known) (ks : List Fixed) (ss : List Spot) → 1 ≤ b.params.height → HoldAll ks ss →
    EachStep (Rules b) m t ss → EachStep (λ _ t l s _. Sound b l t s) m t ss → Holds k t → 1 ≤ t.plates → t.plate ≡ t.plates - 1 → Fits b t →
    t.cell_w ≡ t.w → BandPacked t → end_of_items b (area_at t ss) (last_known k ks) ≤ end_from b t ss
three_from b m t k [] ss high h r ok holds some is_plate fits own packed = three_at b m t k ss high r ok holds some is_plate fits own packed
three_from b m t k (fixed l n ∷ ks) [] high h r ok holds some is_plate fits own packed = elim h [ ]
three_from b m t k (fixed l n ∷ ks) (spot y s ∷ ss) high h r ok holds some is_plate fits own packed =
    three_from b y s n ks ss high h.2 r.1 ok.1 h.1 r.0.tr1.0 ok.0.follows.plate ok.0.fits ok.0.own (band_packed b m t y s ss r.0 ok.0 fits own packed)
