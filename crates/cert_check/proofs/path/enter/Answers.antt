use Rattle.std.proofs.Common.{◌≡◌, ◌∙◌, ap, map, List, get_or, slice_get, slice_index_or, Some, sym, arith, refl, false, ◌∷◌, reverse}
use Rattle.std.proofs.lemmas.List.{length-map}
use Rattle.std.proofs.lemmas.Option.{slice_get-get_or}
use Rattle.plan_box.specs.declared.packed.Packed.{Packed}
use Rattle.plan_box.specs.Packed.{unpacked}
use Rattle.plan_box.specs.Ranges.{Span, span_of, full_ranges}
use Rattle.plan_box.proofs.Children.{no_ranges}
use Rattle.cert_check.specs.declared.path.Turn.{Turn}
use Rattle.cert_check.specs.inner.Paths.{beside, IsTurn}
use Rattle.cert_check.proofs.Turns.{free_within, in_frame_at, read_at, turns_push, to_lower, span_at}
use Rattle.cert_check.proofs.path.enter.Goals as goal
use Rattle.cert_check.proofs.path.enter.Goals.{In_ok-append}

pub bounds-as_slice-step : goal.bounds-as_slice-step
bounds-as_slice-step c = let f = free_within c.args.stored.now.items c.args.step c.args.var c.requires.free in let e = c.as_slice.ensures in rw e f

pub replace-requires-clause-inside : goal.replace-requires-clause-inside
replace-requires-clause-inside c = free_within c.args.stored.now.items c.args.step c.args.var c.requires.free

-- the turn that is noted
abbrev the_turn : In_ok-append → Turn
the_turn c = record { step = c.args.step; var = c.args.var; low = c.range-low.result.0; high = c.range-low.result.1; upper = false }

span_is : (c : In_ok-append) → span_at (the_turn c) ≡ span_of c.args.var (slice_index_or (map unpacked c.args.stored.now.items) c.args.step (full_ranges c.args.frame))
span_is c =
    let xs = c.args.stored.now.items in
    let old : Packed = get_or xs c.args.step no_ranges in
    let is : slice_get xs c.args.step ≡ Some old = slice_get-get_or xs c.args.step no_ranges (free_within xs c.args.step c.args.var c.requires.free) in
    let low = rw c.as_slice.ensures at c.range-low.ensures.low in
    let high = rw c.as_slice.ensures at c.range-low.ensures.high in
    let here : span_at (the_turn c) ≡ span_of c.args.var (unpacked old) = λ i. record { low = low i; high = high i } in
    here ∙ sym (ap (span_of c.args.var) (read_at xs c.args.step old (full_ranges c.args.frame) is))

turn_is : (c : In_ok-append) → IsTurn c.args.frame (the_turn c)
turn_is c =
    let xs = c.args.stored.now.items in
    let old : Packed = get_or xs c.args.step no_ranges in
    let is : slice_get xs c.args.step ≡ Some old = slice_get-get_or xs c.args.step no_ranges (free_within xs c.args.step c.args.var c.requires.free) in
    let fits = in_frame_at c.args.frame xs c.args.step old is c.requires.path.stored.in_frame c.args.var in
    let e = span_is c in
    let f = ap (span_of c.args.var) (read_at xs c.args.step old (full_ranges c.args.frame) is) in
    record {
      inside = omega (arith, c.requires.path.each_step, free_within xs c.args.step c.args.var c.requires.free);
      wide = (let l = ap (λ (x : Span). x.low) e in let h = ap (λ (x : Span). x.high) e in let w = c.requires.wide in omega arith);
      within = (let h = ap (λ (x : Span). x.high) (e ∙ f) in let w = fits.1 in omega arith);
    }

pub returns-clause-path : goal.returns-clause-path
returns-clause-path c =
    let k = (goal.at.returns-clause-path c).In_ok-append in
    record {
      stored = c.replace.ensures.stored;
      each_step = c.replace.ensures.each_step ∙ c.requires.path.each_step;
      each_turn = turns_push c.args.frame c.args.turns.now.items _ (the_turn k) c.in_ok-append.ensures.ok c.requires.path.each_turn (turn_is k);
    }

pub returns-clause-boxes : goal.returns-clause-boxes
returns-clause-boxes c =
    let k = (goal.at.returns-clause-boxes c).In_ok-append in
    let rs = map unpacked c.args.stored.now.items in
    ap (λ (ts : List Turn). map unpacked c.replace.new.stored.items ∷ beside (map unpacked c.replace.new.stored.items) (reverse ts)) c.in_ok-append.ensures.ok
    ∙ to_lower rs (map unpacked c.replace.new.stored.items) c.args.turns.now.items (the_turn k) (full_ranges c.args.frame) refl
    (omega (arith, free_within c.args.stored.now.items c.args.step c.args.var c.requires.free, length-map c.args.stored.now.items unpacked))
    (span_is k) c.replace.ensures.ranges
