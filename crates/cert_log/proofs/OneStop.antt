-- A text is read up to one place, and there it has one outcome.
use Rattle.std.proofs.Common.{◌≡◌, ℕ, ◌+◌, ◌^◌, ◌<◌, ◌≤◌, List, [], ◌∷◌, ◌++◌, length, refl, sym, ap, ◌∙◌, subst, arith, Err}
use Rattle.std.proofs.lemmas.List.{append_assoc, length-append}
use Rattle.cert_log.specs.declared.certificate.Certificate.{Certificate}
use Rattle.cert_log.specs.declared.place.Place.{Place}
use Rattle.cert_log.specs.declared.head.Head.{Head}
use Rattle.cert_log.specs.declared.bad_cert.BadCert.{BadCert}
use Rattle.cert_log.specs.declared.bad_cert.BadCert.TheVariants as bad
use Rattle.cert_log.specs.Texts.{Line, splits, closes, opens_one, opens, first_line, head_of, line_text, lines_text}
use Rattle.cert_log.specs.Follow.{NoLine, Follow, behind, behind_all, start, nodes_in_all}
use Rattle.cert_log.specs.Outcomes.{NoHead, Begins, IsReading, IsWhole, IsBadLine, IsShort, IsTrailing}
use Rattle.cert_log.specs.ReadAgain.{OneReading, OneRefusal}
use Rattle.cert_log.specs.Readings.{SaySame}
use Rattle.cert_log.specs.inner.LineForms.{body}
use Rattle.cert_log.proofs.Spelling.{ends_alike, body_lacks, bodies_alike, line_ends, some_text}
use Rattle.cert_log.proofs.Bodies.{formed, has_number}
use Rattle.cert_log.proofs.Heads.{heads_alike}
use Rattle.cert_log.proofs.LineByLine.{shorter}

-- the text begins with lines behind which none may come
record Stops (text : List ℕ) (h : Head) (lines : List Line) (rest : List ℕ) : Type 0 where
  begins : Begins text h lines rest
  none : 0 < (behind_all start lines).places → NoLine h.version (behind_all start lines) rest

record StopsAlike (ls ms : List Line) (s t : List ℕ) : Type 0 where
  lines : ls ≡ ms
  rest : s ≡ t

most_behind : (at : Place) (l : Line) → (behind at l).places ≤ at.places + 1
most_behind at (splits step v) = omega arith
most_behind at (closes k) = omega arith
most_behind at opens_one = omega arith
most_behind at (opens n) = omega arith

lines_stop : (version : ℕ) (at : Place) (ls ms : List Line) (s t : List ℕ) → at.places + length ls ≤ 2 ^ 64 → lines_text ls ++ s ≡ lines_text ms ++ t → Follow version at ls → Follow version at ms
    → (0 < (behind_all at ls).places → NoLine version (behind_all at ls) s) → (0 < (behind_all at ms).places → NoLine version (behind_all at ms) t) → StopsAlike ls ms s t
lines_stop version at [] [] s t small e f g none_s none_t = record { lines = refl; rest = e }
lines_stop version at [] (m ∷ ms) s t small e f g none_s none_t = absurd (none_s g.0 m (lines_text ms ++ t) g.1 (e ∙ append_assoc (line_text m) (lines_text ms) t))
lines_stop version at (l ∷ ls) [] s t small e f g none_s none_t = absurd (none_t f.0 l (lines_text ls ++ s) f.1 (sym e ∙ append_assoc (line_text l) (lines_text ls) s))
lines_stop version at (l ∷ ls) (m ∷ ms) s t small e f g none_s none_t =
    let a = append_assoc (line_text l) (lines_text ls) s in let most = most_behind at l in
    let d : body l ++ 10 ∷ (lines_text ls ++ s) ≡ body m ++ 10 ∷ (lines_text ms ++ t) = sym (line_ends l (lines_text ls ++ s)) ∙ sym a ∙ e ∙ append_assoc (line_text m) (lines_text ms) t ∙ line_ends m (lines_text ms ++ t) in
    let fits_l = has_number l (formed version at l (omega arith) f.1) in let fits_m = has_number m (formed version at m (omega arith) g.1) in
    let r = ends_alike 10 (body l) (body m) (lines_text ls ++ s) (lines_text ms ++ t) (body_lacks l fits_l) (body_lacks m fits_m) d in
    let same = bodies_alike l m fits_l fits_m r.front in
    let later = lines_stop version (behind at l) ls ms s t (omega arith) r.back f.2 (subst (λ (k : Line). Follow version (behind at k) ms) (sym same) g.2) none_s (subst (λ (k : Line). 0 < (behind_all (behind at k) ms).places → NoLine version (behind_all (behind at k) ms) t) (sym same) none_t) in
    let lines = later.lines in record { lines = cc (same, lines); rest = later.rest }

-- a text is read up to one place, where it is read as few lines
stop_alike : (text : List ℕ) (h k : Head) (ls ms : List Line) (s t : List ℕ) → length ls < 2 ^ 64 → Stops text h ls s → Stops text k ms t → StopsAlike ls ms s t
stop_alike text h k ls ms s t few x y =
    let heads = heads_alike h k (lines_text ls ++ s) (lines_text ms ++ t) x.begins.head y.begins.head (sym x.begins.text_is ∙ y.begins.text_is) in
    lines_stop h.version start ls ms s t (omega arith) heads.back x.begins.follow (subst (λ (v : ℕ). Follow v start ms) (sym heads.version) y.begins.follow) x.none
    (subst (λ (v : ℕ). 0 < (behind_all start ms).places → NoLine v (behind_all start ms) t) (sym heads.version) y.none)

-- a text has no more lines than bytes
few_lines : (ls : List Line) (rest : List ℕ) → length ls ≤ length (lines_text ls ++ rest)
few_lines [] rest = omega arith
few_lines (l ∷ ls) rest =
    let a = append_assoc (line_text l) (lines_text ls) rest in let less = shorter l ((line_text l ++ lines_text ls) ++ rest) (lines_text ls ++ rest) a in
    let later = few_lines ls rest in omega arith

-- a short text is read as few lines
pub short_begins : (text : List ℕ) (h : Head) (ls : List Line) (rest : List ℕ) → length text < 2 ^ 63 → Begins text h ls rest → length ls < 2 ^ 64
short_begins text h ls rest small b =
    let short : length text ≡ length (first_line h ++ (lines_text ls ++ rest)) = ap length b.text_is in
    let one = length-append (first_line h) (lines_text ls ++ rest) in let few = few_lines ls rest in omega arith

-- a short text is read up to one place
one_stop : (text : List ℕ) (h k : Head) (ls ms : List Line) (s t : List ℕ) → length text < 2 ^ 63 → Stops text h ls s → Stops text k ms t → StopsAlike ls ms s t
one_stop text h k ls ms s t small x y = stop_alike text h k ls ms s t (short_begins text h ls s small x.begins) x y

whole_stops : (text : List ℕ) (c : Certificate) (w : IsWhole text c) → Stops text (head_of c) w.lines []
whole_stops text c w = record { begins = w.begins; none = λ some. absurd (let full = w.full in omega arith) }

bad_line_stops : (text : List ℕ) (k : ℕ) (b : IsBadLine text k) → Stops text b.head b.lines b.rest
bad_line_stops text k b = record { begins = b.begins; none = λ some. b.none }

short_stops : (text : List ℕ) (k : ℕ) (b : IsShort text k) → Stops text b.head b.lines []
short_stops text k b = record { begins = b.begins; none = λ some l rest may e. some_text l rest (sym e) }

trailing_stops : (text : List ℕ) (k : ℕ) (b : IsTrailing text k) → Stops text b.head b.lines b.rest
trailing_stops text k b = record { begins = b.begins; none = λ some. absurd (let full = b.full in omega arith) }

-- the tree is complete in both or in none
no_tree : (ls ms : List Line) → ls ≡ ms → (behind_all start ls).places ≡ 0 → 0 < (behind_all start ms).places → ⊥
no_tree ls ms same full lacking = let e = ap (λ (ks : List Line). (behind_all start ks).places) same in omega arith

has_head : (text : List ℕ) (h : Head) (ls : List Line) (s : List ℕ) → NoHead text → Begins text h ls s → ⊥
has_head text h ls s none b = none h (lines_text ls ++ s) b.head b.text_is

-- a text that stands for a certificate of few lines stands for that one alone
pub whole_alike : (text : List ℕ) (c d : Certificate) (w : IsWhole text c) → length w.lines < 2 ^ 64 → IsWhole text d → SaySame c d
whole_alike text c d w few u =
    let heads = heads_alike (head_of c) (head_of d) (lines_text w.lines ++ []) (lines_text u.lines ++ []) w.begins.head u.begins.head (sym w.begins.text_is ∙ u.begins.text_is) in
    let same = stop_alike text (head_of c) (head_of d) w.lines u.lines [] [] few (whole_stops text c w) (whole_stops text d u) in
    record { version = heads.version; loss = heads.loss; bound = heads.bound; left = heads.left; floor = heads.floor; nodes = w.nodes ∙ ap nodes_in_all same.lines ∙ sym u.nodes }

-- and it is refused for want of memory alone
pub whole_accepted : (text : List ℕ) (c : Certificate) (b : BadCert) (w : IsWhole text c) → length w.lines < 2 ^ 64 → IsReading text (Err b) → b ≡ bad.Memory
whole_accepted text c bad.Memory w few r = refl
whole_accepted text c bad.Head w few r = absurd (has_head text (head_of c) w.lines [] r w.begins)
whole_accepted text c (bad.Line k) w few r =
    absurd (no_tree w.lines r.lines (stop_alike text (head_of c) r.head w.lines r.lines [] r.rest few (whole_stops text c w) (bad_line_stops text k r)).lines w.full r.lacking)
whole_accepted text c (bad.Short k) w few r =
    absurd (no_tree w.lines r.lines (stop_alike text (head_of c) r.head w.lines r.lines [] [] few (whole_stops text c w) (short_stops text k r)).lines w.full r.lacking)
whole_accepted text c (bad.Trailing k) w few r =
    absurd (r.some (sym (stop_alike text (head_of c) r.head w.lines r.lines [] r.rest few (whole_stops text c w) (trailing_stops text k r)).rest))

pub one_reading : OneReading
one_reading text c b small w r = whole_accepted text c b w (short_begins text (head_of c) w.lines [] small w.begins) r

line_line : (text : List ℕ) (k j : ℕ) → length text < 2 ^ 63 → IsBadLine text k → IsBadLine text j → k ≡ j
line_line text k j small x y =
    let same = one_stop text x.head y.head x.lines y.lines x.rest y.rest small (bad_line_stops text k x) (bad_line_stops text j y) in
    x.line_is ∙ ap (λ (ls : List Line). length ls + 2) same.lines ∙ sym y.line_is

short_short : (text : List ℕ) (k j : ℕ) → length text < 2 ^ 63 → IsShort text k → IsShort text j → k ≡ j
short_short text k j small x y =
    let same = one_stop text x.head y.head x.lines y.lines [] [] small (short_stops text k x) (short_stops text j y) in
    x.count_is ∙ ap (λ (ls : List Line). length ls + 1) same.lines ∙ sym y.count_is

trailing_trailing : (text : List ℕ) (k j : ℕ) → length text < 2 ^ 63 → IsTrailing text k → IsTrailing text j → k ≡ j
trailing_trailing text k j small x y =
    let same = one_stop text x.head y.head x.lines y.lines x.rest y.rest small (trailing_stops text k x) (trailing_stops text j y) in
    x.line_is ∙ ap (λ (ls : List Line). length ls + 2) same.lines ∙ sym y.line_is

line_short : (text : List ℕ) (k j : ℕ) → length text < 2 ^ 63 → IsBadLine text k → IsShort text j → ⊥
line_short text k j small x y = x.some (one_stop text x.head y.head x.lines y.lines x.rest [] small (bad_line_stops text k x) (short_stops text j y)).rest

trailing_line : (text : List ℕ) (k j : ℕ) → length text < 2 ^ 63 → IsTrailing text k → IsBadLine text j → ⊥
trailing_line text k j small x y =
    no_tree x.lines y.lines (one_stop text x.head y.head x.lines y.lines x.rest y.rest small (trailing_stops text k x) (bad_line_stops text j y)).lines x.full y.lacking

trailing_short : (text : List ℕ) (k j : ℕ) → length text < 2 ^ 63 → IsTrailing text k → IsShort text j → ⊥
trailing_short text k j small x y =
    no_tree x.lines y.lines (one_stop text x.head y.head x.lines y.lines x.rest [] small (trailing_stops text k x) (short_stops text j y)).lines x.full y.lacking

pub one_refusal : OneRefusal
one_refusal text bad.Memory b small not_a not_b x y = absurd (not_a refl)
one_refusal text bad.Head bad.Memory small not_a not_b x y = absurd (not_b refl)
one_refusal text bad.Head bad.Head small not_a not_b x y = refl
one_refusal text bad.Head (bad.Line j) small not_a not_b x y = absurd (has_head text y.head y.lines y.rest x y.begins)
one_refusal text bad.Head (bad.Short j) small not_a not_b x y = absurd (has_head text y.head y.lines [] x y.begins)
one_refusal text bad.Head (bad.Trailing j) small not_a not_b x y = absurd (has_head text y.head y.lines y.rest x y.begins)
one_refusal text (bad.Line k) bad.Memory small not_a not_b x y = absurd (not_b refl)
one_refusal text (bad.Line k) bad.Head small not_a not_b x y = absurd (has_head text x.head x.lines x.rest y x.begins)
one_refusal text (bad.Line k) (bad.Line j) small not_a not_b x y = ap bad.Line (line_line text k j small x y)
one_refusal text (bad.Line k) (bad.Short j) small not_a not_b x y = absurd (line_short text k j small x y)
one_refusal text (bad.Line k) (bad.Trailing j) small not_a not_b x y = absurd (trailing_line text j k small y x)
one_refusal text (bad.Short k) bad.Memory small not_a not_b x y = absurd (not_b refl)
one_refusal text (bad.Short k) bad.Head small not_a not_b x y = absurd (has_head text x.head x.lines [] y x.begins)
one_refusal text (bad.Short k) (bad.Line j) small not_a not_b x y = absurd (line_short text j k small y x)
one_refusal text (bad.Short k) (bad.Short j) small not_a not_b x y = ap bad.Short (short_short text k j small x y)
one_refusal text (bad.Short k) (bad.Trailing j) small not_a not_b x y = absurd (trailing_short text j k small y x)
one_refusal text (bad.Trailing k) bad.Memory small not_a not_b x y = absurd (not_b refl)
one_refusal text (bad.Trailing k) bad.Head small not_a not_b x y = absurd (has_head text x.head x.lines x.rest y x.begins)
one_refusal text (bad.Trailing k) (bad.Line j) small not_a not_b x y = absurd (trailing_line text k j small x y)
one_refusal text (bad.Trailing k) (bad.Short j) small not_a not_b x y = absurd (trailing_short text k j small x y)
one_refusal text (bad.Trailing k) (bad.Trailing j) small not_a not_b x y = ap bad.Trailing (trailing_trailing text k j small x y)
