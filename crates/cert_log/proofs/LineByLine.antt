-- One line after the other.
use Rattle.std.proofs.Common.{◌≡◌, ℕ, ◌+◌, ◌<◌, ◌≤◌, List, [], ◌∷◌, ◌++◌, length, refl, sym, ap, ◌∙◌, subst, arith}
use Rattle.std.proofs.lemmas.List.{append_assoc, append-nil, length-append}
use Rattle.std.proofs.lemmas.List.Concat.{flat_map-append}
use Rattle.cert_log.specs.declared.certificate.Node.{Node}
use Rattle.cert_log.specs.Texts.{Line, line_text, lines_text}
use Rattle.cert_log.specs.declared.place.Place.{Place}
use Rattle.cert_log.specs.Follow.{MayCome, Follow, behind, behind_all, start, nodes_in, nodes_in_all}
use Rattle.cert_log.specs.inner.LineForms.{body}
use Rattle.cert_log.specs.inner.SoFar.{IsSoFar}
use Rattle.cert_log.proofs.Spelling.{line_ends}

-- a line has a byte at least
pub shorter : (l : Line) (text rest : List ℕ) → text ≡ line_text l ++ rest → length rest + 1 ≤ length text
shorter l text rest e =
    let f : length text ≡ length (body l ++ 10 ∷ rest) = ap length (e ∙ line_ends l rest) in let g = length-append (body l) (10 ∷ rest) in omega arith

follow_push : (version : ℕ) (at : Place) (ls : List Line) (l : Line) → Follow version at ls → 0 < (behind_all at ls).places → MayCome version (behind_all at ls) l → Follow version at (ls ++ l ∷ [])
follow_push version at [] l f some may = (some, may, tt)
follow_push version at (k ∷ ls) l f some may = (f.0, f.1, follow_push version (behind at k) ls l f.2 some may)

behind_push : (at : Place) (ls : List Line) (l : Line) → behind_all at (ls ++ l ∷ []) ≡ behind (behind_all at ls) l
behind_push at [] l = refl
behind_push at (k ∷ ls) l = behind_push (behind at k) ls l

text_push : (ls : List Line) (l : Line) (rest : List ℕ) → lines_text (ls ++ l ∷ []) ++ rest ≡ lines_text ls ++ (line_text l ++ rest)
text_push ls l rest =
    ap (λ (t : List ℕ). t ++ rest) (flat_map-append line_text ls (l ∷ []) ∙ ap (λ (t : List ℕ). lines_text ls ++ t) (append-nil (line_text l))) ∙ append_assoc (lines_text ls) (line_text l) rest

nodes_push : (ls : List Line) (l : Line) → nodes_in_all (ls ++ l ∷ []) ≡ nodes_in_all ls ++ nodes_in l
nodes_push ls l = flat_map-append nodes_in ls (l ∷ []) ∙ ap (λ (t : List Node). nodes_in_all ls ++ t) (append-nil (nodes_in l))

pub so_far_more : (version : ℕ) (text : List ℕ) (nodes more : List Node) (at now : Place) (rest later : List ℕ) (line : ℕ) (l : Line) → 0 < at.places → MayCome version at l → rest ≡ line_text l ++ later
    → more ≡ nodes ++ nodes_in l → now ≡ behind at l → now.places < at.places + 2 → IsSoFar version text nodes at rest line → IsSoFar version text more now later (line + 1)
so_far_more version text nodes more at now rest later line l some may e pushed is most so =
    let few = so.few in let short = so.short in let count = so.line_is in let less = shorter l rest later e in let len = length-append so.lines (l ∷ []) in
    record {
      lines = so.lines ++ l ∷ [];
      text_is = so.text_is ∙ ap (λ (t : List ℕ). lines_text so.lines ++ t) e ∙ sym (text_push so.lines l later);
      follow = follow_push version start so.lines l so.follow (subst (λ (p : Place). 0 < p.places) (sym so.place) some) (subst (λ (p : Place). MayCome version p l) (sym so.place) may);
      place = behind_push start so.lines l ∙ ap (λ (p : Place). behind p l) so.place ∙ sym is;
      nodes_are = pushed ∙ ap (λ (t : List Node). t ++ nodes_in l) so.nodes_are ∙ sym (nodes_push so.lines l);
      line_is = omega arith;
      few = omega arith;
      short = omega arith;
    }
