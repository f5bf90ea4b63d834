-- A certificate and the one that names its causes are right for the same boxes.
use Rattle.std.proofs.Common.{◌≡◌, ℕ, inl, inr, List, [], ◌∷◌, ◌++◌, length, max, Option, refl, sym, ap, ◌∙◌, subst, arith, All}
use Rattle.std.specs.List.{AllZip}
use Rattle.std.proofs.lemmas.List.Elements.{All-append, All-cons, All-head, All-nil, All-tail}
use Rattle.glass_base.specs.Problem.{Problem}
use Rattle.plan_box.specs.Halves.{lower_half, upper_half, half_at}
use Rattle.plan_box.specs.Ranges.{Ranges}
use Rattle.plan_box.specs.declared.var.Var.{Var}
use Rattle.cert_log.specs.declared.certificate.Certificate.{Certificate}
use Rattle.cert_log.specs.declared.certificate.Node.{Node}
use Rattle.cert_log.specs.declared.history.Cause.{Cause}
use Rattle.cert_log.specs.Good.{HasVersion, IsFloor, IsGood, IsVersion, MayClose, Passes, least_of, visit_bounds}
use Rattle.cert_log.specs.Trees.{Tree, halved, closed, waiting, nodes_of, FitsVersion}
use Rattle.cert_log.specs.Visits.{Visit, visits}
use Rattle.cert_log.proofs.Walked.{Stands, open_bounds, all_back, all_front, bounds_are, good_of, stands_from}
use Rattle.cert_check.specs.Causes.{IsNamed, AreNamed, IsReasoned, SameVerdict}
use Rattle.cert_check.specs.inner.Naming.{IsNamedAt}
use Rattle.cert_check.specs.inner.Walks.{visits_from}
use Rattle.cert_check.proofs.Judging.{good_visits}
use Rattle.cert_check.proofs.Naming.{named_tree}
use Rattle.cert_check.proofs.Trees.{visits_whole}

-- a box that may be closed for a cause may be closed for the one that is named
close_named : (b : Problem) (floor : ℕ) (loss : Option ℕ) (rs : List Ranges) (cause named : Cause) → IsNamed b rs cause named → MayClose b floor loss rs cause → MayClose b floor loss rs named
close_named b floor loss rs Cause.Unsaid Cause.Unsaid h may = absurd h
close_named b floor loss rs Cause.Unsaid Cause.Floor h may = absurd h
close_named b floor loss rs Cause.Unsaid Cause.Bound h (inl refuted) = absurd (h refuted)
close_named b floor loss rs Cause.Unsaid Cause.Bound h (inr reaches) = reaches
close_named b floor loss rs Cause.Unsaid (Cause.Reason r) h may = h
close_named b floor loss rs Cause.Floor named h may = subst (MayClose b floor loss rs) (sym h) may
close_named b floor loss rs Cause.Bound named h may = subst (MayClose b floor loss rs) (sym h) may
close_named b floor loss rs (Cause.Reason r) named h may = subst (MayClose b floor loss rs) (sym h) may

close_unnamed : (b : Problem) (floor : ℕ) (loss : Option ℕ) (rs : List Ranges) (cause named : Cause) → IsNamed b rs cause named → MayClose b floor loss rs named → MayClose b floor loss rs cause
close_unnamed b floor loss rs Cause.Unsaid Cause.Unsaid h may = absurd h
close_unnamed b floor loss rs Cause.Unsaid Cause.Floor h may = absurd h
close_unnamed b floor loss rs Cause.Unsaid Cause.Bound h may = inr may
close_unnamed b floor loss rs Cause.Unsaid (Cause.Reason r) h may = inl (r, may.applies)
close_unnamed b floor loss rs Cause.Floor named h may = subst (MayClose b floor loss rs) h may
close_unnamed b floor loss rs Cause.Bound named h may = subst (MayClose b floor loss rs) h may
close_unnamed b floor loss rs (Cause.Reason r) named h may = subst (MayClose b floor loss rs) h may

-- a cause that is named is one of version 2, or of the same later one
fits_named : (b : Problem) (version : ℕ) (rs : List Ranges) (cause named : Cause) → IsNamed b rs cause named → FitsVersion version (Node.Closed cause) → FitsVersion (max 2 version) (Node.Closed named)
fits_named b version rs Cause.Unsaid Cause.Unsaid h fits = absurd h
fits_named b version rs Cause.Unsaid Cause.Floor h fits = absurd h
fits_named b version rs Cause.Unsaid Cause.Bound h fits = omega arith
fits_named b version rs Cause.Unsaid (Cause.Reason r) h fits = omega arith
fits_named b version rs Cause.Floor named h fits = subst (λ (k : Cause). FitsVersion (max 2 version) (Node.Closed k)) (sym h) (omega (arith, fits))
fits_named b version rs Cause.Bound named h fits = subst (λ (k : Cause). FitsVersion (max 2 version) (Node.Closed k)) (sym h) (omega arith)
fits_named b version rs (Cause.Reason r) named h fits = subst (λ (k : Cause). FitsVersion (max 2 version) (Node.Closed k)) (sym h) (omega arith)

-- one tree stands where the other does, with the same open boxes
record AreAlike (b : Problem) (floor : ℕ) (loss : Option ℕ) (rs : List Ranges) (t u : Tree) : Type 0 where
  stands : Stands b floor loss rs t → Stands b floor loss rs u
  stood : Stands b floor loss rs u → Stands b floor loss rs t
  open_are : open_bounds b floor rs u ≡ open_bounds b floor rs t

alike : (b : Problem) (floor : ℕ) (loss : Option ℕ) (rs : List Ranges) (t u : Tree) → AreNamed b rs t u → AreAlike b floor loss rs t u
alike b floor loss rs (halved step v lower upper) (halved step' v' lower' upper') h =
    let low = half_at lower_half rs step v in let high = half_at upper_half rs step v in
    let l = alike b floor loss low lower lower' h.2 in let u = alike b floor loss high upper upper' h.3 in
    let same : halved step v lower' upper' ≡ halved step' v' lower' upper' =
    ap (λ (s : ℕ). halved s v lower' upper') (sym h.0) ∙ ap (λ (w : Var). halved step' w lower' upper') (sym h.1) in
    subst (λ (t : Tree). AreAlike b floor loss rs (halved step v lower upper) t) same
    (record {
      stands = λ s. (s.0, l.stands s.1, u.stands s.2);
      stood = λ s. (s.0, l.stood s.1, u.stood s.2);
      open_are = ap (λ (ns : List ℕ). ns ++ open_bounds b floor high upper') l.open_are ∙ ap (λ (ns : List ℕ). open_bounds b floor low lower ++ ns) u.open_are;
    })
alike b floor loss rs (halved step v lower upper) (closed named) h = absurd h
alike b floor loss rs (halved step v lower upper) waiting h = absurd h
alike b floor loss rs (closed cause) (halved step v lower upper) h = absurd h
alike b floor loss rs (closed cause) (closed named) h = record {
  stands = close_named b floor loss rs cause named h;
  stood = close_unnamed b floor loss rs cause named h;
  open_are = refl;
}
alike b floor loss rs (closed cause) waiting h = absurd h
alike b floor loss rs waiting (halved step v lower upper) h = absurd h
alike b floor loss rs waiting (closed named) h = absurd h
alike b floor loss rs waiting waiting h = record { stands = λ s. s; stood = λ s. s; open_are = refl }

-- the second tree is of version 2, or of the same later one as the first
all_named : (b : Problem) (version : ℕ) (rs : List Ranges) (t u : Tree) → AreNamed b rs t u → All (FitsVersion version) (nodes_of t) → All (FitsVersion (max 2 version)) (nodes_of u)
all_named b version rs (halved step v lower upper) (halved step' v' lower' upper') h fits =
    let low = half_at lower_half rs step v in let high = half_at upper_half rs step v in
    let rest = All-tail (FitsVersion version) (Node.Split step v) (nodes_of lower ++ nodes_of upper) fits in
    All-cons (FitsVersion (max 2 version)) (Node.Split step' v') (nodes_of lower' ++ nodes_of upper') tt
    (All-append (FitsVersion (max 2 version)) (nodes_of lower') (nodes_of upper')
    (all_named b version low lower lower' h.2 (all_front (FitsVersion version) (nodes_of lower) (nodes_of upper) rest))
    (all_named b version high upper upper' h.3 (all_back (FitsVersion version) (nodes_of lower) (nodes_of upper) rest)))
all_named b version rs (halved step v lower upper) (closed named) h fits = absurd h
all_named b version rs (halved step v lower upper) waiting h fits = absurd h
all_named b version rs (closed cause) (halved step v lower upper) h fits = absurd h
all_named b version rs (closed cause) (closed named) h fits =
    All-cons (FitsVersion (max 2 version)) (Node.Closed named) [] (fits_named b version rs cause named h (All-head (FitsVersion version) (Node.Closed cause) [] fits)) (All-nil (FitsVersion (max 2 version)))
all_named b version rs (closed cause) waiting h fits = absurd h
all_named b version rs waiting (halved step v lower upper) h fits = absurd h
all_named b version rs waiting (closed named) h fits = absurd h
all_named b version rs waiting waiting h fits = All-cons (FitsVersion (max 2 version)) Node.Left [] tt (All-nil (FitsVersion (max 2 version)))

-- the nodes of a right certificate, read as any tree
good_as : (b : Problem) (rs : List Ranges) (loss : Option ℕ) (c : Certificate) (g : IsGood b rs loss c) (t : Tree) → c.nodes.items ≡ nodes_of t
    → Stands b c.floor loss rs t × (visit_bounds b c.floor (visits rs g.tree) ≡ open_bounds b c.floor rs t)
good_as b rs loss c g t e =
    let v : visits rs g.tree ≡ visits rs t =
    sym (good_visits b rs loss c g)
    ∙ ap (λ (ns : List Node). visits_from (rs ∷ []) ns) e ∙ visits_whole t rs in
    let passes = subst (λ (xs : List Visit). All (Passes b c.floor loss) xs) v g.passes in (
      stands_from b c.floor loss t rs passes,
      ap (λ (xs : List Visit). visit_bounds b c.floor xs) v ∙ bounds_are b c.floor t rs,
    )

-- where the first certificate is right, the one that names its causes is
pub good_named : (b : Problem) (rs : List Ranges) (loss : Option ℕ) (c d : Certificate) → IsReasoned b rs c d → IsGood b rs loss c → IsGood b rs loss d
good_named b rs loss c d r g =
    let x = good_as b rs loss c g r.tree r.nodes_are in
    let a = alike b c.floor loss rs r.tree r.named r.are_named in
    let floor = sym r.floor in
    let same = x.1 ∙ sym a.open_are ∙ ap (λ (n : ℕ). open_bounds b n rs r.named) floor in
    good_of b rs loss d r.named r.named_are (r.loss ∙ g.loss_is) (subst (IsFloor b) floor g.floor_is)
    (subst (λ (n : ℕ). Stands b n loss rs r.named) floor (a.stands x.0))
    (r.left ∙ g.left_is ∙ ap (λ (ns : List ℕ). length ns) same)
    (r.bound ∙ g.bound_is ∙ ap (λ (ns : List ℕ). least_of loss ns) same)

good_unnamed : (b : Problem) (rs : List Ranges) (loss : Option ℕ) (c d : Certificate) → IsReasoned b rs c d → IsGood b rs loss d → IsGood b rs loss c
good_unnamed b rs loss c d r g =
    let x = good_as b rs loss d g r.named r.named_are in
    let a = alike b d.floor loss rs r.tree r.named r.are_named in
    let floor = r.floor in
    let same = x.1 ∙ a.open_are ∙ ap (λ (n : ℕ). open_bounds b n rs r.tree) floor in
    good_of b rs loss c r.tree r.nodes_are (sym r.loss ∙ g.loss_is) (subst (IsFloor b) floor g.floor_is)
    (subst (λ (n : ℕ). Stands b n loss rs r.tree) floor (a.stood x.0))
    (sym r.left ∙ g.left_is ∙ ap (λ (ns : List ℕ). length ns) same)
    (sym r.bound ∙ g.bound_is ∙ ap (λ (ns : List ℕ). least_of loss ns) same)

pub same_verdict : SameVerdict
same_verdict b rs loss c d bound left r = (
  (λ h. (good_named b rs loss c d r h.0, h.1 ∙ sym r.bound, h.2 ∙ sym r.left)),
  (λ h. (good_unnamed b rs loss c d r h.0, h.1 ∙ r.bound, h.2 ∙ r.left)),
)

-- a certificate with the same head, of version 2 or of the same later one, whose nodes are those of a right one with their causes named
pub is_reasoned : (b : Problem) (rs : List Ranges) (loss : Option ℕ) (c d : Certificate) → IsGood b rs loss c → HasVersion c → AllZip (IsNamedAt b) (visits_from (rs ∷ []) c.nodes.items) d.nodes.items
    → d.version ≡ max 2 c.version → d.loss ≡ c.loss → d.bound ≡ c.bound → d.left ≡ c.left → d.floor ≡ c.floor → IsReasoned b rs c d
is_reasoned b rs loss c d g has zip version same_loss same_bound same_left same_floor =
    let n = named_tree b g.tree rs d.nodes.items (subst (λ (xs : List Visit). AllZip (IsNamedAt b) xs d.nodes.items) (good_visits b rs loss c g) zip) in
    let fits = all_named b c.version rs g.tree n.named n.are_named (subst (All (FitsVersion c.version)) g.nodes_are has.1.1) in
    record {
      tree = g.tree;
      named = n.named;
      nodes_are = g.nodes_are;
      named_are = n.named_are;
      are_named = n.are_named;
      version = (version, subst (All (FitsVersion (max 2 c.version))) (sym n.named_are) fits, λ low. same_floor ∙ has.1.2 (omega (arith, low)));
      loss = same_loss;
      bound = same_bound;
      left = same_left;
      floor = same_floor;
    }

-- it has a version as well
pub reasoned_version : (b : Problem) (rs : List Ranges) (c d : Certificate) → HasVersion c → IsReasoned b rs c d → HasVersion d
reasoned_version b rs c d has r =
    let same = r.version.0 in
    (omega (arith, same, has.0), subst (λ (version : ℕ). IsVersion version d) (sym same) r.version)
