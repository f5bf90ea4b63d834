use Rattle.std.proofs.Common.{◌≡◌, ◌+◌, ◌≤◌, List, ℕ, Option, map, max, option_map, refl, ap, ◌∙◌, sym, subst, fold, length}
use Rattle.std.specs.Prelude.{All, sum_by}
use Rattle.cert_log.specs.declared.certificate.Certificate.{Certificate}
use Rattle.cert_log.specs.declared.certificate.Node.{Node}
use Rattle.cert_log.specs.Good.{IsVersion, IsVersionFor, version_for}
use Rattle.cert_log.specs.Trees.{FitsVersion}
use Rattle.cert_resume.specs.Joins.{IsJoined, bounds_of, filled, lesser_of, nodes_in}
use Rattle.cert_resume.proofs.Filling.{fills_count, fills_version, low_floors, no_floor_before}
use Rattle.cert_resume.proofs.Grown.{keeps_right}
use Rattle.cert_resume.proofs.joining.join.Goals as goal

-- what is made of these nodes is what the certificate and the parts are joined to
joined : (c : Certificate) (parts : List Certificate) (floor : ℕ) (loss : Option ℕ) (j : Certificate) → IsVersion c.version c → 2 ≤ c.version → All (IsVersionFor floor) parts → j.version ≡ max c.version (version_for floor)
    → j.nodes.items ≡ filled c.nodes.items (nodes_in parts) → j.loss ≡ loss → j.left ≡ sum_by (λ (p : Certificate). p.left) parts → j.floor ≡ floor
    → j.bound ≡ fold lesser_of loss (map (option_map (max floor)) (bounds_of parts)) → IsJoined c parts floor loss j
joined c parts floor loss j version later versions is nodes loss_is left floor_is bound = record {
  version = (is, subst (All (FitsVersion (max c.version (version_for floor)))) (sym nodes) (fills_version c parts floor later version versions), λ low. floor_is ∙ no_floor_before c.version floor low);
  floor_is = floor_is;
  nodes_are = nodes;
  loss_is = loss_is;
  left_is = left;
  bound_is = bound;
}

pub returns-clause-joined : goal.returns-clause-joined
returns-clause-joined c =
    joined c.args.cert.now c.args.parts.items c.args.floor c.args.loss _ c.requires.version.1 c.requires.later c.requires.versions c.version_with.ensures
    (c.in_ok-nodes.ensures ∙ rw (c.as_slice.ensures, c.as_slice-2.ensures) refl) refl
    (c.all_left.ensures ∙ ap (λ (ps : List Certificate). sum_by (λ (p : Certificate). p.left) ps) c.as_slice-4.ensures)
    refl
    (c.least_bound.ensures ∙ ap (λ (ps : List Certificate). fold lesser_of c.args.loss (map (option_map (max c.args.floor)) (bounds_of ps))) c.as_slice-3.ensures)

pub returns-clause-right : goal.returns-clause-right
returns-clause-right c =
    keeps_right c.args.cert.now c.args.parts.items c.args.floor c.args.loss _ c.requires.floor (low_floors c.args.floor c.args.parts.items c.requires.versions)
    (joined c.args.cert.now c.args.parts.items c.args.floor c.args.loss _ c.requires.version.1 c.requires.later c.requires.versions c.version_with.ensures
    (c.in_ok-nodes.ensures ∙ rw (c.as_slice.ensures, c.as_slice-2.ensures) refl) refl
    (c.all_left.ensures ∙ ap (λ (ps : List Certificate). sum_by (λ (p : Certificate). p.left) ps) c.as_slice-4.ensures)
    refl
    (c.least_bound.ensures ∙ ap (λ (ps : List Certificate). fold lesser_of c.args.loss (map (option_map (max c.args.floor)) (bounds_of ps))) c.as_slice-3.ensures))

pub returns-clause-nodes : goal.returns-clause-nodes
returns-clause-nodes c =
    let nodes : c.in_ok-nodes.nodes.items ≡ filled c.args.cert.now.nodes.items (nodes_in c.args.parts.items) = c.in_ok-nodes.ensures ∙ rw (c.as_slice.ensures, c.as_slice-2.ensures) refl in
    ap (λ (ns : List Node). length ns + length c.args.parts.items) nodes ∙ fills_count c.args.cert.now.nodes.items c.args.parts.items c.requires.parts
