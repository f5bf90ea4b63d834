-- The true causes of closed nodes, and the certificate that names them.
use Rattle.std.specs.Prelude.{◌≡◌, ◌↔◌, ℕ, max, List, Option}
use Rattle.glass_base.specs.Problem.{Problem}
use Rattle.plan_box.specs.Ranges.{Ranges}
use Rattle.plan_box.specs.Halves.{lower_half, upper_half, half_at}
use Rattle.plan_box.specs.Reasons.{IsRefuted, IsFirstReason}
use Rattle.cert_log.specs.declared.certificate.Certificate.{Certificate}
use Rattle.cert_log.specs.declared.history.Cause.{Cause}
use Rattle.cert_log.specs.Good.{IsVersion}
use Rattle.cert_log.specs.Trees.{Tree, halved, closed, waiting, nodes_of}
use Rattle.cert_check.specs.declared.verdict.Verdict.{Verdict}
use Rattle.cert_check.specs.Faults.{Answers}

-- the true cause for which a box is closed: the first reason that applies to it, or else its bound
abbrev pub IsTrueCause : Problem → List Ranges → Cause → Type 0
IsTrueCause b rs (Cause.Reason r) = IsFirstReason b rs r
IsTrueCause b rs Cause.Bound = ¬ IsRefuted b rs
IsTrueCause b rs cause = ⊥

-- a cause that was not said is named, by the true one; one that was said stays
abbrev pub IsNamed : Problem → List Ranges → Cause → Cause → Type 0
IsNamed b rs Cause.Unsaid named = IsTrueCause b rs named
IsNamed b rs cause named = named ≡ cause

-- the second tree is the first one with its causes named, walking both from the box
abbrev pub AreNamed : Problem → List Ranges → Tree → Tree → Type 0
AreNamed b rs (halved step v lower upper) (halved step' v' lower' upper') =
    (step' ≡ step) × (v' ≡ v) × AreNamed b (half_at lower_half rs step v) lower lower' × AreNamed b (half_at upper_half rs step v) upper upper'
AreNamed b rs (closed cause) (closed named) = IsNamed b rs cause named
AreNamed b rs waiting waiting = Unit {0}
AreNamed b rs tree other = ⊥

-- the second certificate is of version 2, or of the same later one, and says the same as the first one with its causes named, walking both from the box
pub record IsReasoned (b : Problem) (rs : List Ranges) (c d : Certificate) : Type 0 where
  pub tree : Tree
  pub named : Tree
  pub nodes_are : c.nodes.items ≡ nodes_of tree
  pub named_are : d.nodes.items ≡ nodes_of named
  pub are_named : AreNamed b rs tree named
  pub version : IsVersion (max 2 c.version) d
  pub loss : d.loss ≡ c.loss
  pub bound : d.bound ≡ c.bound
  pub left : d.left ≡ c.left
  pub floor : d.floor ≡ c.floor

-- a certificate, of version 1 say, is accepted exactly where the one is that names its causes, and with the same bound and number of open boxes
abbrev pub SameVerdict : Type 0
SameVerdict = (b : Problem) (rs : List Ranges) (loss : Option ℕ) (c d : Certificate) (bound : Option ℕ) (left : ℕ) → IsReasoned b rs c d →
    Answers b rs loss c (Verdict.Accept bound left) ↔ Answers b rs loss d (Verdict.Accept bound left)
