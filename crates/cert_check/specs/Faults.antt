-- What is wrong with a certificate, and where.
use Rattle.std.specs.Prelude.{◌≡◌, ◌≢◌, ℕ, suc, ◌+◌, ◌<◌, ◌⊎◌, List, ◌∷◌, ◌++◌, length, take, Option, IsTrue, All}
use Rattle.glass_base.specs.Problem.{Problem}
use Rattle.plan_box.specs.Ranges.{Ranges}
use Rattle.plan_box.specs.Decisions.{is_free}
use Rattle.plan_box.specs.Bounds.{bound}
use Rattle.plan_box.specs.Reasons.{IsRefuted, IsFirstReason, reason_number}
use Rattle.plan_box.specs.declared.reason.Reason.{Reason}
use Rattle.cert_log.specs.declared.certificate.Certificate.{Certificate}
use Rattle.cert_log.specs.declared.certificate.Node.{Node}
use Rattle.cert_log.specs.declared.history.Cause.{Cause}
use Rattle.cert_log.specs.Good.{Reaches, Passes, visit_bounds, least_of, IsFloor, IsGood}
use Rattle.cert_log.specs.Texts.{lines_of}
use Rattle.cert_log.specs.Trees.{Tree, nodes_of}
use Rattle.cert_log.specs.Visits.{Visit, visits}
use Rattle.cert_check.specs.declared.verdict.Why.{Why}
use Rattle.cert_check.specs.declared.verdict.Verdict.{Verdict}

-- the number of the first reason that applies to the box, 0 where none does
abbrev pub IsFound : Problem → List Ranges → ℕ → Type 0
IsFound b rs found = ((found ≡ 0) × ¬ IsRefuted b rs) ⊎ ((r : Reason) × IsFirstReason b rs r × (found ≡ reason_number r))

-- another reason is the first that applies to the box, or none applies
abbrev pub IsOtherReason : Problem → List Ranges → Reason → Why → Type 0
IsOtherReason b rs r why = ¬ IsFirstReason b rs r × ((found : ℕ) × IsFound b rs found × (why ≡ Why.WrongCause (reason_number r) found))

-- the number does not reach the loss
abbrev pub FallsShort : Option ℕ → ℕ → Why → Type 0
FallsShort loss n why = ¬ Reaches loss n × (why ≡ Why.NotClosed n loss)

-- why a box may not be closed for this cause
abbrev pub FailsToClose : Problem → ℕ → Option ℕ → List Ranges → Cause → Why → Type 0
FailsToClose b floor loss rs (Cause.Reason r) why = IsOtherReason b rs r why
FailsToClose b floor loss rs Cause.Bound why = FallsShort loss (bound b rs) why
FailsToClose b floor loss rs Cause.Floor why = FallsShort loss floor why
FailsToClose b floor loss rs Cause.Unsaid why = ¬ IsRefuted b rs × FallsShort loss (bound b rs) why

-- why the node may not stand at this box
abbrev pub NodeFails : Problem → ℕ → Option ℕ → List Ranges → Node → Why → Type 0
NodeFails b floor loss rs (Node.Split step v) why = ¬ IsTrue (is_free rs step v) × (why ≡ Why.Split step v)
NodeFails b floor loss rs (Node.Closed cause) why = FailsToClose b floor loss rs cause why
NodeFails b floor loss rs Node.Left why = ⊥

-- the same of a node with its box
abbrev pub Fails : Problem → ℕ → Option ℕ → Visit → Why → Type 0
Fails b floor loss x why = NodeFails b floor loss x.ranges x.node why

-- the line of the text on which the node of this number stands; the first line is the head
abbrev pub line_of : Certificate → ℕ → ℕ
line_of c k = 1 + length (lines_of c.version (take (suc k) c.nodes.items))

-- the first of these nodes that may not stand at its box
pub record IsNodeFault (b : Problem) (loss : Option ℕ) (c : Certificate) (xs : List Visit) (line : ℕ) (why : Why) : Type 0 where
  pub before : List Visit
  pub here : Visit
  pub later : List Visit
  pub visits_are : xs ≡ before ++ here ∷ later
  pub passed : All (Passes b c.floor loss) before
  pub fails : Fails b c.floor loss here why
  pub line_is : line ≡ line_of c (length before)

-- the floor is not shown: this one, which is less, is
pub record IsFloorFault (b : Problem) (c : Certificate) (line : ℕ) (why : Why) : Type 0 where
  pub found : ℕ
  pub shown : IsFloor b found
  pub less : found < c.floor
  pub line_is : line ≡ 1
  pub why_is : why ≡ Why.WrongFloor c.floor found

-- the first check that fails: the said loss; the nodes, each at its box; the said number of open nodes; the said bound; the said floor
abbrev pub FirstFails : Problem → Option ℕ → Certificate → List Visit → ℕ → Why → Type 0
FirstFails b loss c xs line why =
    ((c.loss ≢ loss) × (line ≡ 1) × (why ≡ Why.WrongLoss c.loss loss))
    ⊎ ((c.loss ≡ loss) × IsNodeFault b loss c xs line why)
    ⊎ ((c.loss ≡ loss) × All (Passes b c.floor loss) xs × (c.left ≢ length (visit_bounds b c.floor xs)) × (line ≡ 1)
    × (why ≡ Why.WrongOpen c.left (length (visit_bounds b c.floor xs))))
    ⊎ ((c.loss ≡ loss) × All (Passes b c.floor loss) xs × (c.left ≡ length (visit_bounds b c.floor xs)) × (c.bound ≢ least_of loss (visit_bounds b c.floor xs)) × (line ≡ 1)
    × (why ≡ Why.WrongBound c.bound (least_of loss (visit_bounds b c.floor xs))))
    ⊎ ((c.loss ≡ loss) × All (Passes b c.floor loss) xs × (c.left ≡ length (visit_bounds b c.floor xs)) × (c.bound ≡ least_of loss (visit_bounds b c.floor xs))
    × IsFloorFault b c line why)

-- the certificate fails a check for this box, this one first
pub record IsFirstFault (b : Problem) (rs : List Ranges) (loss : Option ℕ) (c : Certificate) (line : ℕ) (why : Why) : Type 0 where
  pub tree : Tree
  pub nodes_are : c.nodes.items ≡ nodes_of tree
  pub fails : FirstFails b loss c (visits rs tree) line why

-- what a failed check says of the certificate: it is not right; but where its floor was not shown, that may hold all the same
abbrev pub SaysWrong : Problem → List Ranges → Option ℕ → Certificate → Why → Type 0
SaysWrong b rs loss c (Why.WrongFloor said found) = Unit {0}
SaysWrong b rs loss c why = ¬ IsGood b rs loss c

-- what a check answers
abbrev pub Answers : Problem → List Ranges → Option ℕ → Certificate → Verdict → Type 0
Answers b rs loss c (Verdict.Accept bound left) = IsGood b rs loss c × (bound ≡ c.bound) × (left ≡ c.left)
Answers b rs loss c (Verdict.Refuse line why) = IsFirstFault b rs loss c line why × SaysWrong b rs loss c why
