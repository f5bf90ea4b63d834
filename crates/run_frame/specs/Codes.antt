-- The codes that a program ends with, the words of searches, and the statuses of answers.
use Rattle.std.specs.Prelude.{◌≡◌, ℕ, List, [], Bool, true, false, codes}
use Rattle.run_frame.specs.declared.status.Status.{Status}
use Rattle.run_frame.specs.declared.status.Status.TheVariants as status

abbrev pub code_of : Status → ℕ
code_of status.Optimal = 0
code_of status.Stopped = 1
code_of status.Infeasible = 2
code_of status.Usage = 3
code_of status.ReadFault = 4
code_of status.Absent = 5
code_of status.TooLong = 6
code_of status.BadInput = 7
code_of status.Memory = 8
code_of status.Unlawful = 9
code_of status.Refused = 10
code_of status.NoDraft = 11
code_of status.WriteFault = 12
code_of status.Done = 0

-- the word that is printed for how a search ended; the other statuses have none
abbrev pub word_of : Status → List ℕ
word_of status.Optimal = codes "optimal"
word_of status.Stopped = codes "stopped"
word_of status.Infeasible = codes "infeasible"
word_of _ = []

-- whether a status is that of an answer: not of wrong words, of a fault, or of want of memory
abbrev pub is_answered : Status → Bool
is_answered status.Usage = false
is_answered status.ReadFault = false
is_answered status.Memory = false
is_answered status.WriteFault = false
is_answered _ = true

abbrev pub IsAnswered : Status → Type 0
IsAnswered status = is_answered status ≡ true
