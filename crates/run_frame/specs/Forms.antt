-- What the program's own values mean: texts, replies.
use Rattle.std.specs.Prelude.{◌≡◌, ℕ, List, map, Result, Ok, Err, IfErr}
use Rattle.std.specs.String.{string_bytes}
use Rattle.glass_base.specs.declared.role.Role.{Role}
use Rattle.glass_base.specs.Run.{Listed}
use Rattle.glass_io.specs.Told.{ReadFailed, SameFaults, Shelf}
use Rattle.command_line.specs.declared.kinds.Product.{Product}
use Rattle.run_frame.specs.declared.fetching.NoReply.{NoReply}
use Rattle.run_frame.specs.declared.fetching.NoReply.TheVariants as no_reply
use Rattle.run_frame.specs.declared.fetching.Wanted.{Wanted}
use Rattle.run_frame.specs.declared.reply.Notice.{Notice}
use Rattle.run_frame.specs.declared.reply.Output.{Output}
use Rattle.run_frame.specs.declared.reply.Reply.{Reply}
use Rattle.run_frame.specs.declared.notices.Stop.{Stop}
use Rattle.run_frame.specs.declared.notices.Stop.TheVariants as stop
use Rattle.run_frame.specs.declared.texts.Text.{Text}
use Rattle.run_frame.specs.Answers.{Answer, Store, only_lines}
use Rattle.run_frame.specs.Texts.{Texts}

-- a file to be fetched, by its role and its name
abbrev pub file_in : Wanted → Role × List ℕ
file_in w = (w.role, w.name.now)

-- a text with its role
abbrev pub text_in : Text → Role × List ℕ
text_in t = (t.role, t.bytes.items)

abbrev pub texts_in : List Text → Texts
texts_in texts = map text_in texts

-- a notice as an answer
abbrev pub notice_in : Notice → Answer
notice_in n = only_lines n.status (string_bytes n.lines)

-- an output as a file that is stored under the name for what it is
abbrev pub store_in : (Product → List ℕ) → Output → Store
store_in name o = record { name = name o.product; bytes = o.bytes.items }

-- a reply as an answer, where its outputs are stored under these names
abbrev pub answer_in : (Product → List ℕ) → Reply → Answer
answer_in name r = record { status = r.status; stores = map (store_in name) r.outputs.items; lines = string_bytes r.lines }

-- the text of a file was fetched, or this is the notice of a file that gives none
abbrev pub FetchesOne : Result Text Notice → Role → Result (List ℕ) Answer → Type 0
FetchesOne (Ok text) of said = (text.role ≡ of) × (said ≡ Ok text.bytes.items)
FetchesOne (Err notice) of said = said ≡ Err (notice_in notice)

-- the texts of files were fetched, or this is the notice of the first file that gives none
abbrev pub GathersAll : Result (Listed Text) Notice → Result Texts Answer → Type 0
GathersAll (Ok texts) said = said ≡ Ok (texts_in texts.items)
GathersAll (Err notice) said = said ≡ Err (notice_in notice)

-- this holds of the notice by which reading stopped, unless memory ran out
abbrev pub OnTold : (Answer → Type 0) → Stop → Type 0
OnTold P (stop.Told notice) = P (notice_in notice)
OnTold P stop.Memory = Unit {0}

-- the answer is the notice by which reading stopped; where memory ran out, there is none
abbrev pub Tells : Stop → Answer → Type 0
Tells (stop.Told notice) answer = answer ≡ notice_in notice
Tells stop.Memory answer = ⊥

-- this holds of the role whose read failed, if one did
abbrev pub OnFault : (Role → Type 0) → NoReply → Type 0
OnFault P (no_reply.ReadFault of) = P of
OnFault P no_reply.Memory = Unit {0}

-- a fault was counted exactly where a read failed, under the role of the file
abbrev pub CountsFetches : {T : Type 0} → Shelf → Shelf → Result T NoReply → Type 0
CountsFetches old new (Ok _) = SameFaults old new
CountsFetches old new (Err no_reply.Memory) = SameFaults old new
CountsFetches old new (Err (no_reply.ReadFault of)) = ReadFailed of old new

-- and this role is the one of the file
abbrev pub CountsFetch : {T : Type 0} → Role → Shelf → Shelf → Result T NoReply → Type 0
CountsFetch role old new result = CountsFetches old new result × IfErr result (OnFault (λ of. of ≡ role))
