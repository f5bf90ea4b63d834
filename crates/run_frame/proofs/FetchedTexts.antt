-- Texts of files that are fetched one after another.
use Rattle.std.proofs.Common.{◌≡◌, ◌∙◌, ℕ, ◌+◌, ◌<◌, List, [], ◌∷◌, ◌++◌, length, map, drop, get_or, refl, append_assoc, Option, Some, None, Result, Ok, Err, IfSome, inl, inr}
use Rattle.std.proofs.lemmas.List.{at_drop_more, drop_more, map-append}
use Rattle.glass_base.specs.declared.role.Role.{Role}
use Rattle.glass_io.specs.Told.{Contents}
use Rattle.run_frame.specs.Answers.{Answer}
use Rattle.run_frame.specs.Forms.{FetchesOne, OnFault, file_in, text_in, texts_in}
use Rattle.run_frame.specs.Texts.{Reaches, Texts, put_before, text_of, texts_of}
use Rattle.run_frame.specs.declared.fetching.NoReply.{NoReply}
use Rattle.run_frame.specs.declared.fetching.NoReply.TheVariants as no_reply
use Rattle.run_frame.specs.declared.fetching.Wanted.{Wanted}
use Rattle.run_frame.specs.declared.reply.Notice.{Notice}
use Rattle.run_frame.specs.declared.texts.Text.{Text}

-- texts before those that come later
abbrev pub with_front : Texts → Result Texts Answer → Result Texts Answer
with_front front (Ok texts) = Ok (front ++ texts)
with_front front (Err refusal) = Err refusal

-- the text of a file
abbrev pub text_at : Contents → Wanted → Result (List ℕ) Answer
text_at contents file = text_of file.role (contents file.name.now)

-- the texts so far, before those of the files from this index on, are all
abbrev pub GathersSoFar : Option Contents → List Wanted → List Text → ℕ → Type 0
GathersSoFar old wanted texts index =
    IfSome old (λ contents. with_front (texts_in texts) (texts_of contents (map file_in (drop index wanted))) ≡ texts_of contents (map file_in wanted))

-- what is reached from this index on is reached
abbrev pub ReachesSoFar : Option Contents → List Wanted → ℕ → Type 0
ReachesSoFar old wanted index =
    IfSome old (λ contents. (of : Role) → Reaches contents of (map file_in (drop index wanted)) → Reaches contents of (map file_in wanted))

-- a text behind the front is a text before the later ones
with_front-more : (front : List Text) (text : Text) (later : Result Texts Answer) →
    with_front (texts_in (front ++ text ∷ [])) later ≡ with_front (texts_in front) (put_before (text_in text) later)
with_front-more front text (Ok texts) = rw (map-append, append_assoc) refl
with_front-more front text (Err refusal) = refl

-- one more text is gathered, of contents that are told
gathers_told : (contents : Contents) (wanted : List Wanted) (index : ℕ) (beyond : Wanted) (front : List Text) (text : Text) → index < length wanted →
    FetchesOne (Ok text) (get_or wanted index beyond).role (text_at contents (get_or wanted index beyond)) → GathersSoFar (Some contents) wanted front index →
    GathersSoFar (Some contents) wanted (front ++ text ∷ []) (index + 1)
gathers_told contents wanted index beyond front text within fetched so_far =
    with_front-more front text _ ∙ (rw (at_drop_more (λ files. texts_of contents (map file_in files)) wanted index beyond within, fetched.1, ← fetched.0) at so_far)

-- what is reached behind a file that gives its text is reached, of contents that are told
reaches_told : (contents : Contents) (wanted : List Wanted) (index : ℕ) (beyond : Wanted) (text : List ℕ) →
    index < length wanted → text_at contents (get_or wanted index beyond) ≡ Ok text → ReachesSoFar (Some contents) wanted index →
    ReachesSoFar (Some contents) wanted (index + 1)
reaches_told contents wanted index beyond text within ok reached of behind =
    reached of (rw (drop_more wanted index beyond within) (inr (rw ok refl, behind)))

-- one more text is gathered
pub gathers_more : (old now : Option Contents) (wanted : List Wanted) (index : ℕ) (beyond : Wanted) (front after : List Text) (fetch : Result Text Notice) (text : Text) →
    index < length wanted → now ≡ old → fetch ≡ Ok text → after ≡ front ++ text ∷ [] →
    IfSome now (λ contents. FetchesOne fetch (get_or wanted index beyond).role (text_at contents (get_or wanted index beyond))) →
    GathersSoFar old wanted front index → GathersSoFar old wanted after (index + 1)
gathers_more None now wanted index beyond front after fetch text within same is more fetched so_far = tt
gathers_more (Some contents) now wanted index beyond front after fetch text within same is more fetched so_far =
    rw more (gathers_told contents wanted index beyond front text within (rw (same, is) at fetched) so_far)

-- what is reached behind a file that gives its text is reached
pub reaches_more : (old now : Option Contents) (wanted : List Wanted) (index : ℕ) (beyond : Wanted) (fetch : Result Text Notice) (text : Text) →
    index < length wanted → now ≡ old → fetch ≡ Ok text →
    IfSome now (λ contents. FetchesOne fetch (get_or wanted index beyond).role (text_at contents (get_or wanted index beyond))) →
    ReachesSoFar old wanted index → ReachesSoFar old wanted (index + 1)
reaches_more None now wanted index beyond fetch text within same is fetched reached = tt
reaches_more (Some contents) now wanted index beyond fetch text within same is fetched reached =
    let one : FetchesOne (Ok text) (get_or wanted index beyond).role (text_at contents (get_or wanted index beyond)) = rw (same, is) at fetched in
    reaches_told contents wanted index beyond text.bytes.items within one.1 reached

-- a file whose read failed is reached
pub reaches_fault : (old : Option Contents) (wanted : List Wanted) (index : ℕ) (beyond : Wanted) (fault : NoReply) →
    index < length wanted → OnFault (λ of. of ≡ (get_or wanted index beyond).role) fault → ReachesSoFar old wanted index →
    OnFault (λ of. IfSome old (λ contents. Reaches contents of (map file_in wanted))) fault
reaches_fault old wanted index beyond no_reply.Memory within cause reached = tt
reaches_fault None wanted index beyond (no_reply.ReadFault of) within cause reached = tt
reaches_fault (Some contents) wanted index beyond (no_reply.ReadFault of) within cause reached =
    reached of (rw (drop_more wanted index beyond within) (inl cause))
