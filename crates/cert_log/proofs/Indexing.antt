-- A table of places by identity, entered one after the other.
use Rattle.std.proofs.Common.{◌≡◌, ℕ, ◌+◌, ◌<◌, inl, inr, List, length, map, get_or, set, sym, ap, ◌∙◌, subst, arith}
use Rattle.std.proofs.lemmas.List.{get_or-map, get_or_append_left, get_or-append-add, get_or-set_same, get_or-set_other, length-append, length-map}
use Rattle.std.proofs.lemmas.Bool.{cases_eq}
use Rattle.std.specs.Prelude.{All}
use Rattle.cert_log.specs.declared.history.Note.{Note}
use Rattle.cert_log.specs.declared.history.Left.{Left}
use Rattle.cert_log.specs.declared.history.History.{History}
use Rattle.cert_log.specs.Lawful.{ids_of}
use Rattle.cert_log.specs.inner.Places.{IsIndexed}

-- an identity is entered at its own place
entered : (ids entries : List ℕ) (n x k : ℕ) → x ≡ get_or ids n 0 → x < length entries → get_or ids k 0 ≡ x
    → (get_or (set entries x n) (get_or ids k 0) 0 < n + 1) × (get_or ids (get_or (set entries x n) (get_or ids k 0) 0) 0 ≡ get_or ids k 0)
entered ids entries n x k is within same =
    let e : get_or (set entries x n) (get_or ids k 0) 0 ≡ n = ap (λ (j : ℕ). get_or (set entries x n) j 0) same ∙ get_or-set_same entries x n 0 within in
    (omega arith, ap (λ (j : ℕ). get_or ids j 0) e ∙ sym is ∙ sym same)

-- the other entries stay
stays : (ids entries : List ℕ) (n x k : ℕ) → (get_or ids k 0 ≡ x → ⊥)
    → (get_or entries (get_or ids k 0) 0 < n) × (get_or ids (get_or entries (get_or ids k 0) 0) 0 ≡ get_or ids k 0)
    → (get_or (set entries x n) (get_or ids k 0) 0 < n + 1) × (get_or ids (get_or (set entries x n) (get_or ids k 0) 0) 0 ≡ get_or ids k 0)
stays ids entries n x k other was =
    let e : get_or (set entries x n) (get_or ids k 0) 0 ≡ get_or entries (get_or ids k 0) 0 = get_or-set_other entries x (get_or ids k 0) n 0 other in
    (omega (arith, was.0), ap (λ (j : ℕ). get_or ids j 0) e ∙ was.1)

pub index_more : (ids entries : List ℕ) (n x : ℕ) → x ≡ get_or ids n 0 → x < length entries → IsIndexed ids n entries → IsIndexed ids (n + 1) (set entries x n)
index_more ids entries n x is within was k below =
    elim (cases_eq (get_or ids k 0) x) [
      | inl same ↦ entered ids entries n x k is within same
      | inr other ↦
          elim (cases_eq k n) [
            | inl last ↦ absurd (other (ap (λ (j : ℕ). get_or ids j 0) last ∙ sym is))
            | inr earlier ↦ stays ids entries n x k other (was k (omega arith))
          ]
    ]

-- as many identities as notes and left boxes
pub count_ids : (h : History) → length (ids_of h) ≡ length h.log.items + length h.left.items
count_ids h =
    let a = length-append (map (λ (n : Note). n.id) h.log.items) (map (λ (l : Left). l.bx.id) h.left.items) in
    let m = length-map h.log.items (λ (n : Note). n.id) in let k = length-map h.left.items (λ (l : Left). l.bx.id) in omega arith

module _ (h : History) (i : ℕ) where
  note_id : (log : List Note) (d : Note) → log ≡ h.log.items → i < length log → get_or (ids_of h) i 0 ≡ (get_or log i d).id
  note_id log d is within =
      let m = length-map h.log.items (λ (n : Note). n.id) in let n = ap length is in
      get_or_append_left (map (λ (n : Note). n.id) h.log.items) (map (λ (l : Left). l.bx.id) h.left.items) 0 i (omega arith)
      ∙ get_or-map (λ (n : Note). n.id) h.log.items i d 0 (omega arith)
      ∙ ap (λ (ns : List Note). (get_or ns i d).id) (sym is)

  box_id : (left : List Left) (l : Left) → left ≡ h.left.items → i < length left → l ≡ get_or left i l → get_or (ids_of h) (length h.log.items + i) 0 ≡ l.bx.id
  box_id left l is within at =
      let n = ap length is in
      ap (λ (n : ℕ). get_or (ids_of h) (n + i) 0) (sym (length-map h.log.items (λ (n : Note). n.id)))
      ∙ get_or-append-add (map (λ (n : Note). n.id) h.log.items) (map (λ (l : Left). l.bx.id) h.left.items) i 0
      ∙ get_or-map (λ (l : Left). l.bx.id) h.left.items i l 0 (omega arith)
      ∙ ap (λ (ls : List Left). (get_or ls i l).bx.id) (sym is)
      ∙ ap (λ (l : Left). l.bx.id) (sym at)

  -- the identity of a note lies in the table; `log` is the list that is read
  pub note_within : (room n : ℕ) → All (λ id. id < room) (ids_of h) → room ≡ n → (log : List Note) (d : Note) → log ≡ h.log.items → i < length log → (get_or log i d).id < n
  note_within room n known len log d is within =
      let c = count_ids h in let a = ap length is in let r = known i 0 (omega arith) in let e = note_id log d is within in omega arith

  -- and so does that of a left box
  pub box_within : (room n : ℕ) → All (λ id. id < room) (ids_of h) → room ≡ n → (left : List Left) (l : Left) (id : ℕ) → left ≡ h.left.items → i < length left → l ≡ get_or left i l → id ≡ l.bx.id → id < n
  box_within room n known len left l id is within at same =
      let c = count_ids h in let a = ap length is in let r = known (length h.log.items + i) 0 (omega arith) in
      let e = box_id left l is within at in omega arith

  -- one more note is entered
  pub enter_note : (room : ℕ) (entries : List ℕ) → All (λ id. id < room) (ids_of h) → length entries ≡ room → (log : List Note) (d : Note) → log ≡ h.log.items → i < length log
      → IsIndexed (ids_of h) i entries → IsIndexed (ids_of h) (i + 1) (set entries (get_or log i d).id i)
  enter_note room entries known len log d is within was =
      index_more (ids_of h) entries i (get_or log i d).id (sym (note_id log d is within)) (note_within room (length entries) known (sym len) log d is within) was

  -- one more left box is entered
  pub enter_box : (room : ℕ) (entries : List ℕ) → All (λ id. id < room) (ids_of h) → length entries ≡ room → (left : List Left) (l : Left) (id place : ℕ)
      → left ≡ h.left.items → i < length left → l ≡ get_or left i l → id ≡ l.bx.id → place ≡ length h.log.items + i
      → IsIndexed (ids_of h) (length h.log.items + i) entries → IsIndexed (ids_of h) (length h.log.items + (i + 1)) (set entries id place)
  enter_box room entries known len left l id place is within at same counted was =
      let f = index_more (ids_of h) entries (length h.log.items + i) id (same ∙ sym (box_id left l is within at)) (box_within room (length entries) known (sym len) left l id is within at same) was in
      let q : (length h.log.items + i) + 1 ≡ length h.log.items + (i + 1) = omega arith in
      subst (λ (n : ℕ). IsIndexed (ids_of h) n (set entries id place)) q (subst (λ (p : ℕ). IsIndexed (ids_of h) ((length h.log.items + i) + 1) (set entries id p)) (sym counted) f)
