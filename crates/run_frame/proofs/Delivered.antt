-- What was stored of a reply, and printed, is what its answer says.
use Rattle.std.proofs.Common.{◌≡◌, ℕ, List, map, refl, subst, inl, inr}
use Rattle.std.specs.String.{string_bytes}
use Rattle.glass_io.specs.Told.{Paper, SameFaults, Shelf, WriteFailed}
use Rattle.command_line.specs.declared.kinds.Product.{Product}
use Rattle.run_frame.specs.Deliveries.{Delivers, Ends}
use Rattle.run_frame.specs.Forms.{answer_in, store_in}
use Rattle.run_frame.specs.Runs.{CutShort, Stands, StandsInPart, world}
use Rattle.run_frame.specs.declared.reply.Output.{Output}
use Rattle.run_frame.specs.declared.reply.Reply.{Reply}
use Rattle.run_frame.specs.declared.status.Status.{Status}
use Rattle.run_frame.specs.declared.status.Status.TheVariants as status

-- all was stored, and the lines were printed, as far as nothing failed
pub all_delivered : (name : Product → List ℕ) (reply : Reply) (outputs : List Output) (lines : List ℕ) (a b : Shelf) (p q : Paper) (result : Status) → outputs ≡ reply.outputs.items
    → lines ≡ string_bytes reply.lines → Stands (map (store_in name) outputs) a.contents b.contents → SameFaults a b → Ends lines reply.status p q result
    → Delivers (answer_in name reply) (world a p) (world b q) result
all_delivered name reply outputs lines a b p q result is says stored faults ends =
    inl (
      record { stored = subst (λ (os : List Output). Stands (map (store_in name) os) a.contents b.contents) is stored; faults = faults },
      subst (λ (ls : List ℕ). Ends ls reply.status p q result) says ends,
    )

-- a store failed
pub cut_delivered : (name : Product → List ℕ) (reply : Reply) (outputs : List Output) (a b : Shelf) (p : Paper) → outputs ≡ reply.outputs.items
    → CutShort (map (store_in name) outputs) a.contents b.contents → WriteFailed a b → Delivers (answer_in name reply) (world a p) (world b p) status.WriteFault
cut_delivered name reply outputs a b p is stored counted =
    inr
    (inl (refl, record { stored = subst (λ (os : List Output). CutShort (map (store_in name) os) a.contents b.contents) is stored; counted = counted; silent = refl }))

-- a store found no memory
pub part_delivered : (name : Product → List ℕ) (reply : Reply) (outputs : List Output) (a b : Shelf) (p : Paper) → outputs ≡ reply.outputs.items
    → StandsInPart (map (store_in name) outputs) a.contents b.contents → SameFaults a b → Delivers (answer_in name reply) (world a p) (world b p) status.Memory
part_delivered name reply outputs a b p is stored faults =
    inr
    (inr (refl, record { stored = subst (λ (os : List Output). StandsInPart (map (store_in name) os) a.contents b.contents) is stored; faults = faults; silent = refl }))
