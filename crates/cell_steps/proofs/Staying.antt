-- Cells whose entities a step doesn't write.
use Rattle.std.proofs.Common.{◌≡◌, ℕ, true, false, ◌&&◌, ◌==◌, List, Some, None, refl, sym, ap, ◌∙◌, eq-eqb}
use Rattle.std.proofs.lemmas.Bool.{false≢true}
use Rattle.base_types.specs.declared.histories.Entry.{Entry}
use Rattle.page_store.specs.model_kernel.Histories.{writes}
use Rattle.page_store.specs.model_kernel.LocalEvents.{touch_at}
use Rattle.page_store.specs.model_kernel.State.{Supply, EntityState, KernelState}
use Rattle.page_store.specs.model_kernel.Steps.{step}
use Rattle.page_store.proofs.model_kernel_lemmas.Basics.{both}
use Rattle.page_store.proofs.model_kernel_lemmas.Locality.{step_local}
use Rattle.page_store.proofs.model_kernel_lemmas.Replay.{any_at, at_entity}
use Rattle.cell_looks.specs.cell_states.Cells.{HasCell}
use Rattle.cell_looks.specs.cell_states.declared.cells.Cell.{Cell}

-- an entity that a step doesn't write stays
unwritten_stays : (s : Supply) (me : ℕ) (w v : KernelState) (e : Entry) (x : ℕ) → step s me w ≡ Some (e, v) → writes e x ≡ false → v x ≡ w x
unwritten_stays s me w v e x is none =
    elim (touch_at e.touched x) as (λ o. touch_at e.touched x ≡ o → v x ≡ w x) [
      | None ↦ λ f. (step_local s me).stays w (e, v) is x f
      | Some t ↦ λ f. elim t.wrote as (λ b. t.wrote ≡ b → v x ≡ w x) [
        | true ↦ λ wrote.
            let some = any_at (λ t. t.entity == x && t.wrote) e.touched x t f (both _ _ (eq-eqb _ _ (at_entity e.touched x t f)) wrote) in
            absurd (false≢true (sym none ∙ some))
        | false ↦ λ read. ((step_local s me).reads w (e, v) is x t f read).0
      ] refl
    ] refl

pub cell_stays : (s : Supply) (words : ℕ → List ℕ) (me : ℕ) (w v : KernelState) (e : Entry) (c : Cell) → step s me w ≡ Some (e, v) → writes e c.clock.entity ≡ false → HasCell s words w c → HasCell s words v c
cell_stays s words me w v e c is none has =
    let same = unwritten_stays s me w v e c.clock.entity is none in
    record {
      part = ap (λ (k : EntityState). k.cell) same ∙ has.part;
      clock = record { version = ap (λ (k : EntityState). k.version) same ∙ has.clock.version; stamp = λ y. ap (λ (k : EntityState). k.stamp y) same ∙ has.clock.stamp y };
    }
