-- The entry of a step over the table.
use Rattle.std.proofs.Common.{◌≡◌, ◌⊎◌, inl, inr, ℕ, ◌+◌, true, false, ◌==◌, if◌then◌else◌, List, slice_get, Option, Some, refl, sym, ap, ◌∙◌, arith, eqb-true, eq-eqb}
use Rattle.cell_steps.specs.base_types.declared.histories.Entry.{Entry}
use Rattle.cell_steps.specs.model_kernel.Histories.{writes}
use Rattle.cell_steps.specs.model_kernel.State.{KernelState, LocusState, Supply}
use Rattle.cell_steps.specs.model_kernel.Steps.{step}
use Rattle.cell_steps.specs.cell_states.declared.cells.Cell.{Cell}
use Rattle.cell_step_laws.specs.Touching.{IsNoted}
use Rattle.cell_step_laws.proofs.Noted.{names}
use Rattle.table_laws.specs.Steps.{ChangesThree, EntersStep}
use Rattle.table_laws.proofs.PartKinds.{version_rises}
use Rattle.std.proofs.lemmas.Bool.{false≢true}

-- a cell stays, of an entity that isn't written, or takes in the step
abbrev pub StaysOrNotes : Entry → Option LocusState → ℕ → Cell → Cell → Type 0
StaysOrNotes e l x c d = ((d ≡ c) × (writes e x ≡ false)) ⊎ ((c.clock.entity ≡ x) × IsNoted e l c d)

pub entered_by : (s : Supply) (me : ℕ) (w v : KernelState) (cs cs' : List Cell) (e : Entry) (l : Option LocusState) → step s me w ≡ Some (e, v)
    → ((x : ℕ) (c : Cell) → slice_get cs x ≡ Some c → (w x).version ≡ c.clock.version) → ((x : ℕ) (d : Cell) → slice_get cs' x ≡ Some d → (v x).version ≡ d.clock.version)
    → ((x : ℕ) (c d : Cell) → slice_get cs x ≡ Some c → slice_get cs' x ≡ Some d → StaysOrNotes e l x c d) → ChangesThree cs cs' → EntersStep me cs cs' e
entered_by s me w v cs cs' e l is before after notes three = record {
  event = (names s me w v e is).1;
  actor = (names s me w v e is).0;
  versions = λ x c d at to. (
      let rises = version_rises s me w v e x is in
      let old = before x c at in
      let new = after x d to in
      (omega (arith, rises.0, old, new), omega (arith, rises.1, old, new)));
  newest = λ x c d at to. newest x c d (notes x c d at to);
  left = λ x c d at to. left x c d (notes x c d at to);
  three = three;
}
  where
    newest : (x : ℕ) (c d : Cell) → StaysOrNotes e l x c d → d.wish.newest ≡ c.wish.newest
    newest x c d (inl stays) = ap (λ (k : Cell). k.wish.newest) stays.0
    newest x c d (inr note) = note.1.newest

    left : (x : ℕ) (c d : Cell) → StaysOrNotes e l x c d → d.left + (if x == me then 1 else 0) ≡ c.left
    left x c d (inl stays) = elim (x == me) as (λ b. (x == me) ≡ b → d.left + (if b then 1 else 0) ≡ c.left) [
      | true ↦ λ here. absurd (false≢true (sym stays.1 ∙ ap (writes e) (eqb-true x me here) ∙ (names s me w v e is).2))
      | false ↦ λ _. (let same : d.left ≡ c.left = ap (λ (k : Cell). k.left) stays.0 in omega arith)
    ] refl
    left x c d (inr note) = elim (x == me) as (λ b. (x == me) ≡ b → d.left + (if b then 1 else 0) ≡ c.left) [
      | true ↦ λ here. note.1.spends (note.0 ∙ eqb-true x me here ∙ sym (names s me w v e is).0)
      | false ↦ λ other. (let same = note.1.stays (λ at. absurd (false≢true (sym other ∙ eq-eqb x me (sym note.0 ∙ at ∙ (names s me w v e is).0)))) in omega (arith, same))
    ] refl
