-- What kind of part an entity has, by its number.
use Rattle.std.proofs.Common.{◌≡◌, ℕ, ◌+◌, ◌<◌, ◌≤◌, Bool, true, false, ◌&&◌, ◌==◌, nat_lt, nat_le, List, length, Option, Some, None, refl, sym, ap, ◌∙◌, subst, arith}
use Rattle.std.proofs.lemmas.Bool.Decides.{nat_tests}
use Rattle.cell_steps.specs.base_types.declared.histories.Entry.{Entry}
use Rattle.cell_steps.specs.model_kernel.LocalEvents.{touch_at}
use Rattle.cell_steps.specs.model_kernel.Soundness.{AreSound}
use Rattle.cell_steps.specs.model_kernel.State.{AtlasState, Cell, KernelState, NotBorn, AtlasCell, Supply}
use Rattle.cell_steps.specs.model_kernel.Steps.{step}
use Rattle.cell_steps.proofs.model_kernel_lemmas.Locality.{step_local}
use Rattle.cell_steps.specs.act_alone.declared.loci.Head.{Head}
use Rattle.cell_steps.specs.cell_states.declared.cells.Part.{Part}
use Rattle.cell_steps.specs.cell_states.declared.cells.Part.TheVariants as part
use Rattle.cell_steps.specs.cell_states.Cells.{container_cell, part_of}
use Rattle.cell_steps.specs.cell_calls.Besides.{KeepsMemory}
use Rattle.model_sound_states.specs.States.{IsSoundState}
use Rattle.model_sound_states.proofs.model_sound_steps_lemmas.Cells.{Fits, fits_in}
use Rattle.table_laws.specs.Tables.{HasKind}

low_number : (n x : ℕ) → n ≤ 40 → (nat_lt 0 x && nat_le x n) ≡ true → (0 < x) × (x ≤ 40)
low_number n x few born = (grind (arith, nat_tests), grind (arith, nat_tests))

high_number : (n x : ℕ) → (nat_lt 40 x && nat_le x (40 + n)) ≡ true → 40 < x
high_number n x born = grind (arith, nat_tests)

-- a born entity's part is of its number's kind
pub born_kind : (s : Supply) (words : ℕ → List ℕ) (a : AtlasState) (cells : ℕ → Cell) (x : ℕ) (p : Part) → AreSound a cells → part_of s words p ≡ cells x → (cells x ≡ NotBorn → ⊥) → HasKind x p
born_kind s words a cells x (part.Atlas d) sound is born = (subst (Fits a x) (sym is) (fits_in a cells sound x)).0
born_kind s words a cells x (part.Container b) sound is born = by b.head is
  where
    by : (o : Option Head) → container_cell s words b.memory o ≡ cells x → (0 < x) × (x ≤ 40)
    by (Some h) is = low_number (length a.containers) x sound.names.few_containers (subst (Fits a x) (sym is) (fits_in a cells sound x)).0
    by None is = absurd (born (sym is))
born_kind s words a cells x (part.Locus (Some l)) sound is born = high_number (length a.loci) x (subst (Fits a x) (sym is) (fits_in a cells sound x)).0
born_kind s words a cells x (part.Locus None) sound is born = absurd (born (sym is))

-- versions don't fall
pub version_rises : (s : Supply) (me : ℕ) (w v : KernelState) (e : Entry) (x : ℕ) → step s me w ≡ Some (e, v) → ((w x).version ≤ (v x).version) × ((v x).version ≤ (w x).version + 1)
version_rises s me w v e x is = elim (touch_at e.touched x) as (λ o. touch_at e.touched x ≡ o → ((w x).version ≤ (v x).version) × ((v x).version ≤ (w x).version + 1)) [
  | None ↦ λ f. (let same : (v x).version ≡ (w x).version = ap (λ b. b.version) ((step_local s me).stays w (e, v) is x f) in (omega arith, omega arith))
  | Some t ↦ λ f. elim t.wrote as (λ b. t.wrote ≡ b → ((w x).version ≤ (v x).version) × ((v x).version ≤ (w x).version + 1)) [
    | true ↦ λ wrote. (let h = (step_local s me).writes w (e, v) is x t f wrote in (omega (arith, h.0, h.1), omega (arith, h.0, h.1)))
    | false ↦ λ read. (let same : (v x).version ≡ (w x).version = ap (λ b. b.version) ((step_local s me).reads w (e, v) is x t f read).0 in (omega arith, omega arith))
  ] refl
] refl

-- what is born stays so
pub stays_born : (s : Supply) (me : ℕ) (w v : KernelState) (e : Entry) (x : ℕ) → IsSoundState s w → IsSoundState s v → step s me w ≡ Some (e, v) → ((w x).cell ≡ NotBorn → ⊥) → (v x).cell ≡ NotBorn → ⊥
stays_born s me w v e x sound after is born none = by (x == 0) refl
  where
    by : (b : Bool) → (x == 0) ≡ b → ⊥
    by true z = (let here : x ≡ 0 = grind (arith, nat_tests) in atlas_born (v 0).cell after.sound.0 after.sound.1.atlas (ap (λ y. (v y).cell) (sym here) ∙ none))
      where
        atlas_born : (k : Cell) (a : AtlasState) → k ≡ AtlasCell a → k ≡ NotBorn → ⊥
        atlas_born k a is none = cc
    by false z =
        let some : 0 < x = grind (arith, nat_tests) in
        let zero = (after.born x some).0 none in
        let rises = version_rises s me w v e x is in
        let start : (w x).version ≡ 0 = omega (arith, zero, rises.0) in
        born ((sound.born x some).1 start)

-- parts of one number that is no container's keep their memory, which is none
pub high_keeps : (x : ℕ) (p q : Part) → (0 < x → x ≤ 40 → ⊥) → HasKind x p → HasKind x q → KeepsMemory p q
high_keeps x (part.Container b) q not hp hq = absurd (not hp.0 hp.1)
high_keeps x (part.Atlas a) (part.Container b) not hp hq = absurd (not hq.0 hq.1)
high_keeps x (part.Locus l) (part.Container b) not hp hq = absurd (not hq.0 hq.1)
high_keeps x (part.Atlas a) (part.Atlas d) not hp hq = record { memory = refl; tag = refl; pages = refl }
high_keeps x (part.Atlas a) (part.Locus m) not hp hq = record { memory = refl; tag = refl; pages = refl }
high_keeps x (part.Locus l) (part.Atlas d) not hp hq = record { memory = refl; tag = refl; pages = refl }
high_keeps x (part.Locus l) (part.Locus m) not hp hq = record { memory = refl; tag = refl; pages = refl }
