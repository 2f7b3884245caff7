-- What a table in order says of the container at which a step looks.
use Rattle.std.proofs.Common.{◌≡◌, ℕ, ◌<◌, ◌^◌, Bool, List, slice_get, Some, sym, ap, ◌∙◌, subst, arith}
use Rattle.base_types.specs.declared.instructions.Instr.{Instr}
use Rattle.page_store.specs.model_kernel.State.{Supply}
use Rattle.page_store.specs.model_kernel.Steps.{step}
use Rattle.table_laws.specs.act_alone.Loci.{locus_of}
use Rattle.table_laws.specs.cell_states.declared.cells.Cell.{Cell}
use Rattle.table_laws.specs.cell_calls.Besides.{memory_of}
use Rattle.table_laws.specs.cell_blob_laws.Memories.{HasOwnMemory}
use Rattle.table_laws.specs.cell_looks.Looking.{LooksAtWord, MayLook}
use Rattle.table_laws.proofs.cell_step_laws_lemmas.SoundParts.{look_part}
use Rattle.table_laws.proofs.cell_step_laws_lemmas.SoundPlans.{look_here}
use Rattle.table_laws.specs.cell_plans.Plans.{IsPlanned}
use Rattle.table_laws.specs.cell_plans.declared.plans.Reach.TheVariants as reach
use Rattle.table_laws.specs.Steps.{IsPlannedAt}
use Rattle.table_laws.specs.Tables.{AreClean, AreFewWrites, IsOrderly, memory_at, state_in}
use Rattle.table_laws.proofs.Having.{state_has}
use Rattle.table_steps.specs.Wanting.{WantsWord}
use Rattle.table_laws.proofs.Facing.{are_sound, atlas, cells, locus_at, no_supply, no_words, part_here, plan_of}

module _ (held : ℕ → Bool) (cs : List Cell) (orderly : IsOrderly held cs) where
  pub look_below : (me y : ℕ) (i : Instr) → IsPlannedAt cs me i (reach.Look y) → (0 < y) × (y < me)
  look_below me y i planned =
      let p = planned.plan in
      let f = look_here (atlas held cs orderly) (cells held cs orderly) me (locus_of p.locus) (are_sound held cs orderly) (locus_at held cs orderly me planned.cell p.locus planned.is p.runs.is) y p.wants in
      (f.2, f.3)

  pub record FacesLook (s : Supply) (tells : Type 0) (words : ℕ → List ℕ) (a b : Cell) (i : Instr) : Type 0 where
    pub planned : IsPlanned a i (reach.Look b.clock.entity)
    pub memory : MayLook s tells held words b.part
    pub lower : b.clock.entity < a.clock.entity
    pub few : (a.clock.version < 2 ^ 63) × (b.clock.version < 2 ^ 63)

  pub faces_look : (s : Supply) (tells : Type 0) (words : ℕ → List ℕ) (me y : ℕ) (i : Instr) (a b : Cell) → AreFewWrites cs → (tells → AreClean s words cs) → IsPlannedAt cs me i (reach.Look y)
      → slice_get cs me ≡ Some a → slice_get cs y ≡ Some b → FacesLook s tells words a b i
  faces_look s tells words me y i a b few clean planned is_a is_b =
      let p = plan_of held cs orderly me i (reach.Look y) planned a is_a in
      let at_a = orderly.numbers.each me a is_a in
      let at_b = orderly.numbers.each y b is_b in
      let f = look_part no_supply no_words (atlas held cs orderly) (cells held cs orderly) me y (locus_of p.locus) b.part (are_sound held cs orderly) (locus_at held cs orderly me a p.locus is_a p.runs.is) p.wants (part_here held cs orderly y b is_b) in
      let own = subst (HasOwnMemory held) f.1.is (orderly.own y b is_b) in
      let below = look_below me y i planned in
      record {
        planned = subst (λ z. IsPlanned a i (reach.Look z)) (sym at_b) p;
        memory = record { head = f.0; memory = f.1.memory; is = f.1.is; of = own.0; table = own.1; clean = λ told. clean told y f.1.memory (ap memory_at is_b ∙ ap memory_of f.1.is) };
        lower = omega (arith, at_a, at_b, below.1);
        few = (few me a is_a, few y b is_b);
      }

-- a look of the table's cells that comes to a word is the table's next step
pub wants_word : (cs : List Cell) (me y : ℕ) (a b : Cell) → slice_get cs me ≡ Some a → slice_get cs y ≡ Some b → a.clock.entity ≡ me → b.clock.entity ≡ y → LooksAtWord a b → WantsWord me cs
wants_word cs me y a b is_a is_b at_a at_b looks = λ s words made is.
    looks s words (state_in s words cs) made (state_has s words cs a (ap (slice_get cs) at_a ∙ is_a)) (state_has s words cs b (ap (slice_get cs) at_b ∙ is_b)) (ap (λ n. step s n (state_in s words cs)) at_a ∙ is)
