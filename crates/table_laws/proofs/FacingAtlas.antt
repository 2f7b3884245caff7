-- What a table in order says of the cells that a step touches with the atlas.
use Rattle.std.proofs.Common.{◌≡◌, ℕ, ◌+◌, ◌<◌, ◌≤◌, ◌^◌, Bool, List, length, slice_get, IsSome, Some, refl, sym, ap, ◌∙◌, subst, arith}
use Rattle.cell_steps.specs.base_types.declared.instructions.Instr.{Instr}
use Rattle.cell_steps.specs.model_kernel.Soundness.{AreSound}
use Rattle.cell_steps.specs.model_kernel.State.{AtlasState, NotBorn, AtlasCell}
use Rattle.cell_steps.specs.data_atlas_facts.Directory.{Directory}
use Rattle.cell_step_laws.specs.act_calls.Calls.{atlas_state}
use Rattle.cell_steps.specs.act_alone.Loci.{locus_of}
use Rattle.cell_steps.specs.act_alone.declared.loci.Head.{Head}
use Rattle.cell_steps.specs.act_alone.declared.loci.Locus.{Locus}
use Rattle.cell_steps.specs.cell_states.declared.cells.Cell.{Cell}
use Rattle.cell_steps.specs.cell_states.declared.cells.Part.{Part}
use Rattle.cell_steps.specs.cell_states.declared.cells.Part.TheVariants as part
use Rattle.cell_steps.specs.cell_states.Cells.{part_of}
use Rattle.cell_steps.specs.cell_calls.Besides.{memory_of}
use Rattle.cell_steps.specs.cell_newborns.Bearing.{IsUnbornContainer}
use Rattle.cell_steps.specs.cell_calls.Mapping.{IsDirectoryPart, IsHeadPart, MayMap}
use Rattle.cell_step_laws.proofs.SoundMaps.{map_here}
use Rattle.cell_step_laws.proofs.SoundParts.{directory_part, unborn_part}
use Rattle.cell_step_laws.proofs.SoundPlans.{around_container, around_locus}
use Rattle.cell_steps.specs.cell_plans.Plans.{IsPlanned}
use Rattle.cell_steps.specs.cell_plans.declared.plans.Reach.{Reach}
use Rattle.cell_steps.specs.cell_plans.declared.plans.Reach.TheVariants as reach
use Rattle.table_laws.specs.Steps.{HasDirectory, IsPlannedAt}
use Rattle.table_laws.specs.Tables.{AreFewWrites, HasKind, IsOrderly}
use Rattle.table_laws.proofs.Facing.{are_sound, atlas, cells, locus_at, no_supply, no_words, part_here, plan_of}
use Rattle.std.proofs.lemmas.Option.{same_Some}

same_locus : (l m : Locus) → part.Locus (Some l) ≡ part.Locus (Some m) → l ≡ m
same_locus l m e = cc

same_directory : (d k : Directory) → part.Atlas d ≡ part.Atlas k → d ≡ k
same_directory d k e = cc

module _ (held : ℕ → Bool) (cs : List Cell) (orderly : IsOrderly held cs) where
  -- THE ATLAS
  pub directory_at : (k : Cell) → slice_get cs 0 ≡ Some k → (d : Directory) × (k.part ≡ part.Atlas d) × (atlas_state d ≡ atlas held cs orderly)
  directory_at k is = directory_part no_supply no_words (atlas held cs orderly) (cells held cs orderly) k.part (are_sound held cs orderly) (part_here held cs orderly 0 k is)

  pub directory_is : (d : Directory) → HasDirectory cs d → (k : Cell) → slice_get cs 0 ≡ Some k → k.part ≡ part.Atlas d
  directory_is d has k is = ap (λ (c : Cell). c.part) (same_Some k has.cell (sym is ∙ has.is)) ∙ has.part

  pub directory_sound : (d : Directory) → HasDirectory cs d → AreSound (atlas_state d) (cells held cs orderly)
  directory_sound d has =
      let f = directory_at has.cell has.is in
      subst (λ a. AreSound a (cells held cs orderly)) (sym (ap atlas_state (same_directory d f.0 (sym has.part ∙ f.1)) ∙ f.2)) (are_sound held cs orderly)

  pub atlas_born : (k : Cell) → slice_get cs 0 ≡ Some k → cells held cs orderly 0 ≡ NotBorn → ⊥
  atlas_born k is none = clash (atlas held cs orderly) (sym (are_sound held cs orderly).atlas ∙ none)
    where
      clash : (a : AtlasState) → AtlasCell a ≡ NotBorn → ⊥
      clash a e = cc

  -- MAPPINGS
  pub record FacesMapping (a k b : Cell) (i : Instr) : Type 0 where
    pub planned : IsPlanned a i (reach.Mapping b.clock.entity)
    pub may : (l : Locus) → a.part ≡ part.Locus (Some l)
        → (d : Directory) × IsDirectoryPart k.part d × (h : Head) × IsHeadPart b.part h × MayMap d (locus_of l) b.clock.entity h
    pub atlas : k.clock.entity ≡ 0
    pub some : 0 < b.clock.entity
    pub lower : b.clock.entity < a.clock.entity
    pub few : (a.clock.version < 2 ^ 63) × (k.clock.version < 2 ^ 63) × (b.clock.version < 2 ^ 63)
    pub born : cells held cs orderly b.clock.entity ≡ NotBorn → ⊥

  mapping_at : (me y : ℕ) (i : Instr) (a k b : Cell) (p : IsPlanned a i (reach.Mapping y)) → slice_get cs me ≡ Some a → (is_k : slice_get cs 0 ≡ Some k) → slice_get cs y ≡ Some b
      → (h : Head) × IsHeadPart b.part h × MayMap (directory_at k is_k).0 (locus_of p.locus) y h × (0 < y) × (y < me)
  mapping_at me y i a k b p is_a is_k is_b =
      let f = directory_at k is_k in
      map_here no_supply no_words f.0 (cells held cs orderly) me y (locus_of p.locus) i b.part (subst (λ t. AreSound t (cells held cs orderly)) (sym f.2) (are_sound held cs orderly))
      (locus_at held cs orderly me a p.locus is_a p.runs.is) p.wants (part_here held cs orderly y b is_b)

  pub mapping_between : (me y : ℕ) (i : Instr) (a k b : Cell) → IsPlannedAt cs me i (reach.Mapping y) → slice_get cs me ≡ Some a → slice_get cs 0 ≡ Some k → slice_get cs y ≡ Some b → (0 < y) × (y < me)
  mapping_between me y i a k b planned is_a is_k is_b =
      let p = plan_of held cs orderly me i (reach.Mapping y) planned a is_a in
      let f = mapping_at me y i a k b p is_a is_k is_b in
      (f.3, f.4)

  pub faces_mapping : (me y : ℕ) (i : Instr) (a k b : Cell) → AreFewWrites cs → IsPlannedAt cs me i (reach.Mapping y) → slice_get cs me ≡ Some a → slice_get cs 0 ≡ Some k → slice_get cs y ≡ Some b → FacesMapping a k b i
  faces_mapping me y i a k b few planned is_a is_k is_b =
      let p = plan_of held cs orderly me i (reach.Mapping y) planned a is_a in
      let f = mapping_at me y i a k b p is_a is_k is_b in
      let d = directory_at k is_k in
      let at_a = orderly.numbers.each me a is_a in
      let at_b = orderly.numbers.each y b is_b in
      record {
        planned = subst (λ z. IsPlanned a i (reach.Mapping z)) (sym at_b) p;
        may = λ l is. (d.0, record { is = d.1 }, f.0, f.1, subst (λ z. MayMap d.0 (locus_of l) z f.0) (sym at_b) (subst (λ m. MayMap d.0 (locus_of m) y f.0) (same_locus p.locus l (sym p.runs.is ∙ is)) f.2));
        atlas = orderly.numbers.each 0 k is_k;
        some = omega (arith, at_b, f.3);
        lower = omega (arith, at_a, at_b, f.4);
        few = (few me a is_a, few 0 k is_k, few y b is_b);
        born = λ none. clash f.0 f.1.memory (sym (ap (part_of no_supply no_words) f.1.is) ∙ part_here held cs orderly y b is_b ∙ ap (cells held cs orderly) (sym at_b) ∙ none);
      }
    where
      clash : (h : Head) (m : Rattle.cell_steps.specs.page_memory.declared.paged.PagedMemory.PagedMemory) → part_of no_supply no_words (part.Container (record { head = Some h; memory = m })) ≡ NotBorn → ⊥
      clash h m e = cc

  -- BIRTHS
  kind_memory : (x : ℕ) (p : Part) → 0 < x → x ≤ 40 → HasKind x p → IsSome (memory_of p)
  kind_memory x (part.Container b) some low kind = refl
  kind_memory x (part.Atlas d) some low kind = absurd (omega (arith, kind))
  kind_memory x (part.Locus l) some low kind = absurd (omega (arith, kind))

  pub making_below : (me : ℕ) (d : Directory) (a : Cell) (i : Instr) (p : Reach) → HasDirectory cs d → IsPlannedAt cs me i p → slice_get cs me ≡ Some a → length d.containers < 40 → length d.containers + 1 < me
  making_below me d a i p has planned is_a few =
      let q = plan_of held cs orderly me i p planned a is_a in
      around_container (atlas_state d) (cells held cs orderly) me (locus_of q.locus) (directory_sound d has) (locus_at held cs orderly me a q.locus is_a q.runs.is) few

  pub spawning_above : (me : ℕ) (d : Directory) (a : Cell) (i : Instr) (p : Reach) → HasDirectory cs d → IsPlannedAt cs me i p → slice_get cs me ≡ Some a → me < length d.loci + 41
  spawning_above me d a i p has planned is_a =
      let q = plan_of held cs orderly me i p planned a is_a in
      around_locus (atlas_state d) (cells held cs orderly) me (locus_of q.locus) (directory_sound d has) (locus_at held cs orderly me a q.locus is_a q.runs.is)

  pub newborn_unborn : (d : Directory) (b : Cell) → HasDirectory cs d → length d.containers < 40 → slice_get cs (length d.containers + 1) ≡ Some b → IsUnbornContainer b.part
  newborn_unborn d b has few is =
      unborn_part no_supply no_words (atlas_state d) (cells held cs orderly) b.part (directory_sound d has) few
      (kind_memory (length d.containers + 1) b.part (omega arith) (omega arith) (orderly.kinds (length d.containers + 1) b is)) (part_here held cs orderly (length d.containers + 1) b is)
