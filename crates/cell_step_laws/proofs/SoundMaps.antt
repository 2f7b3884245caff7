-- What a sound state says of a mapping.
use Rattle.std.proofs.Common.{◌≡◌, ℕ, ◌<◌, true, ◌||◌, ◌==◌, count_by, List, sym, ap, ◌∙◌}
use Rattle.plain_states.specs.base_types.declared.instructions.Instr.{Instr}
use Rattle.plain_states.specs.base_types.declared.instructions.Instr.TheVariants.{Map, Unmap}
use Rattle.plain_states.specs.model_kernel.Refusals.{instr_at}
use Rattle.plain_states.specs.model_kernel.Soundness.{AreSound}
use Rattle.plain_states.specs.model_kernel.State.{Supply, ContainerState, LocusState, Cell, LocusCell}
use Rattle.plain_states.specs.model_acts.Views.{may_name_itself}
use Rattle.cell_newborns.specs.data_atlas_facts.Directory.{Directory}
use Rattle.act_atlas_laws.specs.act_alone.declared.loci.Head.{Head}
use Rattle.plain_states.proofs.model_act_facts_lemmas.Alone.{wanted_says}
use Rattle.act_atlas_laws.proofs.BirthLaws.{meets_mapping}
use Rattle.plain_states.proofs.model_act_facts_lemmas.WantLemmas.{Neighbour, OfContainer, OfNamed}
use Rattle.act_atlas_laws.specs.act_calls.Calls.{atlas_state, is_map, is_unmap}
use Rattle.cell_newborns.specs.cell_states.declared.cells.Part.{Part}
use Rattle.cell_newborns.specs.cell_states.Cells.{part_of}
use Rattle.cell_plans.specs.cell_calls.Mapping.{IsHeadPart, MayMap, WantsMapping}
use Rattle.cell_step_laws.proofs.SoundParts.{born_part}
use Rattle.cell_step_laws.proofs.SoundPlans.{beside_here, container_low}
use Rattle.std.proofs.lemmas.Bool.{true≢false}

mapping_apart : (i : Instr) → (is_map i || is_unmap i) ≡ true → may_name_itself i ≡ true → ⊥
mapping_apart (Map d a c b n rights) maps names = true≢false (sym names)
mapping_apart (Unmap d a) maps names = true≢false (sym names)
mapping_apart i maps names = true≢false (sym maps)

pub map_here : (s : Supply) (words : ℕ → List ℕ) (d : Directory) (cells : ℕ → Cell) (me x : ℕ) (l : LocusState) (i : Instr) (p : Part)
    → AreSound (atlas_state d) cells → cells me ≡ LocusCell l → WantsMapping l i x → part_of s words p ≡ cells x
    → (h : Head) × IsHeadPart p h × MayMap d l x h × (0 < x) × (x < me)
map_here s words d cells me x l i p sound is wants there = by (beside_here (atlas_state d) cells me l sound is i x at wants.allowed wants.other)
  where
    at : instr_at l ≡ i
    at = sym (wanted_says 64 l).instr ∙ wants.instr

    by : Neighbour (atlas_state d) i x → (h : Head) × IsHeadPart p h × MayMap d l x h × (0 < x) × (x < me)
    by (OfContainer born) =
        let meets = meets_mapping d cells sound in
        let f = sound.containers x born in
        let low = container_low (atlas_state d) cells me l sound is x born in
        let b = born_part s words p f.0 (there ∙ f.1) in (
          b.head,
          record { memory = b.memory; is = b.is },
          record { number = meets.number x f.0 f.1; caps = meets.caps me l is; counted = λ y. meets.counted x f.0 f.1 y ∙ ap (λ (c : ContainerState). count_by (λ r. r.target == y) c.regions) (sym b.state) },
          low.0,
          low.1,
        )
    by (OfNamed born names atlas) = absurd (mapping_apart i wants.maps names)
