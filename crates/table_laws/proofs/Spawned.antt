-- The locus that a step spawns is born.
use Rattle.std.proofs.Common.{◌≡◌, ℕ, ◌+◌, ◌<◌, List, [], ◌∷◌, length, Option, Some, option_map, refl, sym, ap, ◌∙◌}
use Rattle.cell_steps.specs.base_types.declared.histories.Entry.{Entry}
use Rattle.cell_steps.specs.base_types.declared.histories.Event.TheVariants.{Step}
use Rattle.cell_steps.specs.base_types.declared.instructions.Condition.TheVariants.{Running}
use Rattle.cell_steps.specs.model_kernel.Acts.{Act, wanted}
use Rattle.cell_steps.specs.model_kernel.Changes.{Access, carried_by, changed, insert_access, ordered}
use Rattle.cell_steps.specs.model_kernel.Outcomes.{Outcome, outcome}
use Rattle.cell_steps.specs.model_kernel.State.{AtlasState, Cell, EntityState, KernelState, LocusState, NotBorn, AtlasCell, LocusCell, Supply}
use Rattle.cell_steps.specs.model_kernel.Steps.{accesses_of, step, with_atlas_access, with_newborn_access, with_other_access}
use Rattle.cell_step_laws.specs.act_calls.Calls.{WantsBirth, is_spawn}
use Rattle.cell_steps.specs.cell_clocks.Clocks.{writing}
use Rattle.cell_steps.proofs.cell_clocks_lemmas.Changing.{access_third, written_at}
use Rattle.cell_steps.proofs.cell_states_lemmas.Stepping.{step_by}
use Rattle.cell_steps.proofs.cell_newborns_lemmas.BirthSteps.{accesses_bearing, high_accesses, in_state, spawn_touches}
use Rattle.cell_steps.proofs.cell_newborns_lemmas.Newborns.{bears_locus}
use Rattle.std.proofs.lemmas.Option.{same_Some}

pub spawned : (s : Supply) (me : ℕ) (w v : KernelState) (e : Entry) (l : LocusState) (a : AtlasState) → step s me w ≡ Some (e, v) → (w me).cell ≡ LocusCell l → l.condition ≡ Running → WantsBirth is_spawn l
    → (w 0).cell ≡ AtlasCell a → length a.loci < 23 → 0 < me → me < length a.loci + 41 → (v (length a.loci + 41)).cell ≡ NotBorn → ⊥
spawned s me w v e l a is cell runs wants there few some lt none =
    let x = length a.loci + 41 in
    let o = outcome s l (wanted me l) a NotBorn in
    let bears = bears_locus s me l a NotBorn wants few in
    let touches = spawn_touches me l wants in
    let i = AtlasCell o.atlas in
    let j = LocusCell o.locus in
    let k = LocusCell bears.0 in
    let accesses : List Access = writing 0 i ∷ writing me j ∷ writing x k ∷ [] in
    let steps : step s me w ≡ Some (carried_by w Step me accesses o.answer) =
    step_by s w me l (wanted me l) o accesses cell runs refl (in_state s w l (wanted me l) a touches there)
    (accesses_bearing me x (wanted me l) o k touches bears.1 ∙ high_accesses me x i k j some lt) in
    let same : v ≡ changed w accesses = same_Some v (changed w accesses) (ap (λ (o : Option (Entry × KernelState)). option_map (λ (r : Entry × KernelState). r.1) o) (sym is ∙ steps)) in
    clash bears.0 (sym (ap (λ (e : EntityState). e.cell) (written_at w accesses x (writing x k) k (access_third (writing 0 i) (writing me j) (writing x k) [] some lt) refl)) ∙ ap (λ (u : KernelState). (u x).cell) (sym same) ∙ none)
  where
    clash : (m : LocusState) → LocusCell m ≡ NotBorn → ⊥
    clash m e = cc
