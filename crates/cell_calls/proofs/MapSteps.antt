-- Steps that map or unmap.
use Rattle.std.proofs.Common.{◌≡◌, ℕ, ◌<◌, true, false, ◌||◌, List, [], ◌∷◌, Some, None, refl, sym, ap, subst, ◌∙◌}
use Rattle.std.proofs.lemmas.Bool.{lt-ltb}
use Rattle.base_types.specs.declared.histories.Answer.{Answer}
use Rattle.base_types.specs.declared.histories.Entry.{Entry}
use Rattle.base_types.specs.declared.histories.Event.TheVariants.{Step}
use Rattle.base_types.specs.declared.instructions.Condition.TheVariants.{Running}
use Rattle.base_types.specs.declared.instructions.Instr.{Instr}
use Rattle.base_types.specs.declared.instructions.Instr.TheVariants.{Map, Unmap}
use Rattle.cell_states.specs.model_kernel.Acts.{Act, allowed, wanted}
use Rattle.cell_states.specs.model_kernel.Changes.{Access, carried_by, changed, ordered}
use Rattle.cell_states.specs.model_kernel.Outcomes.{Outcome, outcome}
use Rattle.cell_states.specs.model_kernel.Refusals.{instr_at, refusal}
use Rattle.cell_states.specs.model_kernel.State.{Supply, AtlasState, LocusState, Cell as ModelCell, AtlasCell, LocusCell, KernelState}
use Rattle.cell_states.specs.model_kernel.Steps.{accesses_of, atlas_in, outcome_in, seen_atlas, seen_other, step, with_atlas_access, with_newborn_access, with_other_access}
use Rattle.cell_states.proofs.model_acts_lemmas.Beside.{wanted_same}
use Rattle.cell_states.specs.model_acts.Views.{may_name_itself}
use Rattle.cell_states.proofs.model_act_facts_lemmas.Alone.{wanted_allowed, wanted_says}
use Rattle.cell_states.specs.act_calls.Calls.{is_map, is_unmap}
use Rattle.cell_states.specs.cell_clocks.Clocks.{writing, CarriesThree}
use Rattle.cell_states.proofs.cell_clocks_lemmas.Changing.{access_first, access_second, access_third}
use Rattle.cell_states.specs.declared.cells.Cell.{Cell}
use Rattle.cell_states.specs.Cells.{HasCell, part_of}
use Rattle.cell_states.specs.Steps.{Steps}
use Rattle.cell_states.proofs.Stepping.{step_by, stepped_entry, written_cell}
use Rattle.cell_calls.specs.Mapping.{MakesThree, WantsMapping}

-- WHAT IS TOUCHED

pub record Touches (act : Act) (x : ℕ) : Type 0 where
  pub atlas : act.atlas ≡ true
  pub other : act.other ≡ Some x

allowed_maps : (me : ℕ) (l : LocusState) (i : Instr) → (is_map i || is_unmap i) ≡ true → (allowed me l i).atlas ≡ true
unfolding allowed
allowed_maps me l (Map d a c b n rights) h = refl
allowed_maps me l (Unmap d a) h = refl
allowed_maps me l i h = cc

mapping_apart : (i : Instr) → (is_map i || is_unmap i) ≡ true → may_name_itself i ≡ false
mapping_apart (Map d a c b n rights) h = refl
mapping_apart (Unmap d a) h = refl
mapping_apart i h = cc

pub mapping_touches : (me x : ℕ) (l : LocusState) (i : Instr) → WantsMapping l i x → Touches (wanted me l) x
mapping_touches me x l i h =
    let at : instr_at l ≡ i = sym (wanted_says 64 l).instr ∙ h.instr in
    let maps : (is_map (instr_at l) || is_unmap (instr_at l)) ≡ true = ap (λ i. is_map i || is_unmap i) at ∙ h.maps in
    let same : wanted me l ≡ wanted 64 l = wanted_same me 64 l (mapping_apart (instr_at l) maps) in
    let none : refusal l (instr_at l) ≡ None = sym (wanted_says 64 l).refused ∙ h.allowed in
    record {
      atlas = ap (λ (w : Act). w.atlas) (same ∙ wanted_allowed 64 l none) ∙ allowed_maps 64 l (instr_at l) maps;
      other = ap (λ (w : Act). w.other) same ∙ h.other;
    }

-- THE STEP

accesses_three : (me x : ℕ) (act : Act) (o : Outcome) (k : ModelCell) → Touches act x → o.other ≡ Some k → o.newborn ≡ None → 0 < x → x < me
    → ordered (accesses_of me act o) ≡ writing 0 (AtlasCell o.atlas) ∷ writing x k ∷ writing me (LocusCell o.locus) ∷ []
accesses_three me x act o k h other none some lt =
    (λ i. ordered (with_atlas_access (h.atlas i) o.atlas (with_other_access (h.other i) (other i) (with_newborn_access (none i) (writing me (LocusCell o.locus) ∷ [])))))
    ∙ rw (lt-ltb x me lt) (rw (lt-ltb 0 x some) refl)

pub stepped_three : (s : Supply) (words : ℕ → List ℕ) (w : KernelState) (c a d c' a' d' : Cell) (l : LocusState) (atlas : AtlasState) (answer : Answer) (e : Entry)
    → HasCell s words w c → HasCell s words w a → HasCell s words w d → part_of s words c.part ≡ LocusCell l → part_of s words a.part ≡ AtlasCell atlas → l.condition ≡ Running
    → Touches (wanted c.clock.entity l) d.clock.entity → a.clock.entity ≡ 0 → 0 < d.clock.entity → d.clock.entity < c.clock.entity
    → MakesThree (outcome s l (wanted c.clock.entity l) atlas (part_of s words d.part)) (part_of s words c'.part) (part_of s words a'.part) (part_of s words d'.part) answer
    → c'.clock.entity ≡ c.clock.entity → a'.clock.entity ≡ a.clock.entity → d'.clock.entity ≡ d.clock.entity
    → ((i k j : ModelCell) → CarriesThree Step c.clock.entity answer w (writing a.clock.entity i ∷ writing d.clock.entity k ∷ writing c.clock.entity j ∷ []) e a'.clock d'.clock c'.clock)
    → Steps s c.clock.entity w e (λ v. HasCell s words v c' × HasCell s words v a' × HasCell s words v d')
stepped_three s words w c a d c' a' d' l atlas answer e hasc hasa hasd is isa runs touches zero_at some lt makes samec samea samed carries =
    let me = c.clock.entity in
    let x = d.clock.entity in
    let o = outcome s l (wanted me l) atlas (part_of s words d.part) in
    let i = AtlasCell o.atlas in
    let j = LocusCell o.locus in
    let k = part_of s words d'.part in
    let accesses : List Access = writing 0 i ∷ writing x k ∷ writing me j ∷ [] in
    let there : (w 0).cell ≡ AtlasCell atlas = ap (λ n. (w n).cell) (sym zero_at) ∙ hasa.part ∙ isa in
    let in_state : outcome_in s l (wanted me l) w ≡ o =
    (λ t. outcome s l (wanted me l) (seen_atlas w (touches.atlas t)) (seen_other w (touches.other t)))
    ∙ (λ t. outcome s l (wanted me l) (atlas_in (there t)) (hasd.part t)) in
    let steps : step s me w ≡ Some (carried_by w Step me accesses o.answer) =
    step_by s w me l (wanted me l) o accesses (hasc.part ∙ is) runs refl in_state (accesses_three me x (wanted me l) o k touches makes.other_made makes.newborn some lt) in
    let made : CarriesThree Step me answer w accesses e a'.clock d'.clock c'.clock =
    subst (λ n. CarriesThree Step me answer w (writing n i ∷ writing x k ∷ writing me j ∷ []) e a'.clock d'.clock c'.clock) zero_at (carries i k j) in (
      changed w accesses,
      stepped_entry s w me accesses o.answer answer e steps made.entry makes.answers,
      (
        written_cell s words w accesses me (writing me j) j c' (access_third (writing 0 i) (writing x k) (writing me j) [] some lt) refl samec makes.locus_made made.third,
        written_cell s words w accesses 0 (writing 0 i) i a' (access_first (writing 0 i) (writing x k ∷ writing me j ∷ [])) refl (samea ∙ zero_at) makes.atlas_made made.first,
        written_cell s words w accesses x (writing x k) k d' (access_second (writing 0 i) (writing x k) (writing me j ∷ []) some) refl samed refl made.second,
      ),
    )
