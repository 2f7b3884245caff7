-- Steps that write the locus and another entity.
use Rattle.std.proofs.Common.{◌≡◌, ◌≢◌, ℕ, List, [], ◌∷◌, Some, None, refl, ap, ◌∙◌}
use Rattle.base_types.specs.declared.histories.Answer.{Answer}
use Rattle.base_types.specs.declared.histories.Entry.{Entry}
use Rattle.base_types.specs.declared.histories.Event.TheVariants.{Step}
use Rattle.base_types.specs.declared.instructions.Condition.TheVariants.{Running}
use Rattle.cell_states.specs.model_kernel.Acts.{Act, wanted}
use Rattle.cell_states.specs.model_kernel.Changes.{Access, carried_by, changed, ordered}
use Rattle.cell_states.specs.model_kernel.Outcomes.{Outcome, outcome}
use Rattle.cell_states.specs.model_kernel.State.{Supply, LocusState, Cell as ModelCell, LocusCell, KernelState, no_atlas}
use Rattle.cell_states.specs.model_kernel.Steps.{accesses_of, outcome_in, seen_atlas, seen_other, step, with_atlas_access, with_newborn_access, with_other_access}
use Rattle.cell_states.specs.cell_clocks.Clocks.{writing, CarriesTwo}
use Rattle.cell_states.specs.declared.cells.Cell.{Cell}
use Rattle.cell_states.specs.Cells.{HasCell, part_of}
use Rattle.cell_states.specs.Steps.{Steps}
use Rattle.cell_states.proofs.Stepping.{step_by, stepped_entry, written_cell}
use Rattle.cell_calls.specs.Besides.{MakesBoth, pair_of}
use Rattle.cell_calls.proofs.Wants.{Touches}
use Rattle.cell_calls.proofs.Pairs.{access_other, access_own, ordered_pair}

-- the outcome in a state, from the other entity's cell
pub outcome_touches : (s : Supply) (w : KernelState) (l : LocusState) (act : Act) (x : ℕ) (k : ModelCell) → Touches act x → (w x).cell ≡ k → outcome_in s l act w ≡ outcome s l act no_atlas k
outcome_touches s w l act x k h there = (λ i. outcome s l act (seen_atlas w (h.atlas i)) (seen_other w (h.other i))) ∙ ap (outcome s l act no_atlas) there

accesses_both : (me x : ℕ) (act : Act) (o : Outcome) (k : ModelCell) → Touches act x → o.other ≡ Some k → o.newborn ≡ None → x ≢ me → ordered (accesses_of me act o) ≡ pair_of me (LocusCell o.locus) x k
accesses_both me x act o k h other none apart =
    (λ i. ordered (with_atlas_access (h.atlas i) o.atlas (with_other_access (h.other i) (other i) (with_newborn_access (none i) (record { entity = me; new = Some (LocusCell o.locus) } ∷ [])))))
    ∙ ordered_pair me x (LocusCell o.locus) k apart

pub stepped_both : (s : Supply) (words : ℕ → List ℕ) (w : KernelState) (c d c' d' : Cell) (l : LocusState) (answer : Answer) (e : Entry)
    → HasCell s words w c → HasCell s words w d → part_of s words c.part ≡ LocusCell l → l.condition ≡ Running → Touches (wanted c.clock.entity l) d.clock.entity → d.clock.entity ≢ c.clock.entity
    → MakesBoth (outcome s l (wanted c.clock.entity l) no_atlas (part_of s words d.part)) (part_of s words c'.part) (part_of s words d'.part) answer
    → c'.clock.entity ≡ c.clock.entity → d'.clock.entity ≡ d.clock.entity
    → ((j k : ModelCell) → CarriesTwo Step c.clock.entity answer w (pair_of c.clock.entity j d.clock.entity k) e c'.clock d'.clock)
    → Steps s c.clock.entity w e (λ v. HasCell s words v c' × HasCell s words v d')
stepped_both s words w c d c' d' l answer e hasc hasd is runs touches apart makes samec samed carries =
    let me = c.clock.entity in
    let x = d.clock.entity in
    let o = outcome s l (wanted me l) no_atlas (part_of s words d.part) in
    let j = LocusCell o.locus in
    let k = part_of s words d'.part in
    let accesses : List Access = pair_of me j x k in
    let steps : step s me w ≡ Some (carried_by w Step me accesses o.answer) =
    step_by s w me l (wanted me l) o accesses (hasc.part ∙ is) runs refl (outcome_touches s w l (wanted me l) x (part_of s words d.part) touches hasd.part)
    (accesses_both me x (wanted me l) o k touches makes.other_made makes.newborn apart) in
    let made = carries j k in (
      changed w accesses,
      stepped_entry s w me accesses o.answer answer e steps made.entry makes.answers,
      (
        written_cell s words w accesses me (writing me j) j c' (access_own me x j k apart) refl samec makes.locus_made made.first,
        written_cell s words w accesses x (writing x k) k d' (access_other me x j k apart) refl samed refl made.second,
      ),
    )
