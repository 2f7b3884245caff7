-- Steps that look at a container.
use Rattle.std.proofs.Common.{◌≡◌, ℕ, ◌<◌, true, false, List, [], ◌∷◌, Option, Some, None, is_some, unwrap_or, refl, sym, ap, ◌∙◌}
use Rattle.std.proofs.lemmas.Bool.{lt-ltb}
use Rattle.base_types.specs.declared.histories.Answer.{Answer}
use Rattle.base_types.specs.declared.histories.Entry.{Entry}
use Rattle.base_types.specs.declared.histories.Event.TheVariants.{Step}
use Rattle.base_types.specs.declared.instructions.Condition.TheVariants.{Running}
use Rattle.base_types.specs.declared.instructions.Instr.{Instr}
use Rattle.base_types.specs.declared.instructions.Instr.TheVariants.{Load, Store}
use Rattle.cell_states.specs.model_kernel.Acts.{Act, allowed, wanted}
use Rattle.cell_states.specs.model_kernel.Changes.{Access, access_at, carried_by, changed, ordered}
use Rattle.cell_states.specs.model_kernel.Outcomes.{Outcome, outcome}
use Rattle.cell_states.specs.model_kernel.Refusals.{instr_at, refusal}
use Rattle.cell_states.specs.model_kernel.State.{Supply, LocusState, Cell as ModelCell, EntityState, LocusCell, KernelState, no_atlas}
use Rattle.cell_states.specs.model_kernel.Steps.{accesses_of, outcome_in, seen_atlas, seen_other, step, with_atlas_access, with_newborn_access, with_other_access}
use Rattle.act_look.proofs.model_acts_lemmas.Beside.{wanted_same}
use Rattle.act_look.proofs.model_act_facts_lemmas.Alone.{wanted_allowed, wanted_says}
use Rattle.act_look.specs.act_invoke.Entries.{WantsBeside}
use Rattle.act_look.proofs.act_invoke_lemmas.Entered.{instr_is}
use Rattle.act_look.specs.Looks.{is_look}
use Rattle.cell_states.specs.cell_clocks.Clocks.{writing, CarriesTwo, HasClock}
use Rattle.cell_states.specs.cell_clocks.declared.Clock.{Clock}
use Rattle.cell_states.proofs.cell_clocks_lemmas.Changing.{access_first, access_second, read_at, written_at}
use Rattle.cell_states.specs.declared.cells.Cell.{Cell}
use Rattle.cell_states.specs.Cells.{HasCell, part_of}
use Rattle.cell_states.specs.Steps.{Steps}
use Rattle.cell_states.proofs.Stepping.{step_by, stepped_entry, written_cell}
use Rattle.cell_looks.specs.Looking.{MakesLook, is_stored, looking}
use Rattle.cell_looks.proofs.Stored.{TellsStores, Touches}
use Rattle.act_look.proofs.Making.{look_apart}

-- WHAT IS TOUCHED

allowed_looks : (l : LocusState) (i : Instr) → is_look i ≡ true → (allowed 64 l i).atlas ≡ false
unfolding allowed
allowed_looks l (Load d a) h = refl
allowed_looks l (Store a v) h = refl
allowed_looks l i h = cc

pub look_touches : (me x : ℕ) (l : LocusState) → WantsBeside is_look l x → Touches me l x
look_touches me x l h =
    let looks = instr_is is_look l x h in
    let same : wanted me l ≡ wanted 64 l = wanted_same me 64 l (look_apart (instr_at l) looks) in
    let none : refusal l (instr_at l) ≡ None = sym (wanted_says 64 l).refused ∙ h.allowed in
    record {
      atlas = ap (λ (w : Act). w.atlas) (same ∙ wanted_allowed 64 l none) ∙ allowed_looks l (instr_at l) looks;
      other = ap (λ (w : Act). w.other) same ∙ h.other;
    }

accesses_looking : (me x : ℕ) (act : Act) (o : Outcome) → act.atlas ≡ false → act.other ≡ Some x → o.newborn ≡ None → x < me → ordered (accesses_of me act o) ≡ looking x o.other ∷ writing me (LocusCell o.locus) ∷ []
accesses_looking me x act o atlas other none lt =
    (λ i. ordered (with_atlas_access (atlas i) o.atlas (with_other_access (other i) o.other (with_newborn_access (none i) (writing me (LocusCell o.locus) ∷ [])))))
    ∙ rw (lt-ltb x me lt) refl

-- THE STEP

-- the container's cell after the change, whether it is written or not
looked_cell : (w : KernelState) (accesses : List Access) (x : ℕ) (o : Option ModelCell) (old new : ModelCell) → access_at accesses x ≡ Some (looking x o) → (w x).cell ≡ old → unwrap_or o old ≡ new → (changed w accesses x).cell ≡ new
looked_cell w accesses x None old new at there is = ap (λ (e : EntityState). e.cell) (read_at w accesses x (looking x None) at refl) ∙ there ∙ is
looked_cell w accesses x (Some k) old new at there is = ap (λ (e : EntityState). e.cell) (written_at w accesses x (looking x (Some k)) k at refl) ∙ is

-- the locus c looks at the entity of the clock k, whose cell it leaves as new
pub stepped_at : (s : Supply) (words words' : ℕ → List ℕ) (w : KernelState) (c c' : Cell) (k k' : Clock) (old new : ModelCell) (l : LocusState) (answer : Answer) (e : Entry)
    → HasCell s words w c → (w k.entity).cell ≡ old → part_of s words c.part ≡ LocusCell l → l.condition ≡ Running → Touches c.clock.entity l k.entity → k.entity < c.clock.entity
    → MakesLook (outcome s l (wanted c.clock.entity l) no_atlas old) (part_of s words' c'.part) old new answer → TellsStores (outcome s l (wanted c.clock.entity l) no_atlas old)
    → c'.clock.entity ≡ c.clock.entity → k'.entity ≡ k.entity
    → ((j : ModelCell) (o : Option ModelCell) → is_some o ≡ is_stored answer → CarriesTwo Step c.clock.entity answer w (looking k.entity o ∷ writing c.clock.entity j ∷ []) e k' c'.clock)
    → Steps s c.clock.entity w e (λ v. HasCell s words' v c' × ((v k'.entity).cell ≡ new) × HasClock v k')
stepped_at s words words' w c c' k k' old new l answer e hasc there is runs touches lt makes tells samec samek carries =
    let me = c.clock.entity in
    let x = k.entity in
    let o = outcome s l (wanted me l) no_atlas old in
    let j = LocusCell o.locus in
    let accesses : List Access = looking x o.other ∷ writing me j ∷ [] in
    let in_state : outcome_in s l (wanted me l) w ≡ o =
    (λ i. outcome s l (wanted me l) (seen_atlas w (touches.atlas i)) (seen_other w (touches.other i))) ∙ ap (outcome s l (wanted me l) no_atlas) there in
    let steps : step s me w ≡ Some (carried_by w Step me accesses o.answer) =
    step_by s w me l (wanted me l) o accesses (hasc.part ∙ is) runs refl in_state (accesses_looking me x (wanted me l) o touches.atlas touches.other makes.newborn lt) in
    let made = carries j o.other (tells ∙ ap is_stored (sym makes.answers)) in (
      changed w accesses,
      stepped_entry s w me accesses o.answer answer e steps made.entry makes.answers,
      (
        written_cell s words' w accesses me (writing me j) j c' (access_second (looking x o.other) (writing me j) [] lt) refl samec makes.locus_made made.second,
        ap (λ y. (changed w accesses y).cell) samek ∙ looked_cell w accesses x o.other old new (access_first (looking x o.other) (writing me j ∷ [])) there makes.other_made,
        made.first,
      ),
    )
