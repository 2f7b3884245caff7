-- Steps that give birth.
use Rattle.std.proofs.Common.{◌≡◌, ℕ, ◌<◌, true, false, ◌==◌, nat_lt, List, [], ◌∷◌, Some, None, refl, sym, ap, subst, ◌∙◌, arith}
use Rattle.std.proofs.lemmas.Bool.{lt-ltb}
use Rattle.std.proofs.lemmas.Bool.Decides.{nat_tests}
use Rattle.base_types.specs.declared.histories.Answer.{Answer}
use Rattle.base_types.specs.declared.histories.Entry.{Entry}
use Rattle.base_types.specs.declared.histories.Event.TheVariants.{Step}
use Rattle.base_types.specs.declared.instructions.Condition.TheVariants.{Running}
use Rattle.base_types.specs.declared.instructions.Instr.{Instr}
use Rattle.base_types.specs.declared.instructions.Instr.TheVariants.{Make, Spawn}
use Rattle.cell_states.specs.model_kernel.Acts.{Act, allowed, wanted}
use Rattle.cell_states.specs.model_kernel.Changes.{Access, carried_by, changed, insert_access, ordered}
use Rattle.cell_states.specs.model_kernel.Outcomes.{Outcome, outcome}
use Rattle.cell_states.specs.model_kernel.Refusals.{instr_at}
use Rattle.cell_states.specs.model_kernel.State.{Supply, AtlasState, LocusState, Cell as ModelCell, NotBorn, AtlasCell, LocusCell, KernelState}
use Rattle.cell_states.specs.model_kernel.Steps.{accesses_of, atlas_in, outcome_in, seen_atlas, seen_other, step, with_atlas_access, with_newborn_access, with_other_access}
use Rattle.cell_states.proofs.model_act_facts_lemmas.Alone.{wanted_allowed}
use Rattle.cell_states.specs.act_calls.Calls.{WantsBirth, is_make, is_spawn}
use Rattle.cell_states.proofs.act_calls_lemmas.BirthLemmas.{birth_allowed, birth_instr}
use Rattle.cell_states.specs.cell_clocks.Clocks.{writing, CarriesThree}
use Rattle.cell_states.proofs.cell_clocks_lemmas.Changing.{access_first, access_second, access_third}
use Rattle.cell_states.specs.declared.cells.Cell.{Cell}
use Rattle.cell_states.specs.Cells.{HasCell, part_of}
use Rattle.cell_states.specs.Steps.{Steps}
use Rattle.cell_states.proofs.Stepping.{step_by, stepped_entry, written_cell}
use Rattle.cell_newborns.specs.Bearing.{MakesNewborn}

-- WHAT IS TOUCHED

pub record Touches (act : Act) : Type 0 where
  pub atlas : act.atlas ≡ true
  pub other : act.other ≡ None

allowed_make : (me : ℕ) (l : LocusState) (i : Instr) → is_make i ≡ true → Touches (allowed me l i)
unfolding allowed
allowed_make me l (Make d n t e) h = record { atlas = refl; other = refl }
allowed_make me l i h = cc

allowed_spawn : (me : ℕ) (l : LocusState) (i : Instr) → is_spawn i ≡ true → Touches (allowed me l i)
unfolding allowed
allowed_spawn me l (Spawn d p) h = record { atlas = refl; other = refl }
allowed_spawn me l i h = cc

pub make_touches : (me : ℕ) (l : LocusState) → WantsBirth is_make l → Touches (wanted me l)
make_touches me l h = subst Touches (sym (wanted_allowed me l (birth_allowed is_make l h))) (allowed_make me l (instr_at l) (birth_instr is_make l h))

pub spawn_touches : (me : ℕ) (l : LocusState) → WantsBirth is_spawn l → Touches (wanted me l)
spawn_touches me l h = subst Touches (sym (wanted_allowed me l (birth_allowed is_spawn l h))) (allowed_spawn me l (instr_at l) (birth_instr is_spawn l h))

pub accesses_bearing : (me x : ℕ) (act : Act) (o : Outcome) (k : ModelCell) → Touches act → o.newborn ≡ Some (x, k)
    → ordered (accesses_of me act o) ≡ insert_access (writing 0 (AtlasCell o.atlas)) (insert_access (writing x k) (writing me (LocusCell o.locus) ∷ []))
accesses_bearing me x act o k h born =
    (λ i. ordered (with_atlas_access (h.atlas i) o.atlas (with_other_access (h.other i) o.other (with_newborn_access (born i) (writing me (LocusCell o.locus) ∷ [])))))

low_accesses : (me x : ℕ) (i k j : ModelCell) → 0 < x → x < me → insert_access (writing 0 i) (insert_access (writing x k) (writing me j ∷ [])) ≡ writing 0 i ∷ writing x k ∷ writing me j ∷ []
low_accesses me x i k j some lt = rw (lt-ltb x me lt) (rw (lt-ltb 0 x some) refl)

pub high_accesses : (me x : ℕ) (i k j : ModelCell) → 0 < me → me < x → insert_access (writing 0 i) (insert_access (writing x k) (writing me j ∷ [])) ≡ writing 0 i ∷ writing me j ∷ writing x k ∷ []
high_accesses me x i k j some lt =
    let no : nat_lt x me ≡ false = grind (arith, nat_tests) in
    let far : (x == me) ≡ false = grind (arith, nat_tests) in
    rw (no, far) (rw (lt-ltb 0 me some) refl)

-- THE STEP

pub in_state : (s : Supply) (w : KernelState) (l : LocusState) (act : Act) (atlas : AtlasState) → Touches act → (w 0).cell ≡ AtlasCell atlas → outcome_in s l act w ≡ outcome s l act atlas NotBorn
in_state s w l act atlas h there =
    (λ t. outcome s l act (seen_atlas w (h.atlas t)) (seen_other w (h.other t))) ∙ (λ t. outcome s l act (atlas_in (there t)) NotBorn)

-- the newborn has a lower number than the locus
pub stepped_low : (s : Supply) (words : ℕ → List ℕ) (w : KernelState) (c a d c' a' d' : Cell) (l : LocusState) (atlas : AtlasState) (answer : Answer) (e : Entry)
    → HasCell s words w c → HasCell s words w a → part_of s words c.part ≡ LocusCell l → part_of s words a.part ≡ AtlasCell atlas → l.condition ≡ Running
    → Touches (wanted c.clock.entity l) → a.clock.entity ≡ 0 → 0 < d.clock.entity → d.clock.entity < c.clock.entity
    → MakesNewborn (outcome s l (wanted c.clock.entity l) atlas NotBorn) (part_of s words c'.part) (part_of s words a'.part) (part_of s words d'.part) d.clock.entity answer
    → c'.clock.entity ≡ c.clock.entity → a'.clock.entity ≡ a.clock.entity → d'.clock.entity ≡ d.clock.entity
    → ((i k j : ModelCell) → CarriesThree Step c.clock.entity answer w (writing a.clock.entity i ∷ writing d.clock.entity k ∷ writing c.clock.entity j ∷ []) e a'.clock d'.clock c'.clock)
    → Steps s c.clock.entity w e (λ v. HasCell s words v c' × HasCell s words v a' × HasCell s words v d')
stepped_low s words w c a d c' a' d' l atlas answer e hasc hasa is isa runs touches zero_at some lt makes samec samea samed carries =
    let me = c.clock.entity in
    let x = d.clock.entity in
    let o = outcome s l (wanted me l) atlas NotBorn in
    let i = AtlasCell o.atlas in
    let j = LocusCell o.locus in
    let k = part_of s words d'.part in
    let accesses : List Access = writing 0 i ∷ writing x k ∷ writing me j ∷ [] in
    let there : (w 0).cell ≡ AtlasCell atlas = ap (λ n. (w n).cell) (sym zero_at) ∙ hasa.part ∙ isa in
    let steps : step s me w ≡ Some (carried_by w Step me accesses o.answer) =
    step_by s w me l (wanted me l) o accesses (hasc.part ∙ is) runs refl (in_state s w l (wanted me l) atlas touches there)
    (accesses_bearing me x (wanted me l) o k touches makes.newborn_made ∙ low_accesses me x i k j some lt) in
    let made : CarriesThree Step me answer w accesses e a'.clock d'.clock c'.clock =
    subst (λ n. CarriesThree Step me answer w (writing n i ∷ writing x k ∷ writing me j ∷ []) e a'.clock d'.clock c'.clock) zero_at (carries i k j) in (
      changed w accesses,
      stepped_entry s w me accesses o.answer answer e steps made.entry makes.answers,
      (
        written_cell s words w accesses me (writing me j) j c' (access_third (writing 0 i) (writing x k) (writing me j) [] some lt) refl samec makes.locus_made made.third,
        written_cell s words w accesses 0 (writing 0 i) i a' (access_first (writing 0 i) (writing x k ∷ writing me j ∷ [])) refl (samea ∙ zero_at) makes.atlas_made made.first,
        written_cell s words w accesses x (writing x k) k d' (access_second (writing 0 i) (writing x k) (writing me j ∷ []) some) refl samed refl made.second,
      ),
    )

-- the newborn has a higher number than the locus
pub stepped_high : (s : Supply) (words : ℕ → List ℕ) (w : KernelState) (c a d c' a' d' : Cell) (l : LocusState) (atlas : AtlasState) (answer : Answer) (e : Entry)
    → HasCell s words w c → HasCell s words w a → part_of s words c.part ≡ LocusCell l → part_of s words a.part ≡ AtlasCell atlas → l.condition ≡ Running
    → Touches (wanted c.clock.entity l) → a.clock.entity ≡ 0 → 0 < c.clock.entity → c.clock.entity < d.clock.entity
    → MakesNewborn (outcome s l (wanted c.clock.entity l) atlas NotBorn) (part_of s words c'.part) (part_of s words a'.part) (part_of s words d'.part) d.clock.entity answer
    → c'.clock.entity ≡ c.clock.entity → a'.clock.entity ≡ a.clock.entity → d'.clock.entity ≡ d.clock.entity
    → ((i j k : ModelCell) → CarriesThree Step c.clock.entity answer w (writing a.clock.entity i ∷ writing c.clock.entity j ∷ writing d.clock.entity k ∷ []) e a'.clock c'.clock d'.clock)
    → Steps s c.clock.entity w e (λ v. HasCell s words v c' × HasCell s words v a' × HasCell s words v d')
stepped_high s words w c a d c' a' d' l atlas answer e hasc hasa is isa runs touches zero_at some lt makes samec samea samed carries =
    let me = c.clock.entity in
    let x = d.clock.entity in
    let o = outcome s l (wanted me l) atlas NotBorn in
    let i = AtlasCell o.atlas in
    let j = LocusCell o.locus in
    let k = part_of s words d'.part in
    let accesses : List Access = writing 0 i ∷ writing me j ∷ writing x k ∷ [] in
    let there : (w 0).cell ≡ AtlasCell atlas = ap (λ n. (w n).cell) (sym zero_at) ∙ hasa.part ∙ isa in
    let steps : step s me w ≡ Some (carried_by w Step me accesses o.answer) =
    step_by s w me l (wanted me l) o accesses (hasc.part ∙ is) runs refl (in_state s w l (wanted me l) atlas touches there)
    (accesses_bearing me x (wanted me l) o k touches makes.newborn_made ∙ high_accesses me x i k j some lt) in
    let made : CarriesThree Step me answer w accesses e a'.clock c'.clock d'.clock =
    subst (λ n. CarriesThree Step me answer w (writing n i ∷ writing me j ∷ writing x k ∷ []) e a'.clock c'.clock d'.clock) zero_at (carries i j k) in (
      changed w accesses,
      stepped_entry s w me accesses o.answer answer e steps made.entry makes.answers,
      (
        written_cell s words w accesses me (writing me j) j c' (access_second (writing 0 i) (writing me j) (writing x k ∷ []) some) refl samec makes.locus_made made.second,
        written_cell s words w accesses 0 (writing 0 i) i a' (access_first (writing 0 i) (writing me j ∷ writing x k ∷ [])) refl (samea ∙ zero_at) makes.atlas_made made.first,
        written_cell s words w accesses x (writing x k) k d' (access_third (writing 0 i) (writing me j) (writing x k) [] some lt) refl samed refl made.third,
      ),
    )
