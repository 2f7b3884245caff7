-- Births where no number is free.
use Rattle.std.proofs.Common.{◌≡◌, ◌⊎◌, inl, inr, ℕ, ◌+◌, ◌<◌, ◌≤◌, Bool, true, false, nat_lt, if◌then◌else◌, List, [], ◌∷◌, length, Option, Some, None, refl, sym, ap, subst, ◌∙◌, arith}
use Rattle.std.proofs.lemmas.Bool.Decides.{nat_tests}
use Rattle.std.proofs.lemmas.Bool.{lt-ltb, true≢false}
use Rattle.base_types.specs.declared.histories.Answer.{Answer}
use Rattle.base_types.specs.declared.histories.Entry.{Entry}
use Rattle.base_types.specs.declared.histories.Answer.TheVariants.{Reply as Replied}
use Rattle.base_types.specs.declared.histories.Event.TheVariants.{Step}
use Rattle.base_types.specs.declared.instructions.Condition.TheVariants.{Running}
use Rattle.base_types.specs.declared.instructions.Instr.{Instr}
use Rattle.base_types.specs.declared.instructions.Instr.TheVariants.{Make, Spawn, Halt}
use Rattle.base_types.specs.declared.instructions.Reply.TheVariants.{NoNumber}
use Rattle.cell_states.specs.model_kernel.Acts.{Act, wanted}
use Rattle.cell_states.specs.model_kernel.Changes.{Access, carried_by, changed, ordered}
use Rattle.cell_states.specs.model_kernel.Outcomes.{Outcome, finish, make, make_at, outcome, spawn, spawn_at, with_atlas}
use Rattle.cell_states.specs.model_kernel.Refusals.{instr_at, reg}
use Rattle.cell_states.specs.model_kernel.State.{Supply, AtlasState, LocusState, Cell as ModelCell, NotBorn, AtlasCell, LocusCell, KernelState}
use Rattle.cell_states.specs.model_kernel.Steps.{accesses_of, step, with_atlas_access, with_newborn_access, with_other_access}
use Rattle.data_atlas.specs.data_atlas_facts.Directory.{Directory}
use Rattle.cell_states.specs.model_acts.Views.{IsReadyLocus}
use Rattle.cell_states.proofs.model_act_facts_lemmas.Alone.{place_within}
use Rattle.cell_states.specs.act_calls.Calls.{WantsBirth, atlas_state, is_make, is_spawn}
use Rattle.cell_states.proofs.act_calls_lemmas.BirthLemmas.{birth_instr, make_made, spawn_made}
use Rattle.cell_states.specs.cell_clocks.Clocks.{writing, CarriesTwo}
use Rattle.cell_states.proofs.cell_clocks_lemmas.Changing.{access_first, access_second}
use Rattle.cell_states.specs.declared.cells.Cell.{Cell}
use Rattle.cell_states.specs.Cells.{HasCell, part_of}
use Rattle.cell_states.specs.Steps.{Steps}
use Rattle.cell_states.proofs.Stepping.{step_by, stepped_entry, written_cell}
use Rattle.cell_newborns.specs.Bearing.{MakesNone, NoNumberFree}
use Rattle.cell_newborns.proofs.BirthSteps.{Touches, in_state, make_touches, spawn_touches}

no_container : (s : Supply) (l : LocusState) (a : AtlasState) (d pages tag : ℕ) (entry : Option ℕ) → 40 ≤ length a.containers → make s l a d pages tag entry ≡ with_atlas l NoNumber a None
unfolding make
no_container s l a d pages tag entry full =
    let is : nat_lt (length a.containers) 40 ≡ false = grind (arith, nat_tests) in
    ap (make_at s l a d pages tag entry) (ap (λ (b : Bool). if b then Some (length a.containers + 1) else None) is)

no_locus : (l : LocusState) (a : AtlasState) (d place : ℕ) → 23 ≤ length a.loci → spawn l a d place ≡ with_atlas l NoNumber a None
unfolding spawn
no_locus l a d place full =
    let is : nat_lt (length a.loci) 23 ≡ false = grind (arith, nat_tests) in
    ap (spawn_at l a d place) (ap (λ (b : Bool). if b then Some (length a.loci + 41) else None) is)

made_none : (s : Supply) (me : ℕ) (l : LocusState) (a : AtlasState) (cell : ModelCell) → WantsBirth is_make l → 40 ≤ length a.containers → outcome s l (wanted me l) a cell ≡ with_atlas l NoNumber a None
made_none s me l a cell h full = by (instr_at l) refl (birth_instr is_make l h)
  where
    by : (i : Instr) → instr_at l ≡ i → is_make i ≡ true → outcome s l (wanted me l) a cell ≡ with_atlas l NoNumber a None
    by (Make d n t entry) is kind = make_made l d n t entry h is me s a cell ∙ no_container s l a d (reg l n) (reg l t) entry full
    by i is kind = cc

spawned_none : (s : Supply) (me : ℕ) (l : LocusState) (a : AtlasState) (cell : ModelCell) → WantsBirth is_spawn l → 23 ≤ length a.loci → outcome s l (wanted me l) a cell ≡ with_atlas l NoNumber a None
spawned_none s me l a cell h full = by (instr_at l) refl (birth_instr is_spawn l h)
  where
    by : (i : Instr) → instr_at l ≡ i → is_spawn i ≡ true → outcome s l (wanted me l) a cell ≡ with_atlas l NoNumber a None
    by (Spawn d p) is kind = spawn_made l d p h is me s a cell ∙ no_locus l a d p full
    by i is kind = cc

-- the outcome where no number is free
pub none_made : (s : Supply) (me : ℕ) (l : LocusState) (d : Directory) (cell : ModelCell) → NoNumberFree l d → outcome s l (wanted me l) (atlas_state d) cell ≡ with_atlas l NoNumber (atlas_state d) None
none_made s me l d cell h = by h.is
  where
    by : (WantsBirth is_make l × (40 ≤ length d.containers)) ⊎ (WantsBirth is_spawn l × (23 ≤ length d.loci)) → outcome s l (wanted me l) (atlas_state d) cell ≡ with_atlas l NoNumber (atlas_state d) None
    by (inl m) = made_none s me l (atlas_state d) cell m.0 m.1
    by (inr m) = spawned_none s me l (atlas_state d) cell m.0 m.1

pub makes_none : (s : Supply) (me : ℕ) (l m : LocusState) (d : Directory) (cell : ModelCell) (answer : Answer) → NoNumberFree l d → m ≡ finish l NoNumber → answer ≡ Replied NoNumber
    → MakesNone (outcome s l (wanted me l) (atlas_state d) cell) (LocusCell m) (AtlasCell (atlas_state d)) answer
makes_none s me l m d cell answer h locus answers =
    subst (λ (o : Outcome). MakesNone o (LocusCell m) (AtlasCell (atlas_state d)) answer) (sym (none_made s me l d cell h))
    (record { locus_made = ap LocusCell locus; answers = answers; same_atlas = refl; no_other = refl; no_newborn = refl })

-- such an instruction doesn't halt
pub none_within : (l : LocusState) (d : Directory) → IsReadyLocus l → NoNumberFree l d → l.place < 128
none_within l d ready h = place_within l ready (λ halts. by halts h.is)
  where
    by : instr_at l ≡ Halt → (WantsBirth is_make l × (40 ≤ length d.containers)) ⊎ (WantsBirth is_spawn l × (23 ≤ length d.loci)) → ⊥
    by halts (inl m) = true≢false (sym (birth_instr is_make l m.0) ∙ ap is_make halts)
    by halts (inr m) = true≢false (sym (birth_instr is_spawn l m.0) ∙ ap is_spawn halts)

pub none_touches : (me : ℕ) (l : LocusState) (d : Directory) → NoNumberFree l d → Touches (wanted me l)
none_touches me l d h = by h.is
  where
    by : (WantsBirth is_make l × (40 ≤ length d.containers)) ⊎ (WantsBirth is_spawn l × (23 ≤ length d.loci)) → Touches (wanted me l)
    by (inl m) = make_touches me l m.0
    by (inr m) = spawn_touches me l m.0

accesses_none : (me : ℕ) (act : Act) (o : Outcome) → Touches act → o.newborn ≡ None → 0 < me → ordered (accesses_of me act o) ≡ writing 0 (AtlasCell o.atlas) ∷ writing me (LocusCell o.locus) ∷ []
accesses_none me act o h none some =
    (λ i. ordered (with_atlas_access (h.atlas i) o.atlas (with_other_access (h.other i) o.other (with_newborn_access (none i) (writing me (LocusCell o.locus) ∷ [])))))
    ∙ rw (lt-ltb 0 me some) refl

pub stepped_none : (s : Supply) (words : ℕ → List ℕ) (w : KernelState) (c a c' a' : Cell) (l : LocusState) (d : Directory) (answer : Answer) (e : Entry)
    → HasCell s words w c → HasCell s words w a → part_of s words c.part ≡ LocusCell l → part_of s words a.part ≡ AtlasCell (atlas_state d) → l.condition ≡ Running
    → Touches (wanted c.clock.entity l) → a.clock.entity ≡ 0 → 0 < c.clock.entity
    → MakesNone (outcome s l (wanted c.clock.entity l) (atlas_state d) NotBorn) (part_of s words c'.part) (part_of s words a'.part) answer
    → c'.clock.entity ≡ c.clock.entity → a'.clock.entity ≡ a.clock.entity
    → ((i j : ModelCell) → CarriesTwo Step c.clock.entity answer w (writing a.clock.entity i ∷ writing c.clock.entity j ∷ []) e a'.clock c'.clock)
    → Steps s c.clock.entity w e (λ v. HasCell s words v c' × HasCell s words v a')
stepped_none s words w c a c' a' l d answer e hasc hasa is isa runs touches zero_at some makes samec samea carries =
    let me = c.clock.entity in
    let o = outcome s l (wanted me l) (atlas_state d) NotBorn in
    let i = AtlasCell o.atlas in
    let j = LocusCell o.locus in
    let accesses : List Access = writing 0 i ∷ writing me j ∷ [] in
    let there : (w 0).cell ≡ AtlasCell (atlas_state d) = ap (λ n. (w n).cell) (sym zero_at) ∙ hasa.part ∙ isa in
    let steps : step s me w ≡ Some (carried_by w Step me accesses o.answer) =
    step_by s w me l (wanted me l) o accesses (hasc.part ∙ is) runs refl (in_state s w l (wanted me l) (atlas_state d) touches there) (accesses_none me (wanted me l) o touches makes.no_newborn some) in
    let made : CarriesTwo Step me answer w accesses e a'.clock c'.clock =
    subst (λ n. CarriesTwo Step me answer w (writing n i ∷ writing me j ∷ []) e a'.clock c'.clock) zero_at (carries i j) in (
      changed w accesses,
      stepped_entry s w me accesses o.answer answer e steps made.entry makes.answers,
      (
        written_cell s words w accesses me (writing me j) j c' (access_second (writing 0 i) (writing me j) [] some) refl samec makes.locus_made made.second,
        written_cell s words w accesses 0 (writing 0 i) i a' (access_first (writing 0 i) (writing me j ∷ [])) refl (samea ∙ zero_at) makes.same_atlas made.first,
      ),
    )
