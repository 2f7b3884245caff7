-- The model's step in a state that has the touched cells.
use Rattle.std.proofs.Common.{◌≡◌, ℕ, true, false, if◌then◌else◌, ◌==◌, List, [], ◌∷◌, Option, Some, None, option_map, refl, sym, ap, ◌∙◌}
use Rattle.base_types.specs.declared.histories.Answer.{Answer}
use Rattle.base_types.specs.declared.histories.Entry.{Entry}
use Rattle.base_types.specs.declared.histories.Event.TheVariants.{Step}
use Rattle.base_types.specs.declared.instructions.Condition.TheVariants.{Running}
use Rattle.base_types.specs.declared.instructions.Instr.{Instr}
use Rattle.base_types.specs.declared.instructions.Instr.TheVariants.{Set, Copy, Add, Sub, Jump, Jz, Load, Store, Invoke, Leave, Return, Map, Unmap, Lmap, Lunmap, Take, Give, Drop, Make, Spawn, Stop, Go, Snap, Stabilise, Print, Halt}
use Rattle.base_types.specs.declared.instructions.Reply.{Reply}
use Rattle.cell_clocks.specs.model_kernel.Acts.{Act, act_by, allowed, alone, beside, beside_or_self, wanted}
use Rattle.cell_clocks.specs.model_kernel.Changes.{Access, Change, access_at, carried, carried_by, changed, entry_of, ordered}
use Rattle.cell_clocks.specs.model_kernel.Outcomes.{Outcome, local_act, outcome, with_newborn}
use Rattle.cell_clocks.specs.model_kernel.Refusals.{entity_of, instr_at, refusal}
use Rattle.cell_clocks.specs.model_kernel.State.{Supply, AtlasState, LocusState, Cell as ModelCell, LocusCell, EntityState, KernelState}
use Rattle.cell_clocks.specs.model_kernel.Steps.{accesses_of, change_by, change_of, if_running, numbered_change, outcome_in, running, seen_atlas, seen_other, step, step_change, with_atlas_access, with_newborn_access, with_other_access}
use Rattle.act_calls.specs.model_act_facts.Loci.{IsAlone}
use Rattle.cell_clocks.specs.Clocks.{HasClock, writing, CarriesOne}
use Rattle.cell_clocks.proofs.Changing.{access_first, written_at}
use Rattle.cell_states.specs.declared.cells.Cell.{Cell}
use Rattle.cell_states.specs.Cells.{HasCell, part_of}
use Rattle.cell_states.specs.Steps.{MakesAlone, Steps}

-- ONE STEP

-- a running locus steps by its act, over what the act touches in order
pub step_by : (s : Supply) (w : KernelState) (me : ℕ) (l : LocusState) (act : Act) (o : Outcome) (accesses : List Access)
    → (w me).cell ≡ LocusCell l → l.condition ≡ Running → wanted me l ≡ act → outcome_in s l act w ≡ o → ordered (accesses_of me act o) ≡ accesses
    → step s me w ≡ Some (carried_by w Step me accesses o.answer)
unfolding step_change change_of
step_by s w me l act o accesses cell runs wants makes order =
    let run : running (w me).cell ≡ Some l = ap running cell ∙ ap (if_running l) runs in
    let change : change_of s w me l ≡ change_by me act o = ap (λ (a : Act). change_by me a (outcome_in s l a w)) wants ∙ ap (change_by me act) makes in
    ap (λ (o : Option LocusState). option_map (λ (c : ℕ × Change). carried w Step c.0 c.1) (option_map (numbered_change s me w) o)) run
    ∙ ap (λ (c : Change). Some (carried w Step me c)) change
    ∙ ap (λ (accesses : List Access). Some (carried_by w Step me accesses o.answer)) order

-- with the entry that the code makes
pub stepped_entry : (s : Supply) (w : KernelState) (me : ℕ) (accesses : List Access) (told answer : Answer) (e : Entry)
    → step s me w ≡ Some (carried_by w Step me accesses told) → e ≡ entry_of w Step me accesses answer → answer ≡ told
    → step s me w ≡ Some (e, changed w accesses)
stepped_entry s w me accesses told answer e steps entry same =
    steps ∙ (λ i. Some (entry_of w Step me accesses (sym same i), changed w accesses)) ∙ (λ i. Some (sym entry i, changed w accesses))

-- a written cell, with its new clock
pub written_cell : (s : Supply) (words : ℕ → List ℕ) (w : KernelState) (accesses : List Access) (x : ℕ) (a : Access) (k : ModelCell) (c : Cell)
    → access_at accesses x ≡ Some a → a.new ≡ Some k → c.clock.entity ≡ x → part_of s words c.part ≡ k → HasClock (changed w accesses) c.clock → HasCell s words (changed w accesses) c
written_cell s words w accesses x a k c at new same is clock =
    record { part = ap (λ y. (changed w accesses y).cell) same ∙ ap (λ (e : EntityState). e.cell) (written_at w accesses x a k at new) ∙ sym is; clock = clock }

-- THE LOCUS ALONE

some_none : {A : Type 0} {x : A} → Some x ≡ None → ⊥
some_none e = cc

own_bears : (l : LocusState) (i : Instr) → (local_act l i).newborn ≡ None
unfolding local_act
own_bears l (Stop c) = refl
own_bears l i = refl

self_bears : (s : Supply) (me : ℕ) (l : LocusState) (a : AtlasState) (cell : ModelCell) (i : Instr) (x : ℕ) → with_newborn s l a i ≡ local_act l i → (beside_or_self me i x).other ≡ None
    → (outcome s l (beside_or_self me i x) a cell).newborn ≡ None
unfolding outcome
self_bears s me l a cell i x local =
    elim (x == me) as (λ b. (if b then alone i None else beside i x).other ≡ None → (outcome s l (if b then alone i None else beside i x) a cell).newborn ≡ None) [
      | true ↦ λ _. ap (λ (o : Outcome). o.newborn) local ∙ own_bears l i
      | false ↦ λ e. absurd (some_none e)
    ]

allowed_bears : (s : Supply) (me : ℕ) (l : LocusState) (a : AtlasState) (cell : ModelCell) (i : Instr) → IsAlone (allowed me l i) → (outcome s l (allowed me l i) a cell).newborn ≡ None
unfolding allowed outcome with_newborn
allowed_bears s me l a cell (Stop c) h = self_bears s me l a cell (Stop c) (entity_of l c) refl h.other
allowed_bears s me l a cell (Go c) h = self_bears s me l a cell (Go c) (entity_of l c) refl h.other
allowed_bears s me l a cell (Snap c) h = self_bears s me l a cell (Snap c) (entity_of l c) refl h.other
allowed_bears s me l a cell (Load d r) h = absurd (some_none h.other)
allowed_bears s me l a cell (Store r v) h = absurd (some_none h.other)
allowed_bears s me l a cell (Invoke c) h = absurd (some_none h.other)
allowed_bears s me l a cell (Leave c) h = absurd (some_none h.other)
allowed_bears s me l a cell Return h = absurd (some_none h.other)
allowed_bears s me l a cell (Map d r c b n rights) h = absurd (some_none h.other)
allowed_bears s me l a cell (Unmap d r) h = absurd (some_none h.other)
allowed_bears s me l a cell (Take d c y) h = absurd (some_none h.other)
allowed_bears s me l a cell (Give d c r rights) h = absurd (some_none h.other)
allowed_bears s me l a cell (Make d n t e) h = absurd (some_none h.newborn)
allowed_bears s me l a cell (Spawn d p) h = absurd (some_none h.newborn)
allowed_bears s me l a cell (Set d n) h = own_bears l (Set d n)
allowed_bears s me l a cell (Copy d r) h = own_bears l (Copy d r)
allowed_bears s me l a cell (Add d r) h = own_bears l (Add d r)
allowed_bears s me l a cell (Sub d r) h = own_bears l (Sub d r)
allowed_bears s me l a cell (Jump p) h = own_bears l (Jump p)
allowed_bears s me l a cell (Jz r p) h = own_bears l (Jz r p)
allowed_bears s me l a cell (Lmap k c b n rights) h = own_bears l (Lmap k c b n rights)
allowed_bears s me l a cell (Lunmap k) h = own_bears l (Lunmap k)
allowed_bears s me l a cell (Drop r) h = own_bears l (Drop r)
allowed_bears s me l a cell (Stabilise c) h = own_bears l (Stabilise c)
allowed_bears s me l a cell (Print r) h = own_bears l (Print r)
allowed_bears s me l a cell Halt h = own_bears l Halt

-- an act that touches the locus alone bears nothing
pub alone_bears : (s : Supply) (me : ℕ) (l : LocusState) (a : AtlasState) (cell : ModelCell) → IsAlone (wanted me l) → (outcome s l (wanted me l) a cell).newborn ≡ None
unfolding wanted outcome
alone_bears s me l a cell = by (refusal l (instr_at l))
  where
    by : (r : Option Reply) → IsAlone (act_by me l (instr_at l) r) → (outcome s l (act_by me l (instr_at l) r) a cell).newborn ≡ None
    by (Some why) h = refl
    by None h = allowed_bears s me l a cell (instr_at l) h

accesses_alone : (me : ℕ) (act : Act) (o : Outcome) → IsAlone act → o.newborn ≡ None → ordered (accesses_of me act o) ≡ writing me (LocusCell o.locus) ∷ []
accesses_alone me act o h none =
    λ i. ordered (with_atlas_access (h.atlas i) o.atlas (with_other_access (h.other i) o.other (with_newborn_access (none i) (record { entity = me; new = Some (LocusCell o.locus) } ∷ []))))

-- the outcome of the wanted act in a state
abbrev pub outcome_at : Supply → ℕ → LocusState → KernelState → Outcome
outcome_at s me l w = outcome s l (wanted me l) (seen_atlas w (wanted me l).atlas) (seen_other w (wanted me l).other)

pub stepped_alone : (s : Supply) (words : ℕ → List ℕ) (w : KernelState) (c d : Cell) (l : LocusState) (answer : Answer) (e : Entry)
    → HasCell s words w c → part_of s words c.part ≡ LocusCell l → l.condition ≡ Running → IsAlone (wanted c.clock.entity l)
    → MakesAlone (outcome_at s c.clock.entity l w) (part_of s words d.part) answer → d.clock.entity ≡ c.clock.entity
    → ((j : ModelCell) → CarriesOne Step c.clock.entity answer w (writing c.clock.entity j ∷ []) e d.clock)
    → Steps s c.clock.entity w e (λ v. HasCell s words v d)
stepped_alone s words w c d l answer e has is runs alone makes same carries =
    let me = c.clock.entity in
    let o = outcome_at s me l w in
    let k = LocusCell o.locus in
    let accesses : List Access = writing me k ∷ [] in
    let steps : step s me w ≡ Some (carried_by w Step me accesses o.answer) =
    step_by s w me l (wanted me l) o accesses (has.part ∙ is) runs refl refl (accesses_alone me (wanted me l) o alone (alone_bears s me l (seen_atlas w (wanted me l).atlas) (seen_other w (wanted me l).other) alone)) in
    let made = carries k in (
      changed w accesses,
      stepped_entry s w me accesses o.answer answer e steps made.entry makes.answers,
      written_cell s words w accesses me (writing me k) k d (access_first (writing me k) []) refl same makes.locus made.first,
    )
