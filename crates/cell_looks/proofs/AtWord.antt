-- Looks that come to a word, and the steps that make them.
use Rattle.std.proofs.Common.{◌≡◌, ℕ, ◌/◌, Bool, true, false, ◌&&◌, nat_lt, not, if◌then◌else◌, List, Option, Some, None, is_some, find, refl, sym, ap, subst, ◌∙◌}
use Rattle.std.specs.Prelude.{IsOk, OnErr, Ok, Err, Result}
use Rattle.base_types.specs.declared.capabilities.Region.{Region}
use Rattle.base_types.specs.declared.histories.Answer.TheVariants.{Read}
use Rattle.base_types.specs.declared.histories.Entry.{Entry}
use Rattle.base_types.specs.declared.histories.Event.TheVariants.{Step}
use Rattle.base_types.specs.declared.instructions.Instr.{Instr}
use Rattle.base_types.specs.declared.instructions.Instr.TheVariants.{Load, Store}
use Rattle.base_types.specs.declared.instructions.Reply.TheVariants.{NoPage, Ok as Done}
use Rattle.cell_states.specs.model_kernel.Acts.{wanted}
use Rattle.cell_states.specs.model_kernel.Changes.{carried_by, ordered}
use Rattle.cell_states.specs.model_kernel.Outcomes.{Outcome, finish, load, look_address, looked, looked_by, on_cell, outcome, own, own_reply, set_reg, store, with_other, with_word}
use Rattle.cell_states.specs.model_kernel.Refusals.{instr_at, reg}
use Rattle.cell_states.specs.model_kernel.State.{AtlasState, Cell as ModelCell, ContainerCell, ContainerState, KernelState, LocusCell, LocusState, Supply}
use Rattle.cell_states.specs.model_kernel.Steps.{accesses_of, if_running, outcome_in, running, seen_atlas, seen_other}
use Rattle.cell_states.specs.model_kernel.Words.{covers}
use Rattle.act_look.specs.act_alone.Loci.{container_with, locus_of}
use Rattle.act_look.specs.act_alone.declared.loci.Head.{Head}
use Rattle.act_look.specs.act_alone.declared.loci.Locus.{Locus}
use Rattle.act_look.proofs.model_act_facts_lemmas.Alone.{wanted_says}
use Rattle.act_look.specs.act_invoke.Entries.{WantsBeside}
use Rattle.act_look.proofs.act_invoke_lemmas.Entered.{instr_is, made_by}
use Rattle.act_look.specs.page_memory.Words.{words_of}
use Rattle.act_look.specs.Looks.{address_by, address_of, comes_to_word, is_look}
use Rattle.cell_states.specs.declared.cells.Cell.{Cell}
use Rattle.cell_states.specs.declared.cells.Part.TheVariants as part
use Rattle.cell_states.specs.declared.cells.Storage.{Storage}
use Rattle.cell_states.specs.Cells.{IsRunning, container_cell, part_of}
use Rattle.cell_states.proofs.Stepping.{step_by}
use Rattle.cell_looks.specs.Looking.{ComesToWord, IsAnswerOfWord, LooksAtWord}
use Rattle.cell_looks.proofs.LookSteps.{look_touches}
use Rattle.std.proofs.lemmas.Option.{same_Some}
use Rattle.act_look.proofs.Making.{look_apart}

-- THE LOOK

-- what is made of the word is what the look makes
by_region : (l : LocusState) (address needed : ℕ) (done : Outcome) (o : Option Region) → not (is_some o) ≡ true → looked_by l address needed done o ≡ done
by_region l address needed done None none = refl
by_region l address needed done (Some r) none = absurd (cc none)

past_none : {P : Type 0} (t : Bool) → (false && t) ≡ true → P
past_none t is = absurd (cc is)

word_looked : (l : LocusState) (c : ContainerState) (address needed : ℕ) (done : Outcome) → (nat_lt (address / 128) c.pages && not (is_some (find (λ r. covers r (address / 128)) c.regions))) ≡ true → looked l c address needed done ≡ done
word_looked l c address needed done =
    let o = find (λ r. covers r (address / 128)) c.regions in
    elim (nat_lt (address / 128) c.pages) as (λ b. (b && not (is_some o)) ≡ true → (if b then looked_by l address needed done o else own_reply l NoPage) ≡ done) [
      | true ↦ λ none. by_region l address needed done o none
      | false ↦ λ none. past_none (not (is_some o)) none
    ]

word_answered : (l : LocusState) (c : ContainerState) (address needed : ℕ) (done : Outcome) → IsAnswerOfWord done.answer → (nat_lt (address / 128) c.pages && not (is_some (find (λ r. covers r (address / 128)) c.regions))) ≡ true
    → IsAnswerOfWord (looked l c address needed done).answer
word_answered l c address needed done answers comes = subst (λ (o : Outcome). IsAnswerOfWord o.answer) (sym (word_looked l c address needed done comes)) answers

cell_answered : (s : Supply) (l : LocusState) (a : AtlasState) (x : ℕ) (i : Instr) (words : ℕ → ℕ) (h : Head) → is_look i ≡ true → comes_to_word h (address_by l i) ≡ true
    → IsAnswerOfWord (on_cell s l a x i (ContainerCell (container_with words h))).answer
unfolding on_cell load store
cell_answered s l a x (Load d r) words h looks comes =
    let at = look_address l (reg l r) in
    word_answered l (container_with words h) at 1 (own (finish (set_reg l d (words at)) Done) (Read (words at))) tt comes
cell_answered s l a x (Store r v) words h looks comes =
    let at = look_address l (reg l r) in
    word_answered l (container_with words h) at 2 (with_other l Done (ContainerCell (with_word (container_with words h) at (reg l v)))) tt comes
cell_answered s l a x i words h looks comes = absurd (cc looks)

comes_at : (l : LocusState) (x : ℕ) (h : Head) (b : Storage) → WantsBeside is_look l x → b.head ≡ Some h → comes_to_word h (address_of l) ≡ true → ComesToWord l (part.Container b)
comes_at l x h b wants head comes = λ me s words a.
    let made = made_by is_look l x wants (look_apart (instr_at l)) me s a (ContainerCell (container_with (words_of s words b.memory) h)) in
    let here : IsAnswerOfWord (outcome s l (wanted me l) a (ContainerCell (container_with (words_of s words b.memory) h))).answer =
    subst (λ (o : Outcome). IsAnswerOfWord o.answer) (sym made) (cell_answered s l a x (instr_at l) (words_of s words b.memory) h (instr_is is_look l x wants) comes) in
    subst (λ (o : Option Head). IsAnswerOfWord (outcome s l (wanted me l) a (container_cell s words b.memory o)).answer) (sym head) here

must_come : (t : Bool) → (t ≡ false → ⊥) → t ≡ true
must_come true never = refl
must_come false never = absurd (never refl)

-- a fault comes only of a look that comes to a word
pub faults_at_word : (l : LocusState) (x : ℕ) (h : Head) (b : Storage) → WantsBeside is_look l x → b.head ≡ Some h → {T E : Type 0} (r : Result T E) → (comes_to_word h (address_of l) ≡ false → IsOk r)
    → OnErr r (ComesToWord l (part.Container b))
faults_at_word l x h b wants head (Ok y) well = tt
faults_at_word l x h b wants head (Err f) well = comes_at l x h b wants head (must_come (comes_to_word h (address_of l)) (λ past. let e = well past in cc e))

-- what holds anyhow holds after a fault
pub on_any_fault : {T E P : Type 0} (r : Result T E) → P → OnErr r P
on_any_fault (Ok y) p = tt
on_any_fault (Err f) p = p

-- THE STEP

module _ (c d : Cell) (l : Locus) (run : IsRunning c.part l) (wants : WantsBeside is_look (locus_of l) d.clock.entity)
    (comes : (s : Supply) (words : ℕ → List ℕ) (k : LocusState) → part_of s words c.part ≡ LocusCell k → ComesToWord k d.part) where
  -- the step of the locus makes the look
  pub word_step : LooksAtWord c d
  word_step s words w made hasc hasd steps =
      let me = c.clock.entity in
      let k = locus_of l in
      let act = wanted me k in
      let o = outcome_in s k act w in
      let cell : (w me).cell ≡ LocusCell k = hasc.part ∙ ap (part_of s words) run.is in
      let is : made ≡ carried_by w Step me (ordered (accesses_of me act o)) o.answer =
      same_Some made (carried_by w Step me (ordered (accesses_of me act o)) o.answer) (sym steps ∙ step_by s w me k act o (ordered (accesses_of me act o)) cell run.runs refl refl refl) in
      let actor : made.0.actor ≡ me = ap (λ (m : Entry × KernelState). m.0.actor) is in
      let answer : made.0.answer ≡ o.answer = ap (λ (m : Entry × KernelState). m.0.answer) is in
      let touches = look_touches me d.clock.entity k wants in
      let there : seen_other w act.other ≡ part_of s words d.part = ap (seen_other w) touches.other ∙ hasd.part in
      let answers : IsAnswerOfWord o.answer =
      subst (λ (q : ModelCell). IsAnswerOfWord (outcome s k act (seen_atlas w act.atlas) q).answer) (sym there) (comes s words k (ap (part_of s words) run.is) me s words (seen_atlas w act.atlas)) in
      record {
        locus = k;
        runs = ap (λ n. running (w n).cell) actor ∙ (ap running cell ∙ ap (if_running k) run.runs);
        instr = ap (λ n. is_look (wanted n k).instr) actor ∙ (ap is_look (wanted_says me k).instr ∙ instr_is is_look k d.clock.entity wants);
        answer = subst IsAnswerOfWord (sym answer) answers;
      }
