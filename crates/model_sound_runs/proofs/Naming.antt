-- A step takes no name from the atlas, so no birth is owed again.
use Rattle.std.proofs.Common.{◌≡◌, ℕ, ◌+◌, ◌<◌, Bool, true, false, if◌then◌else◌, ◌==◌, List, [], ◌∷◌, ◌++◌, Option, Some, None, is_some, is_none, option_map, option_and_then, refl, sym, ap, subst, ◌∙◌, arith, inl, inr}
use Rattle.std.proofs.lemmas.Bool.{false≢true}
use Rattle.std.proofs.lemmas.Bool.Decides.{nat_tests}
use Rattle.std.proofs.lemmas.List.{append-nil, append_assoc}
use Rattle.script_types.specs.base_types.declared.histories.Entry.{Entry}
use Rattle.script_types.specs.base_types.declared.histories.Event.TheVariants.{Birth, Step, Snap as SnapEvent, Stable, Tried}
use Rattle.script_types.specs.base_types.declared.capabilities.Region.{Region}
use Rattle.script_types.specs.base_types.declared.capabilities.Rights.{Rights}
use Rattle.script_types.specs.base_types.declared.instructions.Instr.{Instr}
use Rattle.script_types.specs.base_types.declared.instructions.Instr.TheVariants.{Map, Unmap, Make, Spawn, Stop, Go, Snap}
use Rattle.script_types.specs.base_types.declared.instructions.Reply.{Reply}
use Rattle.script_types.specs.model_kernel.State.{Supply, Text, AtlasState, ContainerState, LocusState, Cell, NotBorn, AtlasCell, ContainerCell, LocusCell, KernelState}
use Rattle.script_types.specs.model_kernel.Words.{or_else}
use Rattle.script_types.specs.model_kernel.Refusals.{reg, instr_at, entity_of, new_region, refusal}
use Rattle.script_types.specs.model_kernel.Acts.{Act, alone, beside, beside_or_self, allowed, act_by, wanted}
use Rattle.script_types.specs.model_kernel.Outcomes.{Outcome, outcome, on_cell, with_newborn, map_region, map_by, map_refusal, unmap, unmap_at, make, make_at, spawn, spawn_at, free_container, free_locus}
use Rattle.script_types.specs.model_kernel.Changes.{Change, carried}
use Rattle.script_types.specs.model_kernel.Births.{birth_named, next_birth_change, next_birth}
use Rattle.script_types.specs.model_kernel.Scripts.{ContainerTable, LocusTable, Script, atlas_name, container_named, locus_named, number_of, next_container_name, next_locus_name, next_name, place_of, text_eq}
use Rattle.script_types.specs.model_kernel.Soundness.{IsSound}
use Rattle.script_types.specs.model_kernel.Steps.{atlas_in, seen_atlas, seen_other, outcome_in, accesses_of, change_of, running, numbered_change, step_change, step}
use Rattle.script_types.specs.model_kernel.Parts.{is_event, next_of}
use Rattle.script_types.specs.model_kernel.Histories.{Policy, Run, may, May, goes_on, event_of, births_owed, IsLegalFrom, IsLegalRun, start_run, run_after}
use Rattle.script_types.proofs.model_kernel_lemmas.Basics.{some_of_map}
use Rattle.script_types.proofs.model_kernel_lemmas.Faithful.{wanted_is}
use Rattle.script_types.proofs.model_kernel_lemmas.LegalRuns.{state_goes_on}
use Rattle.script_types.proofs.model_kernel_lemmas.StepTallies.{other_atlas, put_atlas, put_atlas_0, put_newborn, put_other, running_is, step_cell}
use Rattle.script_types.proofs.model_kernel_lemmas.Writes.{cell_with, changed_cell}
use Rattle.script_types.specs.Rules.{IsScript}
use Rattle.model_run_laws.proofs.Wishes.{legal_back}
use Rattle.model_sound_steps.proofs.Cells.{locus_in}
use Rattle.std.specs.List.{All}
use Rattle.model_sound_runs.specs.Names.{KeepsNames}
use Rattle.model_sound_runs.proofs.Acting.{newborn_is}
use Rattle.model_sound_runs.proofs.Births.{NotLocus}
use Rattle.model_sound_runs.proofs.Standing.{IsStanding, standing_next, standing_over}
use Rattle.script_types.proofs.model_kernel_lemmas.StableCuts.{legal_front, run_append}

-- NAMES THAT ARE KEPT

pub keeps_then : (a b c : AtlasState) → KeepsNames a b → KeepsNames b c → KeepsNames a c
keeps_then a b c f g = record {
  containers = (f.containers.0 ++ g.containers.0, g.containers.1 ∙ ap (λ us. us ++ g.containers.0) f.containers.1 ∙ append_assoc a.containers f.containers.0 g.containers.0);
  loci = (f.loci.0 ++ g.loci.0, g.loci.1 ∙ ap (λ us. us ++ g.loci.0) f.loci.1 ∙ append_assoc a.loci f.loci.0 g.loci.0);
}

pub keeps_same : (a b : AtlasState) → b.containers ≡ a.containers → b.loci ≡ a.loci → KeepsNames a b
keeps_same a b c l = record { containers = ([], c ∙ sym (append-nil a.containers)); loci = ([], l ∙ sym (append-nil a.loci)) }

-- an act that may change the atlas
module _ (s : Supply) (l : LocusState) (a : AtlasState) where
  map_by_keeps : (x : ℕ) (c : ContainerState) (r : Region) (why : Option Reply) → KeepsNames a (map_by l a x c r why).atlas
  map_by_keeps x c r (Some why) = keeps_same a a refl refl
  map_by_keeps x c r None = keeps_same a _ refl refl

  unmap_at_keeps : (x : ℕ) (c : ContainerState) (at : ℕ) (r : Option Region) → KeepsNames a (unmap_at l a x c at r).atlas
  unmap_at_keeps x c at None = keeps_same a a refl refl
  unmap_at_keeps x c at (Some r) = keeps_same a _ refl refl

  pub map_keeps : (x d r c b n : ℕ) (rights : Rights) (k : Cell) → KeepsNames a (on_cell s l a x (Map d r c b n rights) k).atlas
  unfolding on_cell map_region
  map_keeps x d r c b n rights NotBorn = keeps_same a a refl refl
  map_keeps x d r c b n rights (AtlasCell z) = keeps_same a a refl refl
  map_keeps x d r c b n rights (ContainerCell z) = map_by_keeps x z (new_region l r c b n rights) (map_refusal a x z (new_region l r c b n rights))
  map_keeps x d r c b n rights (LocusCell z) = keeps_same a a refl refl

  pub unmap_keeps : (x d r : ℕ) (k : Cell) → KeepsNames a (on_cell s l a x (Unmap d r) k).atlas
  unfolding on_cell unmap
  unmap_keeps x d r NotBorn = keeps_same a a refl refl
  unmap_keeps x d r (AtlasCell z) = keeps_same a a refl refl
  unmap_keeps x d r (ContainerCell z) = unmap_at_keeps x z (reg l r) _
  unmap_keeps x d r (LocusCell z) = keeps_same a a refl refl

  pub make_keeps : (d pages tag : ℕ) (entry : Option ℕ) → KeepsNames a (make s l a d pages tag entry).atlas
  unfolding make
  make_keeps d pages tag entry = at (free_container a)
    where
      at : (o : Option ℕ) → KeepsNames a (make_at s l a d pages tag entry o).atlas
      at None = keeps_same a a refl refl
      at (Some n) = record { containers = (_, refl); loci = ([], sym (append-nil a.loci)) }

pub spawn_keeps : (l : LocusState) (a : AtlasState) (d place : ℕ) → KeepsNames a (spawn l a d place).atlas
unfolding spawn
spawn_keeps l a d place = at (free_locus a)
  where
    at : (o : Option ℕ) → KeepsNames a (spawn_at l a d place o).atlas
    at None = keeps_same a a refl refl
    at (Some n) = record { containers = ([], sym (append-nil a.containers)); loci = (_, refl) }

module _ (s : Supply) (me : ℕ) (l : LocusState) (a : AtlasState) where
  module _ (cell : Cell) where
    abbrev pub Keeping : Act → Type 0
    Keeping act = act.atlas ≡ true → KeepsNames a (outcome s l act a cell).atlas

    self_keeping : (i : Instr) (x : ℕ) → Keeping (beside_or_self me i x)
    self_keeping i x = elim (x == me) as (λ t. Keeping (if t then alone i None else beside i x)) [ true ↦ λ h. absurd (false≢true h) | false ↦ λ h. absurd (false≢true h) ]

    allowed_keeping : (i : Instr) → Keeping (allowed me l i)
    unfolding allowed outcome with_newborn
    allowed_keeping (Make d n t e) h = make_keeps s l a d (reg l n) (reg l t) e
    allowed_keeping (Spawn d p) h = spawn_keeps l a d p
    allowed_keeping (Map d r c b n rights) h = map_keeps s l a (entity_of l d) d r c b n rights cell
    allowed_keeping (Unmap d r) h = unmap_keeps s l a (entity_of l d) d r cell
    allowed_keeping (Stop c) h = self_keeping (Stop c) (entity_of l c) h
    allowed_keeping (Go c) h = self_keeping (Go c) (entity_of l c) h
    allowed_keeping (Snap c) h = self_keeping (Snap c) (entity_of l c) h
    allowed_keeping i h = absurd (false≢true h)

    wanted_keeping : Keeping (wanted me l)
    unfolding wanted
    wanted_keeping = by_refusal (refusal l (instr_at l))
      where
        by_refusal : (o : Option Reply) → Keeping (act_by me l (instr_at l) o)
        by_refusal (Some why) = λ h. absurd (false≢true h)
        by_refusal None = allowed_keeping (instr_at l)

-- NAMES THAT ARE KNOWN

abbrev pub KnowsMore : AtlasState → AtlasState → Type 0
KnowsMore a b = (x : Text) → is_some (number_of a x) ≡ true → is_some (number_of b x) ≡ true

place_more : (x : Text) (ts us : List Text) (k : ℕ) → is_some (place_of x ts k) ≡ true → is_some (place_of x (ts ++ us) k) ≡ true
place_more x [] us k h = absurd (false≢true h)
place_more x (t ∷ ts) us k h =
    elim (text_eq x t) as (λ b. is_some (if b then Some k else place_of x ts (k + 1)) ≡ true → is_some (if b then Some k else place_of x (ts ++ us) (k + 1)) ≡ true) [
      | true ↦ λ _. refl
      | false ↦ λ e. place_more x ts us (k + 1) e
    ] h

known_either : (b : Bool) (c d c' d' : Option ℕ) → (is_some c ≡ true → is_some c' ≡ true) → (is_some d ≡ true → is_some d' ≡ true) → is_some (if b then Some 0 else or_else c d) ≡ true → is_some (if b then Some 0 else or_else c' d') ≡ true
known_either true c d c' d' f g h = refl
known_either false (Some n) d (Some m) d' f g h = refl
known_either false (Some n) d None d' f g h = absurd (false≢true (f refl))
known_either false None d (Some m) d' f g h = refl
known_either false None d None d' f g h = g h

keeps_known : (a b : AtlasState) → KeepsNames a b → KnowsMore a b
keeps_known a b k x h =
    known_either (text_eq x atlas_name) (container_named a x) (locus_named a x) (container_named b x) (locus_named b x)
    (λ e. subst (λ (ts : List Text). is_some (place_of x ts 1) ≡ true) (sym k.containers.1) (place_more x a.containers k.containers.0 1 e))
    (λ e. subst (λ (ts : List Text). is_some (place_of x ts 41) ≡ true) (sym k.loci.1) (place_more x a.loci k.loci.0 41 e)) h

is_known : (o : Option ℕ) → is_none o ≡ false → is_some o ≡ true
is_known None e = absurd (false≢true (sym e))
is_known (Some n) e = refl

not_none : (o : Option ℕ) → is_some o ≡ true → is_none o ≡ false
not_none None e = absurd (false≢true e)
not_none (Some n) e = refl

no_container_next : (a b : AtlasState) (ts : List ContainerTable) → KnowsMore a b → next_container_name a ts ≡ None → next_container_name b ts ≡ None
no_container_next a b [] more none = refl
no_container_next a b (t ∷ ts) more none =
    elim (is_none (number_of a t.name)) as (λ q. is_none (number_of a t.name) ≡ q → (if q then Some t.name else next_container_name a ts) ≡ None → (if is_none (number_of b t.name) then Some t.name else next_container_name b ts) ≡ None) [
      | true ↦ λ is e. cc
      | false ↦ λ is e. (let known = not_none _ (more t.name (is_known _ is)) in rw known (no_container_next a b ts more e))
    ] refl none

no_locus_next : (a b : AtlasState) (ts : List LocusTable) → KnowsMore a b → next_locus_name a ts ≡ None → next_locus_name b ts ≡ None
no_locus_next a b [] more none = refl
no_locus_next a b (t ∷ ts) more none =
    elim (is_none (number_of a t.name)) as (λ q. is_none (number_of a t.name) ≡ q → (if q then Some t.name else next_locus_name a ts) ≡ None → (if is_none (number_of b t.name) then Some t.name else next_locus_name b ts) ≡ None) [
      | true ↦ λ is e. cc
      | false ↦ λ is e. (let known = not_none _ (more t.name (is_known _ is)) in rw known (no_locus_next a b ts more e))
    ] refl none

none_of_is : {A : Type 0} (o : Option A) → is_some o ≡ false → o ≡ None
none_of_is None e = refl
none_of_is (Some x) e = absurd (false≢true (sym e))

no_next : (a b : AtlasState) (script : Script) → KnowsMore a b → is_some (next_name a script) ≡ false → is_some (next_name b script) ≡ false
no_next a b script more none = by_containers (next_container_name a script.containers) (next_locus_name a script.loci) refl refl none
  where
    by_containers : (c l : Option Text) → next_container_name a script.containers ≡ c → next_locus_name a script.loci ≡ l → is_some (or_else c l) ≡ false → is_some (next_name b script) ≡ false
    by_containers (Some x) l ec el e = absurd (false≢true (sym e))
    by_containers None (Some x) ec el e = absurd (false≢true (sym e))
    by_containers None None ec el e = (let p = no_container_next a b script.containers more ec in let q = no_locus_next a b script.loci more el in rw (p, q) refl)

-- THE ATLAS AFTER A STEP

pub above_0 : (n : ℕ) → 0 < n → (n == 0) ≡ false
above_0 n h = grind (arith, nat_tests)

newborn_0 : (newborn : Option (ℕ × Cell)) (c : Cell) → ((b : ℕ × Cell) → newborn ≡ Some b → 0 < b.0) → put_newborn newborn 0 c ≡ c
newborn_0 None c h = refl
newborn_0 (Some b) c h = (let e = above_0 b.0 (h b refl) in rw e refl)

module _ (s : Supply) (me : ℕ) (w : KernelState) (a : AtlasState) (there : (w 0).cell ≡ AtlasCell a) (l : LocusState) (high : 0 < me) where
  born_high : (b : ℕ × Cell) → (outcome_in s l (wanted me l) w).newborn ≡ Some b → 0 < b.0
  born_high b is =
      let act = wanted me l in
      let f = newborn_is s me l (seen_atlas w act.atlas) (seen_other w act.other) b is in
      elim f.3 as (λ _. 0 < b.0) [ inl k ↦ k.0 | inr k ↦ (let e = k.0 in omega arith) ]

  chosen : (t : Bool) (o : Outcome) → (t ≡ true → KeepsNames (seen_atlas w t) o.atlas) → KeepsNames a (if◌then◌else◌ {A = AtlasState} t o.atlas a)
  chosen true o h = subst (λ b. KeepsNames b o.atlas) (ap atlas_in there) (h refl)
  chosen false o h = keeps_same a a refl refl

  step_atlas : KeepsNames a (atlas_in (cell_with (accesses_of me (wanted me l) (outcome_in s l (wanted me l) w)) 0 (w 0).cell))
  step_atlas =
      let act = wanted me l in
      let o = outcome_in s l act w in
      let c = put_other act.other o.other 0 (put_atlas act.atlas o.atlas 0 (w 0).cell) in
      let cell : cell_with (accesses_of me act o) 0 (w 0).cell ≡ c =
      step_cell me o.locus act.atlas o.atlas act.other o.other o.newborn 0 (w 0).cell ∙ ap (λ t. if t then LocusCell o.locus else put_newborn o.newborn 0 c) (above_0 me high) ∙ newborn_0 o.newborn c born_high in
      elim (other_atlas w act.other o.other (put_atlas act.atlas o.atlas 0 (w 0).cell) a _ (wanted_is s me l (seen_atlas w act.atlas) (seen_other w act.other)).other_keeps there (put_atlas_0 act.atlas a o.atlas (w 0).cell there)) as (λ _. KeepsNames a (atlas_in (cell_with (accesses_of me act o) 0 (w 0).cell))) [
        | inl is ↦ subst (λ k. KeepsNames a (atlas_in k)) (sym (cell ∙ is)) (chosen act.atlas o (wanted_keeping s me l (seen_atlas w act.atlas) (seen_other w act.other)))
        | inr is ↦ subst (λ k. KeepsNames a (atlas_in k)) (sym (cell ∙ is)) (keeps_same a a refl refl)
      ]

-- a step takes no name from the atlas
pub step_keeps : (s : Supply) (me : ℕ) (w : KernelState) (r : Entry × KernelState) → IsSound (λ x. (w x).cell) → step s me w ≡ Some r → KeepsNames (atlas_in (w 0).cell) (atlas_in (r.1 0).cell)
unfolding step_change change_of
step_keeps s me w r sound is =
    let change = some_of_map (λ (c : ℕ × Change). carried w Step c.0 c.1) (step_change s me w) r is in
    let locus = some_of_map (numbered_change s me w) (running (w me).cell) change.0 change.1 in
    let l = locus.0 in
    let at = locus_in sound.0 (λ x. (w x).cell) me l sound.1 (running_is (w me).cell l locus.1) in
    let whole : carried w Step me (change_of s w me l) ≡ r = ap (λ (c : ℕ × Change). carried w Step c.0 c.1) locus.2 ∙ change.2 in
    let cell : (r.1 0).cell ≡ cell_with (accesses_of me (wanted me l) (outcome_in s l (wanted me l) w)) 0 (w 0).cell =
    ap (λ (q : Entry × KernelState). (q.1 0).cell) (sym whole) ∙ changed_cell w (accesses_of me (wanted me l) (outcome_in s l (wanted me l) w)) 0 in
    subst (λ b. KeepsNames b (atlas_in (r.1 0).cell)) (sym (ap atlas_in sound.1.atlas))
    (subst (λ k. KeepsNames sound.0 (atlas_in k)) (sym cell) (step_atlas s me w sound.0 sound.1.atlas l (above sound.0 at.0)))
  where
    above : (a : AtlasState) → Rattle.std.specs.Prelude.IsTrue (Rattle.script_types.specs.model_kernel.Soundness.is_born_locus a me) → 0 < me
    above a born = grind (arith, nat_tests)

-- NO BIRTH IS OWED AGAIN

module _ (s : Supply) (policy : Policy) (script : Script) (rules : IsScript script) where
  after_step : (w : KernelState) (actor : ℕ) → IsSound (λ x. (w x).cell) → (o : Option (Entry × KernelState)) → step s actor w ≡ o → KeepsNames (atlas_in (w 0).cell) (atlas_in (next_of (event_of s script) w o 0).cell)
  after_step w actor sound None is = keeps_same (atlas_in (w 0).cell) (atlas_in (w 0).cell) refl refl
  after_step w actor sound (Some r) is = step_keeps s actor w r sound is

  no_birth : (w : KernelState) (e : Entry) → is_some (next_name (atlas_in (w 0).cell) script) ≡ false → option_map (λ (q : Entry × KernelState). q.0) (next_birth s script w) ≡ Some e → ⊥
  unfolding next_birth_change
  no_birth w e none made = no_entry e (ap (λ o. option_map (λ (q : Entry × KernelState). q.0) (option_map (λ (c : ℕ × Change). carried w Birth c.0 c.1) (option_and_then (λ name. birth_named s script name w (atlas_in (w 0).cell)) o))) (sym (none_of_is _ none)) ∙ made)
    where
      no_entry : (e : Entry) → None ≡ Some e → ⊥
      no_entry e h = cc

  -- where no birth is owed all names stay
  names_next : (r : Run) (e : Entry) → May s policy script r e → IsStanding script r → births_owed script r ≡ false → KeepsNames (atlas_in (r.state 0).cell) (atlas_in ((goes_on s script r e).state 0).cell)
  names_next r e m k none =
      let next = state_goes_on s policy script r e in
      let a = atlas_in (r.state 0).cell in
      let same = keeps_same a a refl refl in
      subst (λ (w : KernelState). KeepsNames a (atlas_in (w 0).cell)) (sym next)
      (elim e.event as (λ ev. may s policy script r e ev → KeepsNames a (atlas_in ((if is_event ev then next_of (event_of s script) r.state (Rattle.script_types.specs.model_kernel.Histories.by_event s script ev e.actor r.state) else r.state) 0).cell)) [
        | Birth ↦ λ m. absurd (no_birth r.state e none m.1)
        | Step ↦ λ m. after_step r.state e.actor k.sound (step s e.actor r.state) refl
        | SnapEvent ↦ λ m. same
        | Stable ↦ λ m. same
        | Tried ↦ λ m. same
      ] m.1)

  pub owed_next : (r : Run) (e : Entry) → May s policy script r e → IsStanding script r → births_owed script r ≡ false → births_owed script (goes_on s script r e) ≡ false
  owed_next r e m k none =
      let a = atlas_in (r.state 0).cell in
      let b = atlas_in ((goes_on s script r e).state 0).cell in
      no_next a b script (keeps_known a b (names_next r e m k none)) none

  pub owed_over : (fs : List Entry) (r : Run) → IsLegalFrom s policy script r fs → IsStanding script r → births_owed script r ≡ false → births_owed script (run_after s script r fs) ≡ false
  owed_over [] r legal k none = none
  owed_over (e ∷ fs) r legal k none = owed_over fs (goes_on s script r e) legal.1 (standing_next s policy script rules r e legal.0 k) (owed_next r e legal.0 k none)

  pub names_over : (fs : List Entry) (r : Run) → IsLegalFrom s policy script r fs → IsStanding script r → births_owed script r ≡ false → KeepsNames (atlas_in (r.state 0).cell) (atlas_in ((run_after s script r fs).state 0).cell)
  names_over [] r legal k none = keeps_same (atlas_in (r.state 0).cell) (atlas_in (r.state 0).cell) refl refl
  names_over (e ∷ fs) r legal k none =
      let q : Run = goes_on s script r e in
      keeps_then (atlas_in (r.state 0).cell) (atlas_in (q.state 0).cell) (atlas_in ((run_after s script q fs).state 0).cell) (names_next r e legal.0 k none)
      (names_over fs q legal.1 (standing_next s policy script rules r e legal.0 k) (owed_next r e legal.0 k none))

  pub births_over : (w : KernelState) (es fs : List Entry) → All (NotLocus (atlas_in (w 0).cell)) script.containers → IsSound (λ x. (w x).cell) → IsLegalRun s policy w script (es ++ fs)
      → births_owed script (run_after s script (start_run w) es) ≡ false → births_owed script (run_after s script (start_run w) (es ++ fs)) ≡ false
  births_over w es fs kinds sound legal none =
      let front = legal_front s policy script (start_run w) es fs legal in
      let k = standing_over s policy script rules es (start_run w) front (record { sound = sound; kinds = λ _. kinds }) in
      subst (λ (r : Run). births_owed script r ≡ false) (sym (run_append s policy script (start_run w) es fs)) (owed_over fs (run_after s script (start_run w) es) (legal_back s policy script (start_run w) es fs legal) k none)
