-- Steps of plain states, whole: what they rest on, and what they leave.
use Rattle.std.proofs.Common.{◌≡◌, ℕ, nat_lt, ◌+◌, ◌-◌, ◌<◌, ◌≤◌, Bool, true, false, if◌then◌else◌, ◌==◌, IsTrue, List, [], ◌∷◌, length, get_or, Option, Some, None, slice_get, slice_set, slice_index, is_some, unwrap_or, refl, sym, ap, subst, ◌∙◌, arith, eqb-true}
use Rattle.std.proofs.lemmas.Bool.Decides.{nat_tests}
use Rattle.std.proofs.lemmas.List.{length-set}
use Rattle.std.proofs.lemmas.Option.{slice_get_read, slice_get_within}
use Rattle.base_types.specs.Instructions.{IsInstruction}
use Rattle.base_types.specs.declared.histories.Answer.{Answer}
use Rattle.base_types.specs.declared.histories.Entry.{Entry}
use Rattle.base_types.specs.declared.histories.Answer.TheVariants.{Reply as Replied}
use Rattle.base_types.specs.declared.instructions.Instr.{Instr}
use Rattle.base_types.specs.declared.instructions.Instr.TheVariants.{Stop, Go, Snap}
use Rattle.base_types.specs.declared.instructions.Condition.TheVariants.{Running}
use Rattle.base_types.specs.declared.instructions.Reply.{Reply}
use Rattle.base_types.specs.declared.instructions.Reply.TheVariants.{Ok as OkReply}
use Rattle.model_kernel.specs.Acts.{Act, alone, beside, wanted}
use Rattle.model_kernel.specs.Changes.{Access, access_at, ordered}
use Rattle.model_kernel.specs.Outcomes.{Outcome, finish, local_act, on_cell, outcome, own_reply, with_other}
use Rattle.model_kernel.specs.Soundness.{AreSound, IsSound, IsSoundContainer, IsSoundLocus, is_born_container, regions_onto}
use Rattle.model_kernel.specs.State.{Supply, AtlasState, LocusState, Cell, NotBorn, AtlasCell, ContainerCell, LocusCell, KernelState, no_atlas}
use Rattle.model_kernel.specs.Steps.{accesses_of, if_running, outcome_in, running}
use Rattle.model_acts.proofs.Ready.{ready}
use Rattle.model_acts.specs.Views.{IsReadyLocus, may_name_itself}
use Rattle.plain_states.proofs.model_sound_steps_lemmas.Steps.{step_sound}
use Rattle.plain_states.specs.Entries.{step_entry, versions_after}
use Rattle.plain_states.specs.Events.{StepsTo, state_with}
use Rattle.plain_states.specs.Lists.{IsActingAt}
use Rattle.plain_states.specs.Plains.{cells_by, container_of, locus_cell, locus_of}
use Rattle.plain_states.specs.model_act_facts.Readiness.{IsReadyContainer}
use Rattle.plain_states.specs.declared.entries.Mark.{Mark}
use Rattle.plain_states.specs.declared.plain.PlainContainer.{PlainContainer}
use Rattle.plain_states.specs.declared.plain.PlainLocus.{PlainLocus}
use Rattle.plain_states.proofs.CellLemmas.{both_same, both_set, cell_at_container, cell_at_locus, high_cell, locus_set, slice_get-set_other}
use Rattle.plain_states.proofs.SoundLemmas.{ready_container, sound_container, sound_here, sound_locus}
use Rattle.plain_states.proofs.model_act_facts_lemmas.WantLemmas.{IsAllowed, allowed_by, atlas_beside, container_beside, instruction_at, local_made, locus_beside, names_another, neighbour}
use Rattle.plain_facts.specs.Acts.{Acted, controlled}
use Rattle.plain_facts.proofs.BesideLemmas.{acted_writing}
use Rattle.plain_facts.proofs.StepLemmas.{cell_by, ordered_swapped, rising_ordered, steps_by, versions_by}

-- WHOLE STATES

-- a state whose cells are as before is as sound as before
pub same_sound : (old new : ℕ → Cell) → ((x : ℕ) → new x ≡ old x) → IsSound old → IsSound new
same_sound old new same h = (
  h.0,
  record {
    atlas = same 0 ∙ h.1.atlas;
    names = h.1.names;
    containers = λ x born. let c = h.1.containers x born in (c.0, same x ∙ c.1, c.2);
    loci = λ x born. let l = h.1.loci x born in (l.0, same x ∙ l.1, l.2);
    others = λ x no. same x ∙ h.1.others x no;
    edges = λ x y. h.1.edges x y ∙ ap (λ k. regions_onto k y) (sym (same x));
  },
)

-- what a step leaves is sound
pub stepped_sound : (s : Supply) (n : ℕ) (old new : ℕ → Cell) (us vs : List ℕ) (e : Entry) → StepsTo s n old us e new vs → IsSound old → IsSound new
stepped_sound s n old new us vs e steps sound =
    let none : ℕ → ℕ → ℕ = λ x y. 0 in
    let made = steps none in
    same_sound (λ x. (made.0 x).cell) new (λ x. sym (made.2.cells x)) (step_sound s n (state_with old us none) (e, made.0) sound made.1)

-- ONE LOCUS

-- one locus of a sound state, running, and its act
pub record Here (s : Supply) (a : AtlasState) (cs : List PlainContainer) (ls : List PlainLocus) (n j : ℕ) (l : PlainLocus) (act : Act) : Type 0 where
  pub at : j + 41 ≡ n
  pub in_list : j < length ls
  pub is : slice_get ls j ≡ Some l
  pub runs : running (cells_by s a cs ls n) ≡ Some (locus_of l)
  pub sound : AreSound a (cells_by s a cs ls)
  pub sound_here : IsSoundLocus a (locus_of l)
  pub ready : IsReadyLocus (locus_of l)
  pub wants : wanted n (locus_of l) ≡ act

abbrev pub written_mark : ℕ → Mark
written_mark x = record { entity = x; wrote = true }

abbrev pub mark : ℕ → Bool → Mark
mark x wrote = record { entity = x; wrote = wrote }

cell_of_own : (b : Bool) (a : Access) (k new : Cell) → a.new ≡ Some new → cell_by (if b then Some a else None) k ≡ (if b then new else k)
cell_of_own true a k new is = rw is refl
cell_of_own false a k new is = refl

-- where the other entity is written it is new, and else as it was
other_by : (wrote : Bool) (k new : Cell) (o : Option Cell) → o ≡ (if wrote then Some new else None) → (wrote ≡ false → new ≡ k) → unwrap_or o k ≡ new
other_by true k new o e same = rw e refl
other_by false k new o e same = rw e (sym (same refl))

wrote_by : (wrote : Bool) (k : Cell) (o : Option Cell) → o ≡ (if wrote then Some k else None) → wrote ≡ is_some o
wrote_by true k o e = rw e refl
wrote_by false k o e = rw e refl

local_bears : (l : LocusState) (i : Instr) → (local_act l i).newborn ≡ None
unfolding local_act
local_bears l (Stop c) = refl
local_bears l i = refl

module _ (s : Supply) (a : AtlasState) (cs : List PlainContainer) (ls : List PlainLocus) (n j : ℕ) where
  pub here : (act : Act) → IsSound (cells_by s a cs ls) → IsActingAt ls n j act → (l : PlainLocus) → slice_get ls j ≡ Some l → Here s a cs ls n j l act
  here act sound at l is =
      let same : at.locus ≡ l = some_is at.locus l (sym at.is ∙ is) in
      let cell : cells_by s a cs ls n ≡ LocusCell (locus_of l) = cell_at_locus s a cs ls j l n at.at is in
      let good = sound_here s a cs ls sound in
      let snd = sound_locus s a cs ls j l good is in
      record {
        at = at.at;
        in_list = slice_get_within ls j l is;
        is = is;
        runs = ap running cell ∙ ap (if_running (locus_of l)) (subst (λ (m : PlainLocus). m.condition ≡ Running) same at.runs);
        sound = good;
        sound_here = snd;
        ready = ready a (locus_of l) snd;
        wants = subst (λ (m : PlainLocus). wanted n (locus_of m) ≡ act) same at.wants;
      }
    where
      some_is : (l m : PlainLocus) → Some l ≡ Some m → l ≡ m
      some_is l m e = cc

  pub listed : (act : Act) → IsActingAt ls n j act → j < length ls
  listed act at = slice_get_within ls j at.locus at.is

  -- the one that is read at the place
  pub here_read : (act : Act) → IsSound (cells_by s a cs ls) → IsActingAt ls n j act → (l : PlainLocus) → l ≡ get_or ls j l → Here s a cs ls n j l act
  here_read act sound at l is = here act sound at l (slice_get_read ls (length ls) j l refl (listed act at) is)

  pub operands : (l : PlainLocus) (act : Act) → Here s a cs ls n j l act → act.refused ≡ None → IsInstruction act.instr
  operands l act h none = subst IsInstruction (sym (allowed_by n (locus_of l) act h.wants none).instr) (instruction_at a (locus_of l) h.sound_here)

  -- where the locus is as it was, all is
  pub own_same : (l m : PlainLocus) (act : Act) → Here s a cs ls n j l act → locus_of m ≡ locus_of l → (y : ℕ) → cells_by s a cs (slice_set ls j m) y ≡ cells_by s a cs ls y
  own_same l m act h e y =
      locus_set s a cs ls j m y h.in_list ∙
      elim (j + 41 == y) as (λ t. (j + 41 == y) ≡ t → (if t then LocusCell (locus_of m) else cells_by s a cs ls y) ≡ cells_by s a cs ls y) [
        | true ↦ λ at. ap LocusCell e ∙ sym (cell_at_locus s a cs ls j l y (eqb-true _ _ at) h.is)
        | false ↦ λ _. refl
      ] refl

  -- THE LOCUS ALONE

  stepped_own : (l m : PlainLocus) (i : Instr) (refused : Option Reply) (o : Outcome) (us : List ℕ) (answer : Answer) (e : Entry) → Here s a cs ls n j l (alone i refused)
      → ((w : KernelState) → outcome_in s (locus_of l) (alone i refused) w ≡ o) → o.newborn ≡ None → locus_of m ≡ o.locus → answer ≡ o.answer
      → e ≡ step_entry us n (written_mark n ∷ []) answer → n < length us
      → StepsTo s n (cells_by s a cs ls) us e (cells_by s a cs (slice_set ls j m)) (versions_after us (written_mark n ∷ []))
  stepped_own l m i refused o us answer e h makes newborn locus answers entry few =
      let own : Access = record { entity = n; new = Some (LocusCell o.locus) } in
      let order : ordered (accesses_of n (alone i refused) o) ≡ own ∷ [] = rw newborn refl in
      steps_by s (cells_by s a cs ls) (cells_by s a cs (slice_set ls j m)) us (versions_after us (written_mark n ∷ [])) n (locus_of l) (alone i refused) o (own ∷ []) e
      h.runs h.wants (λ stamps. makes (state_with (cells_by s a cs ls) us stamps)) order
      (entry ∙ ap (step_entry us n (written_mark n ∷ [])) answers)
      (λ x. locus_set s a cs ls j m x h.in_list ∙ (λ t. if h.at t == x then LocusCell (locus t) else cells_by s a cs ls x) ∙ sym (cell_of_own (n == x) own (cells_by s a cs ls x) (LocusCell o.locus) refl))
      (λ x. versions_by (own ∷ []) us x tt (few, tt))

  outcome_refused : (l : LocusState) (i : Instr) (why : Reply) (w : KernelState) → outcome_in s l (alone i (Some why)) w ≡ own_reply l why
  unfolding outcome
  outcome_refused l i why w = refl

  pub stepped_refused : (l m : PlainLocus) (i : Instr) (why : Reply) (us : List ℕ) (answer : Answer) (e : Entry) → Here s a cs ls n j l (alone i (Some why))
      → locus_of m ≡ (own_reply (locus_of l) why).locus → answer ≡ (own_reply (locus_of l) why).answer → e ≡ step_entry us n (written_mark n ∷ []) answer → n < length us
      → StepsTo s n (cells_by s a cs ls) us e (cells_by s a cs (slice_set ls j m)) (versions_after us (written_mark n ∷ []))
  stepped_refused l m i why us answer e h = stepped_own l m i (Some why) (own_reply (locus_of l) why) us answer e h (outcome_refused (locus_of l) i why) refl

  outcome_local : (l : LocusState) (i : Instr) (w : KernelState) → IsAllowed n l (alone i None) → outcome_in s l (alone i None) w ≡ local_act l i
  unfolding outcome
  outcome_local l i w free = local_made s _ n l i free.is

  pub stepped_local : (l m : PlainLocus) (i : Instr) (us : List ℕ) (answer : Answer) (e : Entry) → Here s a cs ls n j l (alone i None)
      → locus_of m ≡ (local_act (locus_of l) i).locus → answer ≡ (local_act (locus_of l) i).answer → e ≡ step_entry us n (written_mark n ∷ []) answer → n < length us
      → StepsTo s n (cells_by s a cs ls) us e (cells_by s a cs (slice_set ls j m)) (versions_after us (written_mark n ∷ []))
  stepped_local l m i us answer e h =
      stepped_own l m i None (local_act (locus_of l) i) us answer e h (λ w. outcome_local (locus_of l) i w (allowed_by n (locus_of l) (alone i None) h.wants refl)) (local_bears (locus_of l) i)

  -- AN ENTITY BESIDE

  outcome_beside : (l : LocusState) (i : Instr) (x : ℕ) (k : Cell) (w : KernelState) → (w x).cell ≡ k → outcome_in s l (beside i x) w ≡ on_cell s l no_atlas x i k
  unfolding outcome
  outcome_beside l i x k w there = ap (on_cell s l no_atlas x i) there

  cell_below : (x y : ℕ) (o : Outcome) (m : LocusState) (k new old : Cell) (wrote : Bool) → m ≡ o.locus → o.other ≡ (if wrote then Some new else None) → (wrote ≡ false → new ≡ k) → (x ≡ y → old ≡ k)
      → (if x == y then new else if n == y then LocusCell m else old)
      ≡ cell_by (access_at (record { entity = x; new = o.other } ∷ record { entity = n; new = Some (LocusCell o.locus) } ∷ []) y) old
  cell_below x y o m k new old wrote locus other same there =
      elim (x == y) as (λ t. (x == y) ≡ t → (if t then new else if n == y then LocusCell m else old)
      ≡ cell_by (if t then Some (record { entity = x; new = o.other }) else access_at (record { entity = n; new = Some (LocusCell o.locus) } ∷ []) y) old) [
        | true ↦ λ at. sym (other_by wrote old new o.other other (λ no. same no ∙ sym (there (eqb-true x y at))))
        | false ↦ λ _. ap (λ (m : LocusState). if n == y then LocusCell m else old) locus ∙ sym (cell_of_own (n == y) (record { entity = n; new = Some (LocusCell o.locus) }) old (LocusCell o.locus) refl)
      ] refl

  cell_above : (x y : ℕ) (o : Outcome) (m : LocusState) (k new old : Cell) (wrote : Bool) → m ≡ o.locus → o.other ≡ (if wrote then Some new else None) → (wrote ≡ false → new ≡ k) → (x ≡ y → old ≡ k)
      → (if n == y then LocusCell m else if x == y then new else old)
      ≡ cell_by (access_at (record { entity = n; new = Some (LocusCell o.locus) } ∷ record { entity = x; new = o.other } ∷ []) y) old
  cell_above x y o m k new old wrote locus other same there =
      elim (n == y) as (λ t. (if t then LocusCell m else if x == y then new else old)
      ≡ cell_by (if t then Some (record { entity = n; new = Some (LocusCell o.locus) }) else access_at (record { entity = x; new = o.other } ∷ []) y) old) [
        | true ↦ ap LocusCell locus
        | false ↦ elim (x == y) as (λ t. (x == y) ≡ t → (if t then new else old) ≡ cell_by (if t then Some (record { entity = x; new = o.other }) else None) old) [
          | true ↦ λ at. sym (other_by wrote old new o.other other (λ no. same no ∙ sym (there (eqb-true x y at))))
          | false ↦ λ _. refl
        ] refl
      ]

  -- the other has a lower number
  stepped_below : (l : PlainLocus) (m : LocusState) (i : Instr) (x : ℕ) (k made : Cell) (new : ℕ → Cell) (us : List ℕ) (answer : Answer) (wrote : Bool) (e : Entry) → Here s a cs ls n j l (beside i x)
      → cells_by s a cs ls x ≡ k → Acted (on_cell s (locus_of l) no_atlas x i k) m k made answer wrote → x < n → n < length us
      → e ≡ step_entry us n (mark x wrote ∷ written_mark n ∷ []) answer
      → ((y : ℕ) → new y ≡ (if x == y then made else if n == y then LocusCell m else cells_by s a cs ls y))
      → StepsTo s n (cells_by s a cs ls) us e new (versions_after us (mark x wrote ∷ written_mark n ∷ []))
  stepped_below l m i x k made new us answer wrote e h there acted lt few entry cells =
      let old = cells_by s a cs ls in
      let o = on_cell s (locus_of l) no_atlas x i k in
      let accesses : List Access = record { entity = x; new = o.other } ∷ record { entity = n; new = Some (LocusCell o.locus) } ∷ [] in
      let is_wrote : wrote ≡ is_some o.other = wrote_by wrote made o.other acted.other in
      let low : x < length us = omega arith in
      let order : ordered (accesses_of n (beside i x) o) ≡ accesses = rw acted.newborn (rising_ordered accesses (lt, tt)) in
      steps_by s old new us (versions_after us (mark x wrote ∷ written_mark n ∷ [])) n (locus_of l) (beside i x) o accesses e
      h.runs h.wants (λ stamps. outcome_beside (locus_of l) i x k (state_with old us stamps) there) order
      (entry ∙ (λ t. step_entry us n (mark x (is_wrote t) ∷ written_mark n ∷ []) (acted.answers t)))
      (λ y. cells y ∙ cell_below x y o m k made (old y) wrote acted.locus acted.other acted.same (λ at. ap old (sym at) ∙ there))
      (λ y. (λ t. slice_index (versions_after us (mark x (is_wrote t) ∷ written_mark n ∷ [])) y) ∙ versions_by accesses us y (lt, tt) (low, (few, tt)))

  -- the other has a higher number
  stepped_above : (l : PlainLocus) (m : LocusState) (i : Instr) (x : ℕ) (k made : Cell) (new : ℕ → Cell) (us : List ℕ) (answer : Answer) (wrote : Bool) (e : Entry) → Here s a cs ls n j l (beside i x)
      → cells_by s a cs ls x ≡ k → Acted (on_cell s (locus_of l) no_atlas x i k) m k made answer wrote → n < x → x < length us
      → e ≡ step_entry us n (written_mark n ∷ mark x wrote ∷ []) answer
      → ((y : ℕ) → new y ≡ (if n == y then LocusCell m else if x == y then made else cells_by s a cs ls y))
      → StepsTo s n (cells_by s a cs ls) us e new (versions_after us (written_mark n ∷ mark x wrote ∷ []))
  stepped_above l m i x k made new us answer wrote e h there acted lt few entry cells =
      let old = cells_by s a cs ls in
      let o = on_cell s (locus_of l) no_atlas x i k in
      let accesses : List Access = record { entity = n; new = Some (LocusCell o.locus) } ∷ record { entity = x; new = o.other } ∷ [] in
      let is_wrote : wrote ≡ is_some o.other = wrote_by wrote made o.other acted.other in
      let low : n < length us = omega arith in
      let order : ordered (accesses_of n (beside i x) o) ≡ accesses =
      rw acted.newborn (ordered_swapped (record { entity = x; new = o.other }) (record { entity = n; new = Some (LocusCell o.locus) }) lt) in
      steps_by s old new us (versions_after us (written_mark n ∷ mark x wrote ∷ [])) n (locus_of l) (beside i x) o accesses e
      h.runs h.wants (λ stamps. outcome_beside (locus_of l) i x k (state_with old us stamps) there) order
      (entry ∙ (λ t. step_entry us n (written_mark n ∷ mark x (is_wrote t) ∷ []) (acted.answers t)))
      (λ y. cells y ∙ cell_above x y o m k made (old y) wrote acted.locus acted.other acted.same (λ at. ap old (sym at) ∙ there))
      (λ y. (λ t. slice_index (versions_after us (written_mark n ∷ mark x (is_wrote t) ∷ [])) y) ∙ versions_by accesses us y (lt, tt) (low, (few, tt)))

  -- A CONTAINER BESIDE

  pub record Beside (i : ℕ) (x : ℕ) (c : PlainContainer) : Type 0 where
    pub at : i + 1 ≡ x
    pub in_list : i < length cs
    pub few : i < 40
    pub is : slice_get cs i ≡ Some c
    pub ready : IsReadyContainer c.pages c.regions.items

  -- the container with this number stands in the list
  pub place_beside : (l : PlainLocus) (i : Instr) (x : ℕ) → Here s a cs ls n j l (beside i x) → 0 < x → x < 41 → (x - 1 < length cs) × IsTrue (is_born_container a x)
  place_beside l i x h pos low =
      let free = allowed_by n (locus_of l) (beside i x) h.wants refl in
      let born = container_beside a i x (neighbour a n (locus_of l) i x h.sound_here free.free (ap (λ (b : Act). b.other) free.is)) pos low in
      let f = sound_container s a cs ls x h.sound born in
      (slice_get_within cs (x - 1) f.0 f.1, born)

  pub container_at : (x k : ℕ) (c : PlainContainer) → AreSound a (cells_by s a cs ls) → IsTrue (is_born_container a x) → k ≡ x - 1 → c ≡ get_or cs k c → Beside k x c
  container_at x k c sound born at read =
      let f = sound_container s a cs ls x sound born in
      let back : x - 1 ≡ k = sym at in
      let in_list : k < length cs = let lt : x - 1 < length cs = slice_get_within cs (x - 1) f.0 f.1 in omega arith in
      let is : slice_get cs k ≡ Some c = slice_get_read cs (length cs) k c refl in_list read in
      let same : f.0 ≡ c = some_is f.0 c (sym f.1 ∙ ap (slice_get cs) back ∙ is) in
      let good = subst (λ c. IsSoundContainer a (container_of s c)) same f.2 in
      record { at = omega (arith, f.3); in_list = in_list; few = omega (arith, f.3, f.4); is = is; ready = ready_container a (container_of s c) good }
    where
      some_is : (l m : PlainContainer) → Some l ≡ Some m → l ≡ m
      some_is l m e = cc

  -- where the locus and the container are as they were, all is
  pub both_kept : (l m : PlainLocus) (act : Act) (i x : ℕ) (b c : PlainContainer) → Here s a cs ls n j l act → Beside i x b → container_of s c ≡ container_of s b → locus_of m ≡ locus_of l
      → (y : ℕ) → cells_by s a (slice_set cs i c) (slice_set ls j m) y ≡ cells_by s a cs ls y
  both_kept l m act i x b c h k ec em y = both_same s a cs ls i j b c l m y k.in_list k.few h.in_list k.is h.is ec em

  pub stepped_container : (l m : PlainLocus) (i : Instr) (p x : ℕ) (b c : PlainContainer) (us : List ℕ) (answer : Answer) (wrote : Bool) (e : Entry) → Here s a cs ls n j l (beside i x) → Beside p x b
      → Acted (on_cell s (locus_of l) no_atlas x i (ContainerCell (container_of s b))) (locus_of m) (ContainerCell (container_of s b)) (ContainerCell (container_of s c)) answer wrote
      → e ≡ step_entry us n (mark x wrote ∷ written_mark n ∷ []) answer → n < length us
      → StepsTo s n (cells_by s a cs ls) us e (cells_by s a (slice_set cs p c) (slice_set ls j m)) (versions_after us (mark x wrote ∷ written_mark n ∷ []))
  stepped_container l m i p x b c us answer wrote e h k acted entry few =
      stepped_below l (locus_of m) i x (ContainerCell (container_of s b)) (ContainerCell (container_of s c)) (cells_by s a (slice_set cs p c) (slice_set ls j m)) us answer wrote e h
      (cell_at_container s a cs ls p b x k.at k.few k.is) acted (omega (arith, h.at, k.at, k.few)) few entry
      (λ y. both_set s a cs ls p j c m y k.in_list k.few h.in_list ∙ (λ t. if k.at t == y then ContainerCell (container_of s c) else if h.at t == y then LocusCell (locus_of m) else cells_by s a cs ls y))

  -- THE ATLAS BESIDE

  snapped : (l : LocusState) (i : Instr) (x c : ℕ) (k : Cell) → i ≡ Snap c → on_cell s l no_atlas x i k ≡ with_other l OkReply k
  unfolding on_cell
  snapped l i x c k is = ap (λ i. on_cell s l no_atlas x i k) is

  atlas_first : (m : PlainLocus) (y : ℕ) → j < length ls → cells_by s a cs (slice_set ls j m) y ≡ (if 0 == y then AtlasCell a else if j + 41 == y then LocusCell (locus_of m) else cells_by s a cs ls y)
  atlas_first m y h =
      locus_set s a cs ls j m y h ∙
      elim (0 == y) as (λ t. (0 == y) ≡ t → (if j + 41 == y then LocusCell (locus_of m) else cells_by s a cs ls y) ≡ (if t then AtlasCell a else if j + 41 == y then LocusCell (locus_of m) else cells_by s a cs ls y)) [
        | true ↦ λ at.
            let e : 0 ≡ y = eqb-true 0 y at in
            let far : (j + 41 == y) ≡ false = grind (arith, nat_tests) in
            rw far (ap (cells_by s a cs ls) (sym e))
        | false ↦ λ _. refl
      ] refl

  pub stepped_atlas : (l m : PlainLocus) (i : Instr) (us : List ℕ) (answer : Answer) (e : Entry) → Here s a cs ls n j l (beside i 0)
      → locus_of m ≡ finish (locus_of l) OkReply → answer ≡ Replied OkReply → e ≡ step_entry us n (written_mark 0 ∷ written_mark n ∷ []) answer → n < length us
      → StepsTo s n (cells_by s a cs ls) us e (cells_by s a cs (slice_set ls j m)) (versions_after us (written_mark 0 ∷ written_mark n ∷ []))
  stepped_atlas l m i us answer e h locus answers entry few =
      let free = allowed_by n (locus_of l) (beside i 0) h.wants refl in
      let snap = atlas_beside a i 0 (neighbour a n (locus_of l) i 0 h.sound_here free.free (ap (λ (b : Act). b.other) free.is)) refl in
      stepped_below l (locus_of m) i 0 (AtlasCell a) (AtlasCell a) (cells_by s a cs (slice_set ls j m)) us answer true e h refl
      (acted_writing _ (with_other (locus_of l) OkReply (AtlasCell a)) _ (AtlasCell a) (AtlasCell a) _ _ (snapped (locus_of l) i 0 snap.0 (AtlasCell a) snap.1) refl refl locus answers refl)
      (omega (arith, h.at)) few entry
      (λ y. atlas_first m y h.in_list ∙ (λ t. if 0 == y then AtlasCell a else if h.at t == y then LocusCell (locus_of m) else cells_by s a cs ls y))

  -- A LOCUS BESIDE

  on_locus : (l m : LocusState) (i : Instr) (x : ℕ) → IsTrue (may_name_itself i) → on_cell s l no_atlas x i (LocusCell m) ≡ with_other l OkReply (LocusCell (controlled i m))
  unfolding on_cell
  on_locus l m (Stop c) x names = refl
  on_locus l m (Go c) x names = refl
  on_locus l m (Snap c) x names = refl
  on_locus l m i x names = absurd (yes_no (sym names))
    where
      yes_no : true ≡ false → ⊥
      yes_no e = cc

  -- the other locus stands in the list, at another place
  pub record Other (q x : ℕ) (i : Instr) (k : PlainLocus) : Type 0 where
    pub at : q + 41 ≡ x
    pub in_list : q < length ls
    pub is : slice_get ls q ≡ Some k
    pub apart : q ≡ j → ⊥
    pub names : IsTrue (may_name_itself i)

  pub place_other : (l : PlainLocus) (i : Instr) (x : ℕ) → Here s a cs ls n j l (beside i x) → 41 ≤ x → (x - 41 < length ls) × IsTrue (may_name_itself i)
  place_other l i x h high =
      let free = allowed_by n (locus_of l) (beside i x) h.wants refl in
      let found = locus_beside a i x h.sound.names.few_containers (neighbour a n (locus_of l) i x h.sound_here free.free (ap (λ (b : Act). b.other) free.is)) high in
      let born = h.sound.loci x found.0 in
      (in_loci (slice_get ls (x - 41)) refl born.0 (sym (high_cell s a cs ls x high) ∙ born.1), found.1)
    where
      in_loci : (o : Option PlainLocus) → slice_get ls (x - 41) ≡ o → (m : LocusState) → locus_cell (slice_get ls (x - 41)) ≡ LocusCell m → x - 41 < length ls
      in_loci (Some k) is m e = slice_get_within ls (x - 41) k is
      in_loci None is m e = absurd (apart (sym (ap locus_cell is) ∙ e))
        where
          apart : NotBorn ≡ LocusCell m → ⊥
          apart e = cc

  pub other_at : (l : PlainLocus) (i : Instr) (x q : ℕ) (k : PlainLocus) → Here s a cs ls n j l (beside i x) → 41 ≤ x → q ≡ x - 41 → k ≡ get_or ls q k → Other q x i k
  other_at l i x q k h high at read =
      let place = place_other l i x h high in
      let in_list : q < length ls = let lt : x - 41 < length ls = place.0 in omega arith in
      let free = allowed_by n (locus_of l) (beside i x) h.wants refl in
      record {
        at = omega arith;
        in_list = in_list;
        is = slice_get_read ls (length ls) q k refl in_list read;
        apart = λ e. names_another n (locus_of l) i x place.1 free.is (omega (arith, h.at));
        names = place.1;
      }

  two_loci : (q : ℕ) (k m : PlainLocus) (y : ℕ) → q < length ls → j < length ls
      → cells_by s a cs (slice_set (slice_set ls q k) j m) y ≡ (if j + 41 == y then LocusCell (locus_of m) else if q + 41 == y then LocusCell (locus_of k) else cells_by s a cs ls y)
  two_loci q k m y hq hj =
      locus_set s a cs (slice_set ls q k) j m y (rw length-set hj) ∙ (λ t. if j + 41 == y then LocusCell (locus_of m) else locus_set s a cs ls q k y hq t)

  swapped : (b c : Bool) (k m old : Cell) → (b ≡ true → c ≡ true → ⊥) → (if b then m else if c then k else old) ≡ (if c then k else if b then m else old)
  swapped true true k m old apart = absurd (apart refl refl)
  swapped true false k m old apart = refl
  swapped false true k m old apart = refl
  swapped false false k m old apart = refl

  -- the entry of a step that writes two loci
  abbrev pub pair_marks : ℕ → List Mark
  pair_marks x = if nat_lt x n then written_mark x ∷ written_mark n ∷ [] else written_mark n ∷ written_mark x ∷ []

  pub stepped_locus : (l m : PlainLocus) (i : Instr) (q x : ℕ) (k c : PlainLocus) (us : List ℕ) (answer : Answer) (e : Entry) → Here s a cs ls n j l (beside i x) → Other q x i k
      → locus_of c ≡ controlled i (locus_of k) → locus_of m ≡ finish (locus_of l) OkReply → answer ≡ Replied OkReply → e ≡ step_entry us n (pair_marks x) answer → n < length us → x < length us
      → StepsTo s n (cells_by s a cs ls) us e (cells_by s a cs (slice_set (slice_set ls q c) j m)) (versions_after us (pair_marks x))
  stepped_locus l m i q x k c us answer e h o control locus answers entry few more =
      let there : cells_by s a cs ls x ≡ LocusCell (locus_of k) = cell_at_locus s a cs ls q k x o.at o.is in
      let new = cells_by s a cs (slice_set (slice_set ls q c) j m) in
      let acted : Acted (on_cell s (locus_of l) no_atlas x i (LocusCell (locus_of k))) (locus_of m) (LocusCell (locus_of k)) (LocusCell (locus_of c)) answer true =
      acted_writing _ (with_other (locus_of l) OkReply (LocusCell (controlled i (locus_of k)))) _ (LocusCell (locus_of k)) (LocusCell (locus_of c)) _ _
      (on_locus (locus_of l) (locus_of k) i x o.names) (ap (λ (m : LocusState). Some (LocusCell m)) (sym control)) refl locus answers refl in
      let above : (y : ℕ) → new y ≡ (if n == y then LocusCell (locus_of m) else if x == y then LocusCell (locus_of c) else cells_by s a cs ls y) =
      λ y. two_loci q c m y o.in_list h.in_list ∙ (λ t. if h.at t == y then LocusCell (locus_of m) else if o.at t == y then LocusCell (locus_of c) else cells_by s a cs ls y) in
      let apart : x ≡ n → ⊥ = λ e. o.apart (omega (arith, h.at, o.at)) in
      elim (nat_lt x n) as (λ b. nat_lt x n ≡ b → e ≡ step_entry us n (if b then written_mark x ∷ written_mark n ∷ [] else written_mark n ∷ written_mark x ∷ []) answer
      → StepsTo s n (cells_by s a cs ls) us e new (versions_after us (if b then written_mark x ∷ written_mark n ∷ [] else written_mark n ∷ written_mark x ∷ []))) [
        | true ↦ λ is entry.
            let lt : x < n = grind (arith, nat_tests) in
            stepped_below l (locus_of m) i x (LocusCell (locus_of k)) (LocusCell (locus_of c)) new us answer true e h there acted lt few entry
            (λ y. above y ∙ swapped (n == y) (x == y) (LocusCell (locus_of c)) (LocusCell (locus_of m)) (cells_by s a cs ls y) (λ p r. apart (eqb-true x y r ∙ sym (eqb-true n y p))))
        | false ↦ λ is entry.
            let le : n ≤ x = grind (arith, nat_tests) in
            let lt : n < x = omega arith in
            stepped_above l (locus_of m) i x (LocusCell (locus_of k)) (LocusCell (locus_of c)) new us answer true e h there acted lt more entry above
      ] refl entry

  -- the locus that acts
  pub acting_here : (act : Act) → IsSound (cells_by s a cs ls) → IsActingAt ls n j act → (l : PlainLocus) × Here s a cs ls n j l act
  acting_here act sound at = (at.locus, here act sound at at.locus at.is)

  -- once another locus has changed, the one that acts is as it was
  pub still_here : (l : PlainLocus) (i : Instr) (x q : ℕ) (k c m : PlainLocus) → Here s a cs ls n j l (beside i x) → Other q x i k → m ≡ get_or (slice_set ls q c) j m → m ≡ l
  still_here l i x q k c m h o read =
      let is : slice_get (slice_set ls q c) j ≡ Some m = slice_get_read (slice_set ls q c) (length (slice_set ls q c)) j m refl (rw length-set h.in_list) read in
      some_is m l (sym is ∙ slice_get-set_other ls q j c o.apart ∙ h.is)
    where
      some_is : (l m : PlainLocus) → Some l ≡ Some m → l ≡ m
      some_is l m e = cc
