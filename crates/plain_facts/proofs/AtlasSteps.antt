-- Steps that write the atlas.
use Rattle.std.proofs.Common.{◌≡◌, ℕ, ◌+◌, ◌<◌, Bool, true, false, if◌then◌else◌, ◌==◌, nat_lt, List, [], ◌∷◌, ◌++◌, length, Option, Some, None, slice_set, refl, sym, ap, subst, ◌∙◌, arith, eqb-true}
use Rattle.std.proofs.lemmas.Bool.Decides.{nat_tests}
use Rattle.std.proofs.lemmas.List.{length-append, length-set}
use Rattle.base_types.specs.declared.capabilities.Region.{Region}
use Rattle.base_types.specs.declared.capabilities.Rights.{Rights}
use Rattle.base_types.specs.declared.entities.Kind.{Kind}
use Rattle.base_types.specs.declared.histories.Answer.{Answer}
use Rattle.base_types.specs.declared.histories.Entry.{Entry}
use Rattle.base_types.specs.declared.instructions.Instr.{Instr}
use Rattle.base_types.specs.declared.instructions.Instr.TheVariants.{Make, Map, Spawn, Unmap}
use Rattle.model_kernel.specs.Acts.{bearing, beside_and_atlas}
use Rattle.model_kernel.specs.Changes.{Access, access_at, ordered}
use Rattle.model_kernel.specs.Outcomes.{Outcome, map_region, make, make_at, on_cell, outcome, spawn, spawn_at, unmap, with_newborn}
use Rattle.model_kernel.specs.Refusals.{new_region, reg}
use Rattle.model_kernel.specs.State.{Supply, AtlasState, ContainerState, LocusState, Cell, AtlasCell, ContainerCell, LocusCell, KernelState}
use Rattle.model_kernel.specs.Steps.{accesses_of, atlas_in, outcome_in}
use Rattle.plain_states.specs.Entries.{step_entry, versions_after}
use Rattle.plain_states.specs.Events.{StepsTo, state_with}
use Rattle.plain_states.specs.model_sound_runs.Names.{KeepsNames}
use Rattle.plain_states.specs.Plains.{atlas_of, cells_by, container_of, locus_of}
use Rattle.plain_states.specs.model_act_facts.Readiness.{leaves_atlas}
use Rattle.plain_states.specs.declared.plain.PlainAtlas.{PlainAtlas}
use Rattle.plain_states.specs.declared.plain.PlainContainer.{PlainContainer}
use Rattle.plain_states.specs.declared.plain.PlainLocus.{PlainLocus}
use Rattle.plain_states.proofs.BirthLemmas.{container_grown, locus_grown}
use Rattle.plain_states.proofs.model_sound_runs_lemmas.Naming.{map_keeps, unmap_keeps}
use Rattle.plain_states.proofs.CellLemmas.{both_set, cell_at_container, locus_set}
use Rattle.plain_facts.specs.AtlasActs.{ActedOnBoth, ActedOnAtlas, container_bears, locus_bears}
use Rattle.plain_facts.proofs.PlainSteps.{Beside, Here, written_mark}
use Rattle.plain_facts.proofs.StepLemmas.{cell_by, ordered_between, rising_ordered, steps_by, versions_by}

-- CELLS OF TWO AND THREE THAT ARE WRITTEN

cell_two : (x y : ℕ) (k m : Cell) (z : ℕ) (old : Cell)
    → (if x == z then k else if y == z then m else old) ≡ cell_by (access_at (record { entity = x; new = Some k } ∷ record { entity = y; new = Some m } ∷ []) z) old
cell_two x y k m z old =
    elim (x == z) as (λ t. (if t then k else if y == z then m else old) ≡ cell_by (if t then Some (record { entity = x; new = Some k }) else access_at (record { entity = y; new = Some m } ∷ []) z) old) [
      | true ↦ refl
      | false ↦ elim (y == z) as (λ t. (if t then m else old) ≡ cell_by (if t then Some (record { entity = y; new = Some m }) else None) old) [ true ↦ refl | false ↦ refl ]
    ]

cell_three : (x y v : ℕ) (k m n : Cell) (z : ℕ) (old : Cell)
    → (if x == z then k else if y == z then m else if v == z then n else old)
    ≡ cell_by (access_at (record { entity = x; new = Some k } ∷ record { entity = y; new = Some m } ∷ record { entity = v; new = Some n } ∷ []) z) old
cell_three x y v k m n z old =
    elim (x == z) as (λ t. (if t then k else if y == z then m else if v == z then n else old)
    ≡ cell_by (if t then Some (record { entity = x; new = Some k }) else access_at (record { entity = y; new = Some m } ∷ record { entity = v; new = Some n } ∷ []) z) old) [
      | true ↦ refl
      | false ↦ cell_two y v m n z old
    ]

-- another atlas
pub atlas_put : (s : Supply) (a b : AtlasState) (cs : List PlainContainer) (ls : List PlainLocus) (y : ℕ) → cells_by s b cs ls y ≡ (if 0 == y then AtlasCell b else cells_by s a cs ls y)
atlas_put s a b cs ls y =
    elim (0 == y) as (λ t. (0 == y) ≡ t → cells_by s b cs ls y ≡ (if t then AtlasCell b else cells_by s a cs ls y)) [
      | true ↦ λ is. subst (λ y. cells_by s b cs ls y ≡ AtlasCell b) (eqb-true 0 y is) refl
      | false ↦ λ is.
          let far : (y == 0) ≡ false = grind (arith, nat_tests) in
          rw far refl
    ] refl

pub atlas_same : (s : Supply) (a b : AtlasState) (cs : List PlainContainer) (ls : List PlainLocus) (y : ℕ) → b ≡ a → cells_by s b cs ls y ≡ cells_by s a cs ls y
atlas_same s a b cs ls y e = ap (λ (a : AtlasState). cells_by s a cs ls y) e

-- WHAT IS BORN

none_some : {A : Type 0} (x : A) → None ≡ Some x → ⊥
none_some x e = cc

-- where a container is made, a number was free, and the atlas has one name more
pub made_free : (s : Supply) (l : LocusState) (a : AtlasState) (d pages tag : ℕ) (entry : Option ℕ) (p : ℕ × Cell) → (make s l a d pages tag entry).newborn ≡ Some p
    → (length a.containers < 40) × (length (make s l a d pages tag entry).atlas.containers ≡ length a.containers + 1)
unfolding make
made_free s l a d pages tag entry p =
    elim (nat_lt (length a.containers) 40) as (λ b. nat_lt (length a.containers) 40 ≡ b → (make_at s l a d pages tag entry (if b then Some (length a.containers + 1) else None)).newborn ≡ Some p
    → (length a.containers < 40) × (length (make_at s l a d pages tag entry (if b then Some (length a.containers + 1) else None)).atlas.containers ≡ length a.containers + 1)) [
      | true ↦ λ is _. ((let lt : length a.containers < 40 = grind (arith, nat_tests) in lt), length-append a.containers _)
      | false ↦ λ _ e. absurd (none_some p e)
    ] refl

pub spawned_free : (l : LocusState) (a : AtlasState) (d place : ℕ) (p : ℕ × Cell) → (spawn l a d place).newborn ≡ Some p → (length a.loci < 23) × (length (spawn l a d place).atlas.loci ≡ length a.loci + 1)
unfolding spawn
spawned_free l a d place p =
    elim (nat_lt (length a.loci) 23) as (λ b. nat_lt (length a.loci) 23 ≡ b → (spawn_at l a d place (if b then Some (length a.loci + 41) else None)).newborn ≡ Some p
    → (length a.loci < 23) × (length (spawn_at l a d place (if b then Some (length a.loci + 41) else None)).atlas.loci ≡ length a.loci + 1)) [
      | true ↦ λ is _. ((let lt : length a.loci < 23 = grind (arith, nat_tests) in lt), length-append a.loci _)
      | false ↦ λ _ e. absurd (none_some p e)
    ] refl

-- what was born, by the case of the newborn
pub made_some : (s : Supply) (pa : PlainAtlas) (o : Outcome) (m : LocusState) (b : AtlasState) (newborn : Option PlainContainer) (c : PlainContainer) (answer told : Answer) → newborn ≡ Some c
    → ActedOnAtlas o m b (container_bears s pa newborn) answer → answer ≡ told → ActedOnAtlas o m b (Some (length (atlas_of pa).containers + 1, ContainerCell (container_of s c))) told
made_some s pa o m b newborn c answer told is acted same =
    record { locus = acted.locus; answers = sym same ∙ acted.answers; atlas = acted.atlas; other = acted.other; newborn = acted.newborn ∙ ap (container_bears s pa) is }

pub made_none : (s : Supply) (pa : PlainAtlas) (o : Outcome) (m : LocusState) (b : AtlasState) (newborn : Option PlainContainer) (answer told : Answer) → ((c : PlainContainer) → newborn ≡ Some c → ⊥)
    → ActedOnAtlas o m b (container_bears s pa newborn) answer → answer ≡ told → ActedOnAtlas o m b None told
made_none s pa o m b (Some c) answer told not acted same = absurd (not c refl)
made_none s pa o m b None answer told not acted same = record { locus = acted.locus; answers = sym same ∙ acted.answers; atlas = acted.atlas; other = acted.other; newborn = acted.newborn }

pub spawned_some : (pa : PlainAtlas) (o : Outcome) (m : LocusState) (b : AtlasState) (newborn : Option PlainLocus) (c : PlainLocus) (answer told : Answer) → newborn ≡ Some c
    → ActedOnAtlas o m b (locus_bears pa newborn) answer → answer ≡ told → ActedOnAtlas o m b (Some (length (atlas_of pa).loci + 41, LocusCell (locus_of c))) told
spawned_some pa o m b newborn c answer told is acted same =
    record { locus = acted.locus; answers = sym same ∙ acted.answers; atlas = acted.atlas; other = acted.other; newborn = acted.newborn ∙ ap (locus_bears pa) is }

pub spawned_none : (pa : PlainAtlas) (o : Outcome) (m : LocusState) (b : AtlasState) (newborn : Option PlainLocus) (answer told : Answer) → ((c : PlainLocus) → newborn ≡ Some c → ⊥)
    → ActedOnAtlas o m b (locus_bears pa newborn) answer → answer ≡ told → ActedOnAtlas o m b None told
spawned_none pa o m b (Some c) answer told not acted same = absurd (not c refl)
spawned_none pa o m b None answer told not acted same = record { locus = acted.locus; answers = sym same ∙ acted.answers; atlas = acted.atlas; other = acted.other; newborn = acted.newborn }

pub bears_make : (s : Supply) (l : LocusState) (a : AtlasState) (i : Instr) (d n t pages tag : ℕ) (e : Option ℕ) → i ≡ Make d n t e → pages ≡ reg l n → tag ≡ reg l t → with_newborn s l a i ≡ make s l a d pages tag e
unfolding with_newborn
bears_make s l a i d n t pages tag e is here there = ap (with_newborn s l a) is ∙ (λ j. make s l a d (sym here j) (sym there j) e)

pub bears_spawn : (s : Supply) (l : LocusState) (a : AtlasState) (i : Instr) (d p : ℕ) → i ≡ Spawn d p → with_newborn s l a i ≡ spawn l a d p
unfolding with_newborn
bears_spawn s l a i d p is = ap (with_newborn s l a) is

pub on_map : (s : Supply) (l : LocusState) (a : AtlasState) (x : ℕ) (c : ContainerState) (i : Instr) (d p k b n : ℕ) (rights : Rights) (region : Region) → i ≡ Map d p k b n rights → region ≡ new_region l p k b n rights
    → on_cell s l a x i (ContainerCell c) ≡ map_region l a x c region
unfolding on_cell
on_map s l a x c i d p k b n rights region is here = ap (λ i. on_cell s l a x i (ContainerCell c)) is ∙ ap (map_region l a x c) (sym here)

pub on_unmap : (s : Supply) (l : LocusState) (a : AtlasState) (x : ℕ) (c : ContainerState) (i : Instr) (d p at : ℕ) → i ≡ Unmap d p → at ≡ reg l p → on_cell s l a x i (ContainerCell c) ≡ unmap l a x c at
unfolding on_cell
on_unmap s l a x c i d p at is here = ap (λ i. on_cell s l a x i (ContainerCell c)) is ∙ ap (unmap l a x c) (sym here)

-- map and unmap keep names
pub mapping_keeps : (s : Supply) (l : LocusState) (a : AtlasState) (x : ℕ) (c : ContainerState) (i : Instr) → leaves_atlas i ≡ false → KeepsNames a (on_cell s l a x i (ContainerCell c)).atlas
mapping_keeps s l a x c (Map d p k b n rights) maps = map_keeps s l a x d p k b n rights (ContainerCell c)
mapping_keeps s l a x c (Unmap d p) maps = unmap_keeps s l a x d p (ContainerCell c)
mapping_keeps s l a x c i maps = absurd (yes_no maps)
  where
    yes_no : true ≡ false → ⊥
    yes_no e = cc

below_itself : (n x : ℕ) → n < x → n ≡ x → ⊥
below_itself n x lt e = omega arith

swapped_cell : (b c : Bool) (k m old : Cell) → (b ≡ true → c ≡ true → ⊥) → (if b then m else if c then k else old) ≡ (if c then k else if b then m else old)
swapped_cell true true k m old apart = absurd (apart refl refl)
swapped_cell true false k m old apart = refl
swapped_cell false true k m old apart = refl
swapped_cell false false k m old apart = refl

-- one locus more, and another atlas
loci_grown : (s : Supply) (a b : AtlasState) (cs : List PlainContainer) (ls : List PlainLocus) (l : PlainLocus) (n x : ℕ) → n ≡ length ls + 41
    → cells_by s b cs (ls ++ l ∷ []) x ≡ (if 0 == x then AtlasCell b else if n == x then LocusCell (locus_of l) else cells_by s a cs ls x)
loci_grown s a b cs ls l n x at =
    let one : 0 < 1 = omega arith in
    let low : 1 < 41 = omega arith in
    locus_grown s a b cs ls l 1 n x one low at
    ∙ elim (1 == x) as (λ t. (1 == x) ≡ t → (if 0 == x then AtlasCell b else if t then cells_by s a cs ls 1 else if n == x then LocusCell (locus_of l) else cells_by s a cs ls x)
    ≡ (if 0 == x then AtlasCell b else if n == x then LocusCell (locus_of l) else cells_by s a cs ls x)) [
      | true ↦ λ is.
          let e : 1 ≡ x = eqb-true 1 x is in
          let far : (n == x) ≡ false = grind (arith, nat_tests) in
          (λ t. if 0 == x then AtlasCell b else cells_by s a cs ls (e t)) ∙ (λ t. if 0 == x then AtlasCell b else if sym far t then LocusCell (locus_of l) else cells_by s a cs ls x)
      | false ↦ λ _. refl
    ] refl

module _ (s : Supply) (a : AtlasState) (cs : List PlainContainer) (ls : List PlainLocus) (n j : ℕ) where
  -- MAPPINGS

  outcome_mapping : (l : LocusState) (i : Instr) (x : ℕ) (k : Cell) (w : KernelState) → (w 0).cell ≡ AtlasCell a → (w x).cell ≡ k → outcome_in s l (beside_and_atlas i x) w ≡ on_cell s l a x i k
  unfolding outcome
  outcome_mapping l i x k w atlas there = (λ t. on_cell s l (atlas_in (atlas t)) x i (there t))

  pub stepped_mapping : (l m : PlainLocus) (b : AtlasState) (i : Instr) (p x : ℕ) (c d : PlainContainer) (us : List ℕ) (answer : Answer) (e : Entry) → Here s a cs ls n j l (beside_and_atlas i x) → Beside s a cs ls n j p x c
      → ActedOnBoth (on_cell s (locus_of l) a x i (ContainerCell (container_of s c))) (locus_of m) b (ContainerCell (container_of s d)) answer
      → e ≡ step_entry us n (written_mark 0 ∷ written_mark x ∷ written_mark n ∷ []) answer → n < length us
      → StepsTo s n (cells_by s a cs ls) us e (cells_by s b (slice_set cs p d) (slice_set ls j m)) (versions_after us (written_mark 0 ∷ written_mark x ∷ written_mark n ∷ []))
  stepped_mapping l m b i p x c d us answer e h k acted entry few =
      let old = cells_by s a cs ls in
      let new = cells_by s b (slice_set cs p d) (slice_set ls j m) in
      let o = on_cell s (locus_of l) a x i (ContainerCell (container_of s c)) in
      let pos : 0 < x = omega (arith, k.at) in
      let lt : x < n = omega (arith, h.at, k.at, k.few) in
      let low : x < length us = omega arith in
      let zero' : 0 < length us = omega arith in
      let accesses : List Access = record { entity = 0; new = Some (AtlasCell o.atlas) } ∷ record { entity = x; new = Some (ContainerCell (container_of s d)) } ∷ record { entity = n; new = Some (LocusCell o.locus) } ∷ [] in
      let order : ordered (accesses_of n (beside_and_atlas i x) o) ≡ accesses = rw (acted.newborn, acted.other) (rising_ordered accesses (pos, (lt, tt))) in
      steps_by s old new us (versions_after us (written_mark 0 ∷ written_mark x ∷ written_mark n ∷ [])) n (locus_of l) (beside_and_atlas i x) o accesses e
      h.runs h.wants (λ stamps. outcome_mapping (locus_of l) i x (ContainerCell (container_of s c)) (state_with old us stamps) refl (cell_at_container s a cs ls p c x k.at k.few k.is)) order
      (entry ∙ ap (step_entry us n (written_mark 0 ∷ written_mark x ∷ written_mark n ∷ [])) acted.answers)
      (λ y. atlas_put s a b (slice_set cs p d) (slice_set ls j m) y
      ∙ (λ t. if 0 == y then AtlasCell (acted.atlas t) else both_set s a cs ls p j d m y k.in_list k.few h.in_list t)
      ∙ (λ t. if 0 == y then AtlasCell o.atlas else if k.at t == y then ContainerCell (container_of s d) else if h.at t == y then LocusCell (acted.locus t) else old y)
      ∙ cell_three 0 x n (AtlasCell o.atlas) (ContainerCell (container_of s d)) (LocusCell o.locus) y (old y))
      (λ y. versions_by accesses us y (pos, (lt, tt)) (zero', (low, (few, tt))))

  -- BIRTHS

  outcome_bearing : (l : LocusState) (i : Instr) (k : Kind) (o : Outcome) (w : KernelState) → (w 0).cell ≡ AtlasCell a → with_newborn s l a i ≡ o → outcome_in s l (bearing i k) w ≡ o
  unfolding outcome
  outcome_bearing l i k o w atlas makes = (λ t. with_newborn s l (atlas_in (atlas t)) i) ∙ makes

  -- no number is free
  pub stepped_full : (l m : PlainLocus) (b : AtlasState) (i : Instr) (k : Kind) (o : Outcome) (us : List ℕ) (answer : Answer) (e : Entry) → Here s a cs ls n j l (bearing i k)
      → with_newborn s (locus_of l) a i ≡ o → ActedOnAtlas o (locus_of m) b None answer → e ≡ step_entry us n (written_mark 0 ∷ written_mark n ∷ []) answer → n < length us
      → StepsTo s n (cells_by s a cs ls) us e (cells_by s b cs (slice_set ls j m)) (versions_after us (written_mark 0 ∷ written_mark n ∷ []))
  stepped_full l m b i k o us answer e h makes acted entry few =
      let old = cells_by s a cs ls in
      let new = cells_by s b cs (slice_set ls j m) in
      let pos : 0 < n = omega (arith, h.at) in
      let zero' : 0 < length us = omega arith in
      let accesses : List Access = record { entity = 0; new = Some (AtlasCell o.atlas) } ∷ record { entity = n; new = Some (LocusCell o.locus) } ∷ [] in
      let order : ordered (accesses_of n (bearing i k) o) ≡ accesses = rw acted.newborn (rising_ordered accesses (pos, tt)) in
      steps_by s old new us (versions_after us (written_mark 0 ∷ written_mark n ∷ [])) n (locus_of l) (bearing i k) o accesses e
      h.runs h.wants (λ stamps. outcome_bearing (locus_of l) i k o (state_with old us stamps) refl makes) order
      (entry ∙ ap (step_entry us n (written_mark 0 ∷ written_mark n ∷ [])) acted.answers)
      (λ y. atlas_put s a b cs (slice_set ls j m) y
      ∙ (λ t. if 0 == y then AtlasCell (acted.atlas t) else locus_set s a cs ls j m y h.in_list t)
      ∙ (λ t. if 0 == y then AtlasCell o.atlas else if h.at t == y then LocusCell (acted.locus t) else old y)
      ∙ cell_two 0 n (AtlasCell o.atlas) (LocusCell o.locus) y (old y))
      (λ y. versions_by accesses us y (pos, tt) (zero', (few, tt)))

  pub stepped_made : (l m : PlainLocus) (b : AtlasState) (i : Instr) (k : Kind) (o : Outcome) (x : ℕ) (c : PlainContainer) (us : List ℕ) (answer : Answer) (e : Entry) → Here s a cs ls n j l (bearing i k)
      → with_newborn s (locus_of l) a i ≡ o → ActedOnAtlas o (locus_of m) b (Some (x, ContainerCell (container_of s c))) answer → x ≡ length cs + 1 → x < 41
      → e ≡ step_entry us n (written_mark 0 ∷ written_mark x ∷ written_mark n ∷ []) answer → n < length us
      → StepsTo s n (cells_by s a cs ls) us e (cells_by s b (cs ++ c ∷ []) (slice_set ls j m)) (versions_after us (written_mark 0 ∷ written_mark x ∷ written_mark n ∷ []))
  stepped_made l m b i k o x c us answer e h makes acted at small entry few =
      let old = cells_by s a cs ls in
      let new = cells_by s b (cs ++ c ∷ []) (slice_set ls j m) in
      let pos : 0 < x = omega arith in
      let lt : x < n = omega (arith, h.at) in
      let low : x < length us = omega arith in
      let zero' : 0 < length us = omega arith in
      let accesses : List Access = record { entity = 0; new = Some (AtlasCell o.atlas) } ∷ record { entity = x; new = Some (ContainerCell (container_of s c)) } ∷ record { entity = n; new = Some (LocusCell o.locus) } ∷ [] in
      let order : ordered (accesses_of n (bearing i k) o) ≡ accesses = rw acted.newborn (rising_ordered accesses (pos, (lt, tt))) in
      steps_by s old new us (versions_after us (written_mark 0 ∷ written_mark x ∷ written_mark n ∷ [])) n (locus_of l) (bearing i k) o accesses e
      h.runs h.wants (λ stamps. outcome_bearing (locus_of l) i k o (state_with old us stamps) refl makes) order
      (entry ∙ ap (step_entry us n (written_mark 0 ∷ written_mark x ∷ written_mark n ∷ [])) acted.answers)
      (λ y. container_grown s a b cs (slice_set ls j m) c x y at small
      ∙ (λ t. if 0 == y then AtlasCell (acted.atlas t) else if x == y then ContainerCell (container_of s c) else locus_set s a cs ls j m y h.in_list t)
      ∙ (λ t. if 0 == y then AtlasCell o.atlas else if x == y then ContainerCell (container_of s c) else if h.at t == y then LocusCell (acted.locus t) else old y)
      ∙ cell_three 0 x n (AtlasCell o.atlas) (ContainerCell (container_of s c)) (LocusCell o.locus) y (old y))
      (λ y. versions_by accesses us y (pos, (lt, tt)) (zero', (low, (few, tt))))

  pub stepped_spawned : (l m : PlainLocus) (b : AtlasState) (i : Instr) (k : Kind) (o : Outcome) (x : ℕ) (c : PlainLocus) (us : List ℕ) (answer : Answer) (e : Entry) → Here s a cs ls n j l (bearing i k)
      → with_newborn s (locus_of l) a i ≡ o → ActedOnAtlas o (locus_of m) b (Some (x, LocusCell (locus_of c))) answer → x ≡ length ls + 41
      → e ≡ step_entry us n (written_mark 0 ∷ written_mark n ∷ written_mark x ∷ []) answer → x < length us
      → StepsTo s n (cells_by s a cs ls) us e (cells_by s b cs (slice_set ls j m ++ c ∷ [])) (versions_after us (written_mark 0 ∷ written_mark n ∷ written_mark x ∷ []))
  stepped_spawned l m b i k o x c us answer e h makes acted at entry few =
      let old = cells_by s a cs ls in
      let new = cells_by s b cs (slice_set ls j m ++ c ∷ []) in
      let pos : 0 < n = omega (arith, h.at) in
      let lt : n < x = omega (arith, h.at, h.in_list) in
      let low : n < length us = omega arith in
      let zero' : 0 < length us = omega arith in
      let first : Access = record { entity = 0; new = Some (AtlasCell o.atlas) } in
      let own : Access = record { entity = n; new = Some (LocusCell o.locus) } in
      let newborn : Access = record { entity = x; new = Some (LocusCell (locus_of c)) } in
      let order : ordered (accesses_of n (bearing i k) o) ≡ first ∷ own ∷ newborn ∷ [] = rw acted.newborn (ordered_between first newborn own pos lt) in
      let at' : x ≡ length (slice_set ls j m) + 41 = at ∙ ap (λ k. k + 41) (sym (length-set ls j m)) in
      steps_by s old new us (versions_after us (written_mark 0 ∷ written_mark n ∷ written_mark x ∷ [])) n (locus_of l) (bearing i k) o (first ∷ own ∷ newborn ∷ []) e
      h.runs h.wants (λ stamps. outcome_bearing (locus_of l) i k o (state_with old us stamps) refl makes) order
      (entry ∙ ap (step_entry us n (written_mark 0 ∷ written_mark n ∷ written_mark x ∷ [])) acted.answers)
      (λ y. spawned_cell m b c x y h.in_list at' (acted.locus) (acted.atlas) h.at lt
      ∙ cell_three 0 n x (AtlasCell o.atlas) (LocusCell o.locus) (LocusCell (locus_of c)) y (old y))
      (λ y. versions_by (first ∷ own ∷ newborn ∷ []) us y (pos, (lt, tt)) (zero', (low, (few, tt))))
    where
      spawned_cell : (m : PlainLocus) (b : AtlasState) (c : PlainLocus) (x y : ℕ) → j < length ls → x ≡ length (slice_set ls j m) + 41 → locus_of m ≡ o.locus → b ≡ o.atlas → j + 41 ≡ n → n < x
          → cells_by s b cs (slice_set ls j m ++ c ∷ []) y ≡ (if 0 == y then AtlasCell o.atlas else if n == y then LocusCell o.locus else if x == y then LocusCell (locus_of c) else cells_by s a cs ls y)
      spawned_cell m b c x y in_list at' locus atlas here lt =
          loci_grown s a b cs (slice_set ls j m) c x y at'
          ∙ (λ t. if 0 == y then AtlasCell (atlas t) else if x == y then LocusCell (locus_of c) else locus_set s a cs ls j m y in_list t)
          ∙ (λ t. if 0 == y then AtlasCell o.atlas else if x == y then LocusCell (locus_of c) else if here t == y then LocusCell (locus t) else cells_by s a cs ls y)
          ∙ (λ t. if 0 == y then AtlasCell o.atlas else sym (swapped_cell (n == y) (x == y) (LocusCell (locus_of c)) (LocusCell o.locus) (cells_by s a cs ls y) (λ p q. below_itself n x lt (eqb-true n y p ∙ sym (eqb-true x y q)))) t)
