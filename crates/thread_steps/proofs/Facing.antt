-- What lent cells say of the step that is planned: each call over them has what it asks.
use Rattle.std.proofs.Common.{◌≡◌, ◌≢◌, ℕ, ◌+◌, ◌<◌, ◌≤◌, ◌^◌, true, false, ◌&&◌, nat_lt, nat_le, IsSome, List, [], ◌∷◌, ◌++◌, length, Some, refl, sym, ap, subst, ◌∙◌, arith, inl, inr}
use Rattle.std.proofs.lemmas.Bool.{true≢false}
use Rattle.std.proofs.lemmas.Bool.Decides.{nat_tests}
use Rattle.table_laws.proofs.plain_states_lemmas.model_act_facts_lemmas.Alone.{wanted_says}
use Rattle.base_types.specs.declared.instructions.Instr.{Instr}
use Rattle.page_store.specs.declared.store.PageStore.{Ghosts}
use Rattle.page_store.specs.model_kernel.Outcomes.{free_container, free_locus}
use Rattle.page_store.specs.model_kernel.Refusals.{instr_at}
use Rattle.page_store.specs.model_kernel.Soundness.{AreSound}
use Rattle.page_store.specs.model_kernel.State.{AtlasState, LocusCell, Supply}
use Rattle.cell_steps.specs.data_atlas_facts.Directory.{Directory}
use Rattle.cell_steps.specs.model_acts.Views.{IsReadyLocus}
use Rattle.cell_steps.proofs.model_acts_lemmas.Ready.{ready}
use Rattle.table_laws.specs.act_alone.Loci.{locus_of}
use Rattle.table_laws.specs.act_alone.declared.loci.Head.{Head}
use Rattle.table_laws.specs.act_alone.declared.loci.Locus.{Locus}
use Rattle.table_laws.specs.act_calls.Calls.{atlas_state}
use Rattle.table_laws.specs.cell_states.declared.cells.Cell.{Cell}
use Rattle.table_laws.specs.cell_states.declared.cells.Part.{Part}
use Rattle.table_laws.specs.cell_states.declared.cells.Part.TheVariants as part
use Rattle.table_laws.specs.cell_states.Cells.{IsRunning, part_of}
use Rattle.table_laws.specs.cell_steps.model_acts.declared.choice.Act.{Act}
use Rattle.table_laws.specs.cell_calls.act_calls.Calls.{is_spawn}
use Rattle.table_laws.specs.cell_calls.Besides.{FitsBeside, memory_of}
use Rattle.table_laws.specs.cell_calls.Mapping.{IsDirectoryPart, IsHeadPart, MayMap}
use Rattle.cell_steps.specs.cell_newborns.Bearing.{IsUnbornContainer, NoNumberFree}
use Rattle.table_laws.specs.cell_blob_laws.Memories.{HasOwnMemory}
use Rattle.table_laws.specs.cell_looks.Looking.{MayLookIn}
use Rattle.table_laws.specs.cell_plans.Plans.{IsPlanned}
use Rattle.table_laws.specs.cell_plans.declared.plans.Reach.{Reach}
use Rattle.table_laws.specs.cell_plans.declared.plans.Reach.TheVariants as reach
use Rattle.cell_step_laws.proofs.SoundMaps.{map_here}
use Rattle.cell_step_laws.proofs.SoundParts.{directory_part, look_part, unborn_part}
use Rattle.cell_step_laws.proofs.SoundPlans.{around_container, around_locus, fits_here, locus_here, look_here}
use Rattle.table_laws.specs.Tables.{AreFewWrites, HasKind}
use Rattle.thread_steps.specs.Lending.{AreLent, HoldsPages, numbers_of, touched_by}
use Rattle.thread_steps.proofs.Numbers.{container_free, containers_full, first_is, loci_full, locus_free, none_is, none_listed, one_listed, rest_is}

pub same_locus : (k l : Locus) → part.Locus (Some k) ≡ part.Locus (Some l) → k ≡ l
same_locus k l e = cc

high_number : (n me : ℕ) → (nat_lt 40 me && nat_le me (40 + n)) ≡ true → 40 < me
high_number n me e = grind (arith, nat_tests)

low_memory : (x : ℕ) (p : Part) → 0 < x → x ≤ 40 → HasKind x p → IsSome (memory_of p)
low_memory x (part.Container b) some low kind = refl
low_memory x (part.Atlas d) some low kind = absurd (omega (arith, kind))
low_memory x (part.Locus l) some low kind = absurd (omega (arith, kind))

-- a locus that is lent is ready
pub ready_here : (c : Cell) (atlas other : List Cell) → AreLent c atlas other → (l : Locus) → c.part ≡ part.Locus (Some l) → IsReadyLocus (locus_of l)
ready_here c atlas other lent l is =
    ready lent.directory (locus_of l) (locus_here lent.directory (λ x. (lent.state x).cell) c.clock.entity (locus_of l) lent.sound (lent.has.0.part ∙ ap (part_of lent.supply lent.words) is)).1

-- BESIDE another entity
pub record FacesOther (a b : Cell) (i : Instr) : Type 0 where
  pub planned : IsPlanned a i (reach.Beside b.clock.entity)
  pub fits : FitsBeside i b.part
  pub apart : b.clock.entity ≢ a.clock.entity
  pub few : (a.clock.version < 2 ^ 63) × (b.clock.version < 2 ^ 63)

-- AT A CONTAINER
pub record FacesLook {B : Type 0} (stores : Ghosts B) (s : Supply) (a b : Cell) (i : Instr) (store : B) : Type 0 where
  pub planned : IsPlanned a i (reach.Look b.clock.entity)
  pub memory : MayLookIn s stores store b.part
  pub lower : b.clock.entity < a.clock.entity
  pub few : (a.clock.version < 2 ^ 63) × (b.clock.version < 2 ^ 63)

-- WITH THE ATLAS AND A CONTAINER
pub record FacesMapping (a k b : Cell) (i : Instr) : Type 0 where
  pub planned : IsPlanned a i (reach.Mapping b.clock.entity)
  pub may : (l : Locus) → a.part ≡ part.Locus (Some l)
      → (d : Directory) × IsDirectoryPart k.part d × (h : Head) × IsHeadPart b.part h × MayMap d (locus_of l) b.clock.entity h
  pub some : 0 < b.clock.entity
  pub lower : b.clock.entity < a.clock.entity

-- WITH THE ATLAS AND WHAT IS BORN, a container or a locus
pub record FacesMaking (a k b : Cell) : Type 0 where
  pub free : (d : Directory) × (k.part ≡ part.Atlas d) × (length d.containers < 40) × (b.clock.entity ≡ length d.containers + 1)
  pub unborn : IsUnbornContainer b.part
  pub lower : b.clock.entity < a.clock.entity

pub record FacesSpawning (a k b : Cell) : Type 0 where
  pub free : (d : Directory) × (k.part ≡ part.Atlas d) × (length d.loci < 23) × (b.clock.entity ≡ length d.loci + 41)
  pub some : 0 < a.clock.entity
  pub higher : a.clock.entity < b.clock.entity

-- WITH THE ATLAS ALONE, where no number is free
pub record FacesBarren (a k : Cell) (i : Instr) : Type 0 where
  pub wants : (l : Locus) × IsRunning a.part l × (d : Directory) × (k.part ≡ part.Atlas d) × NoNumberFree (locus_of l) d × (i ≡ instr_at (locus_of l))
  pub left : 0 < a.left
  pub some : 0 < a.clock.entity

module _ (c : Cell) (atlas other : List Cell) (lent : AreLent c atlas other) (i : Instr) (r : Reach) (p : IsPlanned c i r) where
  locus_is : (lent.state c.clock.entity).cell ≡ LocusCell (locus_of p.locus)
  locus_is = lent.has.0.part ∙ ap (part_of lent.supply lent.words) p.runs.is

  pub numbers : numbers_of (atlas ++ other) ≡ touched_by lent.directory r
  numbers = lent.touched i r p

  pub high : 40 < c.clock.entity
  high = high_number (length lent.directory.loci) c.clock.entity (locus_here lent.directory (λ x. (lent.state x).cell) c.clock.entity (locus_of p.locus) lent.sound locus_is).0

  -- the atlas that is lent is the directory
  directory_here : (k : Cell) → (lent.state k.clock.entity).cell ≡ part_of lent.supply lent.words k.part → k.clock.entity ≡ 0 → (d : Directory) × (k.part ≡ part.Atlas d) × (atlas_state d ≡ lent.directory)
  directory_here k has zero_at = directory_part lent.supply lent.words lent.directory (λ x. (lent.state x).cell) k.part lent.sound (sym has ∙ ap (λ x. (lent.state x).cell) zero_at)

  -- an entity beside the locus is fit for the call
  beside_here : (b : Cell) (y : ℕ) → (lent.state b.clock.entity).cell ≡ part_of lent.supply lent.words b.part → b.clock.entity ≡ y → r ≡ reach.Beside y → AreFewWrites (c ∷ b ∷ []) → FacesOther c b i
  beside_here b y has at is few =
      let planned : IsPlanned c i (reach.Beside y) = subst (IsPlanned c i) is p in
      let there : (lent.state c.clock.entity).cell ≡ LocusCell (locus_of planned.locus) = lent.has.0.part ∙ ap (part_of lent.supply lent.words) planned.runs.is in
      let f = fits_here lent.directory (λ x. (lent.state x).cell) c.clock.entity (locus_of planned.locus) lent.sound there lent.supply lent.words i y b.part planned.wants (sym has ∙ ap (λ x. (lent.state x).cell) at) in
      record { planned = subst (λ z. IsPlanned c i (reach.Beside z)) (sym at) planned; fits = f.0; apart = λ e. f.1 (sym at ∙ e); few = (few 0 c refl, few 1 b refl) }

-- nothing is lent beside the locus
pub alone_reach : (c : Cell) (lent : AreLent c [] []) (i : Instr) (r : Reach) → IsPlanned c i r → (own : _) × (r ≡ reach.Alone own)
alone_reach c lent i (reach.Alone own) p = (own, refl)
alone_reach c lent i (reach.Beside y) p = absurd (none_is _ _ (sym (numbers c [] [] lent i (reach.Beside y) p)))
alone_reach c lent i (reach.Look y) p = absurd (none_is _ _ (sym (numbers c [] [] lent i (reach.Look y) p)))
alone_reach c lent i (reach.Mapping y) p = absurd (none_is _ _ (sym (numbers c [] [] lent i (reach.Mapping y) p)))
alone_reach c lent i reach.Make p = absurd (none_is _ _ (sym (numbers c [] [] lent i reach.Make p)))
alone_reach c lent i reach.Spawn p = absurd (none_is _ _ (sym (numbers c [] [] lent i reach.Spawn p)))

-- ANOTHER ENTITY ALONE is lent
module _ (c d : Cell) (lent : AreLent c [] (d ∷ [])) (few : AreFewWrites (c ∷ d ∷ [])) (i : Instr) where
  pub faces_other : (r : Reach) → IsPlanned c i r → ((x : ℕ) → r ≢ reach.Look x) → FacesOther c d i
  faces_other (reach.Alone own) p no_look = absurd (none_is _ _ (numbers c [] (d ∷ []) lent i (reach.Alone own) p))
  faces_other (reach.Beside y) p no_look = beside_here c [] (d ∷ []) lent i (reach.Beside y) p d y lent.has.1.0.part (first_is _ _ _ _ (numbers c [] (d ∷ []) lent i (reach.Beside y) p)) refl few
  faces_other (reach.Look y) p no_look = absurd (no_look y refl)
  faces_other (reach.Mapping y) p no_look = absurd (none_is _ _ (sym (rest_is _ _ _ _ (numbers c [] (d ∷ []) lent i (reach.Mapping y) p))))
  faces_other reach.Make p no_look = absurd (lent.apart d refl (first_is _ _ _ _ (numbers c [] (d ∷ []) lent i reach.Make p)))
  faces_other reach.Spawn p no_look = absurd (lent.apart d refl (first_is _ _ _ _ (numbers c [] (d ∷ []) lent i reach.Spawn p)))

  pub faces_look : {B : Type 0} (stores : Ghosts B) (s : Supply) (store : B) (y : ℕ) → IsPlanned c i (reach.Look y) → HoldsPages stores s store d.part → FacesLook stores s c d i store
  faces_look stores s store y p holds =
      let at : d.clock.entity ≡ y = first_is _ _ _ _ (numbers c [] (d ∷ []) lent i (reach.Look y) p) in
      let there : (lent.state c.clock.entity).cell ≡ LocusCell (locus_of p.locus) = lent.has.0.part ∙ ap (part_of lent.supply lent.words) p.runs.is in
      let below = look_here lent.directory (λ x. (lent.state x).cell) c.clock.entity (locus_of p.locus) lent.sound there y p.wants in
      let f = look_part lent.supply lent.words lent.directory (λ x. (lent.state x).cell) c.clock.entity y (locus_of p.locus) d.part lent.sound there p.wants (sym lent.has.1.0.part ∙ ap (λ x. (lent.state x).cell) at) in
      let own = subst (HasOwnMemory (stores.held store)) f.1.is holds.own in
      record {
        planned = subst (λ z. IsPlanned c i (reach.Look z)) (sym at) p;
        memory = record { head = f.0; memory = f.1.memory; is = f.1.is; of = own.0; table = own.1; clean = λ told. holds.clean told f.1.memory (ap memory_of f.1.is) };
        lower = subst (λ n. n < c.clock.entity) (sym at) below.3;
        few = (few 0 c refl, few 1 d refl);
      }

-- THE ATLAS ALONE is lent
module _ (c k : Cell) (lent : AreLent c (k ∷ []) []) (few : AreFewWrites (c ∷ k ∷ [])) (i : Instr) where
  pub faces_atlas : (y : ℕ) → IsPlanned c i (reach.Beside y) → FacesOther c k i
  faces_atlas y p = beside_here c (k ∷ []) [] lent i (reach.Beside y) p k y lent.has.1.0.part (first_is _ _ _ _ (numbers c (k ∷ []) [] lent i (reach.Beside y) p)) refl few

  pub faces_barren : (r : Reach) → IsPlanned c i r → ((y : ℕ) → r ≢ reach.Beside y) → FacesBarren c k i
  faces_barren (reach.Alone own) p other = absurd (none_is _ _ (numbers c (k ∷ []) [] lent i (reach.Alone own) p))
  faces_barren (reach.Beside y) p other = absurd (other y refl)
  faces_barren (reach.Look y) p other =
      let at : k.clock.entity ≡ y = first_is _ _ _ _ (numbers c (k ∷ []) [] lent i (reach.Look y) p) in
      let there : (lent.state c.clock.entity).cell ≡ LocusCell (locus_of p.locus) = lent.has.0.part ∙ ap (part_of lent.supply lent.words) p.runs.is in
      let below = look_here lent.directory (λ x. (lent.state x).cell) c.clock.entity (locus_of p.locus) lent.sound there y p.wants in
      absurd (omega (arith, below.2, at, lent.first k refl))
  faces_barren (reach.Mapping y) p other = absurd (none_is _ _ (sym (rest_is _ _ _ _ (numbers c (k ∷ []) [] lent i (reach.Mapping y) p))))
  faces_barren reach.Make p other =
      let d = directory_here c (k ∷ []) [] lent i reach.Make p k lent.has.1.0.part (lent.first k refl) in
      let none = containers_full lent.directory (none_listed (free_container lent.directory) (rest_is _ _ _ _ (numbers c (k ∷ []) [] lent i reach.Make p))) in
      let full = subst (λ (a : AtlasState). 40 ≤ length a.containers) (sym d.2) none in
      let up = high c (k ∷ []) [] lent i reach.Make p in
      record { wants = (p.locus, p.runs, d.0, d.1, record { is = inl (p.wants, full) }, p.instr); left = p.left; some = omega (arith, up) }
  faces_barren reach.Spawn p other =
      let d = directory_here c (k ∷ []) [] lent i reach.Spawn p k lent.has.1.0.part (lent.first k refl) in
      let none = loci_full lent.directory (none_listed (free_locus lent.directory) (rest_is _ _ _ _ (numbers c (k ∷ []) [] lent i reach.Spawn p))) in
      let full = subst (λ (a : AtlasState). 23 ≤ length a.loci) (sym d.2) none in
      let up = high c (k ∷ []) [] lent i reach.Spawn p in
      record { wants = (p.locus, p.runs, d.0, d.1, record { is = inr (p.wants, full) }, p.instr); left = p.left; some = omega (arith, up) }

-- BOTH are lent
module _ (c k d : Cell) (lent : AreLent c (k ∷ []) (d ∷ [])) (i : Instr) where
  pub faces_mapping : (y : ℕ) → IsPlanned c i (reach.Mapping y) → FacesMapping c k d i
  faces_mapping y p =
      let at : d.clock.entity ≡ y = first_is _ _ _ _ (rest_is _ _ _ _ (numbers c (k ∷ []) (d ∷ []) lent i (reach.Mapping y) p)) in
      let there : (lent.state c.clock.entity).cell ≡ LocusCell (locus_of p.locus) = lent.has.0.part ∙ ap (part_of lent.supply lent.words) p.runs.is in
      let f = directory_here c (k ∷ []) (d ∷ []) lent i (reach.Mapping y) p k lent.has.1.0.part (lent.first k refl) in
      let m = map_here lent.supply lent.words f.0 (λ x. (lent.state x).cell) c.clock.entity y (locus_of p.locus) i d.part (subst (λ a. AreSound a (λ x. (lent.state x).cell)) (sym f.2) lent.sound)
      there p.wants (sym lent.has.1.1.0.part ∙ ap (λ x. (lent.state x).cell) at) in
      record {
        planned = subst (λ z. IsPlanned c i (reach.Mapping z)) (sym at) p;
        may = λ l is. (f.0, record { is = f.1 }, m.0, m.1, subst (λ z. MayMap f.0 (locus_of l) z m.0) (sym at) (subst (λ (l : Locus). MayMap f.0 (locus_of l) y m.0) (same_locus p.locus l (sym p.runs.is ∙ is)) m.2));
        some = subst (λ n. 0 < n) (sym at) m.3;
        lower = subst (λ n. n < c.clock.entity) (sym at) m.4;
      }

  pub faces_making : IsPlanned c i reach.Make → FacesMaking c k d
  faces_making p =
      let there : (lent.state c.clock.entity).cell ≡ LocusCell (locus_of p.locus) = lent.has.0.part ∙ ap (part_of lent.supply lent.words) p.runs.is in
      let f = directory_here c (k ∷ []) (d ∷ []) lent i reach.Make p k lent.has.1.0.part (lent.first k refl) in
      let free = container_free lent.directory d.clock.entity (one_listed (free_container lent.directory) d.clock.entity (rest_is _ _ _ _ (numbers c (k ∷ []) (d ∷ []) lent i reach.Make p))) in
      let below = around_container lent.directory (λ x. (lent.state x).cell) c.clock.entity (locus_of p.locus) lent.sound there free.0 in
      let there_free = subst (λ (a : AtlasState). (length a.containers < 40) × (d.clock.entity ≡ length a.containers + 1)) (sym f.2) free in
      record {
        free = (f.0, f.1, there_free.0, there_free.1);
        unborn = unborn_part lent.supply lent.words lent.directory (λ x. (lent.state x).cell) d.part lent.sound free.0
            (low_memory d.clock.entity d.part (omega (arith, free.1)) (omega (arith, free.0, free.1)) (lent.kind d refl)) (sym lent.has.1.1.0.part ∙ ap (λ x. (lent.state x).cell) free.1);
        lower = omega (arith, below, free.1);
      }

  pub faces_spawning : IsPlanned c i reach.Spawn → FacesSpawning c k d
  faces_spawning p =
      let there : (lent.state c.clock.entity).cell ≡ LocusCell (locus_of p.locus) = lent.has.0.part ∙ ap (part_of lent.supply lent.words) p.runs.is in
      let f = directory_here c (k ∷ []) (d ∷ []) lent i reach.Spawn p k lent.has.1.0.part (lent.first k refl) in
      let free = locus_free lent.directory d.clock.entity (one_listed (free_locus lent.directory) d.clock.entity (rest_is _ _ _ _ (numbers c (k ∷ []) (d ∷ []) lent i reach.Spawn p))) in
      let above = around_locus lent.directory (λ x. (lent.state x).cell) c.clock.entity (locus_of p.locus) lent.sound there in
      let up = high c (k ∷ []) (d ∷ []) lent i reach.Spawn p in
      let there_free = subst (λ (a : AtlasState). (length a.loci < 23) × (d.clock.entity ≡ length a.loci + 41)) (sym f.2) free in
      record {
        free = (f.0, f.1, there_free.0, there_free.1);
        some = omega (arith, up);
        higher = omega (arith, above, free.1);
      }

  -- the step has one of these reaches
  pub both_reach : (r : Reach) → IsPlanned c i r → ((y : ℕ) → r ≢ reach.Mapping y) → r ≢ reach.Make → r ≢ reach.Spawn → ⊥
  both_reach (reach.Alone own) p mapping make spawn = none_is _ _ (numbers c (k ∷ []) (d ∷ []) lent i (reach.Alone own) p)
  both_reach (reach.Beside y) p mapping make spawn = none_is _ _ (rest_is _ _ _ _ (numbers c (k ∷ []) (d ∷ []) lent i (reach.Beside y) p))
  both_reach (reach.Look y) p mapping make spawn = none_is _ _ (rest_is _ _ _ _ (numbers c (k ∷ []) (d ∷ []) lent i (reach.Look y) p))
  both_reach (reach.Mapping y) p mapping make spawn = mapping y refl
  both_reach reach.Make p mapping make spawn = make refl
  both_reach reach.Spawn p mapping make spawn = spawn refl

-- no look where the atlas is lent, or nothing
pub look_lent : (c : Cell) (atlas other : List Cell) (lent : AreLent c atlas other) (i : Instr) (y : ℕ) → IsPlanned c i (reach.Look y) → (d : Cell) × (atlas ≡ []) × (other ≡ d ∷ [])
look_lent c [] [] lent i y p = absurd (none_is _ _ (sym (numbers c [] [] lent i (reach.Look y) p)))
look_lent c [] (d ∷ []) lent i y p = (d, refl, refl)
look_lent c [] (d ∷ e ∷ rest) lent i y p = absurd (none_is _ _ (rest_is _ _ _ _ (numbers c [] (d ∷ e ∷ rest) lent i (reach.Look y) p)))
look_lent c (k ∷ []) [] lent i y p =
    let there : (lent.state c.clock.entity).cell ≡ LocusCell (locus_of p.locus) = lent.has.0.part ∙ ap (part_of lent.supply lent.words) p.runs.is in
    let at : k.clock.entity ≡ y = first_is _ _ _ _ (numbers c (k ∷ []) [] lent i (reach.Look y) p) in
    let below = look_here lent.directory (λ x. (lent.state x).cell) c.clock.entity (locus_of p.locus) lent.sound there y p.wants in
    absurd (omega (arith, below.2, at, lent.first k refl))
look_lent c (k ∷ []) (d ∷ other) lent i y p = absurd (none_is _ _ (rest_is _ _ _ _ (numbers c (k ∷ []) (d ∷ other) lent i (reach.Look y) p)))
look_lent c (k ∷ m ∷ rest) other lent i y p = absurd (none_is _ _ (rest_is _ _ _ _ (numbers c (k ∷ m ∷ rest) other lent i (reach.Look y) p)))

-- the instruction of an act that touches the locus alone is that of the plan
pub own_planned : (c : Cell) (i : Instr) (own : Act) → IsPlanned c i (reach.Alone own) → IsPlanned c own.instr (reach.Alone own)
own_planned c i own p = record { locus = p.locus; runs = p.runs; left = p.left; instr = p.wants.wants.instr; wants = p.wants }

-- a step that spawns carries out a spawn
pub spawns : (c : Cell) (i : Instr) → IsPlanned c i reach.Spawn → is_spawn i ≡ false → ⊥
spawns c i p none = true≢false (sym (ap is_spawn (p.instr ∙ sym (wanted_says 64 (locus_of p.locus)).instr) ∙ p.wants.instr) ∙ none)
