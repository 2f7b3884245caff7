-- Each step of a locus leaves a sound state.
use Rattle.std.proofs.Common.{◌≡◌, ℕ, ◌<◌, true, false, ◌&&◌, if◌then◌else◌, ◌==◌, nat_lt, nat_le, IsTrue, [], ◌∷◌, length, Option, Some, None, refl, sym, ap, subst, ◌∙◌, arith}
use Rattle.std.proofs.lemmas.Bool.Decides.{nat_tests}
use Rattle.model_kernel.specs.base_types.Instructions.{IsInstruction}
use Rattle.model_kernel.specs.base_types.declared.entities.Kind.{Kind}
use Rattle.model_kernel.specs.base_types.declared.entities.Kind.TheVariants.{Container, Locus}
use Rattle.model_kernel.specs.base_types.declared.histories.Entry.{Entry}
use Rattle.model_kernel.specs.base_types.declared.histories.Event.TheVariants.{Step}
use Rattle.model_kernel.specs.base_types.declared.instructions.Condition.{Condition}
use Rattle.model_kernel.specs.base_types.declared.instructions.Instr.{Instr}
use Rattle.model_kernel.specs.base_types.declared.instructions.Instr.TheVariants.{Set, Copy, Add, Sub, Jump, Jz, Load, Store, Invoke, Leave, Return, Map, Unmap, Lmap, Lunmap, Take, Give, Drop, Make, Spawn, Stop, Go, Snap, Stabilise, Print, Halt}
use Rattle.model_kernel.specs.base_types.declared.instructions.Reply.{Reply}
use Rattle.model_kernel.specs.base_types.declared.instructions.Reply.TheVariants.{Ok}
use Rattle.model_kernel.specs.State.{Supply, AtlasState, ContainerState, LocusState, Cell, NotBorn, AtlasCell, ContainerCell, LocusCell, KernelState, no_atlas}
use Rattle.model_kernel.specs.Acts.{Act, act_by, allowed, alone, beside, beside_and_atlas, beside_or_self, bearing, caller, look_at, wanted}
use Rattle.model_kernel.specs.Changes.{Change, carried, changed, ordered}
use Rattle.model_kernel.specs.Outcomes.{Outcome, going, given_cap, local_act, look_address, on_cell, outcome, own_reply, stopped, with_newborn, with_other}
use Rattle.model_kernel.specs.Refusals.{entity_of, instr_at, lacks, new_region, no_container, no_locus, no_page, no_slot, refusal, reg}
use Rattle.model_kernel.specs.Soundness.{AreSound, IsSound, IsSoundContainer, IsSoundLocus, is_born_container, is_born_locus, looks, regions_onto}
use Rattle.model_kernel.specs.Steps.{accesses_of, atlas_in, change_of, numbered_change, outcome_in, running, seen_atlas, seen_other, step, step_change, with_newborn_access, with_other_access}
use Rattle.model_kernel.specs.Words.{is_locus, unless}
use Rattle.model_kernel.proofs.Basics.{and_left, and_right, some_of_map}
use Rattle.model_kernel.proofs.Writes.{cell_with, changed_cell}
use Rattle.model_sound_steps.proofs.Cells.{locus_born, locus_in, locus_sound, put_cell, put_sound, read_sound, same_sound}
use Rattle.model_sound_steps.proofs.ContainerActs.{IsKept, IsSoundOutcome, back_keeps, caller_born, give_keeps, invoke_keeps, leave_keeps, load_keeps, look_born, store_keeps, take_keeps}
use Rattle.model_sound_steps.proofs.Leaving.{Leaves}
use Rattle.model_sound_steps.proofs.Lists.{first_passes, test_passes}
use Rattle.model_sound_steps.proofs.LocusEdits.{condition_sound, finish_sound, inside, instruction}
use Rattle.model_sound_steps.proofs.Mappings.{map_leaves, unmap_leaves}
use Rattle.model_sound_steps.proofs.Newborns.{make_leaves, spawn_leaves}
use Rattle.model_sound_steps.proofs.OwnActs.{container_named, entity_born, own_sound, region_sound}
use Rattle.model_sound_steps.proofs.RegionLists.{shown}
use Rattle.model_kernel.proofs.StepTallies.{running_is}

module _ (a : AtlasState) (cells : ℕ → Cell) (h : AreSound a cells) (me : ℕ) (l : LocusState) (known : IsTrue (is_born_locus a me)) (sound : IsSoundLocus a l) where
  -- the locus alone is written
  local_leaves : (i : Instr) → IsSoundLocus a (local_act l i).locus → Leaves cells me false None (local_act l i)
  unfolding local_act
  local_leaves (Set d n) k = (a, locus_sound a cells me _ h known k)
  local_leaves (Copy d s) k = (a, locus_sound a cells me _ h known k)
  local_leaves (Add d s) k = (a, locus_sound a cells me _ h known k)
  local_leaves (Sub d s) k = (a, locus_sound a cells me _ h known k)
  local_leaves (Jump p) k = (a, locus_sound a cells me _ h known k)
  local_leaves (Jz s p) k = (a, locus_sound a cells me _ h known k)
  local_leaves (Lmap d c b n rights) k = (a, locus_sound a cells me _ h known k)
  local_leaves (Lunmap d) k = (a, locus_sound a cells me _ h known k)
  local_leaves (Drop s) k = (a, locus_sound a cells me _ h known k)
  local_leaves (Stop c) k = (a, locus_sound a cells me _ h known k)
  local_leaves (Go c) k = (a, locus_sound a cells me _ h known k)
  local_leaves (Snap c) k = (a, locus_sound a cells me _ h known k)
  local_leaves (Stabilise c) k = (a, locus_sound a cells me _ h known k)
  local_leaves (Print s) k = (a, locus_sound a cells me _ h known k)
  local_leaves i k = (a, locus_sound a cells me _ h known k)

  refused_leaves : (r : Reply) → l.place < 128 → Leaves cells me false None (own_reply l r)
  refused_leaves r within = (a, locus_sound a cells me _ h known (finish_sound a l sound r within))

  -- another entity is read or written too
  other_leaves : (x : ℕ) (m : LocusState) (k : Cell) → IsSoundLocus a m → AreSound a (put_cell cells x k) → IsSound (put_cell (put_cell cells x k) me (LocusCell m))
  other_leaves x m k good all = (a, locus_sound a (put_cell cells x k) me m all known good)

  keeps_leaves : (x : ℕ) (c : ContainerState) → cells x ≡ ContainerCell c → IsTrue (is_born_container a x) → (o : Outcome) → IsSoundOutcome a c o → Leaves cells me false (Some x) o
  keeps_leaves x c at born o k = by_parts o.other o.newborn k.newborn k.other
    where
      by_parts : (new : Option Cell) (newborn : Option (ℕ × Cell)) → newborn ≡ None → IsKept a c new
          → IsSound (λ y. cell_with (with_other_access (Some x) new (with_newborn_access newborn (record { entity = me; new = Some (LocusCell o.locus) } ∷ []))) y (cells y))
      by_parts new (Some b) none kept = cc
      by_parts None None none kept = (a, locus_sound a (λ y. if x == y then cells y else cells y) me o.locus (read_sound a cells x h) known k.locus)
      by_parts (Some (ContainerCell d)) None none kept =
          other_leaves x o.locus (ContainerCell d) k.locus (put_sound a cells x (ContainerCell d) h (born, kept.0) (λ y. ap (λ k. regions_onto k y) at ∙ ap (λ rs. shown rs y) (sym kept.1)))
      by_parts (Some NotBorn) None none kept = absurd kept
      by_parts (Some (AtlasCell b)) None none kept = absurd kept
      by_parts (Some (LocusCell m)) None none kept = absurd kept

module _ (s : Supply) (w : KernelState) (a : AtlasState) (h : AreSound a (λ x. (w x).cell)) (me : ℕ) (l : LocusState) (known : IsTrue (is_born_locus a me)) (sound : IsSoundLocus a l) where
  -- the act leaves a sound state
  abbrev pub ActLeaves : Act → Type 0
  ActLeaves act = Leaves (λ x. (w x).cell) me act.atlas act.other (outcome s l act (seen_atlas w act.atlas) (seen_other w act.other))

  -- an act on a container
  on_container : (i : Instr) (x : ℕ) → IsTrue (is_born_container a x) → ((c : ContainerState) → IsSoundContainer a c → IsSoundOutcome a c (on_cell s l no_atlas x i (ContainerCell c))) → ActLeaves (beside i x)
  unfolding outcome
  on_container i x born keeps =
      let k = h.containers x born in
      subst (λ cell. Leaves (λ x. (w x).cell) me false (Some x) (on_cell s l no_atlas x i cell)) (sym k.1)
      (keeps_leaves a (λ x. (w x).cell) h me l known sound x k.0 k.1 born (on_cell s l no_atlas x i (ContainerCell k.0)) (keeps k.0 k.2))

  -- and on the atlas
  on_both : (i : Instr) (x : ℕ) → IsTrue (is_born_container a x)
      → ((c : ContainerState) → (w x).cell ≡ ContainerCell c → IsSoundContainer a c → Leaves (λ x. (w x).cell) me true (Some x) (on_cell s l a x i (ContainerCell c))) → ActLeaves (beside_and_atlas i x)
  unfolding outcome
  on_both i x born leaves =
      let k = h.containers x born in
      subst (λ cell. Leaves (λ x. (w x).cell) me true (Some x) (on_cell s l (atlas_in cell) x i (w x).cell)) (sym h.atlas)
      (subst (λ cell. Leaves (λ x. (w x).cell) me true (Some x) (on_cell s l a x i cell)) (sym k.1) (leaves k.0 k.1 k.2))

  -- a birth
  on_birth : (i : Instr) (kind : Kind) → Leaves (λ x. (w x).cell) me true None (with_newborn s l a i) → ActLeaves (bearing i kind)
  unfolding outcome
  on_birth i kind leaves = subst (λ cell. Leaves (λ x. (w x).cell) me true None (with_newborn s l (atlas_in cell) i)) (sym h.atlas) leaves

  -- an act on another locus
  on_locus : (i : Instr) (x : ℕ) → IsTrue (is_born_locus a x) → ((m : LocusState) → (w x).cell ≡ LocusCell m → IsSoundLocus a m → Leaves (λ x. (w x).cell) me false (Some x) (on_cell s l no_atlas x i (LocusCell m))) → ActLeaves (beside i x)
  unfolding outcome
  on_locus i x born leaves =
      let k = h.loci x born in
      subst (λ cell. Leaves (λ x. (w x).cell) me false (Some x) (on_cell s l no_atlas x i cell)) (sym k.1) (leaves k.0 k.1 k.2)

  self_or_other : (i : Instr) (x : ℕ) → ActLeaves (alone i None) → ActLeaves (beside i x) → ActLeaves (beside_or_self me i x)
  self_or_other i x self other = elim (x == me) as (λ b. ActLeaves (if b then alone i None else beside i x)) [ true ↦ self | false ↦ other ]

  locus_named : (r : ℕ) → no_locus l r ≡ None → IsTrue (is_born_locus a (entity_of l r))
  locus_named r passes = locus_born a (entity_of l r) h.names.few_containers (entity_born a l sound r) (test_passes (is_locus (entity_of l r)) _ passes)

  -- a locus's condition is changed
  conditioned : (x : ℕ) (m : LocusState) (k : Condition) → IsTrue (is_born_locus a x) → IsSoundLocus a m → l.place < 128 → Leaves (λ x. (w x).cell) me false (Some x) (with_other l Ok (LocusCell (record m { condition = k })))
  conditioned x m k born good within =
      other_leaves a (λ x. (w x).cell) h me l known sound x _ (LocusCell (record m { condition = k })) (finish_sound a l sound Ok within) (locus_sound a (λ x. (w x).cell) x (record m { condition = k }) h born (condition_sound a m good k))

  own : (i : Instr) → instr_at l ≡ i → refusal l i ≡ None → Leaves (λ x. (w x).cell) me false None (local_act l i)
  own i is passes = local_leaves a (λ x. (w x).cell) h me l known sound i (own_sound a l sound i is passes)

  -- an act that the locus doesn't refuse
  allowed_leaves : (i : Instr) → instr_at l ≡ i → refusal l i ≡ None → ActLeaves (allowed me l i)
  unfolding allowed outcome with_newborn on_cell refusal
  allowed_leaves (Load d r) is passes =
      let within = inside a l sound (Load d r) is (λ e. cc) in
      let x = look_at l (reg l r) in
      let born = look_born a l sound (reg l r) in
      on_container (Load d r) x born (λ c good. load_keeps a l sound within x c born good d (look_address l (reg l r)) (ap looks is))
  allowed_leaves (Store r v) is passes =
      let within = inside a l sound (Store r v) is (λ e. cc) in
      let x = look_at l (reg l r) in
      let born = look_born a l sound (reg l r) in
      on_container (Store r v) x born (λ c good. store_keeps a l sound within x c born good (look_address l (reg l r)) (reg l v) (ap looks is))
  allowed_leaves (Invoke r) is passes =
      let within = inside a l sound (Invoke r) is (λ e. cc) in
      let container = first_passes (no_container l r) _ (first_passes (no_slot l r) _ passes).1 in
      let born = container_named a l sound r container.0 in
      on_container (Invoke r) (entity_of l r) born (λ c good. invoke_keeps a l sound within (entity_of l r) c born good)
  allowed_leaves (Leave r) is passes =
      let within = inside a l sound (Leave r) is (λ e. cc) in
      let container = first_passes (no_container l r) _ (first_passes (no_slot l r) _ passes).1 in
      let born = container_named a l sound r container.0 in
      on_container (Leave r) (entity_of l r) born (λ c good. leave_keeps a l sound within (entity_of l r) c born good)
  allowed_leaves Return is passes =
      let within = inside a l sound Return is (λ e. cc) in
      let some : nat_lt 0 (length l.chain) ≡ true = test_passes _ _ passes in
      let born = caller_born a l sound (grind (arith, nat_tests)) in
      on_container Return (caller l) born (λ c good. back_keeps a l sound within (caller l) c born good)
  allowed_leaves (Map d r k b n rights) is passes =
      let within = inside a l sound (Map d r k b n rights) is (λ e. cc) in
      let one = first_passes (no_slot l k) _ (first_passes (no_slot l d) _ passes).1 in
      let container = first_passes (no_container l d) _ one.1 in
      let target = first_passes (no_container l k) _ container.1 in
      let held = first_passes (lacks l k rights.0) _ (first_passes (lacks l d 8) _ target.1).1 in
      let page = first_passes (no_page l r b n) _ held.1 in
      let range = subst IsInstruction is (instruction a l sound) in
      let region = region_sound a l sound r k b n rights target.0 page.0 range.5 in
      let born = container_named a l sound d container.0 in
      on_both (Map d r k b n rights) (entity_of l d) born (λ c at good. map_leaves a (λ x. (w x).cell) h me l known sound within (entity_of l d) c at born good (new_region l r k b n rights) region)
  allowed_leaves (Unmap d r) is passes =
      let within = inside a l sound (Unmap d r) is (λ e. cc) in
      let container = first_passes (no_container l d) _ (first_passes (no_slot l d) _ passes).1 in
      let born = container_named a l sound d container.0 in
      on_both (Unmap d r) (entity_of l d) born (λ c at good. unmap_leaves a (λ x. (w x).cell) h me l known sound within (entity_of l d) c at born good (reg l r))
  allowed_leaves (Take d k y) is passes =
      let within = inside a l sound (Take d k y) is (λ e. cc) in
      let container = first_passes (no_container l k) _ (first_passes (no_slot l k) _ passes).1 in
      let born = container_named a l sound k container.0 in
      on_container (Take d k y) (entity_of l k) born (λ c good. take_keeps a l sound within (entity_of l k) c born good d (reg l y))
  allowed_leaves (Give d k r rights) is passes =
      let within = inside a l sound (Give d k r rights) is (λ e. cc) in
      let slots = first_passes (no_slot l r) _ (first_passes (no_slot l k) _ passes).1 in
      let container = first_passes (no_container l k) _ slots.1 in
      let born = container_named a l sound k container.0 in
      on_container (Give d k r rights) (entity_of l k) born (λ c good. give_keeps a l sound within (entity_of l k) c born good d (given_cap l r rights.0) (entity_born a l sound r))
  allowed_leaves (Make d n t e) is passes =
      let within = inside a l sound (Make d n t e) is (λ e. cc) in
      let pages = test_passes (nat_lt 0 (reg l n) && nat_le (reg l n) 256) _ (first_passes (unless (nat_lt 0 (reg l n) && nat_le (reg l n) 256) _) _ passes).0 in
      let some : nat_lt 0 (reg l n) ≡ true = and_left (nat_lt 0 (reg l n)) _ pages in
      let few : nat_le (reg l n) 256 ≡ true = and_right (nat_lt 0 (reg l n)) _ pages in
      let range = subst IsInstruction is (instruction a l sound) in
      on_birth (Make d n t e) Container (make_leaves a (λ x. (w x).cell) h me l known sound within s d (reg l n) (reg l t) e (grind (arith, nat_tests)) (grind (arith, nat_tests)) range.3)
  allowed_leaves (Spawn d p) is passes =
      let within = inside a l sound (Spawn d p) is (λ e. cc) in
      let range = subst IsInstruction is (instruction a l sound) in
      let low : p < 128 = range.1 in
      on_birth (Spawn d p) Locus (spawn_leaves a (λ x. (w x).cell) h me l known sound within d p (omega arith))
  allowed_leaves (Stop c) is passes =
      let within = inside a l sound (Stop c) is (λ e. cc) in
      let locus = first_passes (no_locus l c) _ (first_passes (no_slot l c) _ passes).1 in
      let born = locus_named c locus.0 in
      self_or_other (Stop c) (entity_of l c) (own (Stop c) is passes) (on_locus (Stop c) (entity_of l c) born (λ m at good. conditioned (entity_of l c) m (stopped m.condition) born good within))
  allowed_leaves (Go c) is passes =
      let within = inside a l sound (Go c) is (λ e. cc) in
      let locus = first_passes (no_locus l c) _ (first_passes (no_slot l c) _ passes).1 in
      let born = locus_named c locus.0 in
      self_or_other (Go c) (entity_of l c) (own (Go c) is passes) (on_locus (Go c) (entity_of l c) born (λ m at good. conditioned (entity_of l c) m (going m.condition) born good within))
  allowed_leaves (Snap c) is passes =
      let within = inside a l sound (Snap c) is (λ e. cc) in
      let x = entity_of l c in
      self_or_other (Snap c) x (own (Snap c) is passes)
      (other_leaves a (λ x. (w x).cell) h me l known sound x _ (w x).cell (finish_sound a l sound Ok within) (same_sound a (λ x. (w x).cell) x (w x).cell h refl))
  allowed_leaves (Set d n) is passes = own (Set d n) is passes
  allowed_leaves (Copy d r) is passes = own (Copy d r) is passes
  allowed_leaves (Add d r) is passes = own (Add d r) is passes
  allowed_leaves (Sub d r) is passes = own (Sub d r) is passes
  allowed_leaves (Jump p) is passes = own (Jump p) is passes
  allowed_leaves (Jz r p) is passes = own (Jz r p) is passes
  allowed_leaves (Lmap d c b n rights) is passes = own (Lmap d c b n rights) is passes
  allowed_leaves (Lunmap d) is passes = own (Lunmap d) is passes
  allowed_leaves (Drop r) is passes = own (Drop r) is passes
  allowed_leaves (Stabilise c) is passes = own (Stabilise c) is passes
  allowed_leaves (Print r) is passes = own (Print r) is passes
  allowed_leaves Halt is passes = own Halt is passes

  -- Halt is not refused
  refused_within : (why : Reply) → refusal l (instr_at l) ≡ Some why → l.place < 128
  unfolding refusal
  refused_within why is = inside a l sound (instr_at l) refl (λ e. never (sym (ap (refusal l) e) ∙ is))
    where
      never : None ≡ Some why → ⊥
      never e = cc

  by_refusal : (refused : Option Reply) → refusal l (instr_at l) ≡ refused → ActLeaves (act_by me l (instr_at l) refused)
  unfolding outcome
  by_refusal (Some why) is = refused_leaves a (λ x. (w x).cell) h me l known sound why (refused_within why is)
  by_refusal None is = allowed_leaves (instr_at l) refl is

  pub wanted_leaves : ActLeaves (wanted me l)
  unfolding wanted
  wanted_leaves = by_refusal (refusal l (instr_at l)) refl

-- the change of a running locus leaves a sound state
change_sound : (s : Supply) (me : ℕ) (w : KernelState) (l : LocusState) → IsSound (λ x. (w x).cell) → (w me).cell ≡ LocusCell l → IsSound (λ x. (changed w (ordered (change_of s w me l).accesses) x).cell)
unfolding change_of
change_sound s me w l h at =
    let k = locus_in h.0 (λ x. (w x).cell) me l h.1 at in
    let accesses = accesses_of me (wanted me l) (outcome_in s l (wanted me l) w) in
    subst IsSound (λ i x. sym (changed_cell w accesses x) i) (wanted_leaves s w h.0 h.1 me l k.0 k.1)

pub step_sound : (s : Supply) (me : ℕ) (w : KernelState) (r : Entry × KernelState) → IsSound (λ x. (w x).cell) → step s me w ≡ Some r → IsSound (λ x. (r.1 x).cell)
unfolding step_change
step_sound s me w r h is =
    let change = some_of_map (λ (c : ℕ × Change). carried w Step c.0 c.1) (step_change s me w) r is in
    let locus = some_of_map (numbered_change s me w) (running (w me).cell) change.0 change.1 in
    let e : carried w Step me (change_of s w me locus.0) ≡ r = ap (λ (c : ℕ × Change). carried w Step c.0 c.1) locus.2 ∙ change.2 in
    subst (λ (q : Entry × KernelState). IsSound (λ x. (q.1 x).cell)) e (change_sound s me w locus.0 h (running_is (w me).cell locus.0 locus.1))
