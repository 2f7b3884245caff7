-- Steps and births make no code of their own: each entity has the code that some entity or table had before, or none.
use Rattle.std.proofs.Common.{◌≡◌, ℕ, ◌+◌, ◌/◌, Bool, true, false, if◌then◌else◌, ◌==◌, nat_lt, List, [], ◌∷◌, length, find, All, Option, Some, None, IfSome, unwrap_or, sym, subst, ◌∙◌}
use Rattle.std.proofs.lemmas.List.Elements.{All-head, All-tail}
use Rattle.base_types.specs.declared.capabilities.Cap.{Cap}
use Rattle.base_types.specs.declared.capabilities.Region.{Region}
use Rattle.base_types.specs.declared.histories.Answer.{Answer}
use Rattle.base_types.specs.declared.histories.Entry.{Entry}
use Rattle.base_types.specs.declared.histories.Event.TheVariants.{Step}
use Rattle.base_types.specs.declared.instructions.Call.{Call}
use Rattle.base_types.specs.declared.instructions.Instr.{Instr}
use Rattle.base_types.specs.declared.instructions.Instr.TheVariants.{Jz, Load, Store, Invoke, Leave, Return, Map, Unmap, Take, Give, Make, Spawn, Stop, Go}
use Rattle.base_types.specs.declared.instructions.Reply.{Reply}
use Rattle.model_kernel.specs.Acts.{Act, wanted}
use Rattle.model_kernel.specs.Births.{birth, code_in}
use Rattle.model_kernel.specs.Changes.{Access, Change, carried, changed, ordered}
use Rattle.model_kernel.specs.Outcomes.{Outcome, back, back_to, by_other, by_refused, free_container, free_locus, give, give_at, given_cap, invoke, invoke_at, leave, leave_at, load, local_act, look_address, look_hops, looked, looked_by, make, make_at, map_by, map_refusal, map_region, next, on_cell, outcome, own, own_reply, spawn, spawn_at, store, take_by, take_cap, through, unmap, unmap_at, with_newborn}
use Rattle.model_kernel.specs.Refusals.{new_region, reg}
use Rattle.model_kernel.specs.Scripts.{ContainerTable, Script, container_named, container_table, text_eq}
use Rattle.model_kernel.specs.State.{Supply, Text, AtlasState, ContainerState, LocusState, Cell, NotBorn, AtlasCell, ContainerCell, LocusCell, KernelState}
use Rattle.model_kernel.specs.Steps.{accesses_of, change_of, numbered_change, outcome_in, running, seen_atlas, seen_other, step, step_change, with_atlas_access, with_newborn_access, with_other_access}
use Rattle.model_kernel.specs.Words.{cap_at, covers, denied, free_slot, last_call}
use Rattle.model_kernel.proofs.Basics.{some_of_map}
use Rattle.model_kernel.proofs.Writes.{cell_with, changed_cell}
use Rattle.plain_states.proofs.ScriptLemmas.{named_container, named_locus}
use Rattle.plain_facts.specs.Snaps.{code_of}
use Rattle.plain_facts.proofs.DefinedBirths.{birth_named_made}
use Rattle.model_kernel.proofs.StepTallies.{running_is}
use Rattle.model_serial_turns.proofs.model_births_lemmas.Growing.{container_change, locus_change}
use Rattle.model_serial_turns.proofs.model_births_lemmas.KnownNames.{NextName, OfContainer, OfLocus, some_none}

-- RUNNING LOCI

-- code for which P holds; it holds for no code
module _ (P : List Instr → Type 0) (none : P []) where
  -- what the outcome leaves has such code
  pub record IsCoded (o : Outcome) : Type 0 where
    pub locus : P o.locus.code
    pub other : IfSome o.other (λ (k : Cell). P (code_of k))
    pub newborn : IfSome o.newborn (λ (b : ℕ × Cell). P (code_of b.1))

  -- ACTS OF A LOCUS WITH SUCH CODE
  module _ (s : Supply) (l : LocusState) (here : P l.code) where
    local_coded : (i : Instr) → IsCoded (local_act l i)
    unfolding local_act
    local_coded (Jz r p) =
        elim (reg l r == 0) as (λ b. IsCoded (own (if b then record l { place = p } else next l) Rattle.base_types.specs.declared.histories.Answer.TheVariants.Quiet)) [
          | true ↦ record { locus = here; other = tt; newborn = tt }
          | false ↦ record { locus = here; other = tt; newborn = tt }
        ]
    local_coded i = record { locus = here; other = tt; newborn = tt }

    through_coded : (r : Region) (address : ℕ) (o : Option Reply) → IsCoded (through l r address o)
    through_coded r address (Some why) = record { locus = here; other = tt; newborn = tt }
    through_coded r address None =
        elim (nat_lt (look_hops l) 63) as (λ b. IsCoded (if b then Rattle.model_kernel.specs.Outcomes.hop_to l r address else own_reply l Rattle.base_types.specs.declared.instructions.Reply.TheVariants.Deep)) [
          | true ↦ record { locus = here; other = tt; newborn = tt }
          | false ↦ record { locus = here; other = tt; newborn = tt }
        ]

    region_coded : (address needed : ℕ) (done : Outcome) (o : Option Region) → IsCoded done → IsCoded (looked_by l address needed done o)
    region_coded address needed done (Some r) h = through_coded r address (denied r.rights.0 needed)
    region_coded address needed done None h = h

    looked_coded : (c : ContainerState) (address needed : ℕ) (done : Outcome) → IsCoded done → IsCoded (looked l c address needed done)
    looked_coded c address needed done h =
        elim (nat_lt (address / 128) c.pages) as (λ b. IsCoded (if b then looked_by l address needed done (find (λ r. covers r (address / 128)) c.regions) else own_reply l Rattle.base_types.specs.declared.instructions.Reply.TheVariants.NoPage)) [
          | true ↦ region_coded address needed done (find (λ r. covers r (address / 128)) c.regions) h
          | false ↦ record { locus = here; other = tt; newborn = tt }
        ]

    invoke_coded : (x : ℕ) (c : ContainerState) (o : Option ℕ) → P c.code → IsCoded (invoke_at l x c o)
    invoke_coded x c None h = record { locus = here; other = h; newborn = tt }
    invoke_coded x c (Some entry) h =
        elim (nat_lt (length l.chain) 64) as (λ b. IsCoded (if b then Rattle.model_kernel.specs.Outcomes.entered c (Rattle.model_kernel.specs.Outcomes.enter l x c entry (Rattle.std.proofs.Common.◌++◌ l.chain (record { container = l.host; place = l.place + 1 } ∷ []))) else Rattle.model_kernel.specs.Outcomes.with_other l Rattle.base_types.specs.declared.instructions.Reply.TheVariants.ListFull (ContainerCell c))) [
          | true ↦ record { locus = h; other = h; newborn = tt }
          | false ↦ record { locus = here; other = h; newborn = tt }
        ]

    leave_coded : (x : ℕ) (c : ContainerState) (o : Option ℕ) → P c.code → IsCoded (leave_at l x c o)
    leave_coded x c None h = record { locus = here; other = h; newborn = tt }
    leave_coded x c (Some entry) h = record { locus = h; other = h; newborn = tt }

    back_coded : (c : ContainerState) (o : Option Call) → P c.code → IsCoded (back_to l c o)
    back_coded c None h = record { locus = here; other = tt; newborn = tt }
    back_coded c (Some call) h = record { locus = h; other = h; newborn = tt }

    map_coded : (a : AtlasState) (x : ℕ) (c : ContainerState) (r : Region) (o : Option Reply) → P c.code → IsCoded (map_by l a x c r o)
    map_coded a x c r (Some why) h = record { locus = here; other = h; newborn = tt }
    map_coded a x c r None h = record { locus = here; other = h; newborn = tt }

    unmap_coded : (a : AtlasState) (x : ℕ) (c : ContainerState) (at : ℕ) (o : Option Region) → P c.code → IsCoded (unmap_at l a x c at o)
    unmap_coded a x c at None h = record { locus = here; other = h; newborn = tt }
    unmap_coded a x c at (Some r) h = record { locus = here; other = h; newborn = tt }

    take_coded : (c : ContainerState) (d : ℕ) (o : Option Cap) (slot : Option ℕ) → P c.code → IsCoded (take_by l c d o slot)
    take_coded c d None slot h = record { locus = here; other = h; newborn = tt }
    take_coded c d (Some cap) None h = record { locus = here; other = h; newborn = tt }
    take_coded c d (Some cap) (Some slot) h = record { locus = here; other = h; newborn = tt }

    give_coded : (c : ContainerState) (d : ℕ) (cap : Cap) (slot : Option ℕ) → P c.code → IsCoded (give_at l c d cap slot)
    give_coded c d cap None h = record { locus = here; other = h; newborn = tt }
    give_coded c d cap (Some slot) h = record { locus = here; other = h; newborn = tt }

    on_coded : (a : AtlasState) (x : ℕ) (i : Instr) (k : Cell) → P (code_of k) → IsCoded (on_cell s l a x i k)
    unfolding on_cell load store invoke leave back map_region unmap take_cap give
    on_coded a x (Load d r) (ContainerCell c) h = looked_coded c (look_address l (reg l r)) 1 _ (record { locus = here; other = tt; newborn = tt })
    on_coded a x (Store r v) (ContainerCell c) h = looked_coded c (look_address l (reg l r)) 2 _ (record { locus = here; other = h; newborn = tt })
    on_coded a x (Invoke r) (ContainerCell c) h = invoke_coded x c c.entry h
    on_coded a x (Leave r) (ContainerCell c) h = leave_coded x c c.entry h
    on_coded a x Return (ContainerCell c) h = back_coded c (last_call l.chain) h
    on_coded a x (Map d r k b n rights) (ContainerCell c) h = map_coded a x c (new_region l r k b n rights) (map_refusal a x c (new_region l r k b n rights)) h
    on_coded a x (Unmap d r) (ContainerCell c) h = unmap_coded a x c (reg l r) (find (λ q. q.at == reg l r) c.regions) h
    on_coded a x (Take d k y) (ContainerCell c) h = take_coded c d (cap_at c.caps (reg l y)) (free_slot l.caps) h
    on_coded a x (Give d k r rights) (ContainerCell c) h = give_coded c d (given_cap l r rights.0) (free_slot c.caps) h
    on_coded a x (Stop c) (LocusCell m) h = record { locus = here; other = h; newborn = tt }
    on_coded a x (Go c) (LocusCell m) h = record { locus = here; other = h; newborn = tt }
    on_coded a x i k h = record { locus = here; other = h; newborn = tt }

    made_coded : (a : AtlasState) (d pages tag : ℕ) (entry o : Option ℕ) → IsCoded (make_at s l a d pages tag entry o)
    made_coded a d pages tag entry None = record { locus = here; other = tt; newborn = tt }
    made_coded a d pages tag None (Some x) = record { locus = here; other = tt; newborn = none }
    made_coded a d pages tag (Some q) (Some x) = record { locus = here; other = tt; newborn = here }

    spawned_coded : (a : AtlasState) (d place : ℕ) (o : Option ℕ) → IsCoded (spawn_at l a d place o)
    spawned_coded a d place None = record { locus = here; other = tt; newborn = tt }
    spawned_coded a d place (Some x) = record { locus = here; other = tt; newborn = here }

    newborn_coded : (a : AtlasState) (i : Instr) → IsCoded (with_newborn s l a i)
    unfolding with_newborn make spawn
    newborn_coded a (Make d n t e) = made_coded a d (reg l n) (reg l t) e (free_container a)
    newborn_coded a (Spawn d p) = spawned_coded a d p (free_locus a)
    newborn_coded a i = local_coded i

    beside_coded : (a : AtlasState) (i : Instr) (o : Option ℕ) (k : Cell) → P (code_of k) → IsCoded (by_other s l a i o k)
    beside_coded a i (Some x) k h = on_coded a x i k h
    beside_coded a i None k h = newborn_coded a i

    refused_coded : (a : AtlasState) (i : Instr) (why : Option Reply) (o : Option ℕ) (k : Cell) → P (code_of k) → IsCoded (by_refused s l a i why o k)
    refused_coded a i (Some why) o k h = record { locus = here; other = tt; newborn = tt }
    refused_coded a i None o k h = beside_coded a i o k h

    outcome_coded : (act : Act) (a : AtlasState) (k : Cell) → P (code_of k) → IsCoded (outcome s l act a k)
    unfolding outcome
    outcome_coded act a k h = refused_coded a act.instr act.refused act.other k h

  -- WHAT ACCESSES WRITE

  -- each writes a cell with such code
  abbrev AllCoded : List Access → Type 0
  AllCoded [] = Unit {0}
  AllCoded (m ∷ ms) = IfSome m.new (λ (k : Cell). P (code_of k)) × AllCoded ms

  written_coded : (b : Bool) (o : Option Cell) (k : Cell) → IfSome o (λ (c : Cell). P (code_of c)) → P (code_of k) → P (code_of (if b then unwrap_or o k else k))
  written_coded true None k h old = old
  written_coded true (Some c) k h old = h
  written_coded false o k h old = old

  cells_coded : (ms : List Access) (x : ℕ) (k : Cell) → AllCoded ms → P (code_of k) → P (code_of (cell_with ms x k))
  cells_coded [] x k all old = old
  cells_coded (m ∷ ms) x k all old = cells_coded ms x (if m.entity == x then unwrap_or m.new k else k) all.1 (written_coded (m.entity == x) m.new k all.0 old)

  changed_coded : (w : KernelState) (ms : List Access) → AllCoded ms → ((x : ℕ) → P (code_of (w x).cell)) → (x : ℕ) → P (code_of (changed w (ordered ms) x).cell)
  changed_coded w ms all old x = subst (λ (k : Cell). P (code_of k)) (sym (changed_cell w ms x)) (cells_coded ms x (w x).cell all (old x))

  atlas_accessed : (b : Bool) (a : AtlasState) (ms : List Access) → AllCoded ms → AllCoded (with_atlas_access b a ms)
  atlas_accessed true a ms all = (none, all)
  atlas_accessed false a ms all = all

  other_accessed : (o : Option ℕ) (k : Option Cell) (ms : List Access) → IfSome k (λ (c : Cell). P (code_of c)) → AllCoded ms → AllCoded (with_other_access o k ms)
  other_accessed None k ms h all = all
  other_accessed (Some x) k ms h all = (h, all)

  newborn_accessed : (o : Option (ℕ × Cell)) (ms : List Access) → IfSome o (λ (b : ℕ × Cell). P (code_of b.1)) → AllCoded ms → AllCoded (with_newborn_access o ms)
  newborn_accessed None ms h all = all
  newborn_accessed (Some b) ms h all = (h, all)

  accesses_coded : (me : ℕ) (act : Act) (o : Outcome) → IsCoded o → AllCoded (accesses_of me act o)
  accesses_coded me act o h = atlas_accessed act.atlas o.atlas _ (other_accessed act.other o.other _ h.other (newborn_accessed o.newborn _ h.newborn (h.locus, tt)))

  -- A STEP

  seen_coded : (w : KernelState) (o : Option ℕ) → ((x : ℕ) → P (code_of (w x).cell)) → P (code_of (seen_other w o))
  seen_coded w (Some x) old = old x
  seen_coded w None old = none

  change_coded : (s : Supply) (me : ℕ) (w : KernelState) (l : LocusState) → P l.code → ((x : ℕ) → P (code_of (w x).cell)) → AllCoded (numbered_change s me w l).1.accesses
  unfolding change_of
  change_coded s me w l here old =
      let act = wanted me l in
      accesses_coded me act (outcome_in s l act w) (outcome_coded s l here act (seen_atlas w act.atlas) (seen_other w act.other) (seen_coded w act.other old))

  pub step_coded : (s : Supply) (me : ℕ) (w v : KernelState) (e : Entry) → step s me w ≡ Some (e, v) → ((x : ℕ) → P (code_of (w x).cell)) → (x : ℕ) → P (code_of (v x).cell)
  unfolding step_change
  step_coded s me w v e is old =
      let g = some_of_map (λ (c : ℕ × Change). carried w Step c.0 c.1) (step_change s me w) (e, v) is in
      let l = some_of_map (numbered_change s me w) (running (w me).cell) g.0 g.1 in
      let here : P l.0.code = subst (λ (k : Cell). P (code_of k)) (running_is (w me).cell l.0 l.1) (old me) in
      let all = subst (λ (c : ℕ × Change). AllCoded c.1.accesses) l.2 (change_coded s me w l.0 here old) in
      subst (λ (r : Entry × KernelState). (x : ℕ) → P (code_of (r.1 x).cell)) g.2 (changed_coded w g.0.1.accesses all old)

  -- A BIRTH

  table_coded : (ts : List ContainerTable) (name : Text) (t : ContainerTable) → container_table ts name ≡ Some t → All (λ (t : ContainerTable). P t.code) ts → P t.code
  table_coded [] name t is all = some_none t (sym is)
  table_coded (u ∷ ts) name t is all =
      elim (text_eq name u.name) as (λ b. (if b then Some u else container_table ts name) ≡ Some t → P t.code) [
        | true ↦ λ e. let same : u ≡ t = cc in subst (λ (t : ContainerTable). P t.code) same (All-head (λ (t : ContainerTable). P t.code) u ts all)
        | false ↦ λ e. table_coded ts name t e (All-tail (λ (t : ContainerTable). P t.code) u ts all)
      ] is

  host_coded : (k : Cell) → P (code_of k) → P (code_in k)
  host_coded (ContainerCell c) h = h
  host_coded NotBorn h = none
  host_coded (AtlasCell a) h = none
  host_coded (LocusCell l) h = none

  pub birth_coded : (s : Supply) (script : Script) (name : Text) (w v : KernelState) (a : AtlasState) (e : Entry) → (w 0).cell ≡ AtlasCell a → NextName a script name → birth s script name w ≡ Some (e, v) → All (λ (t : ContainerTable). P t.code) script.containers
      → ((x : ℕ) → P (code_of (w x).cell)) → (x : ℕ) → P (code_of (v x).cell)
  birth_coded s script name w v a e here (OfContainer next other) is tables old =
      let m = birth_named_made s script name w v a e here is in
      let t = next.table in
      let k = container_change s a t (free_container a) m.0 (sym (named_container s script name w a t next.none next.found) ∙ m.1) in
      let code = table_coded script.containers name t next.found tables in
      let all = subst (λ (c : ℕ × Change). AllCoded c.1.accesses) k.2 (none, (code, tt)) in
      subst (λ (r : Entry × KernelState). (x : ℕ) → P (code_of (r.1 x).cell)) m.2 (changed_coded w m.0.1.accesses all old)
  birth_coded s script name w v a e here (OfLocus next other known) is tables old =
      let m = birth_named_made s script name w v a e here is in
      let t = next.table in
      let k = locus_change w a t (container_named a t.host) m.0 (sym (named_locus s script name w a t next.none other next.found) ∙ m.1) in
      let all = subst (λ (c : ℕ × Change). AllCoded c.1.accesses) k.4 (none, (old k.0, (host_coded (w k.0).cell (old k.0), tt))) in
      subst (λ (r : Entry × KernelState). (x : ℕ) → P (code_of (r.1 x).cell)) m.2 (changed_coded w m.0.1.accesses all old)
