-- Steps and births are made of what they touch.
use Rattle.std.proofs.Common.{◌≡◌, ℕ, Bool, true, false, if◌then◌else◌, List, [], ◌∷◌, Option, Some, None, option_map, option_and_then, is_none, ◌&&◌, refl, sym, ap, subst, ◌∙◌}
use Rattle.base_types.specs.declared.histories.Event.TheVariants.{Birth, Step}
use Rattle.model_kernel.specs.State.{Supply, Text, AtlasState, LocusState, Cell, LocusCell, EntityState, KernelState}
use Rattle.model_kernel.specs.Acts.{Act, wanted}
use Rattle.model_kernel.specs.Outcomes.{Outcome, outcome, free_container, free_locus}
use Rattle.model_kernel.specs.Changes.{Access, Change}
use Rattle.model_kernel.specs.Steps.{with_atlas_access, with_other_access, with_newborn_access, accesses_of, seen_atlas, seen_other, outcome_in, change_by, change_of, running, numbered_change, step_change, step, atlas_in}
use Rattle.model_kernel.specs.Scripts.{ContainerTable, LocusTable, Script, number_of, number_in, container_named, container_table, locus_table, next_name}
use Rattle.model_kernel.specs.Births.{knows_caps, knows_regions, container_born, container_birth, locus_born, locus_in_host, locus_birth, birth_from, birth_named, birth_change, birth, next_birth_change, next_birth}
use Rattle.model_kernel.specs.LocalEvents.{IsLocal}
use Rattle.model_kernel.proofs.Basics.{some_of_map, or_right}
use Rattle.model_kernel.proofs.Carried.{AgreeAccesses, IsOfTouched, acts_local, some_write, Writes}

-- STEPS

module _ (w v : KernelState) where
  of_newborn : (o : Option (ℕ × Cell)) (accesses : List Access) → AgreeAccesses w v (with_newborn_access o accesses) → AgreeAccesses w v accesses
  of_newborn None accesses h = h
  of_newborn (Some b) accesses h = h.1

  of_other : (o : Option ℕ) (c : Option Cell) (accesses : List Access) → AgreeAccesses w v (with_other_access o c accesses) → (seen_other w o ≡ seen_other v o) × AgreeAccesses w v accesses
  of_other None c accesses h = (refl, h)
  of_other (Some x) c accesses h = (ap (λ b. b.cell) h.0, h.1)

  of_atlas : (b : Bool) (a : AtlasState) (accesses : List Access) → AgreeAccesses w v (with_atlas_access b a accesses) → (seen_atlas w b ≡ seen_atlas v b) × AgreeAccesses w v accesses
  of_atlas true a accesses h = (ap (λ b. seen_atlas (λ _. b) true) h.0, h.1)
  of_atlas false a accesses h = (refl, h)

  -- the act sees the same, and its locus is the same
  seen_same : (s : Supply) (me : ℕ) (l : LocusState) (act : Act) (o : Outcome) → AgreeAccesses w v (accesses_of me act o) → (w me ≡ v me) × (outcome_in s l act w ≡ outcome_in s l act v)
  seen_same s me l act o h =
      let a = of_atlas act.atlas _ _ h in
      let x = of_other act.other _ _ a.1 in
      let m = of_newborn o.newborn _ x.1 in
      (m.0, λ i. outcome s l act (a.0 i) (x.0 i))

-- a step depends on what it touches
pub step_of_touched : (s : Supply) (me : ℕ) → IsOfTouched (step_change s me)
unfolding step_change change_of
step_of_touched s me w v c is h =
    let g = some_of_map (numbered_change s me w) (running (w me).cell) c is in
    subst (λ (c : ℕ × Change). AgreeAccesses w v c.1.accesses → step_change s me v ≡ Some c) g.2
    (λ h. let q = seen_same w v s me g.0 (wanted me g.0) (outcome_in s g.0 (wanted me g.0) w) h in
    ap (option_map (numbered_change s me v)) (ap (λ b. running b.cell) (sym q.0) ∙ g.1)
    ∙ (λ i. Some (me, change_by me (wanted me g.0) (sym q.1 i))))
    h

newborn_writes : (o : Option (ℕ × Cell)) (accesses : List Access) → some_write accesses ≡ true → some_write (with_newborn_access o accesses) ≡ true
newborn_writes None accesses h = h
newborn_writes (Some b) accesses h = refl

other_writes : (o : Option ℕ) (c : Option Cell) (accesses : List Access) → some_write accesses ≡ true → some_write (with_other_access o c accesses) ≡ true
other_writes None c accesses h = h
other_writes (Some x) c accesses h = or_right _ _ h

atlas_writes : (b : Bool) (a : AtlasState) (accesses : List Access) → some_write accesses ≡ true → some_write (with_atlas_access b a accesses) ≡ true
atlas_writes true a accesses h = refl
atlas_writes false a accesses h = h

-- each step writes its locus
step_writes : (s : Supply) (me : ℕ) → Writes (step_change s me)
unfolding step_change change_of
step_writes s me w c is =
    let g = some_of_map (numbered_change s me w) (running (w me).cell) c is in
    let act = wanted me g.0 in
    let o = outcome_in s g.0 act w in
    subst (λ (c : ℕ × Change). some_write c.1.accesses ≡ true) g.2 (atlas_writes act.atlas o.atlas _ (other_writes act.other o.other _ (newborn_writes o.newborn (record { entity = me; new = Some (LocusCell o.locus) } ∷ []) refl)))

-- so a step is local
pub step_local : (s : Supply) (me : ℕ) → IsLocal (λ b. b.version) (step s me)
step_local s me = acts_local Step (step_change s me) (step_of_touched s me) (step_writes s me)

-- BIRTHS

-- a value that is given under a test
pub some_if : {A : Type 0} (b : Bool) (x y : A) → (if b then Some x else None) ≡ Some y → x ≡ y
some_if true x y e = cc
some_if false x y e = cc

module _ (s : Supply) (w v : KernelState) (a : AtlasState) where
  of_container : (t : ContainerTable) (n : Option ℕ) (c : ℕ × Change) → container_birth s a t n ≡ Some c → AgreeAccesses w v c.1.accesses → w 0 ≡ v 0
  of_container t None c is h = cc
  of_container t (Some n) c is h =
      subst (λ (c : ℕ × Change). AgreeAccesses w v c.1.accesses → w 0 ≡ v 0)
      (some_if (knows_regions (number_in a t.name n) t.regions && knows_caps (number_in a t.name n) t.caps) (n, container_born s a t n) c is)
      (λ h. h.0) h

  of_host : (t : LocusTable) (host : ℕ) (n : Option ℕ) (c : ℕ × Change) → locus_in_host a t host (w host).cell n ≡ Some c → AgreeAccesses w v c.1.accesses → (w 0 ≡ v 0) × (locus_in_host a t host (v host).cell n ≡ Some c)
  of_host t host None c is h = cc
  of_host t host (Some n) c is h =
      subst (λ (c : ℕ × Change). AgreeAccesses w v c.1.accesses → locus_in_host a t host (w host).cell (Some n) ≡ Some c → (w 0 ≡ v 0) × (locus_in_host a t host (v host).cell (Some n) ≡ Some c))
      (some_if (knows_caps (number_in a t.name n) t.caps) (n, locus_born a t n host (w host).cell) c is)
      (λ h is. (h.0, subst (λ (b : EntityState). locus_in_host a t host b.cell (Some n) ≡ Some (n, locus_born a t n host (w host).cell)) h.1.0 is)) h is

  of_locus : (t : LocusTable) (host : Option ℕ) (c : ℕ × Change) → locus_birth w a t host ≡ Some c → AgreeAccesses w v c.1.accesses → (w 0 ≡ v 0) × (locus_birth v a t host ≡ Some c)
  of_locus t None c is h = cc
  of_locus t (Some host) c is h = of_host t host (free_locus a) c is h

  of_tables : (t : Option ContainerTable) (u : Option LocusTable) (c : ℕ × Change) → birth_from s w a t u ≡ Some c → AgreeAccesses w v c.1.accesses → (w 0 ≡ v 0) × (birth_from s v a t u ≡ Some c)
  of_tables (Some t) u c is h = (of_container t (free_container a) c is h, is)
  of_tables None (Some u) c is h = of_locus u (container_named a u.host) c is h
  of_tables None None c is h = cc

-- a birth of a name depends on what it touches, the atlas among them
of_name : (s : Supply) (script : Script) (name : Text) (w v : KernelState) (a : AtlasState) (c : ℕ × Change) → birth_named s script name w a ≡ Some c → AgreeAccesses w v c.1.accesses → (w 0 ≡ v 0) × (birth_named s script name v a ≡ Some c)
of_name s script name w v a c is h =
    elim (is_none (number_of a name)) as (λ b. (if b then birth_from s w a (container_table script.containers name) (locus_table script.loci name) else None) ≡ Some c
    → (w 0 ≡ v 0) × ((if b then birth_from s v a (container_table script.containers name) (locus_table script.loci name) else None) ≡ Some c)) [
      | true ↦ λ is. of_tables s w v a (container_table script.containers name) (locus_table script.loci name) c is h
      | false ↦ λ is. cc
    ] is

-- the birth of a name depends on what it touches
pub birth_of_touched : (s : Supply) (script : Script) (name : Text) → IsOfTouched (birth_change s script name)
unfolding birth_change
birth_of_touched s script name w v c is h =
    let r = of_name s script name w v (atlas_in (w 0).cell) c is h in
    subst (λ (b : EntityState). birth_named s script name v (atlas_in b.cell) ≡ Some c) r.0 r.1

-- so does the next birth of a script
pub next_birth_of_touched : (s : Supply) (script : Script) → IsOfTouched (next_birth_change s script)
unfolding next_birth_change
next_birth_of_touched s script w v c is h = by_name (next_name (atlas_in (w 0).cell) script) refl is
  where
    by_name : (o : Option Text) → next_name (atlas_in (w 0).cell) script ≡ o → option_and_then (λ name. birth_named s script name w (atlas_in (w 0).cell)) o ≡ Some c
        → option_and_then (λ name. birth_named s script name v (atlas_in (v 0).cell)) (next_name (atlas_in (v 0).cell) script) ≡ Some c
    by_name None next is = cc
    by_name (Some name) next is =
        let r = of_name s script name w v (atlas_in (w 0).cell) c is h in
        subst (λ (b : EntityState). option_and_then (λ name. birth_named s script name v (atlas_in b.cell)) (next_name (atlas_in b.cell) script) ≡ Some c) r.0
        (ap (option_and_then (λ name. birth_named s script name v (atlas_in (w 0).cell))) next ∙ r.1)

-- each birth writes the atlas
module _ (s : Supply) (w : KernelState) (a : AtlasState) where
  container_writes : (t : ContainerTable) (n : Option ℕ) (c : ℕ × Change) → container_birth s a t n ≡ Some c → some_write c.1.accesses ≡ true
  container_writes t None c is = cc
  container_writes t (Some n) c is =
      subst (λ (c : ℕ × Change). some_write c.1.accesses ≡ true)
      (some_if (knows_regions (number_in a t.name n) t.regions && knows_caps (number_in a t.name n) t.caps) (n, container_born s a t n) c is) refl

  host_writes : (t : LocusTable) (host : ℕ) (cell : Cell) (n : Option ℕ) (c : ℕ × Change) → locus_in_host a t host cell n ≡ Some c → some_write c.1.accesses ≡ true
  host_writes t host cell None c is = cc
  host_writes t host cell (Some n) c is =
      subst (λ (c : ℕ × Change). some_write c.1.accesses ≡ true) (some_if (knows_caps (number_in a t.name n) t.caps) (n, locus_born a t n host cell) c is) refl

  locus_writes : (t : LocusTable) (host : Option ℕ) (c : ℕ × Change) → locus_birth w a t host ≡ Some c → some_write c.1.accesses ≡ true
  locus_writes t None c is = cc
  locus_writes t (Some host) c is = host_writes t host (w host).cell (free_locus a) c is

  tables_write : (t : Option ContainerTable) (u : Option LocusTable) (c : ℕ × Change) → birth_from s w a t u ≡ Some c → some_write c.1.accesses ≡ true
  tables_write (Some t) u c is = container_writes t (free_container a) c is
  tables_write None (Some u) c is = locus_writes u (container_named a u.host) c is
  tables_write None None c is = cc

  name_writes : (script : Script) (name : Text) (c : ℕ × Change) → birth_named s script name w a ≡ Some c → some_write c.1.accesses ≡ true
  name_writes script name c is =
      elim (is_none (number_of a name)) as (λ b. (if b then birth_from s w a (container_table script.containers name) (locus_table script.loci name) else None) ≡ Some c → some_write c.1.accesses ≡ true) [
        | true ↦ λ is. tables_write (container_table script.containers name) (locus_table script.loci name) c is
        | false ↦ λ is. cc
      ] is

birth_writes : (s : Supply) (script : Script) (name : Text) → Writes (birth_change s script name)
unfolding birth_change
birth_writes s script name w c is = name_writes s w (atlas_in (w 0).cell) script name c is

next_birth_writes : (s : Supply) (script : Script) → Writes (next_birth_change s script)
unfolding next_birth_change
next_birth_writes s script w c is = by_name (next_name (atlas_in (w 0).cell) script) is
  where
    by_name : (o : Option Text) → option_and_then (λ name. birth_named s script name w (atlas_in (w 0).cell)) o ≡ Some c → some_write c.1.accesses ≡ true
    by_name None is = cc
    by_name (Some name) is = name_writes s w (atlas_in (w 0).cell) script name c is

-- so births are local
pub birth_local : (s : Supply) (script : Script) (name : Text) → IsLocal (λ b. b.version) (birth s script name)
birth_local s script name = acts_local Birth (birth_change s script name) (birth_of_touched s script name) (birth_writes s script name)

-- the next one too
pub next_birth_local : (s : Supply) (script : Script) → IsLocal (λ b. b.version) (next_birth s script)
next_birth_local s script = acts_local Birth (next_birth_change s script) (next_birth_of_touched s script) (next_birth_writes s script)
