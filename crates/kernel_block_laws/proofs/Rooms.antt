-- No entity's room falls along a legal run.
use Rattle.std.proofs.Common.{◌≡◌, ℕ, ◌≤◌, ◌&&◌, ◌==◌, Bool, true, false, if◌then◌else◌, List, [], ◌∷◌, Option, Some, None, is_none, option_and_then, refl, ap, subst, ◌∙◌, arith}
use Rattle.base_types.specs.declared.histories.Entry.{Entry}
use Rattle.base_types.specs.declared.histories.Event.TheVariants.{Birth, Step, Snap as SnapEvent, Stable, Tried}
use Rattle.kernel_invariant.specs.model_kernel.Acts.{wanted}
use Rattle.kernel_invariant.specs.model_kernel.Births.{birth_from, birth_named, container_birth, container_born, knows_caps, knows_regions, locus_birth, locus_born, locus_in_host, next_birth, next_birth_change}
use Rattle.kernel_invariant.specs.model_kernel.Changes.{Change, carried, changed, ordered}
use Rattle.kernel_invariant.specs.model_kernel.Histories.{Policy, IsLegalFrom, Run, by_event, event_of, goes_on}
use Rattle.kernel_invariant.specs.model_kernel.Outcomes.{free_container, free_locus}
use Rattle.kernel_invariant.specs.model_kernel.Parts.{after, after_entry, is_event, next_of, thing_at}
use Rattle.kernel_invariant.specs.model_kernel.Scripts.{ContainerTable, LocusTable, Script, container_named, container_table, locus_table, next_name, number_in, number_of}
use Rattle.kernel_invariant.specs.model_kernel.Soundness.{IsSound}
use Rattle.kernel_invariant.specs.model_kernel.State.{EntityState, KernelState, Supply, Text}
use Rattle.kernel_invariant.specs.model_kernel.Steps.{accesses_of, atlas_in, change_of, numbered_change, outcome_in, running, step, step_change}
use Rattle.kernel_invariant.proofs.model_kernel_lemmas.Basics.{some_of_map}
use Rattle.kernel_invariant.proofs.model_kernel_lemmas.LegalRuns.{state_goes_on}
use Rattle.kernel_invariant.specs.script_types.Rules.{IsScript}
use Rattle.kernel_invariant.proofs.model_sound_runs_lemmas.Standing.{IsStanding, standing_next}
use Rattle.kernel_block_laws.proofs.Widths.{AreWide, atlas_room, cell_room, changed_wide, free_container_unborn, free_locus_unborn, step_wide, unborn_room}
use Rattle.kernel_invariant.proofs.model_kernel_lemmas.StepTallies.{running_is}

-- A BIRTH

module _ (s : Supply) (script : Script) (w : KernelState) (sound : IsSound (λ x. (w x).cell)) where
  abbrev IsWideChange : ℕ × Change → Type 0
  IsWideChange c = AreWide w c.1.accesses

  if_wide : (b : Bool) (d c : ℕ × Change) → IsWideChange d → (if b then Some d else None) ≡ Some c → IsWideChange c
  if_wide true d c h e = let same : d ≡ c = cc in subst IsWideChange same h
  if_wide false d c h e = cc

  of_container : (t : ContainerTable) (o : Option ℕ) (c : ℕ × Change) → free_container sound.0 ≡ o → container_birth s sound.0 t o ≡ Some c → IsWideChange c
  of_container t None c free e = cc
  of_container t (Some n) c free e =
      if_wide (knows_regions (number_in sound.0 t.name n) t.regions && knows_caps (number_in sound.0 t.name n) t.caps) (n, container_born s sound.0 t n) c
      (atlas_room s w sound, (unborn_room s w sound n _ (free_container_unborn sound.0 n free), tt)) e

  of_locus : (t : LocusTable) (host : ℕ) (o : Option ℕ) (c : ℕ × Change) → free_locus sound.0 ≡ o → locus_in_host sound.0 t host (w host).cell o ≡ Some c → IsWideChange c
  of_locus t host None c free e = cc
  of_locus t host (Some n) c free e =
      if_wide (knows_caps (number_in sound.0 t.name n) t.caps) (n, locus_born sound.0 t n host (w host).cell) c
      (atlas_room s w sound, (omega arith, (unborn_room s w sound n _ (free_locus_unborn sound.0 n sound.1.names.few_containers free), tt))) e

  by_host : (t : LocusTable) (o : Option ℕ) (c : ℕ × Change) → locus_birth w sound.0 t o ≡ Some c → IsWideChange c
  by_host t None c e = cc
  by_host t (Some host) c e = of_locus t host (free_locus sound.0) c refl e

  by_tables : (t : Option ContainerTable) (u : Option LocusTable) (c : ℕ × Change) → birth_from s w sound.0 t u ≡ Some c → IsWideChange c
  by_tables (Some t) u c e = of_container t (free_container sound.0) c refl e
  by_tables None (Some u) c e = by_host u (container_named sound.0 u.host) c e
  by_tables None None c e = cc

  by_name : (name : Text) (b : Bool) (c : ℕ × Change) → (if b then birth_from s w sound.0 (container_table script.containers name) (locus_table script.loci name) else None) ≡ Some c → IsWideChange c
  by_name name true c e = by_tables (container_table script.containers name) (locus_table script.loci name) c e
  by_name name false c e = cc

  by_next : (o : Option Text) (c : ℕ × Change) → option_and_then (λ name. birth_named s script name w sound.0) o ≡ Some c → IsWideChange c
  by_next None c e = cc
  by_next (Some name) c e = by_name name (is_none (number_of sound.0 name)) c e

  birth_wide : (c : ℕ × Change) → next_birth_change s script w ≡ Some c → AreWide w c.1.accesses
  unfolding next_birth_change
  birth_wide c e = by_next (next_name sound.0 script) c (subst (λ b. option_and_then (λ name. birth_named s script name w b) (next_name b script) ≡ Some c) (ap atlas_in sound.1.atlas) e)

  birth_rooms : (r : Entry × KernelState) (x : ℕ) → next_birth s script w ≡ Some r → cell_room (w x).cell ≤ cell_room (r.1 x).cell
  birth_rooms r x is =
      let change = some_of_map (λ (c : ℕ × Change). carried w Birth c.0 c.1) (next_birth_change s script w) r is in
      let ms = change.0.1.accesses in
      let state : changed w (ordered ms) ≡ r.1 = ap (λ (q : Entry × KernelState). q.1) change.2 in
      subst (λ (v : KernelState). cell_room (w x).cell ≤ cell_room (v x).cell) state (changed_wide w ms x (birth_wide change.0 change.1))

  -- A STEP
  step_rooms : (me : ℕ) (r : Entry × KernelState) (x : ℕ) → step s me w ≡ Some r → cell_room (w x).cell ≤ cell_room (r.1 x).cell
  unfolding step_change change_of
  step_rooms me r x is =
      let change = some_of_map (λ (c : ℕ × Change). carried w Step c.0 c.1) (step_change s me w) r is in
      let locus = some_of_map (numbered_change s me w) (running (w me).cell) change.0 change.1 in
      let l = locus.0 in
      let ms = accesses_of me (wanted me l) (outcome_in s l (wanted me l) w) in
      let whole : carried w Step me (change_of s w me l) ≡ r = ap (λ (c : ℕ × Change). carried w Step c.0 c.1) locus.2 ∙ change.2 in
      let state : changed w (ordered ms) ≡ r.1 = ap (λ (q : Entry × KernelState). q.1) whole in
      subst (λ (v : KernelState). cell_room (w x).cell ≤ cell_room (v x).cell) state (changed_wide w ms x (step_wide s w sound me l (running_is (w me).cell l locus.1)))

  -- AN ENTRY
  entry_rooms : (e : Entry) (x : ℕ) → cell_room (w x).cell ≤ cell_room (after_entry (event_of s script) w e x).cell
  entry_rooms e x = elim e.event as (λ ev. cell_room (w x).cell ≤ cell_room ((if is_event ev then next_of (event_of s script) w (by_event s script ev e.actor w) else w) x).cell) [
    | Birth ↦ by_birth (next_birth s script w) refl
    | Step ↦ by_step (step s e.actor w) refl
    | SnapEvent ↦ omega arith
    | Stable ↦ omega arith
    | Tried ↦ omega arith
  ]
    where
      by_birth : (o : Option (Entry × KernelState)) → next_birth s script w ≡ o → cell_room (w x).cell ≤ cell_room (next_of (event_of s script) w o x).cell
      by_birth None is = omega arith
      by_birth (Some r) is = birth_rooms r x is

      by_step : (o : Option (Entry × KernelState)) → step s e.actor w ≡ o → cell_room (w x).cell ≤ cell_room (next_of (event_of s script) w o x).cell
      by_step None is = omega arith
      by_step (Some r) is = step_rooms e.actor r x is

-- A RUN

module _ (s : Supply) (policy : Policy) (script : Script) (rules : IsScript script) where
  abbrev act : Entry → KernelState → Option (Entry × KernelState)
  act = event_of s script

  pub run_rooms : (es : List Entry) (r : Run) → IsLegalFrom s policy script r es → IsStanding script r → (x : ℕ) → cell_room (r.state x).cell ≤ cell_room (after act r.state es x).cell
  run_rooms [] r legal k x = omega arith
  run_rooms (e ∷ es) r legal k x =
      let one = entry_rooms s script r.state k.sound e x in
      let rest = run_rooms es (goes_on s script r e) legal.1 (standing_next s policy script rules r e legal.0 k) x in
      let next = subst (λ (w : KernelState). cell_room (w x).cell ≤ cell_room (after act w es x).cell) (state_goes_on s policy script r e) rest in
      omega (arith, one, next)

  -- what an entity was at some version had no more room than it has at the end
  pub thing_rooms : (es : List Entry) (r : Run) → IsLegalFrom s policy script r es → IsStanding script r → (x n : ℕ) → cell_room (thing_at act (λ (b : EntityState). b.version) r.state es x n).cell ≤ cell_room (after act r.state es x).cell
  thing_rooms [] r legal k x n = omega arith
  thing_rooms (e ∷ es) r legal k x n =
      let rest = thing_rooms es (goes_on s script r e) legal.1 (standing_next s policy script rules r e legal.0 k) x n in
      let next = subst (λ (w : KernelState). cell_room (thing_at act (λ (b : EntityState). b.version) w es x n).cell ≤ cell_room (after act w es x).cell) (state_goes_on s policy script r e) rest in
      elim ((r.state x).version == n) as (λ t. cell_room (if t then r.state x else thing_at act (λ (b : EntityState). b.version) (after_entry act r.state e) es x n).cell ≤ cell_room (after act (after_entry act r.state e) es x).cell) [
        | true ↦ run_rooms (e ∷ es) r legal k x
        | false ↦ next
      ]
