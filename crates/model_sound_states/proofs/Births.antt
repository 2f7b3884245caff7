-- The new cells of a birth.
use Rattle.std.proofs.Common.{◌≡◌, ℕ, ◌&&◌, Bool, true, false, if◌then◌else◌, IsTrue, Option, Some, None, is_none, option_and_then, refl, ap, subst}
use Rattle.model_sound_runs.specs.model_kernel.Births.{birth_from, birth_named, container_birth, container_born, knows_caps, knows_regions, locus_birth, locus_born, locus_in_host, next_birth_change}
use Rattle.model_sound_runs.specs.model_kernel.Changes.{Change}
use Rattle.model_sound_runs.specs.model_kernel.Outcomes.{free_container, free_locus}
use Rattle.model_sound_runs.specs.model_kernel.Scripts.{ContainerTable, LocusTable, Script, container_named, container_table, locus_table, next_name, number_in, number_of}
use Rattle.model_sound_runs.specs.model_kernel.Soundness.{is_born_container}
use Rattle.model_sound_runs.specs.model_kernel.State.{AtlasState, KernelState, Supply, Text}
use Rattle.model_sound_runs.specs.model_kernel.Steps.{atlas_in}
use Rattle.model_sound_runs.proofs.Tables.{container_named_born}
use Rattle.model_sound_states.proofs.Cells.{AreGood, IsGoodCell}

module _ (s : Supply) (script : Script) (w : KernelState) (a : AtlasState) (good : (x : ℕ) → IsTrue (is_born_container a x) → IsGoodCell s (w x).cell) where
  abbrev pub BearsGood : ℕ × Change → Type 0
  BearsGood c = AreGood s c.1.accesses

  if_good : (b : Bool) (d c : ℕ × Change) → BearsGood d → (if b then Some d else None) ≡ Some c → BearsGood c
  if_good true d c h e = let same : d ≡ c = cc in subst BearsGood same h
  if_good false d c h e = cc

  by_number_of_container : (t : ContainerTable) (o : Option ℕ) (c : ℕ × Change) → container_birth s a t o ≡ Some c → BearsGood c
  by_number_of_container t None c e = cc
  by_number_of_container t (Some n) c e =
      if_good (knows_regions (number_in a t.name n) t.regions && knows_caps (number_in a t.name n) t.caps) (n, container_born s a t n) c (tt, (λ address past. refl, tt)) e

  by_number_of_locus : (t : LocusTable) (host : ℕ) (o : Option ℕ) (c : ℕ × Change) → IsGoodCell s (w host).cell → locus_in_host a t host (w host).cell o ≡ Some c → BearsGood c
  by_number_of_locus t host None c there e = cc
  by_number_of_locus t host (Some n) c there e = if_good (knows_caps (number_in a t.name n) t.caps) (n, locus_born a t n host (w host).cell) c (tt, (there, (tt, tt))) e

  by_host : (t : LocusTable) (o : Option ℕ) (c : ℕ × Change) → container_named a t.host ≡ o → locus_birth w a t o ≡ Some c → BearsGood c
  by_host t None c at e = cc
  by_host t (Some host) c at e = by_number_of_locus t host (free_locus a) c (good host (container_named_born a t.host host at)) e

  by_tables : (t : Option ContainerTable) (u : Option LocusTable) (c : ℕ × Change) → birth_from s w a t u ≡ Some c → BearsGood c
  by_tables (Some t) u c e = by_number_of_container t (free_container a) c e
  by_tables None (Some u) c e = by_host u (container_named a u.host) c refl e
  by_tables None None c e = cc

  by_name : (name : Text) (b : Bool) (c : ℕ × Change) → (if b then birth_from s w a (container_table script.containers name) (locus_table script.loci name) else None) ≡ Some c → BearsGood c
  by_name name true c e = by_tables (container_table script.containers name) (locus_table script.loci name) c e
  by_name name false c e = cc

  by_next : (o : Option Text) (c : ℕ × Change) → option_and_then (λ name. birth_named s script name w a) o ≡ Some c → BearsGood c
  by_next None c e = cc
  by_next (Some name) c e = by_name name (is_none (number_of a name)) c e

  pub birth_good : (w 0).cell ≡ Rattle.model_sound_runs.specs.model_kernel.State.AtlasCell a → (c : ℕ × Change) → next_birth_change s script w ≡ Some c → BearsGood c
  unfolding next_birth_change
  birth_good at c e = by_next (next_name a script) c (subst (λ b. option_and_then (λ name. birth_named s script name w b) (next_name b script) ≡ Some c) (ap atlas_in at) e)
