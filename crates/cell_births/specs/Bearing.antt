-- Births of a script's tables over cells.
use Rattle.std.specs.Prelude.{◌≡◌, ℕ, ◌+◌, ◌<◌, ◌==◌, ◌&&◌, false, IsTrue, List, length, Some, None, All}
use Rattle.std.specs.List.{list_any}
use Rattle.base_types.specs.declared.histories.Entry.{Entry}
use Rattle.base_types.specs.declared.histories.Event.TheVariants.{Birth}
use Rattle.script_types.specs.model_kernel.Births.{birth, knows_caps, knows_regions, number_or_0}
use Rattle.script_types.specs.model_kernel.Histories.{writes}
use Rattle.script_types.specs.model_kernel.Scripts.{ContainerTable, LocusTable, RegionTable, Script, container_named, number_in, number_of}
use Rattle.script_types.specs.model_kernel.Soundness.{is_born_container}
use Rattle.script_types.specs.model_kernel.State.{KernelState, Supply, Text}
use Rattle.script_types.specs.Rules.{IsContainerTable, IsLocusTable}
use Rattle.data_atlas.specs.data_atlas_facts.Directory.{Directory, edges_of}
use Rattle.script_fits.specs.act_calls.Calls.{atlas_state}

-- THE BIRTH OF THE NAME in the state: this entry, and a state that differs at most where the entry writes, of which P holds
abbrev pub Bears : Supply → Script → Text → KernelState → Entry → (KernelState → Type 0) → Type 0
Bears s script name w e P = (v : KernelState) × (birth s script name w ≡ Some (e, v)) × ((x : ℕ) → writes e x ≡ false → v x ≡ w x) × P v

-- the entry of a birth, which writes these entities
pub record IsBirthEntry (e : Entry) (newborn : ℕ) (written : List ℕ) : Type 0 where
  pub event : e.event ≡ Birth
  pub actor : e.actor ≡ newborn
  pub writes : (x : ℕ) → writes e x ≡ list_any (λ y. y == x) written

-- WHAT A BIRTH ASKS OF THE DIRECTORY. The table keeps its ranges and n is the lowest free number; the name is new, and the names to which the table refers
-- are known. Regions show born containers, and n shows none yet.
pub record MayBearContainer (d : Directory) (t : ContainerTable) (n : ℕ) : Type 0 where
  pub earlier : List Text
  pub ranges : IsContainerTable earlier t
  pub free : length d.containers < 40
  pub number : n ≡ length d.containers + 1
  pub fresh : number_of (atlas_state d) t.name ≡ None
  pub knows : IsTrue (knows_regions (number_in (atlas_state d) t.name n) t.regions && knows_caps (number_in (atlas_state d) t.name n) t.caps)
  pub targets : All (λ (r : RegionTable). IsTrue (is_born_container (atlas_state d) (number_or_0 (number_in (atlas_state d) t.name n) r.target))) t.regions
  pub unlinked : (y : ℕ) → edges_of d n y ≡ 0

-- and the host, which has this number, is born
pub record MayBearLocus (d : Directory) (t : LocusTable) (host n : ℕ) : Type 0 where
  pub containers : List Text
  pub earlier : List Text
  pub ranges : IsLocusTable containers earlier t
  pub free : length d.loci < 23
  pub number : n ≡ length d.loci + 41
  pub fresh : number_of (atlas_state d) t.name ≡ None
  pub knows : IsTrue (knows_caps (number_in (atlas_state d) t.name n) t.caps)
  pub hosted : container_named (atlas_state d) t.host ≡ Some host
  pub above : 0 < host
  pub below : host < n
