-- The table of a script that is born next.
use Rattle.std.specs.Prelude.{◌≡◌, ◌≤◌, length, Some, None, take}
use Rattle.script_types.specs.model_kernel.Scripts.{ContainerTable, LocusTable, Script as Tables, container_table, locus_table, next_container_name, next_locus_name, next_name}
use Rattle.script_types.specs.model_kernel.State.{AtlasState}
use Rattle.script_types.specs.Scripts.{container_of, locus_of}
use Rattle.script_fits.specs.declared.tables.NextTable.{NextTable}
use Rattle.script_fits.specs.declared.tables.NextTable.TheVariants as next
use Rattle.script_fits.specs.declared.tables.Progress.{Progress}

-- so many containers and loci of the script, from the first on, have names that are in the atlas
pub record AreBornBefore (a : AtlasState) (script : Tables) (p : Progress) : Type 0 where
  pub containers : next_container_name a (take p.containers script.containers) ≡ None
  pub loci : next_locus_name a (take p.loci script.loci) ≡ None
  pub within : (p.containers ≤ length script.containers) × (p.loci ≤ length script.loci)

-- the table is that of the script's next name, and the one that is found by it
pub record IsNextContainer (a : AtlasState) (script : Tables) (t : ContainerTable) : Type 0 where
  pub next : next_name a script ≡ Some t.name
  pub found : container_table script.containers t.name ≡ Some t

pub record IsNextLocus (a : AtlasState) (script : Tables) (t : LocusTable) : Type 0 where
  pub next : next_name a script ≡ Some t.name
  pub absent : container_table script.containers t.name ≡ None
  pub found : locus_table script.loci t.name ≡ Some t

abbrev pub IsNextTable : AtlasState → Tables → NextTable → Type 0
IsNextTable a script (next.Container t) = IsNextContainer a script (container_of t.now)
IsNextTable a script (next.Locus t) = IsNextLocus a script (locus_of t.now)
