-- What the structs of a script are in the model.
use Rattle.std.specs.Prelude.{map, string_bytes}
use Rattle.model_kernel.specs.Scripts.{RegionTable, CapTable, ContainerTable, LocusTable, Script as Tables}
use Rattle.script_types.specs.declared.Script.{Script}
use Rattle.script_types.specs.declared.ScriptCap.{ScriptCap}
use Rattle.script_types.specs.declared.ScriptContainer.{ScriptContainer}
use Rattle.script_types.specs.declared.ScriptLocus.{ScriptLocus}
use Rattle.script_types.specs.declared.ScriptRegion.{ScriptRegion}

abbrev pub region_of : ScriptRegion → RegionTable
region_of r = record { at = r.at; target = string_bytes r.target; from = r.from; count = r.count; rights = r.rights.0 }

abbrev pub cap_of : ScriptCap → CapTable
cap_of c = record { entity = string_bytes c.entity; rights = c.rights.0 }

abbrev pub container_of : ScriptContainer → ContainerTable
container_of c = record {
  name = string_bytes c.name;
  pages = c.pages;
  tag = c.tag;
  every = c.every;
  code = c.code.items;
  entry = c.entry;
  regions = map region_of c.regions.items;
  caps = map cap_of c.caps.items;
}

abbrev pub locus_of : ScriptLocus → LocusTable
locus_of l = record { name = string_bytes l.name; host = string_bytes l.host; at = l.at; every = l.every; caps = map cap_of l.caps.items }

-- the tables of a script; frames are no part of the abstract kernel
abbrev pub tables_of : Script → Tables
tables_of s = record {
  steps = s.steps;
  order = map string_bytes s.order.items;
  containers = map container_of s.containers.items;
  loci = map locus_of s.loci.items;
}
