-- What the structs of a read in progress are in the definitions.
use Rattle.std.specs.Prelude.{◌≤◌, List, map, string_bytes}
use Rattle.base_managers.specs.Managing.{managers_of}
use Rattle.script_types.specs.model_kernel.State.{Text}
use Rattle.script_reading.specs.declared.links.Known.{Known}
use Rattle.script_meaning.specs.Meaning.{FramedTables, Program, Source, known_names}
use Rattle.script_types.specs.Scripts.{tables_of, container_of, locus_of}
use Rattle.script_meaning.specs.Strings.{RegionForm, CapForm, ManagerForm}
use Rattle.script_types.specs.declared.Script.{Script}
use Rattle.script_reading.specs.declared.reading.ManagedScript.{ManagedScript}
use Rattle.script_reading.specs.declared.programs.Program.{Program as CodeProgram}
use Rattle.script_reading.specs.declared.strings.RegionWords.{RegionWords}
use Rattle.script_reading.specs.declared.strings.CapWords.{CapWords}
use Rattle.script_reading.specs.declared.strings.ManagerWords.{ManagerWords}

abbrev pub region_form_of : RegionWords → RegionForm
region_form_of r = record { at = r.at; target = r.target.now; from = r.from; count = r.count; rights = r.rights.0 }

-- numbers of regions count as 1,000 at most
pub record AreSmall (r : RegionWords) : Type 0 where
  pub at : r.at ≤ 1000
  pub from : r.from ≤ 1000
  pub count : r.count ≤ 1000

abbrev pub cap_form_of : CapWords → CapForm
cap_form_of c = record { entity = c.entity.now; rights = c.rights.0 }

abbrev pub program_of : CodeProgram → Program
program_of p = record { name = string_bytes p.name; code = p.code.items }

abbrev pub manager_form_of : ManagerWords → ManagerForm
manager_form_of m = record { number = m.number; program = m.program.now }

abbrev pub framed_of : Script → FramedTables
framed_of s = record { tables = tables_of s; frames = s.frames }

abbrev pub source_of : ManagedScript → Source
source_of s = record { script = framed_of s.script; managers = managers_of s.managers }

-- the names that capabilities may have in a table
abbrev pub names_known : Known → List Text
names_known k = known_names k.own.now (map container_of k.containers.now) (map locus_of k.loci.now)
