-- The regions so far are read, and the others decide.
use Rattle.std.proofs.Common.{◌≡◌, [], drop, map, string_bytes}
use Rattle.toml.specs.View.{view}
use Rattle.script_meaning.specs.Fields.{each}
use Rattle.script_meaning.specs.Meaning.{a_region}
use Rattle.script_types.specs.Rules.{container_names}
use Rattle.script_types.specs.Scripts.{region_of, container_of}
use Rattle.script_reading.proofs.links.read_regions.Given as goal

abbrev pub invariant-loop-value : goal.invariant-loop-value
invariant-loop-value l =
    each (a_region (container_names (map container_of l.earlier)) l.pages (string_bytes l.list_key)) (map region_of l.regions.items) (drop l.value-index (map view l.values)) ≡ each (a_region (container_names (map container_of l.earlier)) l.pages (string_bytes l.list_key)) [] (map view l.values)
