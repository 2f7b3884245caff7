-- The containers so far are read, and the others decide.
use Rattle.std.proofs.Common.{◌≡◌, [], drop, map}
use Rattle.toml.specs.View.{view}
use Rattle.script_meaning.specs.Fields.{each}
use Rattle.script_meaning.specs.Meaning.{a_container}
use Rattle.script_types.specs.Scripts.{container_of}
use Rattle.script_reading.specs.Views.{program_of}
use Rattle.script_reading.proofs.tables.read_containers.Given as goal

abbrev pub invariant-loop-value : goal.invariant-loop-value
invariant-loop-value l =
    each (a_container (map program_of l.programs)) (map container_of l.containers.items) (drop l.value-index (map view l.values)) ≡ each (a_container (map program_of l.programs)) [] (map view l.values)
