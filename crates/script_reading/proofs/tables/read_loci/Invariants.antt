-- The loci so far are read, and the others decide.
use Rattle.std.proofs.Common.{◌≡◌, [], drop, map}
use Rattle.toml.specs.View.{view}
use Rattle.script_meaning.specs.Fields.{each}
use Rattle.script_meaning.specs.Meaning.{a_locus}
use Rattle.script_types.specs.Scripts.{container_of, locus_of}
use Rattle.script_reading.proofs.tables.read_loci.Given as goal

abbrev pub invariant-loop-value : goal.invariant-loop-value
invariant-loop-value l =
    each (a_locus (map container_of l.containers)) (map locus_of l.loci.items) (drop l.value-index (map view l.values)) ≡ each (a_locus (map container_of l.containers)) [] (map view l.values)
