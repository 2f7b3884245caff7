-- The names so far are read, and the others decide.
use Rattle.std.proofs.Common.{◌≡◌, [], drop, map, string_bytes}
use Rattle.toml.specs.View.{view}
use Rattle.script_meaning.specs.Fields.{each}
use Rattle.script_meaning.specs.Meaning.{a_pick}
use Rattle.script_types.specs.Rules.{locus_names}
use Rattle.script_types.specs.Scripts.{locus_of}
use Rattle.script_reading.proofs.reading.read_order.Given as goal

abbrev pub invariant-loop-value : goal.invariant-loop-value
invariant-loop-value l =
    each (a_pick (locus_names (map locus_of l.loci))) (map string_bytes l.order.items) (drop l.value-index (map view l.values)) ≡ each (a_pick (locus_names (map locus_of l.loci))) [] (map view l.values)
