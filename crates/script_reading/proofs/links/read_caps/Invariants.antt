-- The capabilities so far are read, and the others decide.
use Rattle.std.proofs.Common.{◌≡◌, [], drop, map, string_bytes}
use Rattle.toml.specs.View.{view}
use Rattle.script_meaning.specs.Fields.{each}
use Rattle.script_meaning.specs.Meaning.{a_cap}
use Rattle.script_types.specs.Scripts.{cap_of}
use Rattle.script_reading.specs.Views.{names_known}
use Rattle.script_reading.proofs.links.read_caps.Given as goal

abbrev pub invariant-loop-value : goal.invariant-loop-value
invariant-loop-value l =
    each (a_cap (names_known l.known) (string_bytes l.list_key)) (map cap_of l.caps.items) (drop l.value-index (map view l.values)) ≡ each (a_cap (names_known l.known) (string_bytes l.list_key)) [] (map view l.values)
