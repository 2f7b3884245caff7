-- The managers so far are read, and the others decide.
use Rattle.std.proofs.Common.{◌≡◌, [], drop, map}
use Rattle.base_managers.specs.Managing.{manager_of}
use Rattle.toml.specs.View.{view}
use Rattle.script_meaning.specs.Fields.{each}
use Rattle.script_meaning.specs.Meaning.{a_manager}
use Rattle.script_reading.specs.Views.{program_of}
use Rattle.script_reading.proofs.managers.managers_at.Given as goal

abbrev pub invariant-loop-value : goal.invariant-loop-value
invariant-loop-value l =
    each (a_manager l.greatest (map program_of l.programs) l.key) (map manager_of l.managers.items) (drop l.value-index (map view l.values)) ≡ each (a_manager l.greatest (map program_of l.programs) l.key) [] (map view l.values)
