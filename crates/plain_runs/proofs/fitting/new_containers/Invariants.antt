use Rattle.std.proofs.Common.{◌≡◌, ◌≤◌, take, map}
use Rattle.plain_states.specs.Plains.{atlas_of}
use Rattle.script_types.specs.Scripts.{container_of}
use Rattle.plain_runs.proofs.fitting.new_containers.Given as goal
use Rattle.plain_steps.specs.model_births.Fitting.{new_containers}

-- the names so far are counted
abbrev pub invariant-loop-table : goal.invariant-loop-table
invariant-loop-table l = record {
  counted : l.count ≡ new_containers (atlas_of l.atlas) (map container_of (take l.table-index l.tables));
  few : l.count ≤ l.table-index;
}
