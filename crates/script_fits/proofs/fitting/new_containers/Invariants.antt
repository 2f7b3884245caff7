use Rattle.std.proofs.Common.{◌≡◌, ◌≤◌, take, map}
use Rattle.act_atlas_laws.specs.act_calls.Calls.{atlas_state}
use Rattle.script_types.specs.Scripts.{container_of}
use Rattle.model_births.specs.Fitting.{new_containers}
use Rattle.script_fits.proofs.fitting.new_containers.Given as goal

-- the names so far are counted
abbrev pub invariant-loop-table : goal.invariant-loop-table
invariant-loop-table l = record {
  counted : l.count ≡ new_containers (atlas_state l.atlas) (map container_of (take l.table-index l.tables));
  few : l.count ≤ l.table-index;
}
