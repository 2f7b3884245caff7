use Rattle.std.proofs.Common.{◌≡◌, drop, map}
use Rattle.plain_steps.specs.model_kernel.Scripts.{next_container_name}
use Rattle.plain_states.specs.Plains.{atlas_of}
use Rattle.script_types.specs.Scripts.{container_of}
use Rattle.plain_runs.proofs.names.next_container.Given as goal

-- the names before this table's are in the atlas
abbrev pub invariant-loop-table : goal.invariant-loop-table
invariant-loop-table l = next_container_name (atlas_of l.atlas) (map container_of (drop l.table-index l.tables)) ≡ next_container_name (atlas_of l.atlas) (map container_of l.tables)
