-- The newest record of an entity of a kernel, as a shipment.
use Rattle.std.specs.Prelude.{◌≡◌, ℕ, List, Option, Some, None, Result, Ok, Err}
use Rattle.base_types.specs.declared.histories.Entry.{Entry}
use Rattle.base_types.specs.declared.records.Rec.{Rec}
use Rattle.node_lending.specs.kernel_core.kernel_invariant.declared.stopping.Stopped.{Stopped}
use Rattle.node_lending.specs.kernel_core.kernel_invariant.declared.stopping.Stopped.TheVariants as reason
use Rattle.model_new_commits.specs.Found.{newest_commit}
use Rattle.node_pages.specs.declared.faults.ShipFault.{ShipFault}
use Rattle.node_pages.specs.declared.faults.ShipFault.TheVariants as ship
use Rattle.node_shipments.specs.Parts.{Shipment, part_in}
use Rattle.node_shipments.specs.Runs.{commit_in}
use Rattle.node_shipments.specs.kernel_invariant.Beginnings.{Beginning, completed}
use Rattle.node_shipments.specs.node_records.Shipments.{IsShippedOf}

-- the shipment is of this record; there is none exactly where there is no record
abbrev pub IsOfRecord : Option Rec → Option Shipment → Type 0
IsOfRecord None None = Unit {0}
IsOfRecord None (Some s) = ⊥
IsOfRecord (Some r) None = ⊥
IsOfRecord (Some r) (Some s) = (s.entity ≡ r.entity) × (s.version ≡ r.version) × (s.stamp ≡ r.stamp)

-- THE SHIPMENT OF THE NEWEST COMMIT of an entity in a run: what the entity was there
pub record IsNewest (b : Beginning) (es : List Entry) (x : ℕ) (s : Shipment) : Type 0 where
  pub commit : newest_commit (completed b es) x ≡ Some (commit_in s)
  pub told : IsShippedOf b es s.entity s.version s.stamp (part_in s.part) s.pages

-- and none where it has no commit
abbrev pub ShipsNewest : Beginning → List Entry → ℕ → Option Shipment → Type 0
ShipsNewest b es x None = newest_commit (completed b es) x ≡ None
ShipsNewest b es x (Some s) = IsNewest b es x s

-- why the kernel has stopped then: a read that failed stops it
abbrev pub stop_behind : {T : Type 0} → Result T ShipFault → Option Stopped → Option Stopped
stop_behind (Ok x) stop = stop
stop_behind (Err ship.ReadFault) stop = Some reason.ReadFault
stop_behind (Err ship.Shut) stop = stop
stop_behind (Err ship.Memory) stop = stop
