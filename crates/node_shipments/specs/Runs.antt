-- Shipments of a run.
use Rattle.std.specs.Prelude.{◌≡◌, ℕ, List, Some, slice_get, slice_index}
use Rattle.base_types.specs.declared.histories.Entry.{Entry}
use Rattle.node_records.specs.kernel_invariant.Beginnings.{Beginning, completed}
use Rattle.node_records.specs.kernel_invariant.model_kernel.Choices.{Commit}
use Rattle.node_records.specs.Shipments.{IsShippedOf}
use Rattle.node_shipments.specs.Parts.{Shipment, part_in}

-- the commit that it ships
abbrev pub commit_in : Shipment → Commit
commit_in s = record { entity = s.entity; version = s.version; stamp = slice_index s.stamp }

-- it ships the commit at this place of the run, counted from 0, with what its entity was there
pub record IsShipmentAt (b : Beginning) (es : List Entry) (place : ℕ) (s : Shipment) : Type 0 where
  pub commit : slice_get (completed b es) place ≡ Some (commit_in s)
  pub told : IsShippedOf b es s.entity s.version s.stamp (part_in s.part) s.pages

-- these ship the first commits of the run, in their order
abbrev pub AreShipments : Beginning → List Entry → List Shipment → Type 0
AreShipments b es made = (place : ℕ) (s : Shipment) → slice_get made place ≡ Some s → IsShipmentAt b es place s
