-- What is shipped of an entity, and which shipments are sound.
use Rattle.std.specs.Prelude.{◌≡◌, ℕ, ◌<◌, ◌≤◌, List, length, replicate, Some, slice_get, slice_index}
use Rattle.kernel_records.specs.kernel_record_facts.cell_blobs.Blobs.{bytes_of}
use Rattle.kernel_records.specs.kernel_record_facts.cell_blobs.act_alone.Loci.{container_with, locus_of}
use Rattle.kernel_records.specs.kernel_record_facts.cell_states.act_calls.Calls.{atlas_state}
use Rattle.kernel_records.specs.kernel_record_facts.image_meaning.Parts.{AtlasPart, ContainerPart, IsOf, LocusPart, Part, Spells}
use Rattle.node_records.specs.Shipments.{over, size_of}
use Rattle.node_records.specs.node_store.page_placing.Writing.{AreAscending}
use Rattle.node_records.specs.node_store.page_placing.declared.writing.PageWords.{PageWords}
use Rattle.node_shipments.specs.declared.parts.ShipPart.{ShipPart}
use Rattle.node_shipments.specs.declared.parts.ShipPart.TheVariants as ship

-- WHAT IT SPELLS: of a container its head, where no page has a block
abbrev pub part_in : ShipPart → Part
part_in (ship.Atlas a) = AtlasPart (atlas_state a)
part_in (ship.Container h) = ContainerPart (container_with (λ _. 0) h) (replicate h.pages 0)
part_in (ship.Locus l) = LocusPart (locus_of l)

-- it has a spelling
abbrev pub HasSpelling : ShipPart → Type 0
HasSpelling part = (bytes : List ℕ) × Spells (part_in part) bytes

-- its bytes, where its pages have these blocks
abbrev pub bytes_over : ShipPart → List ℕ → List ℕ
bytes_over part table = bytes_of (Some (over table (part_in part)))

-- how many they are: as many as without a block
abbrev pub length_in : ShipPart → ℕ
length_in part = length (bytes_of (Some (part_in part)))

-- these bytes spell it, whichever blocks its pages have there
abbrev pub IsReadFrom : ShipPart → List ℕ → Type 0
IsReadFrom part bytes = (table : List ℕ) × Spells (over table (part_in part)) bytes

-- A SHIPMENT, as contracts see it
pub record Shipment : Type 0 where
  pub entity : ℕ
  pub version : ℕ
  pub stamp : List ℕ
  pub part : ShipPart
  pub pages : List PageWords

abbrev pub shipment_of : ℕ → ℕ → List ℕ → ShipPart → List PageWords → Shipment
shipment_of entity version stamp part pages = record { entity = entity; version = version; stamp = stamp; part = part; pages = pages }

-- WHAT IS TRUE OF EVERY SHIPMENT: the part is of its entity's kind and has a spelling, the stamp has the version at its own entity, and pages ascend,
-- below the size
pub record IsSoundShipment (s : Shipment) : Type 0 where
  pub kind : IsOf s.entity (part_in s.part)
  pub spelt : HasSpelling s.part
  pub some : 1 ≤ s.version
  pub own : slice_index s.stamp s.entity ≡ s.version
  pub ascending : AreAscending s.pages
  pub within : (k : ℕ) (q : PageWords) → slice_get s.pages k ≡ Some q → q.page < size_of (part_in s.part)
