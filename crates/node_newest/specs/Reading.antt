-- What is read of a record, as a shipment.
use Rattle.std.specs.Prelude.{◌≡◌}
use Rattle.edge_disk.specs.Image.{Image}
use Rattle.base_types.specs.declared.records.Rec.{Rec}
use Rattle.node_pages.specs.Reading.{pages_to}
use Rattle.node_shipments.specs.Parts.{IsReadFrom, Shipment}
use Rattle.node_shipments.specs.kernel_record_facts.Cells.{words_on}
use Rattle.node_shipments.specs.kernel_record_facts.image_meaning.Parts.{IsOf, Part, Spells, table_in}
use Rattle.store_snapshots.specs.store_facts.image_facts.Bodies.{blob_in}

-- WHAT IS READ of a record in an image: the part that its blob spells, and the pages that have a block there
pub record IsReadOf (image : Image) (rec : Rec) (s : Shipment) : Type 0 where
  pub part : IsReadFrom s.part (blob_in image rec)
  pub pages : (p : Part) → IsOf s.entity p → Spells p (blob_in image rec) → s.pages ≡ pages_to (words_on image) (table_in p) 256
