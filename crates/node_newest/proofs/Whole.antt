-- What the newest record of an entity of a living kernel tells.
use Rattle.std.proofs.Common.{◌≡◌, ℕ, ◌<◌, List, Option, Some, None, Result, Ok, Err, refl, ap, ◌∙◌}
use Rattle.std.specs.Prelude.{IfOk, IfSome}
use Rattle.edge_disk.specs.declared.disk.Disk.{Ghosts}
use Rattle.base_types.specs.declared.records.Rec.{Rec}
use Rattle.node_lending.specs.kernel_book_laws.Matching.{newest_of}
use Rattle.node_lending.specs.kernel_commit_facts.Parts.{Noted, parts_of}
use Rattle.node_lending.specs.kernel_commit_facts.Steady.{IsSteady}
use Rattle.node_lending.specs.kernel_core.Parts.{held_of}
use Rattle.node_lending.specs.kernel_core_facts.Kernels.{Lives}
use Rattle.kernel_invariant.specs.Beginnings.{Beginning, completed, with_tried}
use Rattle.kernel_records.specs.cell_states.declared.cells.Cell.{Cell}
use Rattle.model_run_rules.proofs.Wishes.{newest_told as version_told}
use Rattle.model_run_rules.specs.Newest.{newest_in}
use Rattle.model_run_rules.specs.Records.{AreRecordsOf}
use Rattle.node_newest.proofs.Told.{newest_told, none_told}
use Rattle.node_newest.specs.Newest.{IsOfRecord, ShipsNewest}
use Rattle.node_newest.specs.Reading.{IsReadOf}
use Rattle.node_pages.specs.Reading.{last_rec}
use Rattle.node_pages.specs.declared.faults.ShipFault.{ShipFault}
use Rattle.node_shipments.specs.Parts.{IsSoundShipment, Shipment}
use Rattle.store_snapshots.specs.store_books.Books.{recs_in}
use Rattle.store_snapshots.specs.store_facts.State.{State, books}

module _ {D : Type 0} (disks : Ghosts D) (cs : List Cell) (noted : Noted) (old : State D) (x : ℕ) (low : x < 64) (b : Beginning) (t : disks.tells)
    (lives : Lives disks b (held_of old cs noted None)) (steady : IsSteady disks (parts_of old cs noted)) (records : AreRecordsOf b.supply b.script b.state noted.entries (with_tried b noted.entries)) where
  version_is : newest_of cs x ≡ newest_in (completed b noted.entries) x
  version_is = (let r = lives.live.running in ap (λ (f : ℕ → ℕ). f x) r.follows.newest ∙ version_told b.supply b.policy b.script x low b.state noted.entries r.legal)

  by_record : (o : Option Shipment) (q : Option Rec) → last_rec (recs_in (books old)) x ≡ q → IsOfRecord q o → IfSome o IsSoundShipment
      → ((r : Rec) → last_rec (recs_in (books old)) x ≡ Some r → IfSome o (IsReadOf (disks.reading old.disk) r)) → ShipsNewest b noted.entries x o
  by_record None None is found sound read =
      none_told b noted.entries x (disks.reading old.disk) (books old) (newest_of cs) steady.sound.matches.stamps lives.live.running.legal records
      (lives.live.running.stored t refl).records steady.sound.matches.newest version_is is
  by_record None (Some r) is found sound read = absurd found
  by_record (Some s) None is found sound read = absurd found
  by_record (Some s) (Some r) is found sound read =
      newest_told b noted.entries x (disks.reading old.disk) (books old) (newest_of cs) steady.sound.matches.stamps lives.live.running.legal records
      (lives.live.running.stored t refl).records steady.sound.matches.newest version_is r is s (read r is) sound found.0 found.1 found.2

  pub ships : (r : Result (Option Shipment) ShipFault) → IfOk r (IsOfRecord (last_rec (recs_in (books old)) x)) → IfOk r (λ o. IfSome o IsSoundShipment)
      → ((q : Rec) → last_rec (recs_in (books old)) x ≡ Some q → IfOk r (λ o. IfSome o (IsReadOf (disks.reading old.disk) q))) → IfOk r (ShipsNewest b noted.entries x)
  ships (Ok o) found sound read = by_record o (last_rec (recs_in (books old)) x) refl found sound read
  ships (Err e) found sound read = tt
