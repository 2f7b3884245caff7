-- What the reads of the newest record leave of a kernel.
use Rattle.std.proofs.Common.{◌≡◌, ◌<◌, ℕ, Bool, true, false, List, Option, Some, None, Result, Ok, refl, sym, ap, subst, ◌∙◌}
use Rattle.std.specs.Prelude.{◌↔◌, IfOk, IfSome, IsErrOf}
use Rattle.edge_disk.specs.Counts.{Rose}
use Rattle.edge_disk.specs.Image.{Image}
use Rattle.edge_disk.specs.declared.disk.Disk.{Ghosts}
use Rattle.base_types.specs.declared.histories.Entry.{Entry}
use Rattle.base_types.specs.declared.records.Rec.{Rec}
use Rattle.node_lending.specs.kernel_commit_facts.Parts.{Noted}
use Rattle.node_lending.specs.kernel_core.Parts.{held_of}
use Rattle.node_lending.specs.kernel_core_facts.Kernels.{Held, IsKept, Lives}
use Rattle.kernel_invariant.specs.Beginnings.{Beginning, IsLegal, with_tried}
use Rattle.kernel_invariant.specs.declared.stopping.Stopped.{Stopped}
use Rattle.kernel_records.specs.cell_states.declared.cells.Cell.{Cell}
use Rattle.node_lending.specs.kernel_run_facts.Watching.{IsAsLent}
use Rattle.model_run_rules.specs.Records.{AreRecordsOf}
use Rattle.node_lending.specs.Lending.{LentLaw}
use Rattle.node_newest.proofs.Answering.{reads_none}
use Rattle.node_newest.proofs.Lent.{behind}
use Rattle.node_newest.proofs.Whole.{ships}
use Rattle.node_newest.specs.Newest.{IsOfRecord, ShipsNewest, stop_behind}
use Rattle.node_newest.specs.Reading.{IsReadOf}
use Rattle.node_pages.specs.Reading.{AnswersReads, GoesByReads, last_rec}
use Rattle.node_pages.specs.declared.faults.ShipFault.{ShipFault}
use Rattle.node_pages.specs.declared.faults.ShipFault.TheVariants as ship
use Rattle.node_shipments.specs.Parts.{IsSoundShipment, Shipment}
use Rattle.store_snapshots.specs.store_books.Books.{recs_in}
use Rattle.store_snapshots.specs.store_facts.State.{State, books}

-- WHAT IS SAID of a kernel before and behind
pub record HasReadNewest {D : Type 0} (disks : Ghosts D) (x : ℕ) (k : Held D) (r : Result (Option Shipment) ShipFault) (k' : Held D) : Type 0 where
  pub shut : (books k.parts.store).shut ≡ true ↔ IsErrOf r ship.Shut
  pub untouched : IsErrOf r ship.Shut → k' ≡ k
  pub none : (books k.parts.store).shut ≡ false → last_rec (recs_in (books k.parts.store)) x ≡ None → r ≡ Ok None
  pub found : IfOk r (IsOfRecord (last_rec (recs_in (books k.parts.store)) x))
  pub told : disks.tells → (b : Beginning) → Lives disks b k → k.stop ≡ None → IfOk r (ShipsNewest b k.parts.noted.entries x)
  pub read_fault : IsErrOf r ship.ReadFault → Rose (disks.faults k.parts.store.disk) (disks.faults k'.parts.store.disk)
  pub stop : k'.stop ≡ stop_behind r k.stop
  pub notes : k'.parts.noted ≡ k.parts.noted
  pub cells : k'.parts.cells ≡ k.parts.cells
  pub reads : GoesByReads disks k.parts.store k'.parts.store
  pub lent : k.stop ≡ None → IsAsLent disks k k'

module _ {D : Type 0} (disks : Ghosts D) (cs : List Cell) (noted : Noted) (old new : State D) (stop : Option Stopped) (x : ℕ) (low : x < 64) (k : IsKept disks (held_of old cs noted stop))
    (r : Result (Option Shipment) ShipFault) (shut : (books old).shut ≡ true ↔ IsErrOf r ship.Shut) (answers : (books old).shut ≡ false → AnswersReads disks old new r) where
  rose : IsErrOf r ship.ReadFault → Rose (disks.faults old.disk) (disks.faults new.disk)
  rose is = by_shut (books old).shut refl
    where
      by_shut : (t : Bool) → (books old).shut ≡ t → Rose (disks.faults old.disk) (disks.faults new.disk)
      by_shut true e = (let clash = sym is ∙ shut.0 e in cc clash)
      by_shut false e = ((answers e).failed is).0

  only_reads : ((disk : D) (c : Image) → disks.tells → disks.left_since disk (disks.clock disk) c → disks.may_leave disk c) → (IsErrOf r ship.Shut → new ≡ old) → GoesByReads disks old new
  only_reads only_now untouched = by_shut (books old).shut refl
    where
      by_shut : (t : Bool) → (books old).shut ≡ t → GoesByReads disks old new
      by_shut true e = subst (GoesByReads disks old) (sym (untouched (shut.0 e))) (reads_none disks only_now old)
      by_shut false e = (answers e).goes

  lent_then : LentLaw disks → stop ≡ None → IsAsLent disks (held_of old cs noted stop) (held_of new cs noted (stop_behind r stop))
  lent_then law none =
      let st = k.steady none in
      let a = answers st.sound.working in
      subst (λ (o : Option Stopped). IsAsLent disks (held_of old cs noted o) (held_of new cs noted (stop_behind r o))) (sym none)
      (law cs noted old new (stop_behind r None) a.goes st (behind disks old new r a))

  told_then : ((b : Beginning) (es : List Entry) → IsLegal b es → AreRecordsOf b.supply b.script b.state es (with_tried b es)) → IfOk r (IsOfRecord (last_rec (recs_in (books old)) x))
      → IfOk r (λ o. IfSome o IsSoundShipment) → (disks.tells → (q : Rec) → last_rec (recs_in (books old)) x ≡ Some q → IfOk r (λ o. IfSome o (IsReadOf (disks.reading old.disk) q)))
      → disks.tells → (b : Beginning) → Lives disks b (held_of old cs noted stop) → stop ≡ None → IfOk r (ShipsNewest b noted.entries x)
  told_then records found sound read t b lives none =
      let going : Lives disks b (held_of old cs noted None) = subst (λ (o : Option Stopped). Lives disks b (held_of old cs noted o)) none lives in
      ships disks cs noted old x low b t going (k.steady none) (records b noted.entries going.live.running.legal) r found sound (read t)

  pub has_read : ((disk : D) (c : Image) → disks.tells → disks.left_since disk (disks.clock disk) c → disks.may_leave disk c) → LentLaw disks → ((b : Beginning) (es : List Entry) → IsLegal b es → AreRecordsOf b.supply b.script b.state es (with_tried b es)) → (IsErrOf r ship.Shut → new ≡ old)
      → ((books old).shut ≡ false → last_rec (recs_in (books old)) x ≡ None → r ≡ Ok None) → IfOk r (IsOfRecord (last_rec (recs_in (books old)) x)) → IfOk r (λ o. IfSome o IsSoundShipment)
      → (disks.tells → (q : Rec) → last_rec (recs_in (books old)) x ≡ Some q → IfOk r (λ o. IfSome o (IsReadOf (disks.reading old.disk) q)))
      → HasReadNewest disks x (held_of old cs noted stop) r (held_of new cs noted (stop_behind r stop))
  has_read only_now law records untouched none found sound read = record {
    shut = shut;
    untouched = λ is. ap (λ (st : State D). held_of st cs noted (stop_behind r stop)) (untouched is) ∙ ap (λ (q : Result (Option Shipment) ShipFault). held_of old cs noted (stop_behind q stop)) is;
    none = none;
    found = found;
    told = told_then records found sound read;
    read_fault = rose;
    stop = refl;
    notes = refl;
    cells = refl;
    reads = only_reads only_now untouched;
    lent = lent_then law;
  }
