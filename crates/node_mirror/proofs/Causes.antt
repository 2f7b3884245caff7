-- Why a mirrored run was halted.
use Rattle.std.proofs.Common.{◌≡◌, inl, inr, ◌+◌, ◌≤◌, ℕ, Option, None, Some, Ok, Err, true, refl, sym, ap, subst, ◌∙◌, arith}
use Rattle.std.specs.Prelude.{IfErr, Result, length, ⊤}
use Rattle.edge_disk.proofs.Ticks.{Rose-before}
use Rattle.edge_disk.specs.Counts.{Rose}
use Rattle.edge_disk.specs.declared.disk.Disk.{Ghosts}
use Rattle.edge_disk.specs.declared.disk.NoBlocks.{NoBlocks}
use Rattle.node_mirror.specs.Leaving.{EndsAs, IsHaltCause, IsRoundCause, LeavesStandby}
use Rattle.node_mirror.specs.Mirrors.{IsCausedSince, IsFull, IsMirroring}
use Rattle.node_mirror.specs.Stops.{StopsLine}
use Rattle.node_mirror.specs.declared.lines.Line.{Line}
use Rattle.node_mirror.specs.declared.stops.MirrorHalt.{MirrorHalt}
use Rattle.node_mirror.specs.declared.stops.MirrorHalt.TheVariants as halt
use Rattle.node_mirror.specs.declared.stops.MirrorStop.{MirrorStop}
use Rattle.node_mirror.specs.declared.stops.MirrorStop.TheVariants as stop
use Rattle.node_rounds.specs.Going.{AreInStep, ShipmentStops, StopsRounds}
use Rattle.node_rounds.specs.declared.rounds.RoundStop.{RoundStop}
use Rattle.node_rounds.specs.declared.rounds.RoundStop.TheVariants as round
use Rattle.node_rounds.proofs.node_standby_lemmas.Standing.{rose_after}
use Rattle.node_rounds.specs.node_standby.Standing.{KeepsCount, Standing}
use Rattle.node_rounds.specs.node_standby.node_shipments.Parts.{Shipment, length_in}
use Rattle.node_rounds.specs.node_standby.node_shipments.node_store.Shipping.{IsShort}
use Rattle.node_rounds.specs.node_standby.store_snapshots.declared.faults.StoreFault.TheVariants as store
use Rattle.node_rounds.specs.node_standby.store_snapshots.store_books.Books.{Books, free_in}
use Rattle.node_rounds.specs.node_standby.store_snapshots.store_facts.State.{books}
use Rattle.node_rounds.specs.node_standby.store_snapshots.store_facts.image_facts.Bodies.{blocks_for}
use Rattle.node_world.specs.Worlds.{Sending}

full_of : (bk : Books) (need : ℕ) (n : NoBlocks) → IsShort bk need n → IsFull bk n
full_of bk need n short = record {
  working = short.working;
  fewer = (
      let less = short.fewer in
      let f : n.free ≡ free_in bk = ap (λ (m : NoBlocks). m.free) short.numbers in
      let e : n.need ≡ need = ap (λ (m : NoBlocks). m.need) short.numbers in
      omega (arith, less, f, e));
  free = ap (λ (m : NoBlocks). m.free) short.numbers;
}

module _ {E : Type 0} (disks : Ghosts E) (faults : ℕ) where
  -- behind what was so before
  shut_since : (st st' : Standing E) → KeepsCount disks st st' → faults ≤ disks.faults st.store.disk → ((books st.store).shut ≡ true → Rose faults (disks.faults st.store.disk)) → (books st'.store).shut ≡ true
      → Rose faults (disks.faults st'.store.disk)
  shut_since st st' counts low rose shut = elim (counts.shut shut) as (λ _. Rose faults (disks.faults st'.store.disk)) [
    | inl was ↦ rose_after faults (disks.faults st.store.disk) (disks.faults st'.store.disk) counts.later (rose was)
    | inr now ↦ Rose-before faults (disks.faults st.store.disk) (disks.faults st'.store.disk) low counts.later now
  ]

  -- A ROUND THAT WAS BROKEN OFF
  round_cause : (x : Shipment) (st st' : Standing E) (why : RoundStop) → KeepsCount disks st st' → faults ≤ disks.faults st.store.disk → ((books st.store).shut ≡ true → Rose faults (disks.faults st.store.disk))
      → ShipmentStops disks x st st' why → IsRoundCause disks faults st' why
  round_cause x st st' (round.Store (store.NoBlocks n)) counts low rose stops = full_of (books st'.store) (length x.pages + blocks_for (length_in x.part)) n (subst (λ (s : Standing E). IsShort (books s.store) (length x.pages + blocks_for (length_in x.part)) n) (sym stops.0) stops.1)
  round_cause x st st' (round.Store store.WriteFault) counts low rose stops = Rose-before faults (disks.faults st.store.disk) (disks.faults st'.store.disk) low counts.later stops
  round_cause x st st' (round.Store store.Shut) counts low rose stops = rose_after faults (disks.faults st.store.disk) (disks.faults st'.store.disk) counts.later (rose stops)
  round_cause x st st' (round.Store store.ReadFault) counts low rose stops = stops
  round_cause x st st' round.Refused counts low rose stops = tt

  pub rounds_cause : (s : Sending Shipment) (st st' : Standing E) (why : RoundStop) → faults ≤ disks.faults st.store.disk → ((books st.store).shut ≡ true → Rose faults (disks.faults st.store.disk))
      → StopsRounds disks s st st' why → IsRoundCause disks faults st' why
  rounds_cause s st st' why low rose all =
      let up : faults ≤ disks.faults all.standing.store.disk = (let more = all.counts.later in omega (arith, low, more)) in
      round_cause all.stops.shipment all.standing st' why all.left up (shut_since st all.standing all.counts low rose) all.stops.stops

  -- AS THE WATCHER KEEPS IT

  pub caused_none : (st : Standing E) → IsCausedSince disks faults st None
  caused_none st = record {
    no_blocks = λ n is. absurd (cc is);
    write_fault = λ is. absurd (cc is);
    shut = λ is. absurd (cc is);
    no_read = λ is. cc is;
  }

  caused_round : (st : Standing E) (why : RoundStop) → IsRoundCause disks faults st why → IsCausedSince disks faults st (Some (stop.Round why))
  caused_round st (round.Store (store.NoBlocks n)) cause = record {
    no_blocks = λ m is. (let same : n ≡ m = cc is in subst (IsFull (books st.store)) same cause);
    write_fault = λ is. absurd (cc is);
    shut = λ is. absurd (cc is);
    no_read = λ is. cc is;
  }
  caused_round st (round.Store store.WriteFault) cause = record { no_blocks = λ m is. absurd (cc is); write_fault = λ is. cause; shut = λ is. absurd (cc is); no_read = λ is. cc is }
  caused_round st (round.Store store.Shut) cause = record { no_blocks = λ m is. absurd (cc is); write_fault = λ is. absurd (cc is); shut = λ is. cause; no_read = λ is. cc is }
  caused_round st (round.Store store.ReadFault) cause = absurd cause
  caused_round st round.Refused cause = record { no_blocks = λ m is. absurd (cc is); write_fault = λ is. absurd (cc is); shut = λ is. absurd (cc is); no_read = λ is. cc is }

  pub caused_some : (st st' : Standing E) (why : MirrorStop) → KeepsCount disks st st' → faults ≤ disks.faults st.store.disk → ((books st.store).shut ≡ true → Rose faults (disks.faults st.store.disk))
      → StopsLine disks st st' why → IsCausedSince disks faults st' (Some why)
  caused_some st st' stop.Reading counts low rose stops = record { no_blocks = λ m is. absurd (cc is); write_fault = λ is. absurd (cc is); shut = λ is. absurd (cc is); no_read = λ is. cc is }
  caused_some st st' stop.Memory counts low rose stops = record { no_blocks = λ m is. absurd (cc is); write_fault = λ is. absurd (cc is); shut = λ is. absurd (cc is); no_read = λ is. cc is }
  caused_some st st' (stop.Round why) counts low rose stops = caused_round st' why (round_cause stops.1.shipment st st' why counts low rose stops.1.stops)

  -- what is kept is the cause of the halt
  round_kept : (st : Standing E) (why : RoundStop) (o : Option MirrorStop) → IsCausedSince disks faults st o → o ≡ Some (stop.Round why) → IsRoundCause disks faults st why
  round_kept st (round.Store (store.NoBlocks n)) o kept is = kept.no_blocks n is
  round_kept st (round.Store store.WriteFault) o kept is = kept.write_fault is
  round_kept st (round.Store store.Shut) o kept is = kept.shut is
  round_kept st (round.Store store.ReadFault) o kept is = kept.no_read is
  round_kept st round.Refused o kept is = tt

  pub halt_kept : (st : Standing E) (h : MirrorHalt) (o : Option MirrorStop) → IsCausedSince disks faults st o → ((why : RoundStop) → h ≡ halt.Round why → o ≡ Some (stop.Round why)) → IsHaltCause disks faults st (Err h)
  halt_kept st (halt.Kernel why) o kept from = tt
  halt_kept st halt.Memory o kept from = tt
  halt_kept st (halt.Round why) o kept from = round_kept st why o kept (from why refl)

-- the watched line behind one look more
pub mirroring_on : {E : Type 0} (disks : Ghosts E) (faults loss : ℕ) (line line' : Line E) (why why' : Option MirrorStop) → IsMirroring disks faults loss line why → AreInStep line'.sender line'.standby
    → line'.loss ≡ line.loss → KeepsCount disks line.standby line'.standby → IsCausedSince disks faults line'.standby why' → IsMirroring disks faults loss line' why'
mirroring_on disks faults loss line line' why why' m step same counts caused = record {
  step = step;
  same_loss = same ∙ m.same_loss;
  later = (let low = m.later in let more = counts.later in omega (arith, low, more));
  shut = shut_since disks faults line.standby line'.standby counts m.later m.shut;
  caused = caused;
}

-- WHAT IS LEFT of it
pub left_second : {E : Type 0} (disks : Ghosts E) (faults loss : ℕ) (line : Line E) (why : Option MirrorStop) (st : Standing E) (went : Result ⊤ MirrorHalt) → IsMirroring disks faults loss line why
    → KeepsCount disks line.standby st → IsHaltCause disks faults st went → LeavesStandby disks faults st went
left_second disks faults loss line why st went m counts cause = record {
  later = (let low = m.later in let more = counts.later in omega (arith, low, more));
  shut = shut_since disks faults line.standby st counts m.later m.shut;
  caused = cause;
}

-- behind the last rounds
pub finish_cause : {E : Type 0} (disks : Ghosts E) (faults : ℕ) (s : Sending Shipment) (st st' : Standing E) (went : Result ⊤ MirrorHalt) → EndsAs (Ok tt) went → faults ≤ disks.faults st.store.disk
    → ((books st.store).shut ≡ true → Rose faults (disks.faults st.store.disk)) → IfErr went (λ h. (why : RoundStop) → h ≡ halt.Round why → StopsRounds disks s st st' why) → IsHaltCause disks faults st' went
finish_cause disks faults s st st' (Ok y) how low rose stops = tt
finish_cause disks faults s st st' (Err (halt.Kernel why)) how low rose stops = tt
finish_cause disks faults s st st' (Err halt.Memory) how low rose stops = tt
finish_cause disks faults s st st' (Err (halt.Round why)) how low rose stops = rounds_cause disks faults s st st' why low rose (stops why refl)
