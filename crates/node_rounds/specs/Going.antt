-- Rounds between a sender of shipments and a standby.
use Rattle.std.specs.Prelude.{◌≡◌, ℕ, ◌+◌, ◌^◌, ◌<◌, List, length, Some, true}
use Rattle.edge_disk.specs.Counts.{Rose}
use Rattle.edge_disk.specs.declared.disk.Disk.{Ghosts}
use Rattle.base_types.specs.declared.histories.Entry.{Entry}
use Rattle.drawn_words.specs.Words.{Words}
use Rattle.node_draws.specs.Courses.{Course, IsInOrder, Tally, rounds_of}
use Rattle.node_rounds.specs.declared.rounds.RoundStop.{RoundStop}
use Rattle.node_rounds.specs.declared.rounds.RoundStop.TheVariants as stop
use Rattle.node_standby.specs.Following.{MayTake}
use Rattle.node_standby.specs.Standing.{KeepsCount, Standing}
use Rattle.node_standby.specs.node_shipments.Parts.{Shipment, length_in}
use Rattle.node_standby.specs.node_shipments.Runs.{IsShipmentAt}
use Rattle.node_standby.specs.node_shipments.kernel_invariant.Beginnings.{Beginning}
use Rattle.node_standby.specs.node_shipments.node_store.Shipping.{IsShort}
use Rattle.node_standby.specs.store_snapshots.declared.faults.StoreFault.{StoreFault}
use Rattle.node_standby.specs.store_snapshots.declared.faults.StoreFault.TheVariants as store
use Rattle.node_standby.specs.store_snapshots.store_facts.State.{books}
use Rattle.node_standby.specs.store_snapshots.store_facts.image_facts.Bodies.{blocks_for}
use Rattle.node_world.specs.Worlds.{Sending, after_heard, offered, packet_in}

module _ {D : Type 0} where
  -- how far the two are
  abbrev pub tally_in : Sending Shipment → Standing D → Tally
  tally_in s st = record { acked = s.acked; kept = st.count }

  abbrev pub course_in : Words → Sending Shipment → Standing D → Course
  course_in words s st = record { tally = tally_in s st; words = words }

  -- THE TWO ARE IN STEP: what is acknowledged was taken, and what was taken is offered; no number is too large
  pub record AreInStep (s : Sending Shipment) (st : Standing D) : Type 0 where
    pub order : IsInOrder (offered s) (tally_in s st)
    pub few : offered s < 2 ^ 64

  -- ROUNDS AS THEY ARE DRAWN, before each of which so many are offered: which packets and counts are lost and which come is just what the words draw, and
  -- no word more is taken; what is acknowledged is dropped, and nothing else of what was offered
  pub record GoesBy (loss : ℕ) (offers : List ℕ) (words words' : Words) (s s' : Sending Shipment) (st st' : Standing D) : Type 0 where
    pub course : course_in words' s' st' ≡ rounds_of loss offers (course_in words s st)
    pub sender : s' ≡ after_heard s s'.acked

-- each packet ships the run's commit at its place
abbrev pub AllShip : Beginning → List Entry → Sending Shipment → Type 0
AllShip b es s = (place : ℕ) (x : Shipment) → packet_in s (place + 1) ≡ Some x → IsShipmentAt b es place x

module _ {D : Type 0} (disks : Ghosts D) (x : Shipment) (st st' : Standing D) where
  -- WHY THIS SHIPMENT WAS NOT TAKEN, by what the store told
  abbrev pub StoreStops : StoreFault → Type 0
  StoreStops (store.NoBlocks n) = (st' ≡ st) × IsShort (books st.store) (length x.pages + blocks_for (length_in x.part)) n
  StoreStops store.WriteFault = Rose (disks.faults st.store.disk) (disks.faults st'.store.disk)
  StoreStops store.Shut = (books st.store).shut ≡ true
  StoreStops store.ReadFault = ⊥

  abbrev pub ShipmentStops : RoundStop → Type 0
  ShipmentStops (stop.Store fault) = StoreStops fault
  ShipmentStops stop.Refused = MayTake st x → ⊥

-- A ROUND WAS BROKEN OFF at the packet that it sent, which is the next one for the standby
pub record StopsRound {D : Type 0} (disks : Ghosts D) (s : Sending Shipment) (st st' : Standing D) (why : RoundStop) : Type 0 where
  pub shipment : Shipment
  pub packet : packet_in s (st.count + 1) ≡ Some shipment
  pub stops : ShipmentStops disks shipment st st' why

-- one of several rounds was, behind which the two were so far
pub record StopsRounds {D : Type 0} (disks : Ghosts D) (old : Sending Shipment) (st st' : Standing D) (why : RoundStop) : Type 0 where
  pub sender : Sending Shipment
  pub was : sender ≡ after_heard old sender.acked
  pub standing : Standing D
  pub counts : KeepsCount disks st standing
  pub left : KeepsCount disks standing st'
  pub same : st'.count ≡ standing.count
  pub stops : StopsRound disks sender standing st' why
