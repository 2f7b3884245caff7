-- A packet that comes.
use Rattle.std.proofs.Common.{◌≡◌, ℕ, ◌+◌, ◌==◌, Bool, true, false, not, List, Some, Err, refl, sym, ap, ◌∙◌, subst, arith, length, ne_eqb}
use Rattle.std.specs.Prelude.{IsErrOf}
use Rattle.std.proofs.lemmas.Bool.{false≢true}
use Rattle.std.proofs.lemmas.Bool.Decides.{nat_tests}
use Rattle.edge_disk.specs.Counts.{Rose}
use Rattle.edge_disk.specs.declared.disk.Disk.{Ghosts}
use Rattle.edge_disk.specs.declared.disk.NoBlocks.{NoBlocks}
use Rattle.base_types.specs.declared.histories.Entry.{Entry}
use Rattle.node_rounds.specs.Going.{AllShip, StoreStops}
use Rattle.node_standby.specs.Standing.{Standing}
use Rattle.node_standby.specs.node_shipments.Parts.{Shipment, length_in}
use Rattle.node_standby.specs.node_shipments.Runs.{IsShipmentAt}
use Rattle.node_standby.specs.node_shipments.kernel_invariant.Beginnings.{Beginning}
use Rattle.node_standby.specs.node_shipments.node_store.Shipping.{IsShort}
use Rattle.node_standby.specs.store_snapshots.declared.faults.StoreFault.{StoreFault}
use Rattle.node_standby.specs.store_snapshots.declared.faults.StoreFault.TheVariants as store
use Rattle.node_standby.specs.store_snapshots.store_facts.State.{books}
use Rattle.node_standby.specs.store_snapshots.store_facts.image_facts.Bodies.{blocks_for}
use Rattle.node_world.specs.Worlds.{Sending, is_next, packet_in}

-- why it was not taken, by the clauses of a delivery
pub store_stops : {D : Type 0} (disks : Ghosts D) (x : Shipment) (st st' : Standing D) (f : StoreFault)
    → ((n : NoBlocks) → IsErrOf {T = ℕ} (Err f) (store.NoBlocks n) → (st' ≡ st) × IsShort (books st.store) (length x.pages + blocks_for (length_in x.part)) n)
    → (IsErrOf {T = ℕ} (Err f) store.WriteFault → Rose (disks.faults st.store.disk) (disks.faults st'.store.disk)) → (IsErrOf {T = ℕ} (Err f) store.Shut → (books st.store).shut ≡ true) → (IsErrOf {T = ℕ} (Err f) store.ReadFault → ⊥)
    → StoreStops disks x st st' f
store_stops disks x st st' (store.NoBlocks n) short rose shut read = short n refl
store_stops disks x st st' store.WriteFault short rose shut read = rose refl
store_stops disks x st st' store.Shut short rose shut read = shut refl
store_stops disks x st st' store.ReadFault short rose shut read = read refl

-- A SECOND TIME it is not next
not_again : (n : ℕ) → is_next n n ≡ false
not_again n = ne_eqb n (n + 1) (λ same. absurd (omega (arith, same)))

pub again : (old new number : ℕ) → (is_next old number ≡ true → new ≡ number) → (is_next old number ≡ false → new ≡ old) → is_next new number ≡ true → ⊥
again old new number taken other next = go (is_next old number) refl
  where
    go : (t : Bool) → is_next old number ≡ t → ⊥
    go true e = false≢true (sym (ap (λ (m : ℕ). is_next m number) (taken e) ∙ not_again number) ∙ next)
    go false e = false≢true (sym (ap (λ (m : ℕ). is_next m number) (other e) ∙ e) ∙ next)

-- the next packet's place
pub place_of : (count acked : ℕ) → is_next count (acked + 1) ≡ true → acked ≡ count
place_of count acked next = grind (arith, nat_tests)

-- the packet that was sent ships the next commit, if it is next
pub ships_at : (b : Beginning) (es : List Entry) (s : Sending Shipment) (count acked number : ℕ) (x : Shipment) → number ≡ acked + 1 → packet_in s (acked + 1) ≡ Some x → AllShip b es s
    → is_next count number ≡ true → IsShipmentAt b es count x
ships_at b es s count acked number x is packet ship next =
    subst (λ (n : ℕ). IsShipmentAt b es n x) (place_of count acked (ap (is_next count) (sym is) ∙ next)) (ship acked x packet)
