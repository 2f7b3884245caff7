-- Events as they are played between two nodes.
use Rattle.std.specs.Prelude.{◌≡◌, ◌⊎◌, ℕ, ◌+◌, ◌<◌, ◌≤◌, Bool, true, false, List, [], ◌∷◌, length, map, OnErr, OnOk, Result, Some, slice_get, ⊤}
use Rattle.edge_disk.specs.Moments.{LeavesOnly}
use Rattle.edge_disk.specs.declared.disk.Disk.{Ghosts}
use Rattle.base_types.specs.declared.histories.Entry.{Entry}
use Rattle.node_exchange.specs.Wires.{Wires, world_of}
use Rattle.node_exchange.specs.declared.exchanging.Happening.{Happening}
use Rattle.node_exchange.specs.declared.exchanging.Happening.TheVariants as happening
use Rattle.node_standby.specs.node_shipments.Runs.{AreShipments}
use Rattle.node_standby.specs.node_shipments.Parts.{Shipment, length_in}
use Rattle.node_standby.specs.Following.{Follows, IsImageBetween, MayTake, most_in}
use Rattle.node_standby.specs.Standing.{Standing}
use Rattle.node_standby.specs.node_shipments.kernel_invariant.Beginnings.{Beginning}
use Rattle.node_world.specs.Worlds.{Event, Comes, Heard, Offer, Send, Tell, after_events, happens}
use Rattle.store_snapshots.specs.store_books.Books.{free_in}
use Rattle.store_snapshots.specs.store_facts.State.{books}
use Rattle.store_snapshots.specs.store_facts.image_facts.Bodies.{blocks_for}

-- THE EVENT of the world, where a packet that came was taken or not
abbrev pub as_happened : Happening → Bool → Event
as_happened happening.Offer taken = Offer
as_happened (happening.Send number) taken = Send number
as_happened (happening.Comes which) taken = Comes which taken
as_happened happening.Tell taken = Tell
as_happened (happening.Heard which) taken = Heard which

-- these events, one after another
abbrev pub AreThose : List Happening → List Event → Type 0
AreThose [] es = es ≡ []
AreThose (h ∷ hs) [] = ⊥
AreThose (h ∷ hs) (e ∷ es) = ((taken : Bool) × (e ≡ as_happened h taken)) × AreThose hs es

-- these events, where each packet that came was taken
abbrev pub all_taken : List Happening → List Event
all_taken hs = map (λ h. as_happened h true) hs

-- it can't take this shipment: it may not, or fewer blocks are free than that needs
abbrev pub CannotTake : {D : Type 0} → Standing D → Shipment → Type 0
CannotTake st s = (MayTake st s → ⊥) ⊎ (free_in (books st.store) < length s.pages + blocks_for (length_in s.part))

-- THE STANDBY CAN TAKE NO MORE: it is shut, or can't take the next shipment
abbrev pub IsStuck : {D : Type 0} → List Shipment → Standing D → Type 0
IsStuck made st = ((books st.store).shut ≡ true) ⊎ ((s : Shipment) × (slice_get made st.count ≡ Some s) × CannotTake st s)

-- WHAT EVENTS COME TO: the world of the two is what they make of it; each packet that came was taken, unless the standby can take no more
pub record HasPlayed {D : Type 0} (made : List Shipment) (hs : List Happening) (w w' : Wires) (old new : Standing D) : Type 0 where
  pub happened : List Event
  pub those : AreThose hs happened
  pub world : world_of w' new.count (length made) ≡ after_events happened (world_of w old.count (length made))
  pub taken : IsStuck made new ⊎ (happened ≡ all_taken hs)

-- WHAT A STANDBY TAKES while shipments come to it, some of these: its count doesn't fall, and of each run whose first commits they ship it keeps the
-- first ones still. At each moment each image that a stop leaves is one of the run's first commits: of as many as were counted before or, at most, as
-- are counted then, and one more behind a write that failed. One that can take no more can't then either.
pub record TakesOn {D : Type 0} (disks : Ghosts D) (made : List Shipment) (old new : Standing D) : Type 0 where
  pub counts : old.count ≤ new.count
  pub most : most_in old ≤ most_in new
  pub stuck : IsStuck made old → IsStuck made new
  pub follows : (b : Beginning) (es : List Entry) → Follows b es disks old → AreShipments b es made → Follows b es disks new
  pub moments : disks.tells → (b : Beginning) (es : List Entry) → Follows b es disks old → AreShipments b es made
      → LeavesOnly disks old.store.disk new.store.disk (IsImageBetween b es old.count (most_in new))

-- WHAT A PACKET THAT COMES MAKES of the two, whether it was taken or not
pub record HasCome {D : Type 0} (disks : Ghosts D) (made : List Shipment) (w : Wires) (which : ℕ) (taken : Bool) (old new : Standing D) : Type 0 where
  pub world : world_of w new.count (length made) ≡ happens (world_of w old.count (length made)) (Comes which taken)
  pub stuck : taken ≡ false → IsStuck made new
  pub takes : TakesOn disks made old new

-- WHAT ONE EVENT COMES TO: it is played, or nothing is changed where memory ran out
pub record PlaysOn {D E : Type 0} (disks : Ghosts D) (made : List Shipment) (h : Happening) (w w' : Wires) (old new : Standing D) (result : Result ⊤ E) : Type 0 where
  pub played : OnOk result (HasPlayed made (h ∷ []) w w' old new)
  pub err : OnErr result ((w' ≡ w) × (new ≡ old))
  pub takes : TakesOn disks made old new
