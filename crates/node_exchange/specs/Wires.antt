-- What lies between two nodes, as contracts see it.
use Rattle.std.specs.Prelude.{ℕ, ◌≤◌, List, ◌∷◌, Option, Some, None}
use Rattle.base_types.specs.Edges.{upto}
use Rattle.node_exchange.specs.declared.lines.Sent.{Sent}
use Rattle.node_world.specs.Worlds.{Holds, Packet, Sending, World, after_heard, offered}

-- the sender, and all that was ever sent, the newest first; a shipment is known by its place
pub record Wires : Type 0 where
  pub sender : Sending ℕ
  pub packets : List (Packet ℕ)
  pub counts : List ℕ

abbrev pub sent_as : Sent → Packet ℕ
sent_as s = record { number = s.number; shipment = s.place }

abbrev pub sent_in : List (Packet ℕ) → ℕ → Option ℕ → List (Packet ℕ)
sent_in packets number None = packets
sent_in packets number (Some place) = record { number = number; shipment = place } ∷ packets

abbrev pub hearing_in : Sending ℕ → Option ℕ → Sending ℕ
hearing_in s None = s
hearing_in s (Some count) = after_heard s count

-- THE WORLD of the two, where so many shipments were made and the second node has so many of them, each known by its place
abbrev pub world_of : Wires → ℕ → ℕ → World ℕ
world_of w count made = record { made = upto made; sender = w.sender; kept = upto count; packets = w.packets; counts = w.counts }

-- THE TWO NODES ARE IN STEP: what stays true of a world is true of theirs
abbrev pub AreInStep : Wires → ℕ → ℕ → Type 0
AreInStep w count made = Holds (upto made) (world_of w count made)

-- what is acknowledged is at most what the standby has, and that at most what was offered
pub record AreInOrder (w : Wires) (count made : ℕ) : Type 0 where
  pub acked : w.sender.acked ≤ count
  pub kept : count ≤ offered w.sender
  pub offers : offered w.sender ≤ made
