-- A sender and a receiver of numbered shipments, over a network that loses, repeats and reorders.
use Rattle.std.specs.Prelude.{◌≡◌, ℕ, ◌+◌, ◌-◌, ◌≤◌, Bool, ◌&&◌, ◌==◌, nat_lt, if◌then◌else◌, List, [], ◌∷◌, ◌++◌, length, drop, slice_get, Option, Some, None}
use Rattle.std.specs.List.{AllByRecursion}

-- WHAT THE SENDER KEEPS: how many are acknowledged, and in order those that are offered and not acknowledged
pub record Sending (A : Type 0) : Type 0 where
  pub acked : ℕ
  pub waiting : List A

module _ {A : Type 0} where
  -- how many were offered
  abbrev pub offered : Sending A → ℕ
  offered s = s.acked + length s.waiting

  abbrev pub with_offer : Sending A → A → Sending A
  with_offer s x = record { acked = s.acked; waiting = s.waiting ++ x ∷ [] }

  -- the packet of a number, from 1 on
  abbrev pub packet_in : Sending A → ℕ → Option A
  packet_in s number = if nat_lt s.acked number then slice_get s.waiting (number - s.acked - 1) else None

  -- a count is heard: what is at or below it is dropped
  abbrev pub after_heard : Sending A → ℕ → Sending A
  after_heard s count = if nat_lt s.acked count then record { acked = count; waiting = drop (count - s.acked) s.waiting } else s

-- the number is that of the next shipment of a receiver that has so many
abbrev pub is_next : ℕ → ℕ → Bool
is_next count number = number == count + 1

-- a shipment under its number
pub record Packet (A : Type 0) : Type 0 where
  pub number : ℕ
  pub shipment : A

-- THE WORLD: all that is to be offered, in order; the sender; what the receiver has; every packet and every count that was ever sent
pub record World (A : Type 0) : Type 0 where
  pub made : List A
  pub sender : Sending A
  pub kept : List A
  pub packets : List (Packet A)
  pub counts : List ℕ

-- WHAT MAY HAPPEN NEXT: the next is offered; a packet is sent; one that was ever sent comes, and is taken or not; the receiver's count is sent;
-- one that was ever sent is heard. A loss is a packet or a count that never comes.
pub data Event : Type 0 where
  Offer : Event
  Send : (number : ℕ) → Event
  Comes : (which : ℕ) → (taken : Bool) → Event
  Tell : Event
  Heard : (which : ℕ) → Event

module _ {A : Type 0} where
  -- nothing is offered, sent or taken yet
  abbrev pub start : List A → World A
  start made = record { made = made; sender = record { acked = 0; waiting = [] }; kept = []; packets = []; counts = [] }

  abbrev pub offering : World A → Option A → World A
  offering w None = w
  offering w (Some x) = record w { sender = with_offer w.sender x }

  abbrev pub sending : World A → ℕ → Option A → World A
  sending w number None = w
  sending w number (Some x) = record w { packets = record { number = number; shipment = x } ∷ w.packets }

  -- what the receiver has behind a packet that may be taken
  abbrev pub received : List A → Packet A → Bool → List A
  received kept p taken = if taken && is_next (length kept) p.number then kept ++ p.shipment ∷ [] else kept

  abbrev pub coming : World A → Bool → Option (Packet A) → World A
  coming w taken None = w
  coming w taken (Some p) = record w { kept = received w.kept p taken }

  abbrev pub hearing : World A → Option ℕ → World A
  hearing w None = w
  hearing w (Some count) = record w { sender = after_heard w.sender count }

  abbrev pub happens : World A → Event → World A
  happens w Offer = offering w (slice_get w.made (offered w.sender))
  happens w (Send number) = sending w number (packet_in w.sender number)
  happens w (Comes which taken) = coming w taken (slice_get w.packets which)
  happens w Tell = record w { counts = length w.kept ∷ w.counts }
  happens w (Heard which) = hearing w (slice_get w.counts which)

  -- a whole schedule
  abbrev pub after_events : List Event → World A → World A
  after_events [] w = w
  after_events (e ∷ es) w = after_events es (happens w e)

-- the first of the other, in their order
abbrev pub IsFront : {A : Type 0} → List A → List A → Type 0
IsFront {A = A} xs ys = (rest : List A) × (ys ≡ xs ++ rest)

-- WHAT STAYS TRUE: what is waiting stands in the list behind what is acknowledged; what is kept is its front; each packet has the shipment of its
-- number, and no count is above what is kept
pub record IsSending {A : Type 0} (made : List A) (s : Sending A) : Type 0 where
  pub front : List A
  pub rest : List A
  pub len : length front ≡ s.acked
  pub is : made ≡ front ++ (s.waiting ++ rest)

abbrev pub IsPacket : {A : Type 0} → List A → World A → Packet A → Type 0
IsPacket made w p = (1 ≤ p.number) × (p.number ≤ offered w.sender) × (slice_get made (p.number - 1) ≡ Some p.shipment)

pub record Holds {A : Type 0} (made : List A) (w : World A) : Type 0 where
  pub same : w.made ≡ made
  pub sender : IsSending made w.sender
  pub kept : IsFront w.kept made
  pub acked : w.sender.acked ≤ length w.kept
  pub few : length w.kept ≤ offered w.sender
  pub packets : AllByRecursion (IsPacket made w) w.packets
  pub counts : AllByRecursion (λ c. c ≤ length w.kept) w.counts

-- the list grows behind what was made so far
abbrev pub with_made : {A : Type 0} → World A → List A → World A
with_made w more = record w { made = w.made ++ more }
