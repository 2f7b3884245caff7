-- What events make of the world of two nodes.
use Rattle.std.proofs.Common.{◌≡◌, ℕ, ◌+◌, ◌-◌, ◌<◌, ◌≤◌, ◌&&◌, Bool, true, false, nat_lt, if◌then◌else◌, arith, List, [], ◌∷◌, ◌++◌, length, Option, Some, None, refl, sym, ap, subst, ◌∙◌, eqb-true, length-append}
use Rattle.std.specs.Prelude.{drop, map, slice_get}
use Rattle.std.proofs.lemmas.Bool.{ltb-true}
use Rattle.base_types.specs.Edges.{upto}
use Rattle.node_exchange.proofs.Places.{get_place, no_place, place_is, upto_long, upto_next}
use Rattle.node_exchange.specs.Wires.{AreInOrder, AreInStep, Wires, hearing_in, sent_as, sent_in, world_of}
use Rattle.node_exchange.specs.declared.lines.Sent.{Sent}
use Rattle.node_world.proofs.Events.{each_at, starts}
use Rattle.node_world.specs.Worlds.{Comes, Event, Heard, Holds, IsPacket, IsSending, Offer, Packet, Send, Sending, Tell, World, after_events, after_heard, coming, happens, hearing, is_next, offered, offering, packet_in, received, sending, start, with_offer}

-- no more was offered than was made
few_offered : (made : List ℕ) (s : Sending ℕ) → IsSending made s → offered s ≤ length made
few_offered made s h =
    let all : length made ≡ length (h.front ++ (s.waiting ++ h.rest)) = ap length h.is in
    let one = length-append h.front (s.waiting ++ h.rest) in
    let two = length-append s.waiting h.rest in
    let len = h.len in
    omega (arith, all, one, two, len)

-- where nothing was offered, sent and taken
pub empty_step : (made : ℕ) (s : Sending ℕ) (sent : List Sent) (counts : List ℕ) → s ≡ record { acked = 0; waiting = [] } → sent ≡ [] → counts ≡ []
    → AreInStep (record { sender = s; packets = map sent_as sent; counts = counts }) 0 made
empty_step made s sent counts is none untold =
    let same : record { made = upto made; sender = s; kept = upto 0; packets = map sent_as sent; counts = counts } ≡ start (upto made) =
    λ i. record { made = upto made; sender = is i; kept = []; packets = map sent_as (none i); counts = untold i } in
    subst (Holds (upto made)) (sym same) (starts (upto made))

module _ (l : Wires) (count made : ℕ) where
  pub offered_next : (new : Wires) → offered l.sender < made → new ≡ record l { sender = with_offer l.sender (offered l.sender) } → world_of new count made ≡ happens (world_of l count made) Offer
  offered_next new lt is = ap (λ (w : Wires). world_of w count made) is ∙ sym (ap (offering (world_of l count made)) (get_place made (offered l.sender) lt))

  pub offered_none : made ≤ offered l.sender → world_of l count made ≡ happens (world_of l count made) Offer
  offered_none le = sym (ap (offering (world_of l count made)) (no_place made (offered l.sender) le))

  pub sent_next : (new : Wires) (number : ℕ) → new ≡ record l { packets = sent_in l.packets number (packet_in l.sender number) } → world_of new count made ≡ happens (world_of l count made) (Send number)
  sent_next new number is = ap (λ (w : Wires). world_of w count made) is ∙ by_option (packet_in l.sender number)
    where
      by_option : (o : Option ℕ) → world_of (record l { packets = sent_in l.packets number o }) count made ≡ sending (world_of l count made) number o
      by_option None = refl
      by_option (Some x) = refl

  pub told_next : (new : Wires) → new ≡ record l { counts = count ∷ l.counts } → world_of new count made ≡ happens (world_of l count made) Tell
  told_next new is = ap (λ (w : Wires). world_of w count made) is ∙ ap (λ (n : ℕ). record (world_of l count made) { counts = n ∷ l.counts }) (sym (upto_long count))

  pub heard_next : (new : Wires) (which : ℕ) → new ≡ record l { sender = hearing_in l.sender (slice_get l.counts which) } → world_of new count made ≡ happens (world_of l count made) (Heard which)
  heard_next new which is = ap (λ (w : Wires). world_of w count made) is ∙ by_option (slice_get l.counts which)
    where
      by_option : (o : Option ℕ) → world_of (record l { sender = hearing_in l.sender o }) count made ≡ hearing (world_of l count made) o
      by_option None = refl
      by_option (Some x) = refl

  -- A PACKET THAT COMES

  pub come_none : (which : ℕ) (taken : Bool) → slice_get l.packets which ≡ None → world_of l count made ≡ happens (world_of l count made) (Comes which taken)
  come_none which taken is = sym (ap (coming (world_of l count made) taken) is)

  module _ (h : Holds (upto made) (world_of l count made)) where
    -- the shipment stands at the place before its number
    pub place_at : (which : ℕ) (p : Packet ℕ) → slice_get l.packets which ≡ Some p → (p.shipment < made) × (is_next count p.number ≡ true → p.shipment ≡ count)
    place_at which p is =
        let k = each_at (upto made) (IsPacket (upto made) (world_of l count made)) l.packets which p h.packets is in
        let at = place_is made (p.number - 1) p.shipment k.2 in
        let same = at.0 in
        (omega (arith, at.0, at.1), λ next. (let number : p.number ≡ count + 1 = eqb-true p.number (count + 1) next in omega (arith, same, number)))

    -- no count that was told is above what was offered
    pub count_low : (which told : ℕ) → slice_get l.counts which ≡ Some told → told ≤ offered l.sender
    count_low which told is = (let low = each_at (upto made) (λ (c : ℕ). c ≤ length (upto count)) l.counts which told h.counts is in let few = h.few in omega (arith, low, few))

    pub in_order : AreInOrder l count made
    in_order = record {
      acked = (let low = h.acked in let long = upto_long count in omega (arith, low, long));
      kept = (let low = h.few in let long = upto_long count in omega (arith, low, long));
      offers = (let few = few_offered (upto made) l.sender h.sender in let long = upto_long made in omega (arith, few, long));
    }

  received_is : (p : Packet ℕ) (taken : Bool) (now : ℕ) → (is_next count p.number ≡ true → p.shipment ≡ count) → (is_next count p.number ≡ false → now ≡ count)
      → (is_next count p.number ≡ true → taken ≡ true → now ≡ p.number) → (is_next count p.number ≡ true → taken ≡ false → now ≡ count)
      → upto now ≡ received (upto count) p taken
  received_is p taken now place other next failed =
      go taken (is_next count p.number) refl refl
      ∙ ap (λ (n : ℕ). if taken && is_next n p.number then upto count ++ p.shipment ∷ [] else upto count) (sym (upto_long count))
    where
      go : (t n : Bool) → taken ≡ t → is_next count p.number ≡ n → upto now ≡ (if t && n then upto count ++ p.shipment ∷ [] else upto count)
      go true true is_taken is =
          ap upto (next is is_taken ∙ eqb-true p.number (count + 1) is) ∙ (upto_next count ∙ ap (λ (x : ℕ). upto count ++ x ∷ []) (sym (place is)))
      go true false is_taken is = ap upto (other is)
      go false true is_taken is = ap upto (failed is is_taken)
      go false false is_taken is = ap upto (other is)

  pub come_one : (which : ℕ) (taken : Bool) (p : Packet ℕ) (now : ℕ) → slice_get l.packets which ≡ Some p → (is_next count p.number ≡ true → p.shipment ≡ count) → (is_next count p.number ≡ false → now ≡ count)
      → (is_next count p.number ≡ true → taken ≡ true → now ≡ p.number) → (is_next count p.number ≡ true → taken ≡ false → now ≡ count)
      → world_of l now made ≡ happens (world_of l count made) (Comes which taken)
  come_one which taken p now is place other next failed =
      ap (λ (ks : List ℕ). record (world_of l count made) { kept = ks }) (received_is p taken now place other next failed) ∙ sym (ap (coming (world_of l count made) taken) is)

-- WHAT IS ACKNOWLEDGED never falls

heard_up : (s : Sending ℕ) (count : ℕ) → s.acked ≤ (after_heard s count).acked
heard_up s count = by_less (nat_lt s.acked count) refl
  where
    by_less : (t : Bool) → nat_lt s.acked count ≡ t → s.acked ≤ (if t then record { acked = count; waiting = drop (count - s.acked) s.waiting } else s).acked
    by_less false e = omega arith
    by_less true e = (let lt = ltb-true s.acked count e in omega (arith, lt))

acked_next : (w : World ℕ) (e : Event) → w.sender.acked ≤ (happens w e).sender.acked
acked_next w Offer = by_option (slice_get w.made (offered w.sender))
  where
    by_option : (o : Option ℕ) → w.sender.acked ≤ (offering w o).sender.acked
    by_option None = omega arith
    by_option (Some x) = omega arith
acked_next w (Send number) = by_option (packet_in w.sender number)
  where
    by_option : (o : Option ℕ) → w.sender.acked ≤ (sending w number o).sender.acked
    by_option None = omega arith
    by_option (Some x) = omega arith
acked_next w (Comes which taken) = by_option (slice_get w.packets which)
  where
    by_option : (o : Option (Packet ℕ)) → w.sender.acked ≤ (coming w taken o).sender.acked
    by_option None = omega arith
    by_option (Some p) = omega arith
acked_next w Tell = omega arith
acked_next w (Heard which) = by_option (slice_get w.counts which)
  where
    by_option : (o : Option ℕ) → w.sender.acked ≤ (hearing w o).sender.acked
    by_option None = omega arith
    by_option (Some count) = heard_up w.sender count

pub acked_after : (es : List Event) (w : World ℕ) → w.sender.acked ≤ (after_events es w).sender.acked
acked_after [] w = omega arith
acked_after (e ∷ es) w = (let one = acked_next w e in let rest = acked_after es (happens w e) in omega (arith, one, rest))
