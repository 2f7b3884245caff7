-- Rounds, with losses and without.
use Rattle.std.proofs.Common.{◌≡◌, ℕ, ◌+◌, ◌-◌, ◌≤◌, ◌<◌, Bool, true, false, ◌&&◌, not, nat_lt, if◌then◌else◌, cond, List, [], ◌∷◌, ◌++◌, count_by, length, drop, Option, Some, None, refl, sym, ap, subst, ◌∙◌, arith, inl, inr, eq-eqb}
use Rattle.std.specs.Prelude.{slice_get}
use Rattle.std.specs.List.{AllByRecursion}
use Rattle.std.proofs.lemmas.Bool.{cases_lt, false≢true, lt-ltb, ltb-true}
use Rattle.std.proofs.lemmas.List.{length-append, length-drop}
use Rattle.std.proofs.lemmas.List.Sums.{sum_by-cons}
use Rattle.node_world.specs.Rounds.{Draws, after_rounds, coming_once_more, count_comes, drawn_round, nothing_lost, packet_comes}
use Rattle.node_world.specs.Worlds.{Event, Holds, Packet, Sending, World, after_events, after_heard, coming, happens, hearing, is_next, offered, packet_in, received, sending, Comes, Heard, Offer, Send, Tell}
use Rattle.node_world.proofs.Events.{each_at, holds_after, holds_next}

-- WHAT IS HEARD

heard_same : {A : Type 0} (s : Sending A) (count : ℕ) → count ≤ offered s → (offered (after_heard s count) ≡ offered s) × (s.acked ≤ (after_heard s count).acked)
heard_same {A = A} s count le = go (nat_lt s.acked count) refl
  where
    go : (t : Bool) → nat_lt s.acked count ≡ t
        → (offered (if t then record { acked = count; waiting = drop (count - s.acked) s.waiting } else s) ≡ offered s) × (s.acked ≤ (if t then record { acked = count; waiting = drop (count - s.acked) s.waiting } else s).acked)
    go false e = (refl, omega arith)
    go true e = (let lt = ltb-true s.acked count e in let left = length-drop (count - s.acked) s.waiting in (omega (arith, lt, le, left), omega (arith, lt)))

heard_is : {A : Type 0} (s : Sending A) (count : ℕ) → s.acked < count → (after_heard s count).acked ≡ count
heard_is s count lt = ap (λ b. (if b then record { acked = count; waiting = drop (count - s.acked) s.waiting } else s).acked) (lt-ltb s.acked count lt)

-- EVENTS THAT OFFER NOTHING

abbrev pub OffersNothing : Event → Type 0
OffersNothing Offer = ⊥
OffersNothing (Send number) = Unit {0}
OffersNothing (Comes which taken) = Unit {0}
OffersNothing Tell = Unit {0}
OffersNothing (Heard which) = Unit {0}

-- THE FIRST SHIPMENT THAT WAITS, where not all that was offered is acknowledged, and its packet
module _ {A : Type 0} (s : Sending A) (some : s.acked < offered s) where
  first : (x : A) × (slice_get s.waiting 0 ≡ Some x)
  first = go s.waiting some
    where
      go : (xs : List A) → s.acked < s.acked + length xs → (x : A) × (slice_get xs 0 ≡ Some x)
      go [] lt = absurd (omega (arith, lt))
      go (x ∷ xs) lt = (x, refl)

  pub first_waiting : A
  first_waiting = first.0

  pub first_packet : packet_in s (s.acked + 1) ≡ Some first_waiting
  unfolding first_waiting
  first_packet =
      let t : nat_lt s.acked (s.acked + 1) ≡ true = lt-ltb s.acked (s.acked + 1) (omega arith) in
      let place : s.acked + 1 - s.acked - 1 ≡ 0 = omega arith in
      ap (λ b. if b then slice_get s.waiting (s.acked + 1 - s.acked - 1) else None) t ∙ (ap (slice_get s.waiting) place ∙ first.1)

module _ {A : Type 0} (made : List A) where
  abbrev Stays : World A → World A → Type 0
  Stays w v = (offered v.sender ≡ offered w.sender) × (w.sender.acked ≤ v.sender.acked)

  one_stays : (w : World A) (e : Event) → OffersNothing e → Holds made w → Stays w (happens w e)
  one_stays w Offer none h = absurd none
  one_stays w (Send number) none h = go (packet_in w.sender number)
    where
      go : (o : Option A) → Stays w (sending w number o)
      go None = (refl, omega arith)
      go (Some x) = (refl, omega arith)
  one_stays w (Comes which taken) none h = go (slice_get w.packets which)
    where
      go : (o : Option (Packet A)) → Stays w (coming w taken o)
      go None = (refl, omega arith)
      go (Some p) = (refl, omega arith)
  one_stays w Tell none h = (refl, omega arith)
  one_stays w (Heard which) none h = go (slice_get w.counts which) refl
    where
      go : (o : Option ℕ) → slice_get w.counts which ≡ o → Stays w (hearing w o)
      go None e = (refl, omega arith)
      go (Some c) e = heard_same w.sender c (let low = each_at made (λ c. c ≤ length w.kept) w.counts which c h.counts e in let few = h.few in omega (arith, low, few))

  all_stay : (es : List Event) (w : World A) → AllByRecursion OffersNothing es → Holds made w → Stays w (after_events es w)
  all_stay [] w none h = (refl, omega arith)
  all_stay (e ∷ es) w none h =
      let one = one_stays w e none.0 h in
      let rest = all_stay es (happens w e) none.1 (holds_next made w e h) in
      let same : offered (after_events es (happens w e)).sender ≡ offered (happens w e).sender = rest.0 in
      let up = rest.1 in
      let low = one.1 in
      (rest.0 ∙ one.0, omega (arith, up, low))

  round_offers_nothing : (s : Sending A) (d : Draws) → AllByRecursion OffersNothing (drawn_round s d)
  round_offers_nothing s d = by_some (nat_lt s.acked (offered s))
    where
      tells : (lost : Bool) → AllByRecursion OffersNothing (Tell ∷ count_comes lost)
      tells true = (tt, tt)
      tells false = (tt, (tt, tt))

      by_packet : (lost twice : Bool) → AllByRecursion OffersNothing (packet_comes lost twice ++ (Tell ∷ count_comes d.count_lost))
      by_packet true twice = tells d.count_lost
      by_packet false true = (tt, (tt, tells d.count_lost))
      by_packet false false = (tt, tells d.count_lost)

      by_some : (b : Bool) → AllByRecursion OffersNothing (if b then Send (s.acked + 1) ∷ (packet_comes d.packet_lost d.comes_twice ++ (Tell ∷ count_comes d.count_lost)) else [])
      by_some false = tt
      by_some true = (tt, by_packet d.packet_lost d.comes_twice)

  -- A ROUND IN WHICH NOTHING IS LOST

  module _ (w : World A) (kept : w.sender.acked ≤ length w.kept) (some : w.sender.acked < offered w.sender) where
    x : A
    x = first_waiting w.sender some

    packet : packet_in w.sender (w.sender.acked + 1) ≡ Some x
    unfolding x
    packet = first_packet w.sender some

    abbrev p : Packet A
    p = record { number = w.sender.acked + 1; shipment = x }

    -- what the receiver has behind it, once or twice
    abbrev now : Bool → List A
    now twice = if twice then received (received w.kept p true) p true else received w.kept p true

    longer : (ks : List A) (q : Packet A) → length ks ≤ length (received ks q true)
    longer ks q = go (is_next (length ks) q.number)
      where
        go : (t : Bool) → length ks ≤ length (if t then ks ++ q.shipment ∷ [] else ks)
        go true = (let len : length (ks ++ q.shipment ∷ []) ≡ length ks + 1 = length-append ks (q.shipment ∷ []) in omega (arith, len))
        go false = omega arith

    once_more : w.sender.acked < length (received w.kept p true)
    once_more = go (is_next (length w.kept) (w.sender.acked + 1)) refl
      where
        go : (t : Bool) → is_next (length w.kept) (w.sender.acked + 1) ≡ t → w.sender.acked < length (if t then w.kept ++ x ∷ [] else w.kept)
        go true e = (let len : length (w.kept ++ x ∷ []) ≡ length w.kept + 1 = length-append w.kept (x ∷ []) in omega (arith, len, kept))
        go false e = by_less (λ same. false≢true (sym e ∙ eq-eqb (w.sender.acked + 1) (length w.kept + 1) (ap (λ m. m + 1) same)))
          where
            by_less : (w.sender.acked ≡ length w.kept → ⊥) → w.sender.acked < length w.kept
            by_less other = omega (arith, kept, other)

    more : (twice : Bool) → w.sender.acked < length (now twice)
    more false = once_more
    more true = (let one = once_more in let two = longer (received w.kept p true) p in omega (arith, one, two))

    abbrev behind : Bool → List Event
    behind twice = (Comes 0 true ∷ coming_once_more twice) ++ (Tell ∷ Heard 0 ∷ [])

    heard_then : (twice : Bool) → (after_events (behind twice) (sending w (w.sender.acked + 1) (Some x))).sender ≡ after_heard w.sender (length (now twice))
    heard_then true = refl
    heard_then false = refl

    round_is : (twice : Bool) → (after_events (Send (w.sender.acked + 1) ∷ behind twice) w).sender ≡ after_heard w.sender (length (now twice))
    round_is twice = ap (λ (o : Option A). (after_events (behind twice) (sending w (w.sender.acked + 1) o)).sender) packet ∙ heard_then twice

    raised : (twice : Bool) → w.sender.acked < (after_events (Send (w.sender.acked + 1) ∷ behind twice) w).sender.acked
    raised twice =
        let acked : (after_events (Send (w.sender.acked + 1) ∷ behind twice) w).sender.acked ≡ length (now twice) = ap (λ (s : Sending A). s.acked) (round_is twice) ∙ heard_is w.sender (length (now twice)) (more twice) in
        subst (λ m. w.sender.acked < m) (sym acked) (more twice)

    pub drawn_raises : (d : Draws) → nothing_lost d ≡ true → w.sender.acked < (after_events (drawn_round w.sender d) w).sender.acked
    drawn_raises d none =
        subst (λ b. w.sender.acked < (after_events (if b then Send (w.sender.acked + 1) ∷ (packet_comes d.packet_lost d.comes_twice ++ (Tell ∷ count_comes d.count_lost)) else []) w).sender.acked)
        (sym (lt-ltb w.sender.acked (offered w.sender) some)) (by_losses d.packet_lost d.count_lost none)
      where
        by_losses : (packet count : Bool) → (not packet && not count) ≡ true
            → w.sender.acked < (after_events (Send (w.sender.acked + 1) ∷ (packet_comes packet d.comes_twice ++ (Tell ∷ count_comes count))) w).sender.acked
        by_losses true count e = absurd (false≢true e)
        by_losses false true e = absurd (false≢true e)
        by_losses false false e = raised d.comes_twice

  -- ROUND AFTER ROUND

  pub holds_round : (w : World A) (d : Draws) → Holds made w → Holds made (after_events (drawn_round w.sender d) w)
  holds_round w d h = holds_after made (drawn_round w.sender d) w h

  pub round_stays : (w : World A) (d : Draws) → Holds made w → Stays w (after_events (drawn_round w.sender d) w)
  round_stays w d h = all_stay (drawn_round w.sender d) w (round_offers_nothing w.sender d) h

  pub holds_rounds : (ds : List Draws) (w : World A) → Holds made w → Holds made (after_rounds ds w)
  holds_rounds [] w h = h
  holds_rounds (d ∷ ds) w h = holds_rounds ds (after_events (drawn_round w.sender d) w) (holds_round w d h)

  pub rounds_stay : (ds : List Draws) (w : World A) → Holds made w → Stays w (after_rounds ds w)
  rounds_stay [] w h = (refl, omega arith)
  rounds_stay (d ∷ ds) w h =
      let one = round_stays w d h in
      let rest = rounds_stay ds (after_events (drawn_round w.sender d) w) (holds_round w d h) in
      let up = rest.1 in
      let low = one.1 in
      (rest.0 ∙ one.0, omega (arith, up, low))

  at_most : (w : World A) → Holds made w → w.sender.acked ≤ offered w.sender
  at_most w h = omega arith

  pub all_acked : (ds : List Draws) (w : World A) → Holds made w → offered w.sender ≤ w.sender.acked + count_by nothing_lost ds → (after_rounds ds w).sender.acked ≡ offered w.sender
  all_acked [] w h enough = (let none : count_by nothing_lost [] ≡ 0 = refl in omega (arith, enough, none))
  all_acked (d ∷ ds) w h enough =
      let v : World A = after_events (drawn_round w.sender d) w in
      let stays = round_stays w d h in
      let same : offered (after_events (drawn_round w.sender d) w).sender ≡ offered w.sender = stays.0 in
      let up : w.sender.acked ≤ (after_events (drawn_round w.sender d) w).sender.acked = stays.1 in
      let many : count_by nothing_lost (d ∷ ds) ≡ cond (nothing_lost d) 1 0 + count_by nothing_lost ds = sum_by-cons (λ (d : Draws). cond (nothing_lost d) 1 0) d ds in
      all_acked ds (after_events (drawn_round w.sender d) w) (holds_round w d h) (by_draw (nothing_lost d) refl same up many) ∙ same
    where
      by_draw : (t : Bool) → nothing_lost d ≡ t → offered (after_events (drawn_round w.sender d) w).sender ≡ offered w.sender → w.sender.acked ≤ (after_events (drawn_round w.sender d) w).sender.acked
          → count_by nothing_lost (d ∷ ds) ≡ cond t 1 0 + count_by nothing_lost ds → offered (after_events (drawn_round w.sender d) w).sender ≤ (after_events (drawn_round w.sender d) w).sender.acked + count_by nothing_lost ds
      by_draw false none same up many = omega (arith, same, up, many, enough)
      by_draw true none same up many = elim (cases_lt w.sender.acked (offered w.sender)) as (λ _. offered (after_events (drawn_round w.sender d) w).sender ≤ (after_events (drawn_round w.sender d) w).sender.acked + count_by nothing_lost ds) [
        | inl some ↦ (let raise = drawn_raises w h.acked some d none in omega (arith, same, many, enough, raise))
        | inr all ↦ omega (arith, same, up, all)
      ]
