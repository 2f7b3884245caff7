-- The counts of a world behind a round.
use Rattle.std.proofs.Common.{◌≡◌, ℕ, ◌+◌, ◌-◌, ◌≤◌, ◌<◌, Bool, true, false, ◌==◌, nat_lt, if◌then◌else◌, List, [], ◌∷◌, ◌++◌, length, drop, Option, Some, None, refl, sym, ap, subst, ◌∙◌, arith, eq-eqb, ne_eqb}
use Rattle.std.specs.Prelude.{slice_get}
use Rattle.std.proofs.lemmas.Bool.{eqb-true, eqb-false, lt-ltb, ltb-false}
use Rattle.std.proofs.lemmas.List.{length-append}
use Rattle.node_world.specs.Rounds.{Draws, count_comes, drawn_round, packet_comes}
use Rattle.node_world.specs.Worlds.{Packet, Sending, World, after_events, after_heard, is_next, offered, packet_in, received, sending, Send, Tell}
use Rattle.node_world.proofs.Rounds.{first_packet, first_waiting}
use Rattle.node_draws.specs.Courses.{tally_behind, tally_of, with_next}

-- a count is heard that is no less than what was acknowledged
pub heard_is : {A : Type 0} (s : Sending A) (count : ℕ) → s.acked ≤ count → (after_heard s count).acked ≡ count
heard_is s count le = go (nat_lt s.acked count) refl
  where
    go : (t : Bool) → nat_lt s.acked count ≡ t → (if t then record { acked = count; waiting = drop (count - s.acked) s.waiting } else s).acked ≡ count
    go true e = refl
    go false e = (let past = ltb-false s.acked count e in omega (arith, past, le))

-- the number behind those that are acknowledged is next only where no more than those are had
pub next_test : (acked kept : ℕ) → is_next kept (acked + 1) ≡ (kept == acked)
next_test acked kept = go (kept == acked) refl
  where
    go : (t : Bool) → (kept == acked) ≡ t → is_next kept (acked + 1) ≡ t
    go true e = (let same = eqb-true kept acked e in eq-eqb (acked + 1) (kept + 1) (omega (arith, same)))
    go false e = (let other = eqb-false kept acked e in ne_eqb (acked + 1) (kept + 1) (λ same. other (omega (arith, same))))

module _ {A : Type 0} (w : World A) (order : w.sender.acked ≤ length w.kept) (some : w.sender.acked < offered w.sender) where
  x : A
  x = first_waiting w.sender some

  packet : packet_in w.sender (w.sender.acked + 1) ≡ Some x
  unfolding x
  packet = first_packet w.sender some

  abbrev p : Packet A
  p = record { number = w.sender.acked + 1; shipment = x }

  abbrev once : List A
  once = received w.kept p true

  once_is : length once ≡ with_next (tally_of w)
  once_is = ap (λ (b : Bool). length (if b then w.kept ++ x ∷ [] else w.kept)) (next_test w.sender.acked (length w.kept)) ∙ go (length w.kept == w.sender.acked)
    where
      go : (b : Bool) → length (if b then w.kept ++ x ∷ [] else w.kept) ≡ (if b then length w.kept + 1 else length w.kept)
      go true = length-append w.kept (x ∷ [])
      go false = refl

  once_more : w.sender.acked < length once
  once_more = go (length w.kept == w.sender.acked) refl
    where
      go : (t : Bool) → (length w.kept == w.sender.acked) ≡ t → w.sender.acked < length once
      go true e = (let is = once_is ∙ ap (λ (b : Bool). if b then length w.kept + 1 else length w.kept) e in omega (arith, is, order))
      go false e = (let is = once_is ∙ ap (λ (b : Bool). if b then length w.kept + 1 else length w.kept) e in by_less (eqb-false (length w.kept) w.sender.acked e) is)
        where
          by_less : (length w.kept ≡ w.sender.acked → ⊥) → length once ≡ length w.kept → w.sender.acked < length once
          by_less other is = omega (arith, order, other, is)

  -- it comes again for nothing
  again : received once p true ≡ once
  again = ap (λ (b : Bool). if b then once ++ x ∷ [] else once) (ne_eqb (w.sender.acked + 1) (length once + 1) (λ same. (let more = once_more in absurd (omega (arith, same, more)))))

  abbrev v : World A
  v = sending w (w.sender.acked + 1) (Some x)

  -- the count is told, and heard or not
  told : (ks : List A) (n : ℕ) → w.sender.acked ≤ length ks → length ks ≡ n → (lost : Bool)
      → tally_of (after_events (Tell ∷ count_comes lost) (record v { kept = ks })) ≡ record { acked = if lost then w.sender.acked else n; kept = n }
  told ks n le is true = ap (λ (m : ℕ). record { acked = w.sender.acked; kept = m }) is
  told ks n le is false = (let acked = heard_is w.sender (length ks) le ∙ is in λ i. record { acked = acked i; kept = is i })

  by_draws : (lost twice told_lost : Bool)
      → tally_of (after_events (packet_comes lost twice ++ (Tell ∷ count_comes told_lost)) v) ≡ tally_behind (record { packet_lost = lost; comes_twice = twice; count_lost = told_lost }) (tally_of w)
  by_draws true twice told_lost = told w.kept (length w.kept) order refl told_lost
  by_draws false false told_lost = (let more = once_more in told once (with_next (tally_of w)) (omega (arith, more)) once_is told_lost)
  by_draws false true told_lost =
      let more = once_more in
      let is : length (received once p true) ≡ with_next (tally_of w) = ap (λ (ks : List A). length ks) again ∙ once_is in
      let le : w.sender.acked ≤ length (received once p true) = subst (λ (ks : List A). w.sender.acked ≤ length ks) (sym again) (omega (arith, more)) in
      told (received once p true) (with_next (tally_of w)) le is told_lost

  pub tally_same : (d : Draws) → tally_of (after_events (drawn_round w.sender d) w) ≡ tally_behind d (tally_of w)
  tally_same d =
      ap (λ (b : Bool). tally_of (after_events (if b then Send (w.sender.acked + 1) ∷ (packet_comes d.packet_lost d.comes_twice ++ (Tell ∷ count_comes d.count_lost)) else []) w))
      (lt-ltb w.sender.acked (offered w.sender) some)
      ∙ (ap (λ (o : Option A). tally_of (after_events (packet_comes d.packet_lost d.comes_twice ++ (Tell ∷ count_comes d.count_lost)) (sending w (w.sender.acked + 1) o))) packet
      ∙ by_draws d.packet_lost d.comes_twice d.count_lost)
