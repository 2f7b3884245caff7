-- What stays true of the world of a sender and a receiver, whatever happens.
use Rattle.std.proofs.Common.{◌≡◌, ℕ, ◌+◌, ◌-◌, ◌≤◌, Bool, true, false, nat_lt, if◌then◌else◌, List, [], ◌∷◌, ◌++◌, length, drop, take, Option, Some, None, refl, sym, ap, subst, ◌∙◌, arith, eqb-true, suc, zero}
use Rattle.std.specs.Prelude.{slice_get, is_some, unwrap_or}
use Rattle.std.specs.List.{AllByRecursion}
use Rattle.std.proofs.lemmas.Bool.{ltb-true, false≢true}
use Rattle.std.proofs.lemmas.List.{append_assoc, length-append, length-drop, length-take-le, take-append-drop}
use Rattle.std.proofs.lemmas.Option.{slice_get_within}
use Rattle.node_world.specs.Worlds.{Event, Offer, Send, Comes, Tell, Heard, Holds as HoldsOf, IsFront, IsPacket as IsPacketOf, IsSending as IsSendingOf, Packet, Sending, World, after_events, coming, happens, hearing, is_next, offered, offering, packet_in, sending, start, with_made}

none_some : {A : Type 0} (x : A) → None ≡ Some x → ⊥
none_some x is = false≢true (ap is_some is)

some_one : {A : Type 0} (x y : A) → Some x ≡ Some y → x ≡ y
some_one x y is = ap (λ o. unwrap_or o y) is

module _ {A : Type 0} where
  -- what stands behind so many
  rest_at : (xs ys : List A) (x : A) → slice_get (xs ++ ys) (length xs) ≡ Some x → (zs : List A) × (ys ≡ x ∷ zs)
  rest_at [] [] x is = absurd (none_some x is)
  rest_at [] (y ∷ ys) x is = (ys, ap (λ z. z ∷ ys) (some_one y x is))
  rest_at (z ∷ xs) ys x is = rest_at xs ys x is

  skip : (xs ys : List A) (n : ℕ) → slice_get (xs ++ ys) (length xs + n) ≡ slice_get ys n
  skip [] ys n = (let e : 0 + n ≡ n = omega arith in ap (slice_get ys) e)
  skip (x ∷ xs) ys n = (let e : suc (length xs) + n ≡ suc (length xs + n) = omega arith in ap (slice_get (x ∷ (xs ++ ys))) e ∙ skip xs ys n)

  pub near : (xs ys : List A) (n : ℕ) (x : A) → slice_get xs n ≡ Some x → slice_get (xs ++ ys) n ≡ Some x
  near [] ys n x is = absurd (none_some x is)
  near (z ∷ xs) ys zero x is = is
  near (z ∷ xs) ys (suc n) x is = near xs ys n x is

module _ {A : Type 0} (made : List A) where
  abbrev IsSending : Sending A → Type 0
  IsSending s = IsSendingOf made s

  abbrev IsPacket : World A → Packet A → Type 0
  IsPacket w p = IsPacketOf made w p

  abbrev Holds : World A → Type 0
  Holds w = HoldsOf made w

  pub each_at : {B : Type 0} (P : B → Type 0) (xs : List B) (n : ℕ) (x : B) → AllByRecursion P xs → slice_get xs n ≡ Some x → P x
  each_at P [] n x all is = absurd (none_some x is)
  each_at P (y ∷ xs) zero x all is = subst P (some_one y x is) all.0
  each_at P (y ∷ xs) (suc n) x all is = each_at P xs n x all.1 is

  each_more : {B : Type 0} (P Q : B → Type 0) (xs : List B) → ((x : B) → P x → Q x) → AllByRecursion P xs → AllByRecursion Q xs
  each_more P Q [] f all = tt
  each_more P Q (x ∷ xs) f all = (f x all.0, each_more P Q xs f all.1)

  pub starts : Holds (start made)
  starts = record {
    same = refl;
    sender = record { front = []; rest = made; len = refl; is = refl };
    kept = (made, refl);
    acked = omega arith;
    few = omega arith;
    packets = tt;
    counts = tt;
  }

  -- OFFER
  offers : (w : World A) (x : A) → Holds w → slice_get made (offered w.sender) ≡ Some x → Holds (offering w (Some x))
  offers w x h at =
      let s = h.sender in
      let front : List A = s.front ++ w.sender.waiting in
      let len : length front ≡ offered w.sender = length-append s.front w.sender.waiting ∙ ap (λ n. n + length w.sender.waiting) s.len in
      let is : made ≡ front ++ s.rest = s.is ∙ sym (append_assoc s.front w.sender.waiting s.rest) in
      let found : slice_get (front ++ s.rest) (length front) ≡ Some x = subst (λ n. slice_get (front ++ s.rest) n ≡ Some x) (sym len) (subst (λ (zs : List A). slice_get zs (offered w.sender) ≡ Some x) is at) in
      let next = rest_at front s.rest x found in
      let more : length (w.sender.waiting ++ x ∷ []) ≡ length w.sender.waiting + 1 = length-append w.sender.waiting (x ∷ []) in
      record {
        same = h.same;
        sender = record {
          front = s.front;
          rest = next.0;
          len = s.len;
          is = s.is ∙ ap (λ (zs : List A). s.front ++ zs) (ap (λ (zs : List A). w.sender.waiting ++ zs) next.1 ∙ sym (append_assoc w.sender.waiting (x ∷ []) next.0));
        };
        kept = h.kept;
        acked = h.acked;
        few = (let few = h.few in omega (arith, few, more));
        packets = each_more (IsPacket w) (IsPacket (offering w (Some x))) w.packets (λ p is. (is.0, (let le = is.1 in omega (arith, le, more)), is.2)) h.packets;
        counts = h.counts;
      }

  -- SEND
  one_packet : (w : World A) (number : ℕ) (x : A) → Holds w → packet_in w.sender number ≡ Some x → IsPacket w (record { number = number; shipment = x })
  one_packet w number x h = go (nat_lt w.sender.acked number) refl
    where
      go : (t : Bool) → nat_lt w.sender.acked number ≡ t → (if t then slice_get w.sender.waiting (number - w.sender.acked - 1) else None) ≡ Some x → IsPacket w (record { number = number; shipment = x })
      go false e is = absurd (none_some x is)
      go true e is =
          let lt = ltb-true w.sender.acked number e in
          let n : ℕ = number - w.sender.acked - 1 in
          let within = slice_get_within w.sender.waiting n x is in
          let s = h.sender in
          let len = s.len in
          let place : number - 1 ≡ length s.front + n = omega (arith, lt, len) in
          let there : slice_get (s.front ++ (w.sender.waiting ++ s.rest)) (length s.front + n) ≡ Some x = skip s.front (w.sender.waiting ++ s.rest) n ∙ near w.sender.waiting s.rest n x is in
          (omega (arith, lt), omega (arith, lt, within), subst (λ (zs : List A). slice_get zs (number - 1) ≡ Some x) (sym s.is) (subst (λ m. slice_get (s.front ++ (w.sender.waiting ++ s.rest)) m ≡ Some x) (sym place) there))

  -- A PACKET COMES
  comes : (w : World A) (p : Packet A) (taken : Bool) → Holds w → IsPacket w p → Holds (coming w taken (Some p))
  comes w p false h is = h
  comes w p true h is = go (is_next (length w.kept) p.number) refl
    where
      go : (t : Bool) → is_next (length w.kept) p.number ≡ t → Holds (record w { kept = if t then w.kept ++ p.shipment ∷ [] else w.kept })
      go false e = h
      go true e =
          let at : p.number ≡ length w.kept + 1 = eqb-true p.number (length w.kept + 1) e in
          let k = h.kept in
          let here : slice_get (w.kept ++ k.0) (length w.kept) ≡ Some p.shipment =
          subst (λ (zs : List A). slice_get zs (length w.kept) ≡ Some p.shipment) k.1 (subst (λ n. slice_get made n ≡ Some p.shipment) (let a : p.number - 1 ≡ length w.kept = omega (arith, at) in a) is.2) in
          let next = rest_at w.kept k.0 p.shipment here in
          let more : length (w.kept ++ p.shipment ∷ []) ≡ length w.kept + 1 = length-append w.kept (p.shipment ∷ []) in
          record {
            same = h.same;
            sender = h.sender;
            kept = (next.0, k.1 ∙ (ap (λ (zs : List A). w.kept ++ zs) next.1 ∙ sym (append_assoc w.kept (p.shipment ∷ []) next.0)));
            acked = (let le = h.acked in omega (arith, le, more));
            few = (let le = is.1 in omega (arith, le, at, more));
            packets = h.packets;
            counts = each_more (λ c. c ≤ length w.kept) (λ c. c ≤ length (w.kept ++ p.shipment ∷ [])) w.counts (λ c le. omega (arith, le, more)) h.counts;
          }

  -- A COUNT IS HEARD
  hears : (w : World A) (count : ℕ) → Holds w → count ≤ length w.kept → Holds (hearing w (Some count))
  hears w count h le = go (nat_lt w.sender.acked count) refl
    where
      go : (t : Bool) → nat_lt w.sender.acked count ≡ t → Holds (record w { sender = if t then record { acked = count; waiting = drop (count - w.sender.acked) w.sender.waiting } else w.sender })
      go false e = h
      go true e =
          let lt = ltb-true w.sender.acked count e in
          let few = h.few in
          let k : ℕ = count - w.sender.acked in
          let s = h.sender in
          let len = s.len in
          let head : length (take k w.sender.waiting) ≡ k = length-take-le k w.sender.waiting (omega (arith, lt, few, le)) in
          let tail : length (drop k w.sender.waiting) ≡ length w.sender.waiting - k = length-drop k w.sender.waiting in
          let split : take k w.sender.waiting ++ drop k w.sender.waiting ≡ w.sender.waiting = take-append-drop k w.sender.waiting in
          let both : length (s.front ++ take k w.sender.waiting) ≡ length s.front + length (take k w.sender.waiting) = length-append s.front (take k w.sender.waiting) in
          let same : count + length (drop k w.sender.waiting) ≡ offered w.sender = omega (arith, lt, few, le, tail) in
          record {
            same = h.same;
            sender = record {
              front = s.front ++ take k w.sender.waiting;
              rest = s.rest;
              len = omega (arith, lt, len, head, both);
              is = s.is ∙ (ap (λ (zs : List A). s.front ++ (zs ++ s.rest)) (sym split)
                  ∙ (ap (λ (zs : List A). s.front ++ zs) (append_assoc (take k w.sender.waiting) (drop k w.sender.waiting) s.rest)
                  ∙ sym (append_assoc s.front (take k w.sender.waiting) (drop k w.sender.waiting ++ s.rest))));
            };
            kept = h.kept;
            acked = le;
            few = omega (arith, few, same);
            packets = each_more (IsPacket w) (IsPacket (record w { sender = record { acked = count; waiting = drop k w.sender.waiting } })) w.packets (λ p is. (is.0, (let at = is.1 in omega (arith, at, same)), is.2)) h.packets;
            counts = h.counts;
          }

  -- EACH EVENT
  pub holds_next : (w : World A) (e : Event) → Holds w → Holds (happens w e)
  holds_next w Offer h = go (slice_get w.made (offered w.sender)) refl
    where
      go : (o : Option A) → slice_get w.made (offered w.sender) ≡ o → Holds (offering w o)
      go None e = h
      go (Some x) e = offers w x h (ap (λ (zs : List A). slice_get zs (offered w.sender)) (sym h.same) ∙ e)
  holds_next w (Send number) h = go (packet_in w.sender number) refl
    where
      go : (o : Option A) → packet_in w.sender number ≡ o → Holds (sending w number o)
      go None e = h
      go (Some x) e = record {
        same = h.same;
        sender = h.sender;
        kept = h.kept;
        acked = h.acked;
        few = h.few;
        packets = (one_packet w number x h e, h.packets);
        counts = h.counts;
      }
  holds_next w (Comes which taken) h = go (slice_get w.packets which) refl
    where
      go : (o : Option (Packet A)) → slice_get w.packets which ≡ o → Holds (coming w taken o)
      go None e = h
      go (Some p) e = comes w p taken h (each_at (IsPacket w) w.packets which p h.packets e)
  holds_next w Tell h = record {
    same = h.same;
    sender = h.sender;
    kept = h.kept;
    acked = h.acked;
    few = h.few;
    packets = h.packets;
    counts = (omega arith, h.counts);
  }
  holds_next w (Heard which) h = go (slice_get w.counts which) refl
    where
      go : (o : Option ℕ) → slice_get w.counts which ≡ o → Holds (hearing w o)
      go None e = h
      go (Some c) e = hears w c h (each_at (λ c. c ≤ length w.kept) w.counts which c h.counts e)

  -- WHATEVER HAPPENS
  pub holds_after : (es : List Event) (w : World A) → Holds w → Holds (after_events es w)
  holds_after [] w h = h
  holds_after (e ∷ es) w h = holds_after es (happens w e) (holds_next w e h)

  sent_few : (s : Sending A) → IsSending s → offered s ≤ length made
  sent_few s h =
      let all : length made ≡ length (h.front ++ (s.waiting ++ h.rest)) = ap length h.is in
      let one = length-append h.front (s.waiting ++ h.rest) in
      let two = length-append s.waiting h.rest in
      let len = h.len in
      omega (arith, all, one, two, len)

  pub world_front : (es : List Event) → IsFront (after_events es (start made)).kept made
  world_front es = (holds_after es (start made) starts).kept

  pub world_acked : (es : List Event) → (after_events es (start made)).sender.acked ≤ length (after_events es (start made)).kept
  world_acked es = (holds_after es (start made) starts).acked

  pub world_offered : (es : List Event) → length (after_events es (start made)).kept ≤ offered (after_events es (start made)).sender
  world_offered es = (holds_after es (start made) starts).few

  pub world_made : (es : List Event) → offered (after_events es (start made)).sender ≤ length made
  world_made es = sent_few (after_events es (start made)).sender (holds_after es (start made) starts).sender

  -- AS MORE IS MADE
  pub holds_more : (w : World A) (more : List A) → Holds w → HoldsOf (made ++ more) (with_made w more)
  holds_more w more h = record {
    same = ap (λ (zs : List A). zs ++ more) h.same;
    sender = record {
      front = h.sender.front;
      rest = h.sender.rest ++ more;
      len = h.sender.len;
      is = ap (λ (zs : List A). zs ++ more) h.sender.is ∙ (append_assoc h.sender.front (w.sender.waiting ++ h.sender.rest) more ∙ ap (λ (zs : List A). h.sender.front ++ zs) (append_assoc w.sender.waiting h.sender.rest more));
    };
    kept = (h.kept.0 ++ more, ap (λ (zs : List A). zs ++ more) h.kept.1 ∙ append_assoc w.kept h.kept.0 more);
    acked = h.acked;
    few = h.few;
    packets = each_more (IsPacket w) (IsPacketOf (made ++ more) (with_made w more)) w.packets (λ p is. (is.0, is.1, near made more (p.number - 1) p.shipment is.2)) h.packets;
    counts = h.counts;
  }
