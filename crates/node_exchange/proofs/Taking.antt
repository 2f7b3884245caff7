-- What a standby takes, one event after another.
use Rattle.std.proofs.Common.{◌≡◌, ◌⊎◌, inl, inr, ℕ, ◌≤◌, Bool, true, false, arith, List, [], ◌∷◌, ◌++◌, length, refl, sym, ap, subst, ◌∙◌}
use Rattle.std.specs.Prelude.{Err, Ok, OnErr, OnOk, Result, slice_get, take, ⊤}
use Rattle.std.specs.Result.{is_err}
use Rattle.std.proofs.lemmas.Bool.{false≢true}
use Rattle.std.proofs.lemmas.List.{map-append}
use Rattle.base_types.specs.Edges.{upto}
use Rattle.base_types.specs.declared.histories.Entry.{Entry}
use Rattle.edge_disk.specs.Image.{Image}
use Rattle.edge_disk.specs.declared.disk.Disk.{Ghosts}
use Rattle.kernel_invariant.proofs.Stretches.{leaves_map}
use Rattle.node_exchange.proofs.Playing.{acked_after, heard_next, sent_next, told_next}
use Rattle.node_exchange.specs.Playing.{AreThose, HasCome, HasPlayed, IsStuck, PlaysOn, TakesOn, all_taken, as_happened}
use Rattle.node_exchange.specs.Wires.{AreInStep, Wires, hearing_in, sent_in, world_of}
use Rattle.node_exchange.specs.declared.exchanging.Happening.{Happening}
use Rattle.node_exchange.specs.declared.exchanging.Happening.TheVariants as happening
use Rattle.node_standby.specs.node_shipments.Parts.{Shipment}
use Rattle.node_standby.specs.node_shipments.kernel_invariant.Beginnings.{Beginning}
use Rattle.node_standby.proofs.Taking.{stays}
use Rattle.node_standby.specs.Following.{IsImageBetween, most_in}
use Rattle.node_standby.specs.Standing.{Standing}
use Rattle.node_world.proofs.Events.{holds_after}
use Rattle.node_world.specs.Worlds.{Comes, Event, Holds, Offer, World, after_events, happens, packet_in}
use Rattle.store_snapshots.specs.store_books.Between.{LeavesOnly-join}

module _ {D : Type 0} (disks : Ghosts D) (made : List Shipment) where
  -- nothing came
  pub takes_none : (st : Standing D) → ((c : Image) → disks.tells → disks.left_since st.store.disk (disks.clock st.store.disk) c → disks.may_leave st.store.disk c) → TakesOn disks made st st
  takes_none st only = record {
    counts = omega arith;
    most = omega arith;
    stuck = λ stuck. stuck;
    follows = λ b es f ships. f;
    moments = λ t b es f ships. stays disks b es st f t (λ c left. only c t left);
  }

  widen : (b : Beginning) (es : List Entry) (low low' high high' : ℕ) → low' ≤ low → high ≤ high' → (c : Image) → IsImageBetween b es low high c → IsImageBetween b es low' high' c
  widen b es low low' high high' down up c i = record {
    k = i.k;
    at_least = (let le = i.at_least in omega (arith, le, down));
    at_most = (let le = i.at_most in omega (arith, le, up));
    within = i.within;
    image = i.image;
  }

  -- one after another
  pub takes_more : (one two three : Standing D) → TakesOn disks made one two → TakesOn disks made two three → TakesOn disks made one three
  takes_more one two three first second = record {
    counts = (let a = first.counts in let b = second.counts in omega (arith, a, b));
    most = (let a = first.most in let b = second.most in omega (arith, a, b));
    stuck = λ stuck. second.stuck (first.stuck stuck);
    follows = λ b es f ships. second.follows b es (first.follows b es f ships) ships;
    moments = λ t b es f ships.
        let high = second.most in
        let low = first.counts in
        LeavesOnly-join disks (IsImageBetween b es one.count (most_in three)) one.store.disk two.store.disk three.store.disk
        (leaves_map disks one.store.disk two.store.disk (IsImageBetween b es one.count (most_in two)) (IsImageBetween b es one.count (most_in three))
        (widen b es one.count one.count (most_in two) (most_in three) (omega arith) high) (first.moments t b es f ships))
        (leaves_map disks two.store.disk three.store.disk (IsImageBetween b es two.count (most_in three)) (IsImageBetween b es one.count (most_in three))
        (widen b es two.count one.count (most_in three) (most_in three) low (omega arith)) (second.moments t b es (first.follows b es f ships) ships));
  }

-- EVENTS, one after another

those_join : (hs ks : List Happening) (es ds : List Event) → AreThose hs es → AreThose ks ds → AreThose (hs ++ ks) (es ++ ds)
those_join [] ks [] ds one two = two
those_join [] ks (e ∷ es) ds one two = absurd (let no : e ∷ es ≡ [] = one in cc no)
those_join (h ∷ hs) ks [] ds one two = absurd one
those_join (h ∷ hs) ks (e ∷ es) ds one two = (one.0, those_join hs ks es ds one.1 two)

after_join : (es ds : List Event) (w : World ℕ) → after_events (es ++ ds) w ≡ after_events ds (after_events es w)
after_join [] ds w = refl
after_join (e ∷ es) ds w = after_join es ds (happens w e)

module _ {D : Type 0} (made : List Shipment) where
  pub played_none : (w : Wires) (st : Standing D) → HasPlayed made [] w w st st
  played_none w st = record { happened = []; those = refl; world = refl; taken = inr refl }

  -- nothing is changed behind them
  pub played_still : (hs : List Happening) (w one two : Wires) (st was now : Standing D) → two ≡ one → now ≡ was → HasPlayed made hs w one st was → HasPlayed made hs w two st now
  played_still hs w one two st was now same stays played =
      subst (λ (x : Wires). HasPlayed made hs w x st now) (sym same) (subst (λ (x : Standing D). HasPlayed made hs w one st x) (sym stays) played)

  pub played_more : (hs ks : List Happening) (w one two : Wires) (st mid new : Standing D) → (IsStuck made mid → IsStuck made new)
      → HasPlayed made hs w one st mid → HasPlayed made ks one two mid new → HasPlayed made (hs ++ ks) w two st new
  played_more hs ks w one two st mid new stuck first second = record {
    happened = first.happened ++ second.happened;
    those = those_join hs ks first.happened second.happened first.those second.those;
    world = second.world ∙ (ap (after_events second.happened) first.world ∙ sym (after_join first.happened second.happened (world_of w st.count (length made))));
    taken = elim first.taken as (λ _. IsStuck made new ⊎ (first.happened ++ second.happened ≡ all_taken (hs ++ ks))) [
      | inl s ↦ inl (stuck s)
      | inr a ↦ elim second.taken as (λ _. IsStuck made new ⊎ (first.happened ++ second.happened ≡ all_taken (hs ++ ks))) [
        | inl s ↦ inl s
        | inr b ↦ inr (ap (λ (xs : List Event). xs ++ second.happened) a ∙ (ap (λ (xs : List Event). all_taken hs ++ xs) b ∙ sym (map-append (λ (h : Happening). as_happened h true) hs ks)))
      ]
    ];
  }

  -- the two nodes are in step behind them
  pub step_more : (hs : List Happening) (w w' : Wires) (old new : Standing D) → AreInStep w old.count (length made) → HasPlayed made hs w w' old new → AreInStep w' new.count (length made)
  step_more hs w w' old new step played = subst (Holds (upto (length made))) (sym played.world) (holds_after (upto (length made)) played.happened (world_of w old.count (length made)) step)

  -- what is acknowledged never falls
  pub acked_up : (hs : List Happening) (w w' : Wires) (old new : Standing D) → HasPlayed made hs w w' old new → w.sender.acked ≤ w'.sender.acked
  acked_up hs w w' old new played =
      let up = acked_after played.happened (world_of w old.count (length made)) in
      let same = ap (λ (x : World ℕ). x.sender.acked) played.world in
      omega (arith, up, same)

  -- also where memory sufficed for the first of them alone
  pub acked_behind : {E : Type 0} (hs : List Happening) (w w' : Wires) (old new : Standing D) (r : Result ⊤ E) → OnOk r (HasPlayed made hs w w' old new) → OnErr r ((many : ℕ) × HasPlayed made (take many hs) w w' old new)
      → w.sender.acked ≤ w'.sender.acked
  acked_behind hs w w' old new (Ok x) ok err = acked_up hs w w' old new ok
  acked_behind hs w w' old new (Err e) ok err = acked_up (take err.0 hs) w w' old new err.1

-- ONE EVENT

pub ok_map : {T E P Q : Type 0} (r : Result T E) → (P → Q) → OnOk r P → OnOk r Q
ok_map (Ok x) f p = f p
ok_map (Err e) f p = tt

err_map : {T E P Q : Type 0} (r : Result T E) → (P → Q) → OnErr r P → OnErr r Q
err_map (Ok x) f p = tt
err_map (Err e) f p = f p

pub ok_then : {T E P : Type 0} (r : Result T E) → is_err r ≡ false → OnOk r P → P
ok_then (Ok x) e p = p
ok_then (Err w) e p = absurd (false≢true (sym e))

pub err_then : {T E P : Type 0} (r : Result T E) → is_err r ≡ true → OnErr r P → P
err_then (Ok x) e p = absurd (false≢true e)
err_then (Err w) e p = p

module _ {D E : Type 0} (disks : Ghosts D) (made : List Shipment) (w w' : Wires) (st : Standing D)
    (only : (c : Image) → disks.tells → disks.left_since st.store.disk (disks.clock st.store.disk) c → disks.may_leave st.store.disk c) where
  -- the standby isn't asked
  quietly : (h : Happening) (r : Result ⊤ E) → OnOk r (world_of w' st.count (length made) ≡ happens (world_of w st.count (length made)) (as_happened h true)) → OnErr r (w' ≡ w) → PlaysOn disks made h w w' st st r
  quietly h r ok err = record {
    played = ok_map r (λ is. record { happened = as_happened h true ∷ []; those = ((true, refl), refl); world = is; taken = inr refl }) ok;
    err = err_map r (λ is. (is, refl)) err;
    takes = takes_none disks made st only;
  }

  pub plays_offer : (r : Result ⊤ E) → ((count : ℕ) → OnOk r (world_of w' count (length made) ≡ happens (world_of w count (length made)) Offer)) → OnErr r (w' ≡ w) → PlaysOn disks made happening.Offer w w' st st r
  plays_offer r ok err = quietly happening.Offer r (ok st.count) err

  pub plays_send : (number : ℕ) (r : Result ⊤ E) → OnOk r (w' ≡ record w { packets = sent_in w.packets number (packet_in w.sender number) }) → OnErr r (w' ≡ w)
      → PlaysOn disks made (happening.Send number) w w' st st r
  plays_send number r ok err = quietly (happening.Send number) r (ok_map r (sent_next w st.count (length made) w' number) ok) err

  pub plays_tell : (told : ℕ) (r : Result ⊤ E) → told ≡ st.count → OnOk r (w' ≡ record w { counts = told ∷ w.counts }) → OnErr r (w' ≡ w) → PlaysOn disks made happening.Tell w w' st st r
  plays_tell told r is ok err = quietly happening.Tell r
      (ok_map r (λ same. told_next w st.count (length made) w' (same ∙ ap (λ (n : ℕ). record w { counts = n ∷ w.counts }) is)) ok) err

  pub plays_heard : (which : ℕ) → w' ≡ record w { sender = hearing_in w.sender (slice_get w.counts which) } → PlaysOn {E = E} disks made (happening.Heard which) w w' st st (Ok tt)
  plays_heard which is = quietly (happening.Heard which) (Ok tt) (heard_next w st.count (length made) w' which is) tt

-- a packet comes
pub plays_comes : {D E : Type 0} (disks : Ghosts D) (made : List Shipment) (w : Wires) (old new : Standing D) (which : ℕ) (taken : Bool) → HasCome disks made w which taken old new
    → PlaysOn {E = E} disks made (happening.Comes which) w w old new (Ok tt)
plays_comes disks made w old new which taken came = record {
  played = record { happened = Comes which taken ∷ []; those = ((taken, refl), refl); world = came.world; taken = by_taken taken refl };
  err = tt;
  takes = came.takes;
}
  where
    by_taken : (t : Bool) → taken ≡ t → IsStuck made new ⊎ (Comes which taken ∷ [] ≡ all_taken (happening.Comes which ∷ []))
    by_taken true e = inr (ap (λ (x : Bool). Comes which x ∷ []) e)
    by_taken false e = inl (came.stuck e)
