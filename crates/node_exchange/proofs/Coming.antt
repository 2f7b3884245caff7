-- What a delivery makes of a standby and of the world of two nodes.
use Rattle.std.proofs.Common.{◌≡◌, ◌⊎◌, inl, inr, ℕ, ◌+◌, ◌<◌, ◌≤◌, Bool, true, false, if◌then◌else◌, arith, List, length, Result, Ok, Err, None, Some, refl, sym, ap, subst, ◌∙◌, eqb-true}
use Rattle.std.specs.Prelude.{◌↔◌, IsErrOf, MatchResult, is_ok, slice_get}
use Rattle.std.proofs.lemmas.Bool.{false≢true}
use Rattle.std.proofs.lemmas.Option.{same_Some}
use Rattle.base_types.specs.declared.histories.Entry.{Entry}
use Rattle.edge_disk.specs.Image.{Image}
use Rattle.edge_disk.specs.Moments.{LeavesOnly}
use Rattle.edge_disk.specs.declared.disk.Disk.{Ghosts}
use Rattle.edge_disk.specs.declared.disk.NoBlocks.{NoBlocks}
use Rattle.node_exchange.proofs.Playing.{come_none, come_one}
use Rattle.node_exchange.proofs.Taking.{takes_none}
use Rattle.node_exchange.specs.Playing.{CannotTake, HasCome, IsStuck}
use Rattle.node_exchange.specs.Wires.{Wires}
use Rattle.node_standby.specs.node_shipments.Parts.{Shipment, length_in}
use Rattle.node_standby.specs.node_shipments.Runs.{IsShipmentAt}
use Rattle.node_standby.specs.node_shipments.kernel_invariant.Beginnings.{Beginning}
use Rattle.node_standby.specs.node_shipments.node_store.Shipping.{IsShort}
use Rattle.node_standby.proofs.Taking.{low_most}
use Rattle.node_standby.specs.Following.{Follows, IsImageBetween, MayTake, most_in}
use Rattle.node_standby.specs.Standing.{Standing}
use Rattle.node_world.specs.Worlds.{is_next}
use Rattle.store_snapshots.specs.declared.faults.StoreFault.{StoreFault}
use Rattle.store_snapshots.specs.declared.faults.StoreFault.TheVariants as fault
use Rattle.store_snapshots.specs.store_books.Books.{free_in}
use Rattle.store_snapshots.specs.store_facts.State.{books}
use Rattle.store_snapshots.specs.store_facts.image_facts.Bodies.{blocks_for}

module _ {D : Type 0} (old new : Standing D) (number : ℕ) (r : Result ℕ StoreFault)
    (other : is_next old.count number ≡ false → (r ≡ Ok old.count) × (new ≡ old))
    (counted : is_next old.count number ≡ true → MatchResult r (λ n. (n ≡ number) × (new.count ≡ number)) (λ e. new.count ≡ old.count)) where
  -- a number that isn't next changes nothing
  pub same_count : is_next old.count number ≡ false → new.count ≡ old.count
  same_count is = ap (λ (st : Standing D). st.count) (other is).1

  -- one that was taken is the count then
  pub count_taken : is_next old.count number ≡ true → is_ok r ≡ true → new.count ≡ number
  count_taken is ok = by_result r (counted is) ok
    where
      by_result : (q : Result ℕ StoreFault) → MatchResult q (λ n. (n ≡ number) × (new.count ≡ number)) (λ e. new.count ≡ old.count) → is_ok q ≡ true → new.count ≡ number
      by_result (Ok n) has well = has.1
      by_result (Err e) has well = absurd (false≢true well)

  pub count_failed : is_next old.count number ≡ true → is_ok r ≡ false → new.count ≡ old.count
  count_failed is ok = by_result r (counted is) ok
    where
      by_result : (q : Result ℕ StoreFault) → MatchResult q (λ n. (n ≡ number) × (new.count ≡ number)) (λ e. new.count ≡ old.count) → is_ok q ≡ false → new.count ≡ old.count
      by_result (Ok n) has well = absurd (false≢true (sym well))
      by_result (Err e) has well = has

  pub count_up : old.count ≤ new.count
  count_up = by_next (is_next old.count number) refl (is_ok r) refl
    where
      by_next : (t : Bool) → is_next old.count number ≡ t → (ok : Bool) → is_ok r ≡ ok → old.count ≤ new.count
      by_next false is ok e = (let same = same_count is in omega (arith, same))
      by_next true is true e = (let now = count_taken is e in let next = eqb-true number (old.count + 1) is in omega (arith, now, next))
      by_next true is false e = (let same = count_failed is e in omega (arith, same))

  -- nor does what an image may hold
  pub most_up : (is_next old.count number ≡ true → (books old.store).shut ≡ true ↔ IsErrOf r fault.Shut)
      → (IsErrOf r fault.Shut ⊎ ((n : NoBlocks) × IsErrOf r (fault.NoBlocks n)) → new ≡ old) → most_in old ≤ most_in new
  most_up shut untouched = by_next (is_next old.count number) refl (books old.store).shut refl
    where
      kept : new ≡ old → most_in old ≤ most_in new
      kept same = (let e = ap (λ (st : Standing D). most_in st) same in omega (arith, e))

      by_next : (t : Bool) → is_next old.count number ≡ t → (s : Bool) → (books old.store).shut ≡ s → most_in old ≤ most_in new
      by_next false is s e = kept (other is).1
      by_next true is true e = kept (untouched (inl ((shut is).0 e)))
      by_next true is false e =
          let was : most_in old ≡ old.count = ap (λ (t : Bool). if t then old.count + 1 else old.count) e in
          let up = count_up in
          let low = low_most new in
          omega (arith, was, up, low)

  -- WHERE IT CAN TAKE NO MORE

  module _ (made : List Shipment) (s : Shipment) (there : is_next old.count number ≡ true → slice_get made old.count ≡ Some s)
      (shut : is_next old.count number ≡ true → (books old.store).shut ≡ true ↔ IsErrOf r fault.Shut)
      (short : (n : NoBlocks) → is_next old.count number ≡ true → IsErrOf r (fault.NoBlocks n) ↔ IsShort (books old.store) (length s.pages + blocks_for (length_in s.part)) n)
      (untouched : (IsErrOf r fault.Shut ⊎ ((n : NoBlocks) × IsErrOf r (fault.NoBlocks n)) → new ≡ old)) where
    still : new ≡ old → IsStuck made old → IsStuck made new
    still same stuck = subst (IsStuck made) (sym same) stuck

    -- once it can take no more it stays so
    pub stays_stuck : (is_next old.count number ≡ true → (books old.store).shut ≡ false → MayTake old s) → IsStuck made old → IsStuck made new
    stays_stuck ready stuck = by_next (is_next old.count number) refl
      where
        few : is_next old.count number ≡ true → (books old.store).shut ≡ false → CannotTake old s → free_in (books old.store) < length s.pages + blocks_for (length_in s.part)
        few is works (inl never) = absurd (never (ready is works))
        few is works (inr lt) = lt

        same_next : is_next old.count number ≡ true → (q : Shipment) → slice_get made old.count ≡ Some q → CannotTake old q → CannotTake old s
        same_next is q at cannot = subst (CannotTake old) (same_Some q s (sym at ∙ there is)) cannot

        unchanged : is_next old.count number ≡ true → (t : Bool) → (books old.store).shut ≡ t → new ≡ old
        unchanged is true e = untouched (inl ((shut is).0 e))
        unchanged is false e = elim stuck as (λ _. new ≡ old) [
          | inl closed ↦ absurd (false≢true (sym e ∙ closed))
          | inr p ↦ (let nb : NoBlocks = record { need = length s.pages + blocks_for (length_in s.part); free = free_in (books old.store) } in
              untouched (inr (nb, (short nb is).1 (record { working = e; fewer = few is e (same_next is p.0 p.1 p.2); numbers = refl }))))
        ]

        by_next : (t : Bool) → is_next old.count number ≡ t → IsStuck made new
        by_next false is = still (other is).1 stuck
        by_next true is = still (unchanged is (books old.store).shut refl) stuck

    -- what isn't taken comes of that
    pub fails_stuck : (IsErrOf r fault.WriteFault → (books new.store).shut ≡ true) → (IsErrOf r fault.ReadFault → ⊥) → is_ok r ≡ false → IsStuck made new
    fails_stuck write read bad = by_next (is_next old.count number) refl
      where
        by_fault : is_next old.count number ≡ true → (e : StoreFault) → IsErrOf r e → IsStuck made new
        by_fault is (fault.NoBlocks n) e = still (untouched (inr (n, e))) (inr (s, there is, inr ((short n is).0 e).fewer))
        by_fault is fault.ReadFault e = absurd (read e)
        by_fault is fault.WriteFault e = inl (write e)
        by_fault is fault.Shut e = still (untouched (inl e)) (inl ((shut is).1 e))

        by_result : is_next old.count number ≡ true → (q : Result ℕ StoreFault) → r ≡ q → is_ok q ≡ false → IsStuck made new
        by_result is (Ok n) e fails = absurd (false≢true (sym fails))
        by_result is (Err w) e fails = by_fault is w e

        by_next : (t : Bool) → is_next old.count number ≡ t → IsStuck made new
        by_next false is = absurd (false≢true (sym bad ∙ ap is_ok (other is).0))
        by_next true is = by_result is r refl bad

    -- ALL that a delivery makes of the two
    pub came : (disks : Ghosts D) (w : Wires) (which place : ℕ) → slice_get w.packets which ≡ Some (record { number = number; shipment = place }) → (is_next old.count number ≡ true → place ≡ old.count)
        → (is_next old.count number ≡ true → (books old.store).shut ≡ false → MayTake old s) → (IsErrOf r fault.WriteFault → (books new.store).shut ≡ true) → (IsErrOf r fault.ReadFault → ⊥)
        → ((b : Beginning) (es : List Entry) → Follows b es disks old → (is_next old.count number ≡ true → IsShipmentAt b es old.count s) → Follows b es disks new)
        → (disks.tells → (b : Beginning) (es : List Entry) → Follows b es disks old → (is_next old.count number ≡ true → IsShipmentAt b es old.count s)
        → LeavesOnly disks old.store.disk new.store.disk (IsImageBetween b es old.count (most_in new))) → HasCome disks made w which (is_ok r) old new
    came disks w which place at here ready write read follows moments = record {
      world = come_one w old.count (length made) which (is_ok r) (record { number = number; shipment = place }) new.count at here same_count count_taken count_failed;
      stuck = fails_stuck write read;
      takes = record {
        counts = count_up;
        most = most_up shut untouched;
        stuck = stays_stuck ready;
        follows = λ b es f ships. follows b es f (λ next. ships old.count s (there next));
        moments = λ t b es f ships. moments t b es f (λ next. ships old.count s (there next));
      };
    }

module _ {D : Type 0} (disks : Ghosts D) (made : List Shipment) (w : Wires) (st : Standing D) (which : ℕ)
    (only : (c : Image) → disks.tells → disks.left_since st.store.disk (disks.clock st.store.disk) c → disks.may_leave st.store.disk c) where
  -- no such packet was sent
  pub came_none : slice_get w.packets which ≡ None → HasCome disks made w which true st st
  came_none none = record {
    world = come_none w st.count (length made) which true none;
    stuck = λ e. absurd (false≢true (sym e));
    takes = takes_none disks made st only;
  }

  -- the next shipment may not be taken
  pub came_refused : (number place : ℕ) (s : Shipment) → slice_get w.packets which ≡ Some (record { number = number; shipment = place }) → (is_next st.count number ≡ true → place ≡ st.count)
      → slice_get made place ≡ Some s → is_next st.count number ≡ true → (MayTake st s → ⊥) → HasCome disks made w which false st st
  came_refused number place s at here there next never = record {
    world = come_one w st.count (length made) which false (record { number = number; shipment = place }) st.count at here (λ e. refl) (λ e t. absurd (false≢true t)) (λ e t. refl);
    stuck = λ e. inr (s, subst (λ (n : ℕ). slice_get made n ≡ Some s) (here next) there, inl never);
    takes = takes_none disks made st only;
  }
