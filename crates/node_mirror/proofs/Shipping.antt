-- Shipments of a run that goes on, and more of them.
use Rattle.std.proofs.Common.{◌≡◌, ◌⊎◌, inl, inr, ℕ, zero, suc, ◌+◌, ◌-◌, ◌<◌, ◌^◌, Bool, true, false, nat_lt, if◌then◌else◌, List, [], ◌∷◌, ◌++◌, length, Some, None, refl, sym, ap, subst, ◌∙◌, arith, length-append}
use Rattle.std.specs.Prelude.{Err, Ok, Result, slice_get, ⊤}
use Rattle.std.proofs.lemmas.Bool.{ltb-true}
use Rattle.edge_disk.specs.declared.disk.Disk.{Ghosts}
use Rattle.base_types.specs.declared.histories.Entry.{Entry}
use Rattle.kernel_invariant.proofs.Staying.{grown, version_rises}
use Rattle.kernel_invariant.proofs.model_run_laws_lemmas.Places.{things_stay}
use Rattle.kernel_run_facts.specs.Watching.{IsAsLent, Shows}
use Rattle.kernel_run_facts.specs.kernel_commit_facts.Parts.{Noted}
use Rattle.kernel_run_facts.specs.kernel_core_facts.Kernels.{Held}
use Rattle.node_offers.specs.Offering.{AreShipmentsFrom, OffersMore, OffersNew, with_offers}
use Rattle.node_mirror.specs.Shipping.{ShipsNew}
use Rattle.node_rounds.specs.Going.{AllShip, AreInStep}
use Rattle.node_rounds.proofs.node_standby_lemmas.Following.{follows_more}
use Rattle.node_rounds.specs.node_standby.Following.{Follows}
use Rattle.node_rounds.specs.node_standby.Standing.{Standing}
use Rattle.node_rounds.specs.node_standby.node_shipments.Parts.{Shipment, part_in}
use Rattle.node_rounds.specs.node_standby.node_shipments.Runs.{IsShipmentAt, commit_in}
use Rattle.node_rounds.specs.node_standby.node_shipments.kernel_invariant.Beginnings.{Beginning, IsLegal, completed, entity_at}
use Rattle.node_rounds.specs.node_standby.node_shipments.kernel_invariant.model_kernel.Choices.{Commit}
use Rattle.node_rounds.specs.node_standby.node_shipments.kernel_invariant.model_kernel.State.{EntityState}
use Rattle.node_rounds.specs.node_standby.node_shipments.node_records.Shipments.{IsShippedOf}
use Rattle.node_world.specs.Worlds.{Sending, offered}

-- A RUN THAT GOES ON

near : {A : Type 0} (xs ys : List A) (n : ℕ) (x : A) → slice_get xs n ≡ Some x → slice_get (xs ++ ys) n ≡ Some x
near [] ys n x is = cc is
near (z ∷ xs) ys zero x is = is
near (z ∷ xs) ys (suc n) x is = near xs ys n x is

module _ (b : Beginning) (es fs : List Entry) (legal : IsLegal b (es ++ fs)) where
  -- what is shipped is what the entity was in the longer run
  told_stays : (s : Shipment) → IsShippedOf b es s.entity s.version s.stamp (part_in s.part) s.pages → IsShippedOf b (es ++ fs) s.entity s.version s.stamp (part_in s.part) s.pages
  told_stays s is =
      let x : ℕ = s.entity in
      let n : ℕ = s.version in
      let same : entity_at b (es ++ fs) x n ≡ entity_at b es x n = things_stay b.supply b.policy b.script b.state es fs x n legal is.from is.reached in
      record {
        from = is.from;
        reached = (let at = is.reached in let rise = version_rises b es fs legal x in omega (arith, at, rise));
        components = is.components;
        kind = is.kind;
        cell = ap (λ (e : EntityState). e.cell) same ∙ is.cell;
        version_is = ap (λ (e : EntityState). e.version) same ∙ is.version_is;
        stamp_is = ap (λ (e : EntityState). e.stamp) same ∙ is.stamp_is;
        within = is.within;
        few = is.few;
      }

  shipment_stays : (place : ℕ) (s : Shipment) → IsShipmentAt b es place s → IsShipmentAt b (es ++ fs) place s
  shipment_stays place s at = record {
    commit = (let g = grown b es fs in ap (λ (cs : List Commit). slice_get cs place) g.1 ∙ near (completed b es) g.0 place (commit_in s) at.commit);
    told = told_stays s at.told;
  }

  -- the packets ship the longer run, too
  pub ships_stay : (s : Sending Shipment) → AllShip b es s → AllShip b (es ++ fs) s
  ships_stay s ship place x at = shipment_stays place x (ship place x at)

-- MORE PACKETS

either : {A : Type 0} (xs ys : List A) (i : ℕ) (x : A) → slice_get (xs ++ ys) i ≡ Some x → (slice_get xs i ≡ Some x) ⊎ ((j : ℕ) × (i ≡ length xs + j) × (slice_get ys j ≡ Some x))
either [] ys i x at = inr (i, omega arith, at)
either (z ∷ xs) ys zero x at = inl at
either {A = A} (z ∷ xs) ys (suc i) x at = elim (either xs ys i x at) as (λ _. (slice_get xs i ≡ Some x) ⊎ ((j : ℕ) × (suc i ≡ suc (length xs) + j) × (slice_get ys j ≡ Some x))) [
  | inl k ↦ inl k
  | inr p ↦ inr (p.0, (let e = p.1 in omega (arith, e)), p.2)
]

offers_many : (s : Sending Shipment) (more : List Shipment) → offered (with_offers s more) ≡ offered s + length more
offers_many s more = (let sum = length-append s.waiting more in omega (arith, sum))

module _ (b : Beginning) (es : List Entry) where
  ships_more : (n : ℕ) (s : Sending Shipment) (more : List Shipment) → offered s ≡ n → AllShip b es s → AreShipmentsFrom b es n more → AllShip b es (with_offers s more)
  ships_more n s more all ship from place x at = by (nat_lt s.acked (place + 1)) refl
    where
      behind : s.acked < place + 1 → (j : ℕ) → place + 1 - s.acked - 1 ≡ length s.waiting + j → slice_get more j ≡ Some x → IsShipmentAt b es place x
      behind lt j is got =
          let here : n + j ≡ place = omega (arith, lt, is, all) in
          subst (λ (m : ℕ). IsShipmentAt b es m x) here (from j x got)

      by : (t : Bool) → nat_lt s.acked (place + 1) ≡ t → IsShipmentAt b es place x
      by true e =
          let lt = ltb-true s.acked (place + 1) e in
          let there : slice_get (s.waiting ++ more) (place + 1 - s.acked - 1) ≡ Some x = sym (ap (λ (c : Bool). if c then slice_get (s.waiting ++ more) (place + 1 - s.acked - 1) else None) e) ∙ at in
          elim (either s.waiting more (place + 1 - s.acked - 1) x there) as (λ _. IsShipmentAt b es place x) [
            | inl k ↦ ship place x (ap (λ (c : Bool). if c then slice_get s.waiting (place + 1 - s.acked - 1) else None) e ∙ k)
            | inr p ↦ behind lt p.0 p.1 p.2
          ]
      by false e = absurd (let clash : None ≡ Some x = sym (ap (λ (c : Bool). if c then slice_get (s.waiting ++ more) (place + 1 - s.acked - 1) else None) e) ∙ at in cc clash)

  -- behind an offer of new commits
  ships_offered : {E : Type 0} (n : ℕ) (known : List ℕ) (s s' : Sending Shipment) (r : Result ⊤ E) → OffersNew b es n known s s' r → AllShip b es s → offered s ≡ n → AllShip b es s'
  ships_offered n known s s' r o ship all = subst (AllShip b es) (sym o.are) (ships_more n s o.more all ship o.ship)

  pub new_offered : {E : Type 0} (n : ℕ) (known : List ℕ) (s s' : Sending Shipment) (r : Result ⊤ E) → OffersNew b es n known s s' r → AllShip b es s → offered s ≡ n → ShipsNew b es known s' r
  new_offered n known s s' (Ok y) o ship all = record {
    ships = ships_offered n known s s' (Ok y) o ship all;
    all = (let many : offered s' ≡ offered s + length o.more = ap (λ (t : Sending Shipment). offered t) o.are ∙ offers_many s o.more in let sum = o.all in omega (arith, many, sum, all));
    knows = o.knows;
  }
  new_offered n known s s' (Err e) o ship all = record { ships = ships_offered n known s s' (Err e) o ship all; all = tt; knows = tt }

-- WHAT IS SHOWN OF A RUN

module _ {D : Type 0} (disks : Ghosts D) (b : Beginning) (es : List Entry) (k : Held D) (shows : Shows disks b es k) where
  legal_more : IsLegal b (es ++ shows.next.all)
  legal_more = subst (IsLegal b) shows.next.is shows.lives.live.running.legal

  -- the packets ship the run behind the piece that came
  pub ships_shown : (s : Sending Shipment) → AllShip b es s → AllShip b k.parts.noted.entries s
  ships_shown s ship = subst (λ (new : List Entry). AllShip b new s) (sym shows.next.is) (ships_stay b es shows.next.all legal_more s ship)

  -- and who followed it follows it there
  pub follows_shown : {E : Type 0} (seconds : Ghosts E) (k' : Held D) (st : Standing E) → IsAsLent disks k k' → Follows b es seconds st → Follows b k'.parts.noted.entries seconds st
  follows_shown seconds k' st lent f =
      subst (λ (new : List Entry). Follows b new seconds st) (sym (ap (λ (n : Noted). n.entries) lent.notes ∙ shows.next.is)) (follows_more seconds b es shows.next.all st legal_more f)

-- THE TWO STAY IN STEP where more is offered
pub step_offered : {D : Type 0} (s s' : Sending Shipment) (st : Standing D) → AreInStep s st → OffersMore s s' → (offered s < 2 ^ 64 → offered s' < 2 ^ 64) → AreInStep s' st
step_offered s s' st step more few =
    let acked : s'.acked ≡ s.acked = ap (λ (t : Sending Shipment). t.acked) more.are in
    let many : offered s' ≡ offered s + length more.more = ap (λ (t : Sending Shipment). offered t) more.are ∙ offers_many s more.more in
    let low = step.order.acked in
    let high = step.order.kept in
    record { order = record { acked = omega (arith, acked, low); kept = omega (arith, many, high) }; few = few step.few }
