-- New commits of a run, offered as shipments.
use Rattle.std.specs.Prelude.{◌≡◌, ℕ, ◌+◌, ◌<◌, nat_lt, if◌then◌else◌, List, [], ◌∷◌, ◌++◌, length, OnOk, Result, Some, slice_get, slice_index, ⊤}
use Rattle.base_types.specs.declared.histories.Entry.{Entry}
use Rattle.model_new_commits.specs.model_run_rules.Newest.{newest_in}
use Rattle.node_newest.specs.Newest.{IsNewest}
use Rattle.node_newest.specs.node_shipments.Parts.{Shipment}
use Rattle.node_newest.specs.node_shipments.Runs.{IsShipmentAt}
use Rattle.node_newest.specs.node_shipments.kernel_invariant.Beginnings.{Beginning, completed}
use Rattle.node_world.specs.Worlds.{Sending}

-- behind these, offered one after another
abbrev pub with_offers : {A : Type 0} → Sending A → List A → Sending A
with_offers s xs = record { acked = s.acked; waiting = s.waiting ++ xs }

-- NOTHING BUT OFFERS, whatever was read
pub record OffersMore (old new : Sending Shipment) : Type 0 where
  pub more : List Shipment
  pub are : new ≡ with_offers old more

-- these ship the newest commits of these entities, one of each
abbrev pub ShipNewest : Beginning → List Entry → List ℕ → List Shipment → Type 0
ShipNewest b es [] [] = Unit {0}
ShipNewest b es [] (s ∷ ss) = ⊥
ShipNewest b es (x ∷ xs) [] = ⊥
ShipNewest b es (x ∷ xs) (s ∷ ss) = IsNewest b es x s × ShipNewest b es xs ss

-- the newest commits of these entities were offered
pub record OffersNewest (b : Beginning) (es : List Entry) (xs : List ℕ) (old new : Sending Shipment) : Type 0 where
  pub more : List Shipment
  pub are : new ≡ with_offers old more
  pub ship : ShipNewest b es xs more

-- the entity, where its newest commit is later than is known
abbrev pub if_newer : Beginning → List Entry → ℕ → ℕ → List ℕ
if_newer b es known x = if nat_lt known (newest_in (completed b es) x) then x ∷ [] else []

-- these ship the run's commits from a place on, in their order
abbrev pub AreShipmentsFrom : Beginning → List Entry → ℕ → List Shipment → Type 0
AreShipmentsFrom b es place made = (i : ℕ) (s : Shipment) → slice_get made i ≡ Some s → IsShipmentAt b es (place + i) s

-- the version of each entity's newest commit is known
abbrev pub KnowsNewest : Beginning → List Entry → List ℕ → Type 0
KnowsNewest b es known = (x : ℕ) → x < 64 → slice_index known x ≡ newest_in (completed b es) x

-- THE COMMITS BEHIND THE FIRST SO MANY WERE OFFERED, in their order: all, which are known then; or where a read failed or memory ran out a front
pub record OffersNew {E : Type 0} (b : Beginning) (es : List Entry) (before : ℕ) (known : List ℕ) (old new : Sending Shipment) (result : Result ⊤ E) : Type 0 where
  pub more : List Shipment
  pub are : new ≡ with_offers old more
  pub ship : AreShipmentsFrom b es before more
  pub all : OnOk result (length (completed b es) ≡ before + length more)
  pub knows : OnOk result (KnowsNewest b es known)
