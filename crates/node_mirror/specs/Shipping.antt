-- What is offered of a run.
use Rattle.std.specs.Prelude.{◌≡◌, ℕ, List, length, OnOk, Result, ⊤}
use Rattle.base_types.specs.declared.histories.Entry.{Entry}
use Rattle.node_offers.specs.Offering.{KnowsNewest}
use Rattle.node_rounds.specs.Going.{AllShip}
use Rattle.node_rounds.specs.node_standby.node_shipments.Parts.{Shipment}
use Rattle.node_rounds.specs.node_standby.node_shipments.kernel_invariant.Beginnings.{Beginning, completed}
use Rattle.node_world.specs.Worlds.{Sending, offered}

-- NOTHING BUT COMMITS OF THE RUN IS OFFERED, in their order: all of them, unless a read failed or memory ran out
pub record ShipsNew {E : Type 0} (b : Beginning) (es : List Entry) (known : List ℕ) (sender : Sending Shipment) (result : Result ⊤ E) : Type 0 where
  pub ships : AllShip b es sender
  pub all : OnOk result (offered sender ≡ length (completed b es))
  pub knows : OnOk result (KnowsNewest b es known)
